use Rattle.description_stages.proofs.Sizes.{plan_counts}
use Rattle.description_stages.proofs.plan_laws.plans_count_what_is_listed.Goals as goal

pub returns : goal.returns
returns c = plan_counts
