use Rattle.description_stages.proofs.WholePlans.{refused_unplanned}
use Rattle.description_stages.proofs.plan_laws.no_refused_description_has_a_plan.Goals as goal

pub returns : goal.returns
returns c = λ bytes r x refused planned. refused_unplanned bytes r x refused planned
