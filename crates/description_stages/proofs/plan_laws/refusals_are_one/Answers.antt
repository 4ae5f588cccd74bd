use Rattle.description_stages.proofs.WholePlans.{refusals_once}
use Rattle.description_stages.proofs.plan_laws.refusals_are_one.Goals as goal

pub returns : goal.returns
returns c = refusals_once
