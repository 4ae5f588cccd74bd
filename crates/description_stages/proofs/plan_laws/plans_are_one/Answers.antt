use Rattle.description_stages.proofs.WholePlans.{plans_once}
use Rattle.description_stages.proofs.plan_laws.plans_are_one.Goals as goal

pub returns : goal.returns
returns c = plans_once
