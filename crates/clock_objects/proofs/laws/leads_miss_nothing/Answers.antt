use Rattle.clock_objects.proofs.Complete.{leads_on}
use Rattle.clock_objects.proofs.laws.leads_miss_nothing.Goals as goal

pub returns : goal.returns
returns c = leads_on
