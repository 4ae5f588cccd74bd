use Rattle.bundle_objects.proofs.Missing.{misses_nothing}
use Rattle.bundle_objects.proofs.laws.leads_miss_nothing.Goals as goal

pub returns : goal.returns
returns c = misses_nothing
