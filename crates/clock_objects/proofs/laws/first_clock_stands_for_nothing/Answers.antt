use Rattle.clock_objects.proofs.Opening.{clock_opens}
use Rattle.clock_objects.proofs.laws.first_clock_stands_for_nothing.Goals as goal

pub returns : goal.returns
returns c = clock_opens
