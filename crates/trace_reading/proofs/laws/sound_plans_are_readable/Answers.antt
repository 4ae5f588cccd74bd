use Rattle.trace_reading.proofs.Naming.{readable}
use Rattle.trace_reading.proofs.laws.sound_plans_are_readable.Goals as goal

pub returns : goal.returns
returns c = readable
