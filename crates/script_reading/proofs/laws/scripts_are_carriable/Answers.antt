use Rattle.script_reading.proofs.Carrying.{script_is_carriable}
use Rattle.script_reading.proofs.laws.scripts_are_carriable.Goals as goal

pub returns : goal.returns
returns c = script_is_carriable
