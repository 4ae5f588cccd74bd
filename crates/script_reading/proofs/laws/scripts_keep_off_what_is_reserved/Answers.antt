use Rattle.script_reading.proofs.Reserving.{is_around, other_cause, reserved_cause}
use Rattle.script_reading.proofs.laws.scripts_keep_off_what_is_reserved.Goals as goal

pub returns : goal.returns
returns c = record { reserved = reserved_cause; others = other_cause; scripts = is_around }
