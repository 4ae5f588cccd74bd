use Rattle.bus_rows.proofs.RowSound.{sound_of, none_broken}
use Rattle.bus_rows.proofs.unsound.sound_plans_break_no_fact.Goals as goal

pub returns-clause-sound : goal.returns-clause-sound
returns-clause-sound c = sound_of

pub returns-clause-none : goal.returns-clause-none
returns-clause-none c = none_broken
