use Rattle.std.proofs.Common.{◌≡◌, map, take}
use Rattle.mode_machine.specs.Owed.{never_owed}
use Rattle.mode_machine.proofs.owed.new_events.Given as goal

abbrev pub invariant-loop-moment : goal.invariant-loop-moment
invariant-loop-moment l = l.events.items ≡ map never_owed (take l.moment-index l.moments)
