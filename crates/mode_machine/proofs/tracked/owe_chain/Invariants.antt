use Rattle.std.proofs.Common.{◌≡◌, ◌+◌, ◌-◌, ℕ, length, map, true, Some}
use Rattle.mode_machine.specs.Common.{occurs, owed_by, if_at, moment_in}
use Rattle.mode_machine.proofs.Each.{so_far}
use Rattle.mode_machine.proofs.Nexts.{end_of}
use Rattle.mode_machine.proofs.tracked.owe_chain.Given as goal

abbrev pub invariant-loop-from : goal.invariant-loop-from
invariant-loop-from l = record {
  here : (event : ℕ) → l.from ≡ Some event → occurs (map moment_in l.initial.events.items) l.fn.at event ≡ true;
  done : l.events.items ≡ so_far (if_at l.fn.at (owed_by l.step l.settled l.next)) (end_of (length l.initial.events.items) l.from) l.initial.events.items;
}

abbrev pub decreases-loop-from : goal.decreases-loop-from
decreases-loop-from l = (length l.initial.events.items + 1) - end_of (length l.initial.events.items + 1) l.from
