use Rattle.std.proofs.Common.{◌≡◌, ◌≤◌, ◌<◌, ◌+◌, ◌-◌, ℕ, length, map, true, false, Some}
use Rattle.mode_machine.specs.Common.{occurs, is_left, moment_in}
use Rattle.mode_machine.proofs.Nexts.{end_of}
use Rattle.mode_machine.proofs.tracked.left_from.Given as goal

abbrev pub invariant-loop-from : goal.invariant-loop-from
invariant-loop-from l = record {
  here : (at : ℕ) → l.from ≡ Some at → occurs (map moment_in l.events) l.fn.at at ≡ true;
  behind : l.fn.event ≤ end_of (length l.events) l.from;
  none : (place : ℕ) → l.fn.event ≤ place → place < end_of (length l.events) l.from → is_left l.events place ≡ false;
}

abbrev pub decreases-loop-from : goal.decreases-loop-from
decreases-loop-from l = (length l.events + 1) - end_of (length l.events + 1) l.from
