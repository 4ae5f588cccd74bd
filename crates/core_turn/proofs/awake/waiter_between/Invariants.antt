use Rattle.std.proofs.Common.{◌≡◌, ◌-◌, ◌≤◌, length}
use Rattle.core_turn.specs.Awake.{NoneWaits}
use Rattle.core_turn.proofs.awake.waiter_between.Given as goal

abbrev pub invariant-loop-at : goal.invariant-loop-at
invariant-loop-at l = record {
  same : l.waiting ≡ l.initial.waiting;
  begun : l.from ≤ l.behind;
  none : NoneWaits l.initial.waiting l.areas l.object l.from l.behind;
}

abbrev pub decreases-loop-at : goal.decreases-loop-at
decreases-loop-at l = length l.areas - l.behind
