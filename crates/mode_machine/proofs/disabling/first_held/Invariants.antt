use Rattle.std.proofs.Common.{◌≡◌, ◌≤◌, ◌<◌, ◌-◌, ℕ, false, length}
use Rattle.mode_machine.specs.Disabling.{holds_at}
use Rattle.mode_machine.proofs.Watching.{lying}
use Rattle.mode_machine.proofs.disabling.first_held.Given as goal

abbrev pub invariant-loop-at : goal.invariant-loop-at
invariant-loop-at l = record {
  same : l.running ≡ l.initial.running;
  begun : l.from ≤ l.behind;
  none : (place : ℕ) → l.from ≤ place → place < l.behind → holds_at (lying l.modes l.initial.running l.mode) place ≡ false;
}

abbrev pub decreases-loop-at : goal.decreases-loop-at
decreases-loop-at l = length l.modes - l.behind
