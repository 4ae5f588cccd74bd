use Rattle.std.proofs.Common.{◌≡◌, ◌≤◌, ◌+◌, ◌-◌, ℕ, length, map, true, Some}
use Rattle.std.specs.List.{Contains}
use Rattle.std.specs.Vec.{vec_capacity}
use Rattle.mode_machine.specs.Common.{occurs, is_woken, event_at, moment_in}
use Rattle.mode_machine.proofs.Nexts.{end_of}
use Rattle.mode_machine.proofs.Told.{TellsBelow, TellsOnly}
use Rattle.mode_machine.proofs.telling.tell_chain.Given as goal

abbrev pub invariant-loop-from : goal.invariant-loop-from
invariant-loop-from l = record {
  here : (event : ℕ) → l.from ≡ Some event → occurs (map moment_in l.events) l.fn.at event ≡ true;
  told : TellsBelow l.names (λ k. is_woken l.step l.settled l.next (event_at l.events k)) (end_of (length l.events) l.from) l.told.items;
  kept : (other : ℕ) → Contains l.initial.told.items other → Contains l.told.items other;
  only : TellsOnly l.names (λ k. is_woken l.step l.settled l.next (event_at l.events k)) l.initial.told.items l.told.items;
  room : length l.told.items ≤ length l.initial.told.items + end_of (length l.events) l.from;
  capacity : vec_capacity l.told ≡ vec_capacity l.initial.told;
}

abbrev pub decreases-loop-from : goal.decreases-loop-from
decreases-loop-from l = (length l.events + 1) - end_of (length l.events + 1) l.from
