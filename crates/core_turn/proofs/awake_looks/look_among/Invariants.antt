use Rattle.std.proofs.Common.{◌≡◌, ℕ, ◌-◌, ◌<◌, ◌≤◌, [], length, Some, None}
use Rattle.bus_semantics.specs.Common.{slice_get, vec_capacity, plan_of}
use Rattle.task_slots.specs.declared.slot.Slot.{Slot}
use Rattle.task_slots.specs.Slots.{slot_tries}
use Rattle.port_objects.specs.Benches.{IsFurther}
use Rattle.task_slots.specs.Waiting.{sum_below}
use Rattle.core_turn.specs.Awake.{Fits, HeldTold, SameBefore, looks_at_place}
use Rattle.core_turn.proofs.Counting.{SameFrom}
use Rattle.task_slots.proofs.Unchanged.{TriesHeld, Unchanged}
use Rattle.core_turn.proofs.awake_looks.look_among.Given as goal

abbrev pub invariant-loop-at : goal.invariant-loop-at
invariant-loop-at g l = record {
  slots : l.slots.items ≡ l.initial.slots.items;
  home : g.B.Bench.home l.bench ≡ g.B.Bench.home l.initial.bench;
  plan : g.B.Bench.plan l.bench ≡ g.B.Bench.plan l.initial.bench;
  none : l.made.items ≡ l.initial.made.items;
  capacity : vec_capacity l.made ≡ vec_capacity l.initial.made;
  fits : Fits l.initial.slots.items l.initial.a.first l.a;
  held : HeldTold (plan_of l.p) l.t (g.B.Bench.told l.initial.bench).objects None l.initial.slots.items l.behind l.a;
  begun : l.from ≤ l.behind;
  short : l.behind ≤ l.to;
  later : SameFrom l.behind l.initial.a l.a;
  before : SameBefore l.from l.initial.a l.a;
  counted : IsFurther (g.B.Bench.told l.initial.bench).work (g.B.Bench.told l.bench).work []
      (sum_below (looks_at_place (plan_of l.p) l.initial.slots.items l.initial.a) l.behind - sum_below (looks_at_place (plan_of l.p) l.initial.slots.items l.initial.a) l.from) 0;
  passed : (i : ℕ) (s : Slot) → l.from ≤ i → i < l.behind → slice_get l.initial.slots.items i ≡ Some s → TriesHeld (plan_of l.p) (g.B.Bench.told l.initial.bench).objects (slot_tries (plan_of l.p) l.t s);
  same : Unchanged
      (g.B.Bench.told l.initial.bench)
      (g.B.Bench.told l.bench);
}

abbrev pub decreases-loop-at : goal.decreases-loop-at
decreases-loop-at g l = length l.slots.items - l.behind
