use Rattle.std.proofs.Common.{◌≡◌, ◌-◌, ◌≤◌, ℕ, length, take}
use Rattle.bus_semantics.specs.Common.{vec_capacity, plan_of, gathered, start_try}
use Rattle.task_slots.specs.Common.{Nothing, Looked, EventsHeld, sum_below, event_looks}
use Rattle.task_slots.proofs.starting.start_first.Given as goal

abbrev pub invariant-loop-at : goal.invariant-loop-at
invariant-loop-at g l = record {
  home : g.B.Bench.home l.bench ≡ g.B.Bench.home l.initial.bench;
  plan : g.B.Bench.plan l.bench ≡ g.B.Bench.plan l.initial.bench;
  capacity : vec_capacity l.made ≡ vec_capacity l.initial.made;
  written : l.made.items ≡ l.initial.made.items;
  width : g.H.Hints.fits l.hints (length l.events);
  held : EventsHeld (plan_of l.p) (g.B.Bench.told l.initial.bench).objects l.events (g.H.Hints.awake l.hints);
  short : l.from ≤ length l.events;
  later : (i : ℕ) → l.from ≤ i → g.H.Hints.awake l.hints i ≡ g.H.Hints.awake l.initial.hints i;
  looked : Looked (plan_of l.p) (gathered (start_try (plan_of l.p)) (take l.from l.events)) (sum_below (event_looks (plan_of l.p) l.events (g.H.Hints.awake l.initial.hints)) l.from)
      (g.B.Bench.told l.initial.bench)
      (g.B.Bench.told l.bench) Nothing;
}

abbrev pub decreases-loop-at : goal.decreases-loop-at
decreases-loop-at g l = length l.events - l.from
