use Rattle.std.proofs.Common.{◌≡◌}
use Rattle.bus_semantics.specs.Common.{vec_capacity, plan_of, gathered}
use Rattle.task_slots.specs.Common.{Nothing, Looked}
use Rattle.task_slots.specs.Slots.{slot_tries}
use Rattle.core_turn.specs.Cores.{slots_between, looks_in}
use Rattle.core_turn.proofs.looking.look_through.Given as goal

abbrev pub invariant-loop-at : goal.invariant-loop-at
invariant-loop-at g l = record {
  slots : l.slots.items ≡ l.initial.slots.items;
  home : g.B.Bench.home l.bench ≡ g.B.Bench.home l.initial.bench;
  plan : g.B.Bench.plan l.bench ≡ g.B.Bench.plan l.initial.bench;
  none : l.made.items ≡ l.initial.made.items;
  capacity : vec_capacity l.made ≡ vec_capacity l.initial.made;
  looked : Looked (plan_of l.p) (gathered (slot_tries (plan_of l.p) l.t) (slots_between l.from l.at l.initial.slots.items)) (looks_in (plan_of l.p) (slots_between l.from l.at l.initial.slots.items))
      (g.B.Bench.told l.initial.bench)
      (g.B.Bench.told l.bench) Nothing;
}
