use Rattle.std.proofs.Common.{◌≡◌, ◌≤◌, length}
use Rattle.bus_semantics.specs.declared.script.Mapping.{Mapping}
use Rattle.bus_semantics.specs.Plan.{plan_of}
use Rattle.core_turn.specs.Ready.{IsReady}
use Rattle.core_lanes.specs.Taking.{TakesTurns}
use Rattle.core_lanes.specs.Rooms.{HasRoom}
use Rattle.live_lanes.proofs.turns.make_turns.Given as goal

abbrev pub invariant-loop : goal.invariant-loop
invariant-loop g l = record {
  round : l.bench.round ≡ l.initial.bench.round;
  number : l.bench.core ≡ l.initial.bench.core;
  room : HasRoom l.core;
  ready : (m : Mapping) → IsReady (plan_of l.p) m l.t l.initial.core → IsReady (plan_of l.p) m l.t l.core;
  taken : TakesTurns (plan_of l.p) l.t l.initial.core l.bench.view.made l.core;
  made : length l.bench.view.made ≡ l.made;
  few : l.made ≤ 65536;
}
