use Rattle.std.proofs.Common.{◌≡◌, ◌≤◌, ◌<◌, ◌+◌, ◌*◌, length, true}
use Rattle.bus_semantics.specs.declared.script.Mapping.{Mapping}
use Rattle.bus_semantics.specs.Plan.{plan_of}
use Rattle.core_turn.specs.Ready.{IsReady}
use Rattle.core_lanes.specs.Leaving.{IsTrueOf}
use Rattle.core_lanes.specs.Taking.{TakesTurns}
use Rattle.core_lanes.specs.Rooms.{HasRoom}
use Rattle.core_lanes.proofs.turns.make_turns.Given as goal

abbrev pub invariant-loop-turns : goal.invariant-loop-turns
invariant-loop-turns g l = record {
  round : l.bench.round ≡ l.initial.bench.round;
  number : l.bench.core ≡ l.initial.bench.core;
  room : HasRoom l.core;
  ready : (m : Mapping) → IsReady (plan_of l.p) m l.t l.initial.core → IsReady (plan_of l.p) m l.t l.core;
  taken : TakesTurns (plan_of l.p) l.t l.initial.core l.bench.view.made l.core;
  made : length l.bench.view.made ≡ l.stay.made;
  did : IsTrueOf (plan_of l.p) l.core.slots l.stay l.bench.view;
  known : 32 < l.stay.quiet → l.stay.whole ≡ true;
  few : l.stay.made ≤ 1024;
  rests : l.stay.quiet ≤ 64;
  turns : l.turns ≤ 64 * l.stay.made + l.stay.quiet;
}
