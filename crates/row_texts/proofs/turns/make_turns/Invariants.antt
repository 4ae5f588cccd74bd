use Rattle.std.specs.Prelude.{◌≡◌, ◌+◌, ◌≤◌}
use Rattle.bus_semantics.specs.Plan.{plan_of}
use Rattle.core_turn.specs.Ready.{IsReady}
use Rattle.row_texts.proofs.turns.make_turns.Given as goal

abbrev pub invariant-loop-turn : goal.invariant-loop-turn
invariant-loop-turn g l = record {
  core_room : 8 ≤ l.core.room + l._turn;
  bench_room : 8 ≤ l.bench.bench.room + l._turn;
  plan : plan_of l.bench.bench.plan ≡ plan_of l.p;
  ready : IsReady (plan_of l.p) l.m l.t l.core;
}
