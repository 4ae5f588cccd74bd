use Rattle.std.proofs.Common.{◌≡◌}
use Rattle.bus_semantics.specs.Plan.{plan_of}
use Rattle.feed_queue.specs.Passes.{IsPumpOf, order_of}
use Rattle.live_lanes.specs.Callers.{AreCalls}
use Rattle.live_lanes.proofs.caller.call_all.Given as goal

abbrev pub invariant-loop : goal.invariant-loop
invariant-loop g l = record {
  round : l.bench.round ≡ l.initial.bench.round;
  number : l.bench.core ≡ l.initial.bench.core;
  pump : IsPumpOf g.F.Feeding.lengths l.ground.queue.now l.pump;
  calls : AreCalls (plan_of l.ground.plan.now) l.ground.feeds.now (order_of l.pump) l.bench.view.made;
}
