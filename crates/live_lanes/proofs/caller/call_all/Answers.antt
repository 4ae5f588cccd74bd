use Rattle.std.proofs.Common.{refl, ◌∙◌, ap}
use Rattle.std.specs.Prelude.{sum}
use Rattle.bus_semantics.specs.Plan.{plan_of}
use Rattle.feed_queue.specs.Passes.{order_of}
use Rattle.live_lanes.proofs.Orders.{all_calls}
use Rattle.live_lanes.proofs.caller.call_all.Goals as goal

pub loop-init : goal.loop-init
loop-init g c = record {
  round = refl;
  number = refl;
  pump = c.requires.pump;
  calls = c.requires.calls;
}

pub loop-preserved : goal.loop-preserved
loop-preserved g c = record {
  round = c.call_next.ensures.round ∙ c.loop.invariant.round;
  number = c.call_next.ensures.number ∙ c.loop.invariant.number;
  pump = c.call_next.ensures.pump;
  calls = c.call_next.ensures.calls;
}

pub returns-then-has_popped-clause-calls : goal.returns-then-has_popped-clause-calls
returns-then-has_popped-clause-calls g c =
    all_calls (plan_of c.args.ground.now.plan.now) c.args.ground.now.feeds.now (order_of c.loop.pump) c.loop.bench.view.made c.loop.invariant.calls
    ((c.has_popped.ensures cc) ∙ c.requires.wishes ∙ ap sum c.requires.ground.long)
