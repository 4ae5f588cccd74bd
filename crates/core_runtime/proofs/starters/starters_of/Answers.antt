use Rattle.std.proofs.Common.{◌∙◌, ap, arith, length}
use Rattle.bus_semantics.specs.Plan.{plan_of}
use Rattle.core_runtime.proofs.Starting.{listed_on, listed_all}
use Rattle.core_runtime.proofs.starters.starters_of.Goals as goal

pub loop-event-preserved : goal.loop-event-preserved
loop-event-preserved c = record {
  count = c.in_ok-add_starter.ensures.count ∙ c.loop-event.invariant.count;
  all = listed_on (plan_of c.args.p.now) c.loop-event.event c.loop-event.lists.items c.add_starter.new.lists.items c.loop-event.invariant.count c.in_ok-add_starter.ensures c.loop-event.invariant.all;
}

pub returns : goal.returns
returns c = listed_all (plan_of c.args.p.now) c.loop-event.event c.loop-event.lists.items c.loop-event.invariant.count (omega (arith, ap length c.items-2.ensures)) c.loop-event.invariant.all
