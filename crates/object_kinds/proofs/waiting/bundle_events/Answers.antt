use Rattle.std.proofs.Common.{◌∙◌, ◌+◌, arith}
use Rattle.bus_semantics.specs.Plan.{plan_of, kind_of}
use Rattle.object_kinds.specs.Common.{listed_at, waits_in_bundle}
use Rattle.object_kinds.proofs.Positions.{picked_more}
use Rattle.object_kinds.proofs.waiting.bundle_events.Goals as goal

pub loop-event-preserved : goal.loop-event-preserved
loop-event-preserved c =
    let p = plan_of c.args.p.now in
    let event = c.loop-event.event in
    record {
      long = c.add_in_bundle.ensures.long ∙ c.loop-event.invariant.long;
      so_far = λ bundle. c.in_ok-add_in_bundle.ensures.added bundle
          ∙ picked_more (λ e. waits_in_bundle p bundle (kind_of p e)) event (event + 1) (listed_at c.loop-event.lists.items bundle) (omega arith) (c.loop-event.invariant.so_far bundle);
    }
