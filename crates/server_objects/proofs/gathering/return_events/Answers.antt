use Rattle.std.proofs.Common.{◌+◌, refl, arith, ◌∙◌}
use Rattle.bus_semantics.specs.Plan.{plan_of, kind_of}
use Rattle.object_kinds.specs.Gathered.{listed_at}
use Rattle.object_kinds.proofs.Positions.{one_more}
use Rattle.server_objects.specs.Layout.{returns_for}
use Rattle.server_objects.proofs.gathering.return_events.Goals as goal

pub loop-event-preserved : goal.loop-event-preserved
loop-event-preserved c =
    let p = plan_of c.args.p.now in
    let n = c.loop-event.event in
    record {
      long = c.in_ok-add_return.ensures.long ∙ c.loop-event.invariant.long;
      so_far = λ s. one_more (λ e. returns_for p s (kind_of p e)) n (n + 1) (listed_at c.loop-event.lists.items s) (listed_at c.add_return.new.lists.items s) (returns_for p s (kind_of p n))
          (omega arith) (c.loop-event.invariant.so_far s) refl (c.in_ok-add_return.ensures.added s);
    }
