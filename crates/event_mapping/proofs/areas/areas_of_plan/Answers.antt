use Rattle.plan_definitions.specs.Planned.{areas_at, named_areas}
use Rattle.event_mapping.proofs.Listing.{from_all, from_pushed}
use Rattle.event_mapping.proofs.areas.areas_of_plan.Goals as goal

pub loop-number-preserved : goal.loop-number-preserved
loop-number-preserved c =
    from_pushed (λ i x. named_areas i (areas_at c.args.d.now x)) c.args.f.now.instances c.items-instance-items.result.now c.items-instance-items.ensures
    _ c.loop-number.list.items c.push_instance.new.list.items c.loop-number.number c.instance-item.result c.loop-number-test.true c.instance-item.is
    c.in_ok-push_instance.ensures c.loop-number.invariant

pub returns : goal.returns
returns c =
    from_all (λ i x. named_areas i (areas_at c.args.d.now x)) c.args.f.now.instances c.items-instance-items.result.now c.items-instance-items.ensures
    _ c.loop-number.list.items c.loop-number.number c.loop-number-test.false c.loop-number.invariant
