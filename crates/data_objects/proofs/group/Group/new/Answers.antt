use Rattle.std.proofs.Common.{◌≡◌, ◌≤◌, true, sym, ◌∙◌, ap, subst, arith, length}
use Rattle.bus_semantics.specs.Common.{vec_capacity, length-map, plan_of}
use Rattle.data_objects.specs.KeptValues.{Kept}
use Rattle.object_kinds.specs.Common.{waits_for_data, is_rising}
use Rattle.object_kinds.proofs.Events.{events_rise}
use Rattle.data_objects.specs.Layout.{receiver_of}
use Rattle.data_objects.proofs.group.Group.new.Goals as goal

pub invariant_of-result : goal.invariant_of-result
invariant_of-result c =
    let p = plan_of c.args.p.now in
    let rise : is_rising c.args.events.items ≡ true = subst (λ es. is_rising es ≡ true) (sym c.requires.waiting) (events_rise p (waits_for_data p c.args.group)) in
    let as_many : length c.in_ok-unqueued.unqueued.events ≡ length c.args.events.items =
    ap (λ (k : Kept). length k.events) c.in_ok-unqueued.ensures
    ∙ ap length c.in_ok-receivers.ensures
    ∙ length-map c.as_slice.result.now (receiver_of p c.args.group)
    ∙ ap length c.as_slice.ensures.value in
    let room : length c.args.events.items ≤ vec_capacity c.in_ok-woken.woken = omega (arith, c.in_ok-woken.ensures.capacity, c.len.ensures, c.args.events.ok) in
    (rise, as_many, room)
