use Rattle.std.proofs.Common.{◌≡◌, ◌≤◌, ◌<◌, true, sym, ◌∙◌, ap, subst, arith, length, map}
use Rattle.std.specs.Prelude.{All, filter}
use Rattle.bus_semantics.specs.Common.{vec_capacity, length-map, plan_of, kind_of, places_at}
use Rattle.std.proofs.lemmas.List.Elements.{filter_passes}
use Rattle.queued_ports.specs.Kept.{Kept, empty_queue}
use Rattle.object_kinds.specs.Common.{events_of, is_rising}
use Rattle.object_kinds.proofs.Events.{events_rise}
use Rattle.queue_objects.specs.Layout.{receivers_of, waits_for_receiver, receiver_of}
use Rattle.queue_objects.specs.Plans.{IsGroupOfPlan}
use Rattle.queue_objects.proofs.Opening.{made, opens_planned}
use Rattle.queue_objects.proofs.Picking.{receivers_rise, waiting_picked, all_awaited_within}
use Rattle.queue_objects.proofs.queue_group.QueueGroup.new.Goals as goal

pub new-requires-clause-receivers : goal.new-requires-clause-receivers
new-requires-clause-receivers c =
    let p = plan_of c.args.p.now in
    let g = c.args.group in
    let long : length (receivers_of p g) ≡ length c.in_ok-lengths.lengths.items =
    sym (ap length c.in_ok-receivers.ensures) ∙ sym (ap length c.as_slice-3.ensures.value) ∙ sym (length-map c.as_slice-3.result.now (places_at p)) ∙ sym (ap length c.in_ok-lengths.ensures) in
    let passes : All (λ e. waits_for_receiver p g (kind_of p e) ≡ true) c.as_slice-2.result.now =
    subst (All (λ e. waits_for_receiver p g (kind_of p e) ≡ true)) (sym (c.as_slice-2.ensures.value ∙ c.in_ok-events.ensures)) (filter_passes (λ e. waits_for_receiver p g (kind_of p e)) c.args.events.now) in
    subst (All (λ r. r < length c.in_ok-lengths.lengths.items)) (sym c.in_ok-awaited.ensures) (all_awaited_within p g (length c.in_ok-lengths.lengths.items) c.as_slice-2.result.now long passes)

pub invariant_of-result : goal.invariant_of-result
invariant_of-result c =
    let p = plan_of c.args.p.now in
    let g = c.args.group in
    let events : c.in_ok-events.events.items ≡ events_of p (waits_for_receiver p g) =
    c.in_ok-events.ensures ∙ ap (filter (λ e. waits_for_receiver p g (kind_of p e))) c.requires.waiting ∙ waiting_picked p g in
    let queues : length c.in_ok-queues.queues.queues ≡ length c.in_ok-receivers.receivers.items =
    ap (λ (k : Kept). length k.queues) c.in_ok-queues.ensures
    ∙ length-map c.in_ok-lengths.lengths.items empty_queue
    ∙ ap length c.in_ok-lengths.ensures
    ∙ length-map c.as_slice-3.result.now (places_at p)
    ∙ ap length c.as_slice-3.ensures.value in
    let as_many : length c.in_ok-queues.queues.events ≡ length c.in_ok-events.events.items =
    ap (λ (k : Kept). length k.events) c.in_ok-queues.ensures
    ∙ ap length c.in_ok-awaited.ensures
    ∙ length-map c.as_slice-2.result.now (receiver_of p g)
    ∙ ap length c.as_slice-2.ensures.value in
    let room : length c.in_ok-events.events.items ≤ vec_capacity c.in_ok-woken.woken = omega (arith, c.in_ok-woken.ensures.capacity, c.len.ensures, c.in_ok-events.events.ok) in
    (subst (λ rs. is_rising rs ≡ true) (sym c.in_ok-receivers.ensures) (receivers_rise p g), subst (λ es. is_rising es ≡ true) (sym events) (events_rise p (waits_for_receiver p g)), queues, as_many, room)

pub returns-clause-kept : goal.returns-clause-kept
returns-clause-kept c =
    let p = plan_of c.args.p.now in
    let g = c.args.group in
    let events : c.in_ok-events.events.items ≡ events_of p (waits_for_receiver p g) =
    c.in_ok-events.ensures ∙ ap (filter (λ e. waits_for_receiver p g (kind_of p e))) c.requires.waiting ∙ waiting_picked p g in
    made p g c.words_of.result c.in_ok-receivers.receivers.items c.in_ok-events.events.items c.in_ok-lengths.lengths.items c.in_ok-awaited.awaited.items c.in_ok-queues.queues
    c.in_ok-receivers.ensures events (c.in_ok-lengths.ensures ∙ ap (map (places_at p)) c.as_slice-3.ensures.value) (c.in_ok-awaited.ensures ∙ ap (map (receiver_of p g)) c.as_slice-2.ensures.value) c.words_of.ensures c.in_ok-queues.ensures

pub returns-clause-planned : goal.returns-clause-planned
returns-clause-planned c =
    let p = plan_of c.args.p.now in
    let g = c.args.group in
    let events : c.in_ok-events.events.items ≡ events_of p (waits_for_receiver p g) =
    c.in_ok-events.ensures ∙ ap (filter (λ e. waits_for_receiver p g (kind_of p e))) c.requires.waiting ∙ waiting_picked p g in
    subst (IsGroupOfPlan p g)
    (sym (made p g c.words_of.result c.in_ok-receivers.receivers.items c.in_ok-events.events.items c.in_ok-lengths.lengths.items c.in_ok-awaited.awaited.items c.in_ok-queues.queues
    c.in_ok-receivers.ensures events (c.in_ok-lengths.ensures ∙ ap (map (places_at p)) c.as_slice-3.ensures.value) (c.in_ok-awaited.ensures ∙ ap (map (receiver_of p g)) c.as_slice-2.ensures.value) c.words_of.ensures c.in_ok-queues.ensures))
    (opens_planned p g c.requires.queued)
