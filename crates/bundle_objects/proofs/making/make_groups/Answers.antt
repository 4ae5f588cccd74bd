use Rattle.std.proofs.Common.{◌≡◌, ◌<◌, ◌≤◌, ◌+◌, length, length-append, map, take, get_or, sym, ◌∙◌, ap, subst, arith, ◌++◌, ◌∷◌, [], false, Some}
use Rattle.std.specs.Prelude.{sum_by}
use Rattle.bus_semantics.specs.Common.{slice_get, length-map, length-replicate, take_more, slice_get-get_or, plan_of}
use Rattle.std.proofs.lemmas.List.{map_push}
use Rattle.std.proofs.lemmas.List.Sums.{sum_by_push}
use Rattle.object_kinds.specs.Layout.{events_of, waits_for_data}
use Rattle.data_objects.specs.Kept as groups
use Rattle.data_objects.specs.Kept.{GroupState}
use Rattle.data_objects.specs.Layout.{receiver_of}
use Rattle.bundle_objects.proofs.Coded.{kept_of}
use Rattle.bundle_objects.proofs.making.make_groups.Goals as goal

pub new-requires-clause-unqueued : goal.new-requires-clause-unqueued
new-requires-clause-unqueued c =
    let i = c.loop-place.place in
    c.requires.unqueued i (get_or c.args.numbers.now i 0) (slice_get-get_or c.args.numbers.now i 0 (omega (arith, c.loop-place-test.true, c.loop-place.auto.place-end)))

pub new-requires-clause-waiting : goal.new-requires-clause-waiting
new-requires-clause-waiting c =
    let i = c.loop-place.place in
    c.take_list-events.ensures.taken ∙ c.loop-place.invariant.left i (get_or c.args.numbers.now i 0) (omega arith) (slice_get-get_or c.args.numbers.now i 0 (omega (arith, c.loop-place-test.true, c.loop-place.auto.place-end)))

pub loop-place-preserved : goal.loop-place-preserved
loop-place-preserved c =
    let p = plan_of c.args.p.now in
    let i = c.loop-place.place in
    let numbers = c.args.numbers.now in
    let g = get_or numbers i 0 in
    let within : i < length numbers = omega (arith, c.loop-place-test.true, c.loop-place.auto.place-end) in
    let new = c.in_ok-new.field-0 in
    let events = c.take_list-events.result.items in
    let before = c.loop-place.invariant in
    let waiting : events ≡ events_of p (waits_for_data p g) = c.take_list-events.ensures.taken ∙ before.left i g (omega arith) (slice_get-get_or numbers i 0 within) in
    let due : length new.kept.unqueued.due ≡ length events =
    ap (λ (k : groups.Kept). length k.unqueued.due) c.in_ok-new.ensures.kept
    ∙ length-replicate (length (map (receiver_of p g) (events_of p (waits_for_data p g)))) false
    ∙ length-map (events_of p (waits_for_data p g)) (receiver_of p g)
    ∙ ap length (sym waiting) in
    record {
      long = c.take_list-events.ensures.long ∙ before.long;
      left = λ at group past number. c.take_list-events.ensures.others at (omega (arith, past)) ∙ before.left at group (omega (arith, past)) number;
      made = ap (map kept_of) c.in_ok-push.ensures.items
          ∙ map_push kept_of c.loop-place.groups.items new
          ∙ (λ j. before.made j ++ c.in_ok-new.ensures.kept j ∷ [])
          ∙ sym (map_push (groups.opening p) (take i numbers) g)
          ∙ ap (map (groups.opening p)) (sym (take_more numbers i 0 within));
      room = omega (
        arith,
        before.room,
        due,
        ap (sum_by (λ (h : GroupState). length h.kept.unqueued.due)) c.in_ok-push.ensures.items,
        sum_by_push (λ (h : GroupState). length h.kept.unqueued.due) c.loop-place.groups.items new,
        ap length c.in_ok-extend_from_slice.ensures.items,
        length-append c.loop-place.woken.items c.as_slice.result.now,
        ap length c.as_slice.ensures.value,
      );
    }
