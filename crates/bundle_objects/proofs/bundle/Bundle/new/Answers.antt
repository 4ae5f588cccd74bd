use Rattle.std.proofs.Common.{◌≡◌, ◌<◌, ◌≤◌, ℕ, length, map, sym, ◌∙◌, ap, subst, arith, true, Some}
use Rattle.std.specs.Prelude.{sum_by, nat_lt, filter, ◌==◌}
use Rattle.bus_semantics.specs.Common.{list_all, slice_get, vec_capacity, length-map, plan_of, groups_at}
use Rattle.object_kinds.specs.Common.{events_of, waits_in_bundle, is_rising}
use Rattle.object_kinds.proofs.Events.{events_rise}
use Rattle.data_objects.specs.Kept as groups
use Rattle.data_objects.specs.Kept.{GroupState}
use Rattle.bundle_objects.specs.Layout.{place_among, place_of}
use Rattle.bundle_objects.specs.Kept.{Kept}
use Rattle.bundle_objects.specs.Plans.{IsOfPlan}
use Rattle.bundle_objects.proofs.Parts.{numbers_rise, number_home}
use Rattle.bundle_objects.proofs.Made.{some_group, split_is, places_within, opening_planned, groups_within}
use Rattle.bundle_objects.proofs.bundle.Bundle.new.Goals as goal

pub places_of-requires : goal.places_of-requires
places_of-requires c = subst (λ ns. is_rising ns ≡ true) (sym (c.as_slice.ensures.value ∙ c.in_ok-numbers.ensures)) (numbers_rise (plan_of c.args.p.now) c.args.bundle)

pub split_events-requires-clause-rise : goal.split_events-requires-clause-rise
split_events-requires-clause-rise c = subst (λ ns. is_rising ns ≡ true) (sym (c.as_slice-3.ensures.value ∙ c.in_ok-numbers.ensures)) (numbers_rise (plan_of c.args.p.now) c.args.bundle)

pub split_events-requires-clause-some : goal.split_events-requires-clause-some
split_events-requires-clause-some c =
    omega (arith, some_group (plan_of c.args.p.now) c.args.bundle c.requires.bundles c.requires.bundle.number, ap length (c.as_slice-3.ensures.value ∙ c.in_ok-numbers.ensures))

pub make_groups-requires-clause-few : goal.make_groups-requires-clause-few
make_groups-requires-clause-few c =
    omega (arith, groups_within (plan_of c.args.p.now) c.args.bundle c.requires.bundles, ap length (c.as_slice-5.ensures.value ∙ c.in_ok-numbers.ensures), c.requires.few)

pub make_groups-requires-clause-unqueued : goal.make_groups-requires-clause-unqueued
make_groups-requires-clause-unqueued c = λ place group number. c.requires.bundle.groups group (number_home (plan_of c.args.p.now) c.args.bundle c.as_slice-5.result.now place group (c.as_slice-5.ensures.value ∙ c.in_ok-numbers.ensures) number)

pub make_groups-requires-clause-waiting : goal.make_groups-requires-clause-waiting
make_groups-requires-clause-waiting c = λ place group number.
    let p = plan_of c.args.p.now in
    let b = c.args.bundle in
    let fifth : c.as_slice-5.result.now ≡ groups_at p b = c.as_slice-5.ensures.value ∙ c.in_ok-numbers.ensures in
    let third : c.as_slice-3.result.now ≡ groups_at p b = c.as_slice-3.ensures.value ∙ c.in_ok-numbers.ensures in
    let fourth : c.as_slice-4.result.now ≡ events_of p (waits_in_bundle p b) = c.as_slice-4.ensures.value ∙ c.requires.waiting in
    c.in_ok-lists.ensures.waiting place
    ∙ (λ j. filter (λ e. place_among p (third j) e == place) (fourth j))
    ∙ split_is p b place group (ap (λ ns. slice_get ns place) (sym fifth) ∙ number)

pub invariant_of-result : goal.invariant_of-result
invariant_of-result c =
    let p = plan_of c.args.p.now in
    let b = c.args.bundle in
    let numbers : c.in_ok-numbers.numbers.items ≡ groups_at p b = c.in_ok-numbers.ensures in
    let fifth : c.as_slice-5.result.now ≡ c.in_ok-numbers.numbers.items = c.as_slice-5.ensures.value in
    let events : c.args.events.items ≡ events_of p (waits_in_bundle p b) = c.requires.waiting in
    let first : c.as_slice.result.now ≡ groups_at p b = c.as_slice.ensures.value ∙ numbers in
    let made : length c.in_ok-groups.groups.items ≡ length c.in_ok-numbers.numbers.items =
    sym (length-map c.in_ok-groups.groups.items (λ (g : GroupState). g.kept)) ∙ ap length c.in_ok-groups.ensures.made ∙ length-map c.as_slice-5.result.now (groups.opening p) ∙ ap length fifth in
    let counted : length c.in_ok-groups.groups.items ≡ length (groups_at p b) = made ∙ ap length numbers in
    let places : c.in_ok-places.places.items ≡ map (place_among p (groups_at p b)) c.args.events.items =
    c.in_ok-places.ensures ∙ (λ j. map (place_among p (first j)) (c.as_slice-2.ensures.value j)) in (
      subst (λ ns. is_rising ns ≡ true) (sym numbers) (numbers_rise p b),
      subst (λ es. is_rising es ≡ true) (sym events) (events_rise p (waits_in_bundle p b)),
      made,
      ap length places ∙ length-map c.args.events.items (place_among p (groups_at p b)),
      ap (list_all (λ i. nat_lt i (length c.in_ok-groups.groups.items))) places ∙ places_within p (groups_at p b) (length c.in_ok-groups.groups.items) (some_group p b c.requires.bundles c.requires.bundle.number) (sym counted) c.args.events.items,
      omega (arith, c.in_ok-groups.ensures.room, c.clear.ensures.capacity, c.in_ok-groups.groups.ok),
    )

pub returns-clause-planned : goal.returns-clause-planned
returns-clause-planned c =
    let p = plan_of c.args.p.now in
    let b = c.args.bundle in
    let numbers : c.in_ok-numbers.numbers.items ≡ groups_at p b = c.in_ok-numbers.ensures in
    let first : c.as_slice.result.now ≡ groups_at p b = c.as_slice.ensures.value ∙ numbers in
    let fifth : c.as_slice-5.result.now ≡ groups_at p b = c.as_slice-5.ensures.value ∙ numbers in
    let events : c.args.events.items ≡ events_of p (waits_in_bundle p b) = c.requires.waiting in
    let waiting : c.as_slice-2.result.now ≡ events_of p (waits_in_bundle p b) = c.as_slice-2.ensures.value ∙ events in
    let places : c.in_ok-places.places.items ≡ map (place_of p b) (events_of p (waits_in_bundle p b)) = c.in_ok-places.ensures ∙ (λ j. map (place_among p (first j)) (waiting j)) in
    let parts : map (λ (g : GroupState). g.kept) c.in_ok-groups.groups.items ≡ map (groups.opening p) (groups_at p b) = c.in_ok-groups.ensures.made ∙ ap (map (groups.opening p)) fifth in
    subst (λ (k : Kept). IsOfPlan p b k)
    (λ j. record { numbers = sym numbers j; events = sym events j; places = sym places j; parts = sym parts j })
    (opening_planned p b c.requires.bundle)
