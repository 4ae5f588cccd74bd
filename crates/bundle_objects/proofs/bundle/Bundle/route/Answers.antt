use Rattle.std.proofs.Common.{◌≡◌, ◌<◌, length, sym, ◌∙◌, ap, subst, arith, Some}
use Rattle.std.specs.Prelude.{option_and_then}
use Rattle.bus_semantics.specs.Common.{slice_get, length-map}
use Rattle.object_kinds.specs.Layout.{place}
use Rattle.object_kinds.proofs.Placing.{place_within}
use Rattle.bundle_objects.specs.Kept.{BundleState, route}
use Rattle.bundle_objects.proofs.Coded.{kept_of, there, route_within}
use Rattle.bundle_objects.proofs.bundle.Bundle.route.Goals as goal

pub index-requires : goal.index-requires
index-requires c =
    let i = c.self.inside in
    let at : place c.args.event i.events.items ≡ Some c.in-Some.at = ap (place c.args.event) (sym c.as_slice.ensures.value) ∙ sym c.find.ensures ∙ c.in-Some.is in
    omega (arith, place_within c.args.event i.events.items c.in-Some.at at, c.self.invariant.3)

pub returns-in-Some-clause-place : goal.returns-in-Some-clause-place
returns-in-Some-clause-place c =
    let i = c.self.inside in
    let at : place c.args.event i.events.items ≡ Some c.in-Some.at = ap (place c.args.event) (sym c.as_slice.ensures.value) ∙ sym c.find.ensures ∙ c.in-Some.is in
    let within : c.in-Some.at < length i.places.items = omega (arith, place_within c.args.event i.events.items c.in-Some.at at, c.self.invariant.3) in
    sym (there i.places.items c.in-Some.at c.index.result.now within c.index.ensures)
    ∙ sym (ap (option_and_then (λ j. slice_get i.places.items j)) at)
    ∙ ap (λ (s : BundleState). route s.kept c.args.event) c.self.view_is

pub returns-in-Some-clause-within : goal.returns-in-Some-clause-within
returns-in-Some-clause-within c =
    let i = c.self.inside in
    let at : place c.args.event i.events.items ≡ Some c.in-Some.at = ap (place c.args.event) (sym c.as_slice.ensures.value) ∙ sym c.find.ensures ∙ c.in-Some.is in
    let within : c.in-Some.at < length i.places.items = omega (arith, place_within c.args.event i.events.items c.in-Some.at at, c.self.invariant.3) in
    let long : length i.groups.items ≡ length c.args.self.now.kept.parts = sym (length-map i.groups.items kept_of) ∙ ap (λ (s : BundleState). length s.kept.parts) c.self.view_is in
    let below = route_within i.places.items (length i.groups.items) c.in-Some.at c.index.result.now c.self.invariant.4 (there i.places.items c.in-Some.at c.index.result.now within c.index.ensures) in
    omega (arith, below, long)
