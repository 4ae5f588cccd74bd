use Rattle.std.proofs.Common.{◌≡◌, ◌<◌, ℕ, length, sym, ◌∙◌, ap, subst, arith, Option, Some, None}
use Rattle.std.specs.Prelude.{IfSome}
use Rattle.std.proofs.lemmas.List.{length-map}
use Rattle.object_kinds.specs.Layout.{place}
use Rattle.bundle_objects.specs.Kept.{BundleState}
use Rattle.bundle_objects.proofs.Coded.{kept_of, place_below}
use Rattle.bundle_objects.proofs.bundle.Bundle.place_of.Goals as goal

pub returns-in-Some-clause-within : goal.returns-in-Some-clause-within
returns-in-Some-clause-within c =
    let i = c.self.inside in
    let long : length i.groups.items ≡ length c.args.self.now.kept.parts = sym (length-map i.groups.items kept_of) ∙ ap (λ (s : BundleState). length s.kept.parts) c.self.view_is in
    place_below c.in-Some.group i.numbers.items (length c.args.self.now.kept.parts) c.find.result (omega (arith, long, c.self.invariant.2)) (c.find.ensures ∙ ap (place c.in-Some.group) c.as_slice.ensures.value)
