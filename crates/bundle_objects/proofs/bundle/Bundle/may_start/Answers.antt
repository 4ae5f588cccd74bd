use Rattle.std.proofs.Common.{◌≡◌, ◌<◌, length, sym, ◌∙◌, ap, subst, arith, false, Some}
use Rattle.std.specs.Prelude.{IfSome, option_and_then}
use Rattle.bus_semantics.specs.Common.{slice_get, option_map_or, length-map}
use Rattle.object_kinds.proofs.Lists.{mapped_at}
use Rattle.data_objects.specs.Kept as groups
use Rattle.bundle_objects.specs.Kept.{BundleState}
use Rattle.bundle_objects.proofs.Coded.{kept_of, there}
use Rattle.bundle_objects.proofs.bundle.Bundle.may_start.Goals as goal

pub index-requires : goal.index-requires
index-requires c =
    let i = c.self.inside in
    let long : length i.groups.items ≡ length c.args.self.now.kept.parts = sym (length-map i.groups.items kept_of) ∙ ap (λ (s : BundleState). length s.kept.parts) c.self.view_is in
    let below : c.in-Some.place < length c.args.self.now.kept.parts = subst (λ o. IfSome o (λ place. place < length c.args.self.now.kept.parts)) c.in-Some.is c.route.ensures.within in
    omega (arith, below, long)

pub returns-in-Some : goal.returns-in-Some
returns-in-Some c =
    let i = c.self.inside in
    let long : length i.groups.items ≡ length c.args.self.now.kept.parts = sym (length-map i.groups.items kept_of) ∙ ap (λ (s : BundleState). length s.kept.parts) c.self.view_is in
    let below : c.in-Some.place < length c.args.self.now.kept.parts = subst (λ o. IfSome o (λ place. place < length c.args.self.now.kept.parts)) c.in-Some.is c.route.ensures.within in
    let found = there i.groups.items c.in-Some.place c.index.result.now (omega (arith, below, long)) c.index.ensures in
    let part : slice_get c.args.self.now.kept.parts c.in-Some.place ≡ Some c.index.result.now.kept =
    ap (λ (s : BundleState). slice_get s.kept.parts c.in-Some.place) (sym c.self.view_is) ∙ mapped_at kept_of i.groups.items c.in-Some.place c.index.result.now found in
    c.may_start.ensures
    ∙ sym (ap (λ o. option_map_or (λ q. groups.may_start q c.args.event) o false) part)
    ∙ sym (ap (λ o. option_map_or (λ q. groups.may_start q c.args.event) (option_and_then (λ j. slice_get c.args.self.now.kept.parts j) o) false) (sym c.route.ensures.place ∙ c.in-Some.is))
