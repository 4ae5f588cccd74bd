use Rattle.std.proofs.Common.{◌≡◌, ◌<◌, length, sym, ◌∙◌, ap, subst, arith, Some}
use Rattle.std.specs.Prelude.{IfSome, option_and_then}
use Rattle.bus_semantics.specs.Common.{slice_get, length-map, plan_of}
use Rattle.object_kinds.proofs.Lists.{mapped_at}
use Rattle.data_objects.specs.Kept as groups
use Rattle.data_objects.specs.Leading.{value_in}
use Rattle.bundle_objects.specs.Kept.{BundleState}
use Rattle.bundle_objects.specs.Leading.{number_at}
use Rattle.bundle_objects.proofs.Parts.{number_is_at}
use Rattle.bundle_objects.proofs.Coded.{kept_of, there}
use Rattle.bundle_objects.proofs.bundle.Bundle.value.Goals as goal

pub index-requires : goal.index-requires
index-requires c =
    let i = c.self.inside in
    let long : length i.groups.items ≡ length c.args.self.now.kept.parts = sym (length-map i.groups.items kept_of) ∙ ap (λ (s : BundleState). length s.kept.parts) c.self.view_is in
    let below : c.in-Some.place < length c.args.self.now.kept.parts = subst (λ o. IfSome o (λ place. place < length c.args.self.now.kept.parts)) c.in-Some.is c.place_of.ensures.within in
    omega (arith, below, long)

pub index-requires-in-Some : goal.index-requires-in-Some
index-requires-in-Some c =
    let i = c.self.inside in
    let long : length i.groups.items ≡ length c.args.self.now.kept.parts = sym (length-map i.groups.items kept_of) ∙ ap (λ (s : BundleState). length s.kept.parts) c.self.view_is in
    let below : c.in-Some.place < length c.args.self.now.kept.parts = subst (λ o. IfSome o (λ place. place < length c.args.self.now.kept.parts)) c.in-Some.is c.place_of.ensures.within in
    omega (arith, below, long, c.self.invariant.2)

pub value-requires-clause-planned : goal.value-requires-clause-planned
value-requires-clause-planned c =
    let i = c.self.inside in
    let long : length i.groups.items ≡ length c.args.self.now.kept.parts = sym (length-map i.groups.items kept_of) ∙ ap (λ (s : BundleState). length s.kept.parts) c.self.view_is in
    let below : c.in-Some.place < length c.args.self.now.kept.parts = subst (λ o. IfSome o (λ place. place < length c.args.self.now.kept.parts)) c.in-Some.is c.place_of.ensures.within in
    let found = there i.groups.items c.in-Some.place c.index.result.now (omega (arith, below, long)) c.index.ensures in
    let number = there i.numbers.items c.in-Some.place c.index-in-Some.result.now (omega (arith, below, long, c.self.invariant.2)) c.index-in-Some.ensures in
    c.requires.planned c.in-Some.place c.index-in-Some.result.now c.index.result.now.kept (ap (λ (s : BundleState). slice_get s.kept.numbers c.in-Some.place) (sym c.self.view_is) ∙ number)
    (ap (λ (s : BundleState). slice_get s.kept.parts c.in-Some.place) (sym c.self.view_is) ∙ mapped_at kept_of i.groups.items c.in-Some.place c.index.result.now found)

pub returns-in-Some : goal.returns-in-Some
returns-in-Some c =
    let p = plan_of c.args.p.now in
    let k = c.args.self.now.kept in
    let i = c.self.inside in
    let long : length i.groups.items ≡ length k.parts = sym (length-map i.groups.items kept_of) ∙ ap (λ (s : BundleState). length s.kept.parts) c.self.view_is in
    let below : c.in-Some.place < length k.parts = subst (λ o. IfSome o (λ place. place < length c.args.self.now.kept.parts)) c.in-Some.is c.place_of.ensures.within in
    let found = there i.groups.items c.in-Some.place c.index.result.now (omega (arith, below, long)) c.index.ensures in
    let number = there i.numbers.items c.in-Some.place c.index-in-Some.result.now (omega (arith, below, long, c.self.invariant.2)) c.index-in-Some.ensures in
    let part : slice_get k.parts c.in-Some.place ≡ Some c.index.result.now.kept =
    ap (λ (s : BundleState). slice_get s.kept.parts c.in-Some.place) (sym c.self.view_is) ∙ mapped_at kept_of i.groups.items c.in-Some.place c.index.result.now found in
    let group : number_at k c.in-Some.place ≡ c.index-in-Some.result.now = number_is_at k c.in-Some.place c.index-in-Some.result.now (ap (λ (s : BundleState). slice_get s.kept.numbers c.in-Some.place) (sym c.self.view_is) ∙ number) in
    c.value.ensures
    ∙ sym (ap (λ g. value_in p g c.args.elem c.index.result.now.kept.unqueued) group)
    ∙ sym (ap (option_and_then (λ (q : groups.Kept). value_in p (number_at k c.in-Some.place) c.args.elem q.unqueued)) part)
    ∙ sym (ap (option_and_then (λ j. option_and_then (λ (q : groups.Kept). value_in p (number_at k j) c.args.elem q.unqueued) (slice_get k.parts j))) (sym c.place_of.ensures.place ∙ c.in-Some.is))
