use Rattle.std.proofs.Common.{◌≡◌, ◌∙◌, sym, ap, refl, ℕ, List, [], ◌∷◌, get_or, length, None}
use Rattle.std.specs.Prelude.{nat_lt}
use Rattle.bus_semantics.specs.Common.{slice_get, and_parts, get_or_from_slice_get, plan_of, groups_at, same_numbers}
use Rattle.bus_laws.proofs.Bundling.{bundle_lists, same_lists}
use Rattle.object_kinds.proofs.Lists.{at_index}
use Rattle.port_objects.proofs.making.group_at.Goals as goal

none_first : (xs : List ℕ) → None ≡ slice_get xs 0 → 0 ≡ get_or xs 0 0
none_first [] none = refl
none_first (x ∷ xs) none = absurd (cc none)

pub returns-in-Some : goal.returns-in-Some
returns-in-Some c =
    let p = plan_of c.args.p.now in
    let b = c.args.bundle in
    let gs = c.index-items-bundle.result in
    let there = at_index c.args.p.now.bundles c.items.result.now b gs c.items.ensures c.index-items-bundle.is c.requires.within in
    let listed : gs ≡ groups_at p b = same_lists gs (groups_at p b) (and_parts (same_numbers gs (groups_at p b)) (nat_lt 0 (length gs)) (bundle_lists p c.requires.sound.bundles b gs there)).0 in
    sym (get_or_from_slice_get (groups_at p b) 0 c.in-Some.group.now 0 (sym (c.in-Some.ensures.value ∙ ap (λ xs. slice_get xs 0) (c.items-2.ensures ∙ listed))))

pub returns-in-None : goal.returns-in-None
returns-in-None c =
    let p = plan_of c.args.p.now in
    let b = c.args.bundle in
    let gs = c.index-items-bundle.result in
    let there = at_index c.args.p.now.bundles c.items.result.now b gs c.items.ensures c.index-items-bundle.is c.requires.within in
    let listed : gs ≡ groups_at p b = same_lists gs (groups_at p b) (and_parts (same_numbers gs (groups_at p b)) (nat_lt 0 (length gs)) (bundle_lists p c.requires.sound.bundles b gs there)).0 in
    none_first (groups_at p b) (c.in-None.ensures.value ∙ ap (λ xs. slice_get xs 0) (c.items-2.ensures ∙ listed))
