-- What a part of a description keeps: each of its values passes the rules.
use Rattle.std.proofs.Common.{◌≡◌, ℕ, zero, suc, ◌+◌, List, [], ◌∷◌, ◌++◌, Bool, true, false, not, ◌&&◌, Some, refl, sym, subst, arith, ◌∙◌}
use Rattle.bus_semantics.specs.Common.{list_all, slice_get, and_parts, not-true, list_all-append, none-some, same_Some}
use Rattle.serde_json.specs.Data.{Data, null, boolean, number, string, array, object, Items, no_items, item, Members}
use Rattle.serde_json.specs.Find.{get_item, get_member}
use Rattle.description_places.specs.declared.catalogs.Catalog.{Catalog}
use Rattle.description_shapes.specs.declared.kind.Kind.{Kind}
use Rattle.description_shapes.specs.Alternatives.{resolved}
use Rattle.description_places.specs.Distinct.{breaks_distinct, is_repeated}
use Rattle.description_shapes.specs.Forms.{form_of}
use Rattle.description_shapes.specs.Keys.{Key, keys_of}
use Rattle.description_places.specs.References.{breaks_references, is_found}
use Rattle.description_shapes.specs.Rules.{breaks_shape, breaks_names}
use Rattle.description_shapes.specs.Shape.{has_shape}
use Rattle.description_shapes.specs.Spots.{Spot, inside, inside_part}
use Rattle.description_shapes.specs.Visits.{Visit, visit_at, visits, items_visits, members_visits, part_of, in_parts, at_key, under_keys}
use Rattle.description_shapes.proofs.Walks.{at_key_found, visits_at}

abbrev pub passes : Catalog → Visit → Bool
passes lists v = not (breaks_shape v) && (not (breaks_names v) && (not (breaks_distinct lists v) && not (breaks_references lists v)))

pub record Part (lists : Catalog) (vs : List Visit) : Type 0 where
  pub passing : list_all (passes lists) vs ≡ true

abbrev pub Kept : Catalog → Data → Kind → Spot → Type 0
Kept lists d kind s = Part lists (visits d kind s)

pub left_part : (lists : Catalog) (vs ws : List Visit) → Part lists (vs ++ ws) → Part lists vs
left_part lists vs ws h = record { passing = (and_parts _ _ (sym (list_all-append (passes lists) vs ws) ∙ h.passing)).0 }

pub right_part : (lists : Catalog) (vs ws : List Visit) → Part lists (vs ++ ws) → Part lists ws
right_part lists vs ws h = record { passing = (and_parts _ _ (sym (list_all-append (passes lists) vs ws) ∙ h.passing)).1 }

-- the value itself
pub passes_here : (lists : Catalog) (d : Data) (kind : Kind) (s : Spot) → Kept lists d kind s → passes lists (visit_at s (resolved kind d) d) ≡ true
passes_here lists null kind s h = (and_parts _ _ h.passing).0
passes_here lists (boolean b) kind s h = (and_parts _ _ h.passing).0
passes_here lists (number n) kind s h = (and_parts _ _ h.passing).0
passes_here lists (string t) kind s h = (and_parts _ _ h.passing).0
passes_here lists (array ps) kind s h = (and_parts _ _ h.passing).0
passes_here lists (object ms) kind s h = (and_parts _ _ h.passing).0

not_not : (b : Bool) → not (not b) ≡ true → b ≡ true
not_not true h = refl
not_not false h = h

pub shape_here : (lists : Catalog) (d : Data) (kind : Kind) (s : Spot) → Kept lists d kind s → has_shape (resolved kind d) d ≡ true
shape_here lists d kind s h = not_not _ ((and_parts _ _ (passes_here lists d kind s h)).0)

name_on : (lists : Catalog) (d : Data) (kind : Kind) (s : Spot) → Kept lists d kind s
    → (not (breaks_names (visit_at s (resolved kind d) d)) && (not (breaks_distinct lists (visit_at s (resolved kind d) d)) && not (breaks_references lists (visit_at s (resolved kind d) d)))) ≡ true
name_on lists d kind s h = (and_parts _ _ (passes_here lists d kind s h)).1

pub name_here : (lists : Catalog) (d : Data) (kind : Kind) (s : Spot) → Kept lists d kind s → breaks_names (visit_at s (resolved kind d) d) ≡ false
name_here lists d kind s h = not-true _ (and_parts _ _ (name_on lists d kind s h)).0

last_here : (lists : Catalog) (d : Data) (kind : Kind) (s : Spot) → Kept lists d kind s
    → (not (breaks_distinct lists (visit_at s (resolved kind d) d)) && not (breaks_references lists (visit_at s (resolved kind d) d))) ≡ true
last_here lists d kind s h = (and_parts _ _ (name_on lists d kind s h)).1

pub repeated_here : (lists : Catalog) (d : Data) (kind : Kind) (s : Spot) → Kept lists d kind s → is_repeated lists (resolved kind d) d s.around ≡ false
repeated_here lists d kind s h = not-true _ (and_parts _ _ (last_here lists d kind s h)).0

pub found_here : (lists : Catalog) (d : Data) (kind : Kind) (s : Spot) → Kept lists d kind s → is_found lists (resolved kind d) d s.around ≡ true
found_here lists d kind s h = not_not _ (and_parts _ _ (last_here lists d kind s h)).1

under : (lists : Catalog) (ks : List Key) (spots : List ℕ → Spot) (ms : Members) (n : ℕ) (k : Key) (x : Data)
    → Part lists (under_keys ks spots (members_visits ms)) → slice_get ks n ≡ Some k → get_member k.name ms ≡ Some x → Part lists (visits x k.kind (spots k.name))
under lists [] spots ms n k x h is found = absurd (none-some k is)
under lists (l ∷ ks) spots ms zero k x h is found =
    let here = left_part lists (at_key l spots (members_visits ms)) (under_keys ks spots (members_visits ms)) h in
    subst (λ o. Part lists (visits_at k spots o)) found
    (subst (Part lists) (at_key_found k spots ms) (subst (λ (j : Key). Part lists (at_key j spots (members_visits ms))) (same_Some l k is) here))
under lists (l ∷ ks) spots ms (suc n) k x h is found =
    under lists ks spots ms n k x (right_part lists (at_key l spots (members_visits ms)) (under_keys ks spots (members_visits ms)) h) is found

-- the key at this place of the table
pub kept_key : (lists : Catalog) (ms : Members) (kind : Kind) (s : Spot) (n : ℕ) (k : Key) (x : Data)
    → Kept lists (object ms) kind s → slice_get (keys_of (resolved kind (object ms))) n ≡ Some k → get_member k.name ms ≡ Some x
    → Kept lists x k.kind (inside s (resolved kind (object ms)) (object ms) k.name)
kept_key lists ms kind s n k x h is found =
    under lists (keys_of (resolved kind (object ms))) (inside s (resolved kind (object ms)) (object ms)) ms n k x (right_part lists (_ ∷ []) _ h) is found

-- the parts of an array
pub among_parts : (lists : Catalog) (kinds : ℕ → Kind) (spots : ℕ → Spot) (j : ℕ) (ps : Items) (i : ℕ) (x : Data)
    → Part lists (in_parts kinds spots j (items_visits ps)) → get_item i ps ≡ Some x → Part lists (visits x (kinds (j + i)) (spots (j + i)))
among_parts lists kinds spots j no_items i x h is = absurd (none-some x is)
among_parts lists kinds spots j (item p ps) zero x h is =
    let start : j ≡ j + 0 = omega arith in
    subst (λ n. Part lists (visits x (kinds n) (spots n))) start
    (subst (λ y. Part lists (visits y (kinds j) (spots j))) (same_Some p x is) (left_part lists (visits p (kinds j) (spots j)) (in_parts kinds spots (j + 1) (items_visits ps)) h))
among_parts lists kinds spots j (item p ps) (suc i) x h is =
    let next : (j + 1) + i ≡ j + suc i = omega arith in
    subst (λ n. Part lists (visits x (kinds n) (spots n))) next
    (among_parts lists kinds spots (j + 1) ps i x (right_part lists (visits p (kinds j) (spots j)) (in_parts kinds spots (j + 1) (items_visits ps)) h) is)

pub parts_kept : (lists : Catalog) (ps : Items) (kind : Kind) (s : Spot) → Kept lists (array ps) kind s
    → Part lists (in_parts (part_of (form_of (resolved kind (array ps))) (resolved kind (array ps))) (inside_part s (resolved kind (array ps)) (array ps)) 0 (items_visits ps))
parts_kept lists ps kind s h = right_part lists (_ ∷ []) _ h

pub kept_part : (lists : Catalog) (ps : Items) (kind : Kind) (s : Spot) (i : ℕ) (x : Data)
    → Kept lists (array ps) kind s → get_item i ps ≡ Some x
    → Kept lists x (part_of (form_of (resolved kind (array ps))) (resolved kind (array ps)) i) (inside_part s (resolved kind (array ps)) (array ps) i)
kept_part lists ps kind s i x h is =
    let start : 0 + i ≡ i = omega arith in
    subst (λ n. Kept lists x (part_of (form_of (resolved kind (array ps))) (resolved kind (array ps)) n) (inside_part s (resolved kind (array ps)) (array ps) n)) start
    (among_parts lists (part_of (form_of (resolved kind (array ps))) (resolved kind (array ps))) (inside_part s (resolved kind (array ps)) (array ps)) 0 ps i x (parts_kept lists ps kind s h) is)
