-- The names of a list are names, and distinct.
use Rattle.std.proofs.Common.{◌≡◌, ℕ, suc, ◌+◌, ◌≤◌, List, [], ◌∷◌, map, length, Bool, true, false, not, ◌&&◌, ◌||◌, leb, ltb, eqb, cond, bytes_eq, codes, Some, None, is_some, refl, sym, ap}
use Rattle.std.proofs.Common.{subst, arith, ◌∙◌, ◌⊎◌, inl, inr}
use Rattle.bus_semantics.specs.Common.{list_all, list_any, slice_get, option_and_then, and_parts, and_from, or_cases, or_from, or_left, or_right, false≢true, true≢false, false_from_ne_true}
use Rattle.bus_semantics.specs.Common.{leb-true, le-leb, lt-ltb, ltb-true, bytes_eq-Decides, is_in, same_numbers}
use Rattle.serde_json.specs.Data.{Data, array, Items, no_items, item}
use Rattle.serde_json.specs.Find.{as_array, get, get_item}
use Rattle.description_places.specs.declared.catalogs.Catalog.{Catalog}
use Rattle.declared_names.specs.Names.{position_in}
use Rattle.declared_names.specs.Values.{items_at, items_of, listed, text_at}
use Rattle.description_shapes.specs.declared.kind.Kind.{Kind}
use Rattle.description_shapes.specs.Alternatives.{resolved}
use Rattle.description_places.specs.Distinct.{is_named_before, stands_before}
use Rattle.description_shapes.specs.Forms.{form_of}
use Rattle.description_shapes.specs.Keys.{Key, keys_of}
use Rattle.description_shapes.specs.Names as places
use Rattle.description_shapes.specs.Shape as shape
use Rattle.description_shapes.specs.Shape.{has_shape}
use Rattle.description_shapes.specs.Spots.{Spot, inside, inside_part}
use Rattle.description_shapes.specs.Visits.{part_of}
use Rattle.bus_semantics.specs.SoundNames as bus
use Rattle.plan_definitions.specs.WellFormed.{distinct, names_fit}
use Rattle.plan_definitions.proofs.Lists.{same_numbers_is}
use Rattle.description_stages.proofs.Kept.{Kept, kept_part, shape_here}
use Rattle.description_stages.proofs.Shapes.{is_object, on_array}
use Rattle.description_stages.proofs.Shorts.{at_name, has_short, short_name, Value, optional_value}

-- ---- a name is one of the plan's

part_fits : (c : ℕ) → places.is_letter_or_digit c ≡ true → bus.is_name_part c ≡ true
part_fits c h = by_case (or_cases (places.is_letter c || shape.is_within 48 57 c) (eqb c 95) h)
  where
    by_first : (places.is_letter c ≡ true) ⊎ (shape.is_within 48 57 c ≡ true) → bus.is_name_part c ≡ true
    by_first (inl k) = or_left (bus.is_letter c) _ k
    by_first (inr k) = or_right (bus.is_letter c) _ (or_left (is_in 48 57 c) (eqb c 95) k)

    by_case : ((places.is_letter c || shape.is_within 48 57 c) ≡ true) ⊎ (eqb c 95 ≡ true) → bus.is_name_part c ≡ true
    by_case (inl k) = by_first (or_cases _ _ k)
    by_case (inr k) = or_right (bus.is_letter c) _ (or_right (is_in 48 57 c) (eqb c 95) k)

parts_fit : (t : List ℕ) → list_all places.is_letter_or_digit t ≡ true → list_all bus.is_name_part t ≡ true
parts_fit [] h = refl
parts_fit (c ∷ t) h = and_from _ _ (part_fits c (and_parts _ _ h).0) (parts_fit t (and_parts _ _ h).1)

pub name_fits : (t : List ℕ) → places.is_name t ≡ true → bus.is_name t ≡ true
name_fits [] h = absurd (false≢true h)
name_fits (c ∷ t) h =
    let front = and_parts (shape.is_within 1 32 (length (c ∷ t)) && places.is_letter c) (list_all places.is_letter_or_digit (c ∷ t)) h in
    let start = and_parts (shape.is_within 1 32 (length (c ∷ t))) (places.is_letter c) front.0 in
    let wide : length (c ∷ t) ≤ 32 = leb-true _ _ (and_parts (leb 1 (length (c ∷ t))) _ start.0).1 in
    and_from _ _ start.1 (and_from _ _ (parts_fit t (and_parts _ _ front.1).1) (le-leb (length t) 31 (omega arith)))

-- ---- lists

pub all_listed : {X : Type 0} (test : X → Bool) (f : Data → X) (ps : Items) → ((i : ℕ) (x : Data) → get_item i ps ≡ Some x → test (f x) ≡ true) → list_all test (map f (listed ps)) ≡ true
all_listed test f no_items h = refl
all_listed test f (item x ps) h = and_from _ _ (h 0 x refl) (all_listed test f ps (λ i y is. h (suc i) y is))

none_same : (text : Data → List ℕ) (t : List ℕ) (ps : Items) → ((i : ℕ) (x : Data) → get_item i ps ≡ Some x → t ≡ text x → ⊥) → list_any (same_numbers t) (map text (listed ps)) ≡ false
none_same text t no_items h = refl
none_same text t (item x ps) h =
    or_from _ _ (false_from_ne_true _ (λ e. h 0 x refl (same_numbers_is t (text x) e))) (none_same text t ps (λ i y is. h (suc i) y is))

-- ---- a list of which nothing stands at an earlier place

abbrev pub EachFirst : (Data → List ℕ) → Items → Type 0
EachFirst text ps = (i : ℕ) (x : Data) → get_item i ps ≡ Some x → stands_before (map text (listed ps)) (text x) i ≡ false

-- the first has another text than each later one
pub first_differs : (text : Data → List ℕ) (p : Data) (ps : Items) → EachFirst text (item p ps) → (i : ℕ) (x : Data) → get_item i ps ≡ Some x → bytes_eq (text p) (text x) ≡ false
first_differs text p ps h i x is = by_test (bytes_eq (text p) (text x)) (h (suc i) x is)
  where
    by_test : (b : Bool) → ltb (cond b 0 (1 + position_in (map text (listed ps)) (text x))) (suc i) ≡ false → b ≡ false
    by_test true e = absurd (true≢false (sym (lt-ltb 0 (suc i) (omega arith)) ∙ e))
    by_test false e = refl

-- and so the later ones are such a list
pub rest_first : (text : Data → List ℕ) (p : Data) (ps : Items) → EachFirst text (item p ps) → EachFirst text ps
rest_first text p ps h i x is =
    let n = position_in (map text (listed ps)) (text x) in
    let next : ltb (1 + n) (suc i) ≡ false = sym (ap (λ b. ltb (cond b 0 (1 + n)) (suc i)) (first_differs text p ps h i x is)) ∙ h (suc i) x is in
    false_from_ne_true (ltb n i) (λ t. true≢false (sym (lt-ltb (1 + n) (suc i) (omega (arith, ltb-true n i t))) ∙ next))

pub apart : (text : Data → List ℕ) (p : Data) (ps : Items) → EachFirst text (item p ps) → (i : ℕ) (x : Data) → get_item i ps ≡ Some x → text p ≡ text x → ⊥
apart text p ps h i x is same = true≢false (sym ((bytes_eq-Decides (text p) (text x)).1 same) ∙ first_differs text p ps h i x is)

firsts_distinct : (text : Data → List ℕ) (ps : Items) → EachFirst text ps → distinct (map text (listed ps)) ≡ true
firsts_distinct text no_items h = refl
firsts_distinct text (item p ps) h = and_from _ _ (ap not (none_same text (text p) ps (apart text p ps h))) (firsts_distinct text ps (rest_first text p ps h))

pub names_kept : (text : Data → List ℕ) (ps : Items) → ((i : ℕ) (x : Data) → get_item i ps ≡ Some x → (stands_before (map text (listed ps)) (text x) i ≡ false) × (places.is_name (text x) ≡ true))
    → names_fit (map text (listed ps)) ≡ true
names_kept text ps own =
    and_from _ _ (all_listed bus.is_name text ps (λ i x is. name_fits (text x) (own i x is).1))
    (firsts_distinct text ps (λ i x is. (own i x is).0))

-- a list of objects of a kind that have short names
pub record Objects (list part : Kind) : Type 0 where
  pub parts : (ps : Items) (i : ℕ) → part_of (form_of (resolved list (array ps))) (resolved list (array ps)) i ≡ part
  pub short : (x : Data) → has_short (resolved part x) ≡ true

-- the name of each stands at an earlier place of its list where it stands at one of these
abbrev pub ByPlace : Catalog → (list part : Kind) → Spot → Items → Type 0
ByPlace lists list part s ps = (i : ℕ) (x : Data) → get_item i ps ≡ Some x
    → is_named_before lists (resolved part x) (text_at (codes "shortName") x) (at_name (resolved part x) x (inside_part s (resolved list (array ps)) (array ps) i).around)
    ≡ stands_before (map (text_at (codes "shortName")) (listed ps)) (text_at (codes "shortName") x) i

pub short_names_fit : (lists : Catalog) (list part : Kind) (s : Spot) (ps : Items) → Objects list part → ByPlace lists list part s ps → Kept lists (array ps) list s
    → names_fit (map (text_at (codes "shortName")) (listed ps)) ≡ true
short_names_fit lists list kind s ps o place kept = names_kept (text_at (codes "shortName")) ps own
  where
    own : (i : ℕ) (x : Data) → get_item i ps ≡ Some x
        → (stands_before (map (text_at (codes "shortName")) (listed ps)) (text_at (codes "shortName") x) i ≡ false) × (places.is_name (text_at (codes "shortName") x) ≡ true)
    own i x is =
        let spot = inside_part s (resolved list (array ps)) (array ps) i in
        let short = short_name lists x kind spot (o.short x) (subst (λ k. Kept lists x k spot) (o.parts ps i) (kept_part lists ps list s i x kept is)) in
        (sym (place i x is) ∙ short.is_first, short.fits_name)

-- ---- the list at a key

pub on_list : (lists : Catalog) (x : Data) (kind : Kind) (s : Spot) (n : ℕ) (k : Key) → is_object (form_of (resolved kind x)) ≡ true → slice_get (keys_of (resolved kind x)) n ≡ Some k
    → ((v : Data) → has_shape (resolved k.kind v) v ≡ true → is_some (as_array v) ≡ true) → Kept lists x kind s
    → (P : List Data → Type 0) → P [] → ((ps : Items) → get k.name x ≡ Some (array ps) → Kept lists (array ps) k.kind (inside s (resolved kind x) x k.name) → P (listed ps)) → P (items_at k.name x)
on_list lists x kind s n k form is arrays kept P none f = by_case (optional_value lists x kind s n k form is kept)
  where
    by_case : (get k.name x ≡ None) ⊎ Value lists x kind s k → P (items_at k.name x)
    by_case (inl e) = subst (λ o. P (items_of (option_and_then as_array o))) (sym e) none
    by_case (inr v) =
        on_array (λ y. get k.name x ≡ Some y → Kept lists y k.kind (inside s (resolved kind x) x k.name) → P (items_at k.name x))
        (λ ps there kept. subst (λ o. P (items_of (option_and_then as_array o))) (sym there) (f ps there kept))
        v.value (arrays v.value (shape_here lists v.value k.kind (inside s (resolved kind x) x k.name) v.kept)) v.there v.kept
