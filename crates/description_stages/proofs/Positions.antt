-- Positions of names: below the length of the list that has the name, which stands there.
use Rattle.std.proofs.Common.{◌≡◌, ℕ, zero, suc, ◌+◌, ◌<◌, List, [], ◌∷◌, map, length, Bool, true, false, cond, ltb, bytes_eq, Option, Some, None, refl, sym, ap, arith, ◌∙◌}
use Rattle.bus_semantics.specs.Common.{slice_get, slice_index_or, option_and_then, option_map, false≢true, lt-ltb, ltb-true, slice_get-map, bytes_eq-Decides, length-map}
use Rattle.serde_json.specs.Data.{Data, null, boolean, number, string, array, object, Items, no_items, item}
use Rattle.serde_json.specs.Find.{as_array, get, get_item}
use Rattle.description_places.specs.FirstPlaces.{first_places}
use Rattle.declared_names.specs.Names.{has_name, position_in}
use Rattle.declared_names.specs.Values.{items_at, items_of, listed}
use Rattle.description_places.specs.Distinct.{is_later_in, stands_before}
use Rattle.description_shapes.specs.Shape.{holds}

-- a name that is there has a position in each list of as many
pub low : {X Y : Type 0} (text : X → List ℕ) (f : X → Y) (xs : List X) (name : List ℕ) → has_name (map text xs) name ≡ true → ltb (position_in (map text xs) name) (length (map f xs)) ≡ true
low text f xs name h = ap (ltb (position_in (map text xs) name)) (length-map xs f ∙ sym (length-map xs text)) ∙ h

-- the same of the list itself
pub low_in : {X : Type 0} (text : X → List ℕ) (xs : List X) (name : List ℕ) → has_name (map text xs) name ≡ true → ltb (position_in (map text xs) name) (length xs) ≡ true
low_in text xs name h = ap (ltb (position_in (map text xs) name)) (sym (length-map xs text)) ∙ h

pub listed_at : (ps : Items) (i : ℕ) → slice_get (listed ps) i ≡ get_item i ps
listed_at no_items i = refl
listed_at (item d ps) zero = refl
listed_at (item d ps) (suc i) = listed_at ps i

-- a name of more that is not the first of them is one of the others, and its position is one less among these
stepped : (n : List ℕ) (ns : List (List ℕ)) (name : List ℕ) → bytes_eq n name ≡ false → has_name (n ∷ ns) name ≡ true → has_name ns name ≡ true
stepped n ns name other h =
    let wide : ltb (1 + position_in ns name) (suc (length ns)) ≡ true = sym (ap (λ b. ltb (cond b 0 (1 + position_in ns name)) (suc (length ns))) other) ∙ h in
    let less : 1 + position_in ns name < suc (length ns) = ltb-true (1 + position_in ns name) (suc (length ns)) wide in
    lt-ltb (position_in ns name) (length ns) (omega (arith, less))

-- the item at the position of a name that the list has
pub record Placed (text : Data → List ℕ) (ps : Items) (name : List ℕ) : Type 0 where
  pub value : Data
  pub there : get_item (position_in (map text (listed ps)) name) ps ≡ Some value
  pub same : text value ≡ name

pub placed : (text : Data → List ℕ) (ps : Items) (name : List ℕ) → has_name (map text (listed ps)) name ≡ true → Placed text ps name
placed text no_items name h = absurd (false≢true h)
placed text (item d ps) name h = by_first (bytes_eq (text d) name) refl (placed text ps name)
  where
    by_first : (b : Bool) → bytes_eq (text d) name ≡ b → (has_name (map text (listed ps)) name ≡ true → Placed text ps name) → Placed text (item d ps) name
    by_first true here more = record {
      value = d;
      there = ap (λ b. get_item (cond b 0 (1 + position_in (map text (listed ps)) name)) (item d ps)) here;
      same = (bytes_eq-Decides (text d) name).0 here;
    }
    by_first false here more =
        let later = more (stepped (text d) (map text (listed ps)) name here h) in
        let next : 1 + position_in (map text (listed ps)) name ≡ suc (position_in (map text (listed ps)) name) = omega arith in
        record {
          value = later.value;
          there = ap (λ b. get_item (cond b 0 (1 + position_in (map text (listed ps)) name)) (item d ps)) here
              ∙ ap (λ n. get_item n (item d ps)) next ∙ later.there;
          same = later.same;
        }

-- a list at a key that has the name
pub record InList (text : Data → List ℕ) (key : List ℕ) (x : Data) (name : List ℕ) : Type 0 where
  pub items : Items
  pub there : get key x ≡ Some (array items)
  pub found : Placed text items name

pub in_list : (text : Data → List ℕ) (key : List ℕ) (x : Data) (name : List ℕ) → has_name (map text (items_at key x)) name ≡ true → InList text key x name
in_list text key x name h = by (get key x) refl h
  where
    by : (o : Option Data) → get key x ≡ o → has_name (map text (items_of (option_and_then as_array o))) name ≡ true → InList text key x name
    by None e k = absurd (false≢true k)
    by (Some null) e k = absurd (false≢true k)
    by (Some (boolean b)) e k = absurd (false≢true k)
    by (Some (number n)) e k = absurd (false≢true k)
    by (Some (string t)) e k = absurd (false≢true k)
    by (Some (array ps)) e k = record { items = ps; there = e; found = placed text ps name k }
    by (Some (object ms)) e k = absurd (false≢true k)

pub items_there : (key : List ℕ) (x : Data) (ps : Items) → get key x ≡ Some (array ps) → items_at key x ≡ listed ps
items_there key x ps there = ap (λ o. items_of (option_and_then as_array o)) there

-- what a function makes of the item of a list at a key
pub made_at : {Y : Type 0} (f : Data → Y) (key : List ℕ) (x : Data) (ps : Items) (i : ℕ) (y : Data) → get key x ≡ Some (array ps) → get_item i ps ≡ Some y → slice_get (map f (items_at key x)) i ≡ Some (f y)
made_at f key x ps i y there is =
    slice_get-map f (items_at key x) i ∙ ap (option_map f) (ap (λ xs. slice_get xs i) (items_there key x ps there) ∙ listed_at ps i ∙ is)

-- what stands at a place stands first at an earlier one, by the first places of all
pub first_placed : (text : Data → List ℕ) (ps : Items) (i : ℕ) (x : Data) → get_item i ps ≡ Some x
    → is_later_in (first_places (map text (listed ps))) i ≡ stands_before (map text (listed ps)) (text x) i
first_placed text ps i x is =
    let ns = map text (listed ps) in
    ap (holds (λ first. ltb first i)) (slice_get-map (position_in ns) ns i ∙ ap (option_map (position_in ns)) (slice_get-map text (listed ps) i ∙ ap (option_map text) (listed_at ps i ∙ is)))

-- what stands at the position of a name
pub nth_position : (ns : List (List ℕ)) (name : List ℕ) → ltb (position_in ns name) (length ns) ≡ true → slice_index_or ns (position_in ns name) [] ≡ name
nth_position [] name h = absurd (false≢true h)
nth_position (n ∷ ns) name h = by_first (bytes_eq n name) refl (nth_position ns name)
  where
    by_first : (b : Bool) → bytes_eq n name ≡ b → (ltb (position_in ns name) (length ns) ≡ true → slice_index_or ns (position_in ns name) [] ≡ name) → slice_index_or (n ∷ ns) (position_in (n ∷ ns) name) [] ≡ name
    by_first true e more = ap (λ b. slice_index_or (n ∷ ns) (cond b 0 (1 + position_in ns name)) []) e ∙ (bytes_eq-Decides n name).0 e
    by_first false e more =
        let next : 1 + position_in ns name ≡ suc (position_in ns name) = omega arith in
        let wide : ltb (1 + position_in ns name) (suc (length ns)) ≡ true = sym (ap (λ b. ltb (cond b 0 (1 + position_in ns name)) (suc (length ns))) e) ∙ h in
        let low : 1 + position_in ns name < suc (length ns) = ltb-true (1 + position_in ns name) (suc (length ns)) wide in
        let down : position_in ns name < length ns = omega arith in
        ap (λ b. slice_index_or (n ∷ ns) (cond b 0 (1 + position_in ns name)) []) e ∙ ap (λ m. slice_index_or (n ∷ ns) m []) next ∙ more (lt-ltb (position_in ns name) (length ns) down)
