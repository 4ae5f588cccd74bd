-- Partners of ends, and what a list says of a key, as they are looked up.
use Rattle.std.proofs.Common.{◌≡◌, ℕ, zero, suc, ◌+◌, List, [], ◌∷◌, ◌++◌, map, Bool, true, false, true≢false, cond, ◌&&◌, nat_eq, Option, Some, None, refl, sym, ap, ◌∙◌, add-one}
use Rattle.std.specs.List.{find, flat_map, position_from, slice_get}
use Rattle.std.specs.Map.{lookup}
use Rattle.std.specs.Option.{option_and_then, option_map}
use Rattle.plan_definitions.specs.Common.{ComSpec, Description, End, Flat, Join, provider_of, same_end, Port}
use Rattle.plan_numbers.specs.ComSpecs.{items_of_ports, named_items}
use Rattle.plan_numbers.specs.Ends.{EndKey, is_served, key_of, same_end_key, served_entry}
use Rattle.plan_definitions.proofs.Keys.{nat_eq_sym, option_eq_sym, same_end_is as are_one}

same_end_is : (a b : End) → same_end a b ≡ same_end_key (key_of b) (key_of a)
same_end_is a b = λ j. (option_eq_sym a.instance b.instance j && nat_eq_sym a.port b.port j) && nat_eq_sym a.element b.element j

-- an end that is served is none that is not
served_differs : (d : Description) (f : Flat) (a e : End) → is_served d f a ≡ false → is_served d f e ≡ true → same_end a e ≡ false
served_differs d f a e unserved served = by (same_end a e) refl
  where
    by : (same : Bool) → same_end a e ≡ same → same ≡ false
    by true same = absurd (true≢false (sym served ∙ ap (is_served d f) (sym (are_one a e same)) ∙ unserved))
    by false same = refl

module _ (d : Description) (f : Flat) (e : End) (served : is_served d f e ≡ true) where
  provider_by : (joins : List Join) → lookup (same_end_key (key_of e)) (flat_map (served_entry d f) joins) ≡ option_map (λ j. j.provided) (find (λ j. same_end j.required e) joins)
  provider_by [] = refl
  provider_by (j ∷ joins) = by (is_served d f j.required) refl (provider_by joins)
    where
      after : Option End
      after = option_map (λ j. j.provided) (find (λ j. same_end j.required e) joins)

      found : (b : Bool) → cond b (Some j.provided) after ≡ option_map (λ j. j.provided) (cond b (Some j) (find (λ j. same_end j.required e) joins))
      found true = refl
      found false = refl

      by : (b : Bool) → is_served d f j.required ≡ b → lookup (same_end_key (key_of e)) (flat_map (served_entry d f) joins) ≡ after
          → lookup (same_end_key (key_of e)) (cond b ((key_of j.required, j.provided) ∷ []) [] ++ flat_map (served_entry d f) joins) ≡ option_map (λ j. j.provided) (find (λ j. same_end j.required e) (j ∷ joins))
      by true is rest = ap (λ found. cond (same_end_key (key_of e) (key_of j.required)) (Some j.provided) found) rest
          ∙ ap (λ b. cond b (Some j.provided) after) (sym (same_end_is j.required e)) ∙ found (same_end j.required e)
      by false is rest = rest ∙ ap (λ b. option_map (λ j. j.provided) (cond b (Some j) (find (λ j. same_end j.required e) joins))) (sym (served_differs d f j.required e is served))

pub provider_found : (d : Description) (f : Flat) (joins : List Join) (entries : List (EndKey × End)) (e : End) → entries ≡ flat_map (served_entry d f) joins → is_served d f e ≡ true
    → lookup (same_end_key (key_of e)) entries ≡ provider_of joins e
provider_found d f joins entries e are served = ap (lookup (same_end_key (key_of e))) are ∙ provider_by d f e served joins

-- what is found by its key
pub position_next : {X : Type 0} (test : X → Bool) (n : ℕ) (xs : List X) → position_from test (n + 1) xs ≡ option_map (λ p. p + 1) (position_from test n xs)
position_next test n [] = refl
position_next test n (x ∷ xs) = ap (λ rest. cond (test x) (Some (n + 1)) rest) (position_next test (n + 1) xs) ∙ by (test x)
  where
    by : (b : Bool) → cond b (Some (n + 1)) (option_map (λ p. p + 1) (position_from test (n + 1) xs)) ≡ option_map (λ p. p + 1) (cond b (Some n) (position_from test (n + 1) xs))
    by true = refl
    by false = refl

further : {X : Type 0} (x : X) (xs : List X) (p : Option ℕ) → option_and_then (slice_get (x ∷ xs)) (option_map (λ p. p + 1) p) ≡ option_and_then (slice_get xs) p
further x xs None = refl
further x xs (Some p) = ap (slice_get (x ∷ xs)) (add-one p)

found_by : {X : Type 0} (key : X → ℕ) (k : ℕ) (x : X) (xs : List X) (b : Bool) → option_and_then (slice_get xs) (position_from (nat_eq k) 0 (map key xs)) ≡ find (λ x. nat_eq (key x) k) xs
    → option_and_then (slice_get (x ∷ xs)) (cond b (Some 0) (position_from (nat_eq k) (0 + 1) (map key xs))) ≡ cond b (Some x) (find (λ x. nat_eq (key x) k) xs)
found_by key k x xs true rest = refl
found_by key k x xs false rest = ap (option_and_then (slice_get (x ∷ xs))) (position_next (nat_eq k) 0 (map key xs)) ∙ further x xs (position_from (nat_eq k) 0 (map key xs)) ∙ rest

pub found_at : {X : Type 0} (key : X → ℕ) (k : ℕ) (xs : List X) → option_and_then (slice_get xs) (position_from (nat_eq k) 0 (map key xs)) ≡ find (λ x. nat_eq (key x) k) xs
found_at key k [] = refl
found_at key k (x ∷ xs) = found_by key k x xs (nat_eq k (key x)) (found_at key k xs) ∙ ap (λ b. cond b (Some x) (find (λ x. nat_eq (key x) k) xs)) (nat_eq_sym k (key x))

pub spec_found : (item : ℕ) (specs : List ComSpec) (table : List ℕ) → table ≡ map (λ s. s.element) specs
    → option_and_then (slice_get specs) (position_from (nat_eq item) 0 table) ≡ find (λ s. nat_eq s.element item) specs
spec_found item specs table are = ap (λ keys. option_and_then (slice_get specs) (position_from (nat_eq item) 0 keys)) are ∙ found_at (λ s. s.element) item specs

-- The standard library's lemma has a dash in its name, which a `using` in code cannot write.
pub slice_get_map : {X Y : Type 0} (f : X → Y) (xs : List X) (i : ℕ) → slice_get (map f xs) i ≡ option_map f (slice_get xs i)
slice_get_map f [] i = refl
slice_get_map f (x ∷ xs) zero = refl
slice_get_map f (x ∷ xs) (suc i) = slice_get_map f xs i

-- the items that a port's table has
pub table_at : (ports : List Port) (tables : List (List ℕ)) (i : ℕ) (p : Port) (t : List ℕ) → tables ≡ items_of_ports ports → slice_get ports i ≡ Some p → slice_get tables i ≡ Some t → t ≡ named_items p
table_at ports tables i p t are found is =
    let same : Some t ≡ Some (named_items p) = sym is ∙ ap (λ ts. slice_get ts i) are ∙ slice_get_map named_items ports i ∙ ap (option_map named_items) found in
    cc
