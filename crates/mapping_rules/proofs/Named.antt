-- What is found by its key.
use Rattle.std.proofs.Common.{◌≡◌, ℕ, ◌+◌, List, [], ◌∷◌, map, Bool, cond, Option, Some, option_map, slice_get, refl, sym, ap, ◌∙◌}
use Rattle.bus_semantics.specs.Common.{slice_get-map, position_from}

module _ {X Z : Type 0} (test : Z → Bool) (g : X → Z) where
  pub position_of_map : (n : ℕ) (xs : List X) → position_from (λ x. test (g x)) n xs ≡ position_from test n (map g xs)
  position_of_map n [] = refl
  position_of_map n (x ∷ xs) = ap (λ r. cond (test (g x)) (Some n) r) (position_of_map (n + 1) xs)

-- two lists with the same keys have the first of a key at the same place
pub same_place : {X Y Z : Type 0} (test : Z → Bool) (g : X → Z) (h : Y → Z) (xs : List X) (ys : List Y) → map g xs ≡ map h ys
    → position_from (λ x. test (g x)) 0 xs ≡ position_from (λ y. test (h y)) 0 ys
same_place test g h xs ys same = position_of_map test g 0 xs ∙ ap (position_from test 0) same ∙ sym (position_of_map test h 0 ys)

-- and so at each place
pub same_at : {X Y Z : Type 0} (g : X → Z) (h : Y → Z) (xs : List X) (ys : List Y) → map g xs ≡ map h ys → (k : ℕ) → option_map g (slice_get xs k) ≡ option_map h (slice_get ys k)
same_at g h xs ys same k = sym (slice_get-map g xs k) ∙ ap (λ l. slice_get l k) same ∙ slice_get-map h ys k

-- what was found at a place
pub same_found : {X Y Z : Type 0} (g : X → Z) (h : Y → Z) (k : ℕ) (r : Option X) (slice xs : List X) (ys : List Y) → r ≡ slice_get slice k → slice ≡ xs → map g xs ≡ map h ys
    → option_map g r ≡ option_map h (slice_get ys k)
same_found g h k r slice xs ys found is same = ap (option_map g) (found ∙ ap (λ l. slice_get l k) is) ∙ same_at g h xs ys same k
