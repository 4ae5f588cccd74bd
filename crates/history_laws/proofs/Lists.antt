-- Items of lists.
use Rattle.std.proofs.Common.{◌≡◌, ℕ, zero, suc, Bool, true, false, if◌then◌else◌, refl, ap, List, [], ◌∷◌, ◌++◌, Option, Some, None}
use Rattle.bus_semantics.specs.Common.{and_from, and_parts, same_Some, slice_get, list_all, option_or, newest}
pub use Rattle.bus_laws.proofs.Thinning.{there_is}

-- an item of a longer list is the last, or stands before
pub data AtEnd {X : Type 0} (xs : List X) (y : X) (i : ℕ) (x : X) : Type 0 where
  earlier : slice_get xs i ≡ Some x → AtEnd xs y i x
  last : y ≡ x → AtEnd xs y i x

pub at_end : {X : Type 0} (xs : List X) (y : X) (i : ℕ) (x : X) → slice_get (xs ++ y ∷ []) i ≡ Some x → AtEnd xs y i x
at_end [] y zero x e = last (same_Some y x e)
at_end [] y (suc i) x e = absurd (cc e)
at_end (z ∷ xs) y zero x e = earlier e
at_end {X} (z ∷ xs) y (suc i) x e = longer (at_end xs y i x e)
  where
    longer : AtEnd xs y i x → AtEnd (z ∷ xs) y (suc i) x
    longer (earlier there) = earlier there
    longer (last there) = last there

pub all_more : {X : Type 0} (f : X → Bool) (xs : List X) (x : X) → list_all f xs ≡ true → f x ≡ true → list_all f (xs ++ x ∷ []) ≡ true
all_more f [] x all one = and_from (f x) true one refl
all_more f (y ∷ xs) x all one = let parts = and_parts (f y) (list_all f xs) all in and_from (f y) (list_all f (xs ++ x ∷ [])) parts.0 (all_more f xs x parts.1 one)

-- an item of which nothing is made, whether it is there or not
pub skipped : {X B : Type 0} (f : X → Option B) (x : X) (xs : List X) (b : Bool) → f x ≡ None → newest f (if b then x ∷ xs else xs) ≡ newest f xs
skipped f x xs true none = ap (λ o. option_or o (newest f xs)) none
skipped f x xs false none = refl
