-- What stands at a place of a list in which one item was set.
use Rattle.std.proofs.Common.{◌≡◌, ◌≢◌, ◌<◌, ℕ, zero, suc, refl, sym, ◌∙◌, ap, arith, List, [], ◌∷◌, length, set, get_or, Some}
use Rattle.std.specs.List.{slice_get}
use Rattle.std.proofs.lemmas.Option.{slice_get-get_or}

pub data Placed (X : Type 0) (xs : List X) (n : ℕ) (y : X) (i : ℕ) (x : X) : Type 0 where
  here : i ≡ n → x ≡ y → Placed X xs n y i x
  there : i ≢ n → slice_get xs i ≡ Some x → Placed X xs n y i x

pub placed : {X : Type 0} (xs : List X) (n : ℕ) (y : X) (i : ℕ) (x : X) → slice_get (set xs n y) i ≡ Some x → Placed X xs n y i x
placed [] n y i x e = absurd (cc e)
placed (z ∷ xs) zero y zero x e = here refl cc
placed (z ∷ xs) zero y (suc i) x e = there (omega arith) e
placed (z ∷ xs) (suc n) y zero x e = there (omega arith) e
placed (z ∷ xs) (suc n) y (suc i) x e = deeper (placed xs n y i x e)
  where
    deeper : Placed _ xs n y i x → Placed _ (z ∷ xs) (suc n) y (suc i) x
    deeper (here at same) = here (ap suc at) same
    deeper (there other found) = there (omega arith) found

pub set_here : {X : Type 0} (xs : List X) (i : ℕ) (x y : X) → slice_get xs i ≡ Some x → slice_get (set xs i y) i ≡ Some y
set_here [] i x y e = absurd (cc e)
set_here (z ∷ xs) zero x y e = refl
set_here (z ∷ xs) (suc i) x y e = set_here xs i x y e

pub set_there : {X : Type 0} (xs : List X) (i j : ℕ) (x y : X) → j ≢ i → slice_get xs j ≡ Some x → slice_get (set xs i y) j ≡ Some x
set_there [] i j x y other e = e
set_there (z ∷ xs) zero zero x y other e = absurd (other refl)
set_there (z ∷ xs) zero (suc j) x y other e = e
set_there (z ∷ xs) (suc i) zero x y other e = e
set_there (z ∷ xs) (suc i) (suc j) x y other e = set_there xs i j x y (λ same. other (ap suc same)) e

pub found_at : {X : Type 0} (xs : List X) (at : ℕ) (x : X) → at < length xs → x ≡ get_or xs at x → slice_get xs at ≡ Some x
found_at xs at x within is = slice_get-get_or xs at x within ∙ ap (λ y. Some y) (sym is)
