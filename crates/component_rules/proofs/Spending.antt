-- A count of words that goes down.
use Rattle.std.proofs.Common.{◌≡◌, ℕ, suc, ◌+◌, ◌-◌, ◌<◌, Bool, true, false, nat_le, nat_lt, List, length, get_or, take, refl, arith}
use Rattle.std.proofs.lemmas.Bool.{leb-false, leb-true, ltb-false, ltb-true}
use Rattle.std.proofs.lemmas.List.Sums.{sum_by_more}
use Rattle.std.specs.List.{sum_by}

-- the turn of the loop
pub spent : {X : Type 0} (f : X → ℕ) (xs : List X) (i : ℕ) (d : X) (whole rest more new : ℕ) → i < length xs → more ≡ f (get_or xs i d) → new ≡ rest - more
    → rest ≡ whole - sum_by f (take i xs) → new ≡ whole - sum_by f (take (i + 1) xs)
spent f xs i d whole rest more new within is less so_far = let next = sum_by_more f xs i d within in omega (arith, next, is, less, so_far)

-- something is left
pub some_left : (left n : ℕ) → left ≡ 17 - n → nat_lt 0 left ≡ nat_le n 16
some_left left n is = by (nat_lt 0 left) (nat_le n 16) refl refl
  where
    by : (s t : Bool) → nat_lt 0 left ≡ s → nat_le n 16 ≡ t → s ≡ t
    by true true h k = refl
    by false false h k = refl
    by true false h k = let some = ltb-true 0 left h in let many = leb-false n 16 k in absurd (omega (arith, some, many, is))
    by false true h k = let none = ltb-false 0 left h in let few = leb-true n 16 k in absurd (omega (arith, none, few, is))
