-- What holds of each number that is not in a set, as numbers come and go; and sets in which there is none.
use Rattle.std.proofs.Common.{◌≡◌, ◌≢◌, ℕ, ◌<◌, ◌+◌, Bool, true, false, sym, ◌∙◌, ap, subst, arith, List, length, set, get_or, inl, inr}
use Rattle.bus_semantics.specs.Common.{cases_eq, cases_lt, false≢true, get_or-set_other, get_or-set_same, length-set}
use Rattle.place_set.specs.Places.{NoneBetween}
use Rattle.trace_objects.specs.Unrest.{OfOthers}

module _ (P : ℕ → Type 0) where
  -- where it holds of one, that is taken out
  pub without : (xs : List Bool) (at : ℕ) → P at → OfOthers P xs → OfOthers P (set xs at false)
  without xs at here others = λ n within out. elim (cases_eq n at) [
    | inl same ↦ subst P (sym same) here
    | inr other ↦ others n (omega (arith, within, length-set xs at false)) (sym (get_or-set_other xs at n false false other) ∙ out)
  ]

-- ---- none is in the set

pub none_on : (xs : List Bool) (from to : ℕ) → NoneBetween xs 0 from → NoneBetween xs from to → NoneBetween xs 0 to
none_on xs from to before behind = λ n _ within. elim (cases_lt n from) [ inl low ↦ before n (omega arith) low | inr high ↦ behind n high within ]

-- one more was taken out
pub none_more : (xs : List Bool) (at : ℕ) → at < length xs → NoneBetween xs 0 at → NoneBetween (set xs at false) 0 (at + 1)
none_more xs at inside before = λ n _ within. elim (cases_lt n at) [
  | inl low ↦ let other : n ≢ at = omega arith in get_or-set_other xs at n false false other ∙ before n (omega arith) low
  | inr high ↦ let here : n ≡ at = omega arith in ap (λ k. get_or (set xs at false) k false) here ∙ get_or-set_same xs at false false inside
]

-- ---- one is put into the set

pub with_length : (xs ys : List Bool) (at : ℕ) → ys ≡ set xs at true → length ys ≡ length xs
with_length xs ys at is = ap length is ∙ length-set xs at true

-- what is not in it then was not before
pub with_kept : (xs ys : List Bool) (at : ℕ) → ys ≡ set xs at true → at < length xs → (n : ℕ) → get_or ys n false ≡ false → get_or xs n false ≡ false
with_kept xs ys at is inside n out = elim (cases_eq n at) [
  | inl same ↦ absurd (false≢true (sym out ∙ ap (λ zs. get_or zs n false) is ∙ ap (λ k. get_or (set xs at true) k false) same ∙ get_or-set_same xs at true false inside))
  | inr other ↦ sym (get_or-set_other xs at n true false other) ∙ ap (λ zs. get_or zs n false) (sym is) ∙ out
]

pub with_it : (xs ys : List Bool) (at : ℕ) → ys ≡ set xs at true → at < length xs → get_or ys at false ≡ true
with_it xs ys at is inside = ap (λ zs. get_or zs at false) is ∙ get_or-set_same xs at true false inside
