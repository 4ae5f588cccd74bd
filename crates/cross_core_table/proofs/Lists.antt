-- What stands at a place of a list, as the table reads its lists.
use Rattle.std.proofs.Common.{◌≡◌, ◌<◌, ℕ, zero, suc, List, [], ◌∷◌, ◌++◌, map, length, refl, sym, ap, inl, inr, ⊎_elim, ◌⊎◌, arith, slice_get, Some}
use mathlib.Core.Option.{some, some-injective, some-ne-none}
use lib.ListN.{get_elem?}

module _ {A : Type 0} where
  pub at_within : (l : List A) (i : ℕ) (a : A) → get_elem? l i ≡ some a → i < length l
  at_within [] i a e = absurd (some-ne-none a (sym e))
  at_within (x ∷ xs) zero a e = omega arith
  at_within (x ∷ xs) (suc i) a e = omega (arith, at_within xs i a e)

  -- at the end stands what was put there, and before it what stood there
  pub at_end : (l : List A) (a b : A) (j : ℕ) → get_elem? (l ++ a ∷ []) j ≡ some b → (get_elem? l j ≡ some b) ⊎ ((j ≡ length l) × (a ≡ b))
  at_end [] a b zero e = inr (refl, some-injective a b e)
  at_end [] a b (suc j) e = absurd (some-ne-none b (sym e))
  at_end (x ∷ xs) a b zero e = inl e
  at_end (x ∷ xs) a b (suc j) e = ⊎_elim (λ t. inl t) (λ t. inr (ap suc t.0, t.1)) (at_end xs a b j e)

  -- a list of things that are all there
  pub at_somes : (l : List A) (i : ℕ) (a : A) → get_elem? (map some l) i ≡ some (some a) → slice_get l i ≡ Some a
  at_somes [] i a e = absurd (some-ne-none (some a) (sym e))
  at_somes (x ∷ xs) zero a e = ap (λ y. Some y) (some-injective x a (some-injective (some x) (some a) e))
  at_somes (x ∷ xs) (suc i) a e = at_somes xs i a e

  -- a list of one
  pub at_only : (a b : A) (j : ℕ) → get_elem? (a ∷ []) j ≡ some b → (j ≡ 0) × (a ≡ b)
  at_only a b zero e = (refl, some-injective a b e)
  at_only a b (suc j) e = absurd (some-ne-none b (sym e))
