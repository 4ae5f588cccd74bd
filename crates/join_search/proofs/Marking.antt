-- Loops over joins that mark some ends.
use Rattle.std.proofs.Common.{◌≡◌, ℕ, zero, suc, ◌+◌, ◌<◌, ◌≤◌, List, [], ◌∷◌, length, get_or, drop, Bool, true, false, ◌&&◌, ◌||◌, refl, sym, ap, ◌∙◌, arith, add-one}
use Rattle.std.specs.List.{list_any}

or_turn : (a b c : Bool) → (a || (b || c)) ≡ ((b || a) || c)
or_turn true true c = refl
or_turn true false c = refl
or_turn false true c = refl
or_turn false false c = refl

or_none : (a : Bool) → (a || false) ≡ a
or_none true = refl
or_none false = refl

and_turn : (a b : Bool) → (a && b) ≡ (b && a)
and_turn true true = refl
and_turn true false = refl
and_turn false true = refl
and_turn false false = refl

module _ {X : Type 0} (p : X → Bool) where
  any_next : (xs : List X) (i : ℕ) (d : X) → i < length xs → list_any p (drop i xs) ≡ (p (get_or xs i d) || list_any p (drop (suc i) xs))
  any_next [] i d within = absurd (omega arith)
  any_next (x ∷ xs) zero d within = refl
  any_next (x ∷ xs) (suc i) d within = any_next xs i d (omega arith)

  any_left : (xs : List X) (i : ℕ) → length xs ≤ i → list_any p (drop i xs) ≡ false
  any_left [] zero past = refl
  any_left [] (suc i) past = refl
  any_left (x ∷ xs) zero past = absurd (omega arith)
  any_left (x ∷ xs) (suc i) past = any_left xs i (omega arith)

  -- all are marked that pass
  pub marked_all : (xs : List X) (i : ℕ) (whole old : Bool) → length xs ≤ i → whole ≡ (old || list_any p (drop i xs)) → old ≡ whole
  marked_all xs i whole old past so_far = sym (so_far ∙ ap (λ b. old || b) (any_left xs i past) ∙ or_none old)

-- one more is marked, if it passes a test
module _ {X E : Type 0} (same : E → Bool) (own : X → E) (test : X → Bool) where
  abbrev passes : X → Bool
  passes x = same (own x) && test x

  pub marked_more : (xs : List X) (i : ℕ) (d : X) (e : E) (is_marked whole old new : Bool) → i < length xs → is_marked ≡ test (get_or xs i d) → e ≡ own (get_or xs i d) → new ≡ ((is_marked && same e) || old)
      → whole ≡ (old || list_any (λ x. same (own x) && test x) (drop i xs)) → whole ≡ (new || list_any (λ x. same (own x) && test x) (drop (i + 1) xs))
  marked_more xs i d e is_marked whole old new within tested here is so_far =
      so_far ∙ ap (λ b. old || b) (any_next passes xs i d within) ∙ or_turn old (passes (get_or xs i d)) (list_any passes (drop (suc i) xs))
      ∙ ap (λ b. (b || old) || list_any passes (drop (suc i) xs)) (and_turn (same (own (get_or xs i d))) (test (get_or xs i d)))
      ∙ (λ t. ((sym tested t && same (sym here t)) || old) || list_any passes (drop (suc i) xs))
      ∙ (λ t. sym is t || list_any passes (drop (sym (add-one i) t) xs))
