-- The first place that passes, from another one on.
use Rattle.std.proofs.Common.{◌≡◌, ◌<◌, ◌≤◌, ℕ, nat_eq, refl, sym, ◌∙◌, ap, arith, Bool, true, false, List, length, get_or, inl, inr, Option, Some, None, position, cond, nat_lt}
use Rattle.std.specs.List.{position_or_len}
use Rattle.std.proofs.lemmas.Bool.{cases_lt, eq-eqb, eqb-true, false≢true, lt-ltb, le-ltb}
use Rattle.std.proofs.lemmas.List.{get_or_past}
use Rattle.std.proofs.lemmas.List.Sums.{position_or_len_is}
use Rattle.std.specs.Option.{option_eq}
use Rattle.mode_machine.specs.Chains.{IsNext}

-- what stands for one that there is not
abbrev pub end_of : (count : ℕ) → Option ℕ → ℕ
end_of count None = count
end_of count (Some at) = at

pub same_place : (o : Option ℕ) (n : ℕ) → option_eq nat_eq o (Some n) ≡ true → o ≡ Some n
same_place None n on = absurd (false≢true on)
same_place (Some m) n on = ap (λ k. Some k) (eqb-true m n on)

pub other_place : (o : Option ℕ) (n : ℕ) → option_eq nat_eq o (Some n) ≡ false → o ≡ Some n → ⊥
other_place o n off same = false≢true (sym off ∙ ap (λ p. option_eq nat_eq p (Some n)) same ∙ eq-eqb n n refl)

module _ (test : ℕ → Bool) where
  -- none passes that one goes past
  pub passed : (from count : ℕ) (next : Option ℕ) → IsNext test from next → (place : ℕ) → from ≤ place → place < end_of count next → test place ≡ false
  passed from count None none place behind before = none place behind
  passed from count (Some at) first place behind before = first.none place behind before

  pub begins_earlier : (from from' : ℕ) (next : Option ℕ) → from' ≤ from → ((place : ℕ) → from' ≤ place → place < from → test place ≡ false) → IsNext test from next → IsNext test from' next
  begins_earlier from from' None less fails none = λ place behind. elim (cases_lt place from) [ inl before ↦ fails place behind before | inr past ↦ none place past ]
  begins_earlier from from' (Some at) less fails first =
      let behind = first.behind in
      record {
        behind = omega arith;
        passes = first.passes;
        none = λ place after before. elim (cases_lt place from) [ inl early ↦ fails place after early | inr past ↦ first.none place past before ];
      }

  pub same_tests : (test' : ℕ → Bool) (from : ℕ) (next : Option ℕ) → ((place : ℕ) → test' place ≡ test place) → IsNext test from next → IsNext test' from next
  same_tests test' from None same none = λ place behind. same place ∙ none place behind
  same_tests test' from (Some at) same first = record {
    behind = first.behind;
    passes = same at ∙ first.passes;
    none = λ place behind before. same place ∙ first.none place behind before;
  }

module _ {X : Type 0} (p : X → Bool) (xs : List X) (d : X) (fails : p d ≡ false) where
  pub within : (at : ℕ) → p (get_or xs at d) ≡ true → at < length xs
  within at passes = elim (cases_lt at (length xs)) [ inl inside ↦ inside | inr past ↦ absurd (false≢true (sym fails ∙ ap p (sym (get_or_past xs at d past)) ∙ passes)) ]

  at_first : (n : ℕ) → position_or_len p xs ≡ n → position p xs ≡ cond (nat_lt n (length xs)) (Some n) None
  at_first n is = ap (λ m. cond (nat_lt m (length xs)) (Some m) None) is

  -- it is what `position` finds
  pub is_position : (next : Option ℕ) → IsNext (λ at. p (get_or xs at d)) 0 next → next ≡ position p xs
  is_position None none =
      sym (at_first (length xs) (position_or_len_is p xs (length xs) d (omega arith) (λ k before. none k (omega arith)) (λ less. absurd (omega (arith, less))))
      ∙ ap (λ b. cond b (Some (length xs)) None) (le-ltb (length xs) (length xs) (omega arith)))
  is_position (Some at) first =
      let inside = within at first.passes in
      sym (at_first at (position_or_len_is p xs at d (omega (arith, inside)) (λ k before. first.none k (omega arith) before) (λ less. first.passes))
      ∙ ap (λ b. cond b (Some at) None) (lt-ltb at (length xs) inside))
