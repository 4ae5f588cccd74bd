-- Pairs that were judged.
use Rattle.std.proofs.Common.{◌≡◌, ℕ, List, [], ◌∷◌, Bool, true, ◌&&◌, nat_eq, sym, ◌∙◌, true≢false, ⊎_elim}
use Rattle.std.proofs.lemmas.Bool.{eqb-true, or_cases, and_parts}
use Rattle.std.specs.List.{list_all, list_any}

module _ (f : ℕ × ℕ → Bool) where
  same_pair : (x y : ℕ × ℕ) → (nat_eq x.0 y.0 && nat_eq x.1 y.1) ≡ true → f y ≡ true → f x ≡ true
  same_pair x y h is = let both = and_parts (nat_eq x.0 y.0) (nat_eq x.1 y.1) h in (λ j. f (eqb-true x.0 y.0 both.0 j, eqb-true x.1 y.1 both.1 j)) ∙ is

  pub among_passed : (ps : List (ℕ × ℕ)) (x : ℕ × ℕ) → list_any (λ y. nat_eq x.0 y.0 && nat_eq x.1 y.1) ps ≡ true → list_all f ps ≡ true → f x ≡ true
  among_passed [] x h all = absurd (true≢false (sym h))
  among_passed (y ∷ ps) x h all =
      let parts = and_parts (f y) (list_all f ps) all in
      ⊎_elim (λ here. same_pair x y here parts.0) (λ there. among_passed ps x there parts.1) (or_cases (nat_eq x.0 y.0 && nat_eq x.1 y.1) (list_any (λ y. nat_eq x.0 y.0 && nat_eq x.1 y.1) ps) h)
