-- Where the first is none, and the turns of a loop that tries each number.
use Rattle.std.proofs.Common.{◌≡◌, ℕ, suc, ◌+◌, ◌<◌, List, [], ◌∷◌, Option, None, Bool, true, false, ◌&&◌, ◌-◌, refl, ap, ◌∙◌, arith}
use Rattle.std.specs.Option.{option_or}
use Rattle.plan_definitions.specs.Firsts.{first_of, each_number}
use Rattle.plan_definitions.proofs.Firsts.{or_none}

-- where one gives nothing at each member, so does another that gives nothing wherever it does
pub none_where : {X Y Z : Type 0} (f : ℕ → X → Option Y) (g : ℕ → X → Option Z) → ((i : ℕ) (x : X) → f i x ≡ None → g i x ≡ None)
    → (i : ℕ) (xs : List X) → first_of f i xs ≡ None → first_of g i xs ≡ None
none_where f g both i [] none = refl
none_where f g both i (x ∷ xs) none = let parts = or_none (f i x) (first_of f (i + 1) xs) none in
    ap (λ r. option_or r (first_of g (i + 1) xs)) (both i x parts.0) ∙ none_where f g both (i + 1) xs parts.1

module _ (test : ℕ → Bool) (i n : ℕ) (within : i < n) where
  one_less : n - i ≡ suc (n - (i + 1))
  one_less = omega arith

  -- one more number passes the test, and one fails it
  pub each_more : test i ≡ true → each_number test i (n - i) ≡ each_number test (i + 1) (n - (i + 1))
  each_more passes = ap (each_number test i) one_less ∙ ap (λ b. b && each_number test (i + 1) (n - (i + 1))) passes

  pub each_fails : test i ≡ false → each_number test i (n - i) ≡ false
  each_fails fails = ap (each_number test i) one_less ∙ ap (λ b. b && each_number test (i + 1) (n - (i + 1))) fails
