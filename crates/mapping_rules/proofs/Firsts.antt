-- What gives the same of each gives the same first.
use Rattle.std.proofs.Common.{◌≡◌, ℕ, ◌+◌, List, [], ◌∷◌, Option, refl, arith}
use Rattle.std.specs.Option.{option_or}
use Rattle.plan_definitions.specs.Firsts.{first_of}

-- what gives the same of each gives the same of all
pub first_same : {X Y : Type 0} (f g : ℕ → X → Option Y) → ((i : ℕ) (x : X) → f i x ≡ g i x) → (i : ℕ) (xs : List X) → first_of f i xs ≡ first_of g i xs
first_same f g same i [] = refl
first_same f g same i (x ∷ xs) = λ j. option_or (same i x j) (first_same f g same (i + 1) xs j)
