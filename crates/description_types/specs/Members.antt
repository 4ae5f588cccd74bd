-- What is in a list.
use Rattle.std.specs.Prelude.{◌≡◌, ℕ, ◌+◌, List, [], ◌∷◌, ◌⊎◌}

-- x is one of the list
abbrev pub Among : {X : Type 0} → X → List X → Type 0
Among x [] = ⊥
Among x (y ∷ ys) = (x ≡ y) ⊎ Among x ys

-- the sum of the numbers of its elements
abbrev pub sum_of : {X : Type 0} → (X → ℕ) → List X → ℕ
sum_of f [] = 0
sum_of f (x ∷ xs) = f x + sum_of f xs

-- no element is in the list twice
abbrev pub AllApart : {X : Type 0} → List X → Type 0
AllApart [] = Unit {0}
AllApart (x ∷ xs) = (Among x xs → ⊥) × AllApart xs
