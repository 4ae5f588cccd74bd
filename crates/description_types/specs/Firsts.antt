-- The first of some numbers.
use Rattle.std.specs.Prelude.{ℕ, ◌<◌, Option, Some, None}

-- the answer is the first number below the limit of which P holds, if there is one
abbrev pub IsFirst : (ℕ → Type 0) → ℕ → Option ℕ → Type 0
IsFirst P limit None = (n : ℕ) → n < limit → ¬ P n
IsFirst P limit (Some k) = (k < limit) × P k × ((n : ℕ) → n < k → ¬ P n)
