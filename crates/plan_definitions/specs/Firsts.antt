-- The first of a list.
use Rattle.std.specs.Prelude.{ℕ, zero, suc, ◌+◌, List, [], ◌∷◌, Bool, true, ◌&&◌, Option, Some, None, if◌then◌else◌}
use Rattle.std.specs.Option.{option_or}

-- What the first member gives that gives something, each member taken with its position, the first of which is i.
abbrev pub first_of : {X Y : Type 0} → (ℕ → X → Option Y) → ℕ → List X → Option Y
first_of f i [] = None
first_of f i (x ∷ xs) = option_or (f i x) (first_of f (i + 1) xs)

-- nothing if it holds, else the place
abbrev pub unless : {P : Type 0} → Bool → P → Option P
unless holds place = if holds then None else Some place

-- whether each of n numbers, from i on, passes the test
abbrev pub each_number : (ℕ → Bool) → ℕ → ℕ → Bool
each_number test i zero = true
each_number test i (suc n) = test i && each_number test (i + 1) n
