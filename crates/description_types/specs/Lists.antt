-- What holds at places of a list.
use Rattle.std.specs.Prelude.{ℕ, ◌+◌, List, [], ◌∷◌, ◌++◌, Option, Some, None, Bool, if◌then◌else◌}

-- what a function gives of each item and its position, in order; the first item has position i
abbrev pub from : {X Y : Type 0} → ℕ → (ℕ → X → List Y) → List X → List Y
from i f [] = []
from i f (x ∷ xs) = f i x ++ from (i + 1) f xs

-- nothing if it holds, else the place
abbrev pub unless : {P : Type 0} → Bool → P → List P
unless holds place = if holds then [] else place ∷ []

-- the first of a list, if there is one
abbrev pub first : {X : Type 0} → List X → Option X
first [] = None
first (x ∷ xs) = Some x
