-- Lists by positions.
use Rattle.std.specs.Prelude.{ℕ, zero, suc, ◌+◌, List, [], ◌∷◌, ◌++◌}

-- the positions below a number, from i on
abbrev pub positions : (i : ℕ) → (count : ℕ) → List ℕ
positions i zero = []
positions i (suc n) = i ∷ positions (i + 1) n

-- what a function gives of each item and its position, in order; the first item has position i
abbrev pub from : {X Y : Type 0} → ℕ → (ℕ → X → List Y) → List X → List Y
from i f [] = []
from i f (x ∷ xs) = f i x ++ from (i + 1) f xs
