-- Numbers that spread over pairs of positions.
use Rattle.std.specs.Prelude.{ℕ, List, [], ◌∷◌, ◌++◌, map, min, nat_eq, slice_index_or, if◌then◌else◌}
use Rattle.std.specs.List.{flat_map}
use Rattle.plan_definitions.specs.ElementGroups.{least}

-- the number at a position, and 0 past the last
abbrev pub number_at : List ℕ → ℕ → ℕ
number_at list n = slice_index_or list n 0

-- what stands at n once that at a position was lowered
abbrev pub lowered_at : ℕ → ℕ → ℕ → ℕ → ℕ
lowered_at position number n kept = if nat_eq position n then min number kept else kept

-- the other positions of the pairs of n
abbrev pub across_pair : ℕ → ℕ × ℕ → List ℕ
across_pair n x = (if nat_eq x.1 n then x.0 ∷ [] else []) ++ (if nat_eq x.0 n then x.1 ∷ [] else [])

abbrev pub spread_numbers : List (ℕ × ℕ) → (ℕ → ℕ) → ℕ → ℕ
spread_numbers pairs number n = least (number n) (map number (flat_map (across_pair n) pairs))
