-- Lists of numbers.
use Rattle.std.specs.Prelude.{ℕ, ◌+◌, List, [], ◌∷◌, ◌++◌, nat_eq, slice_index_or, slice_set, if◌then◌else◌}

-- one more number in the list at a position
abbrev pub put_in : ℕ → ℕ → List (List ℕ) → List (List ℕ)
put_in g n lists = slice_set lists g (slice_index_or lists g [] ++ n ∷ [])

-- the number of its group of each that leads one, and 0 of others; the first stands at n, and k groups are before
abbrev pub ranks : ℕ → ℕ → List ℕ → List ℕ
ranks n k [] = []
ranks n k (l ∷ ls) = if nat_eq l n then k ∷ ranks (n + 1) (k + 1) ls else 0 ∷ ranks (n + 1) k ls
