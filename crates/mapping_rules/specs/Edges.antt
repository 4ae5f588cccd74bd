-- Edges between tasks, and circles of them.
use Rattle.std.specs.Prelude.{◌≡◌, ◌<◌, ℕ, zero, suc, List, Bool, true, false, nat_eq}
use Rattle.std.specs.List.{list_any}
use Rattle.description_types.specs.Members.{Among}

abbrev pub has_edge_to : ℕ → List (ℕ × ℕ) → Bool
has_edge_to b edges = list_any (λ e. nat_eq b e.1) edges

-- each edge goes from a lower rank to a higher one
abbrev pub HaveRanks : List (ℕ × ℕ) → Type 0
HaveRanks edges = (rank : ℕ → ℕ) × ((e : ℕ × ℕ) → Among e edges → rank e.0 < rank e.1)

-- a way along n edges
abbrev pub Way : List (ℕ × ℕ) → ℕ → ℕ → ℕ → Type 0
Way edges zero a c = a ≡ c
Way edges (suc n) a c = (b : ℕ) × Among (a, b) edges × Way edges n b c

abbrev pub HaveCircle : List (ℕ × ℕ) → Type 0
HaveCircle edges = (t : ℕ) × (n : ℕ) × Way edges (suc n) t t

abbrev pub IsDecided : Bool → List (ℕ × ℕ) → Type 0
IsDecided true edges = HaveRanks edges
IsDecided false edges = HaveCircle edges
