-- The events that wait for each object, while they are gathered.
use Rattle.std.specs.Prelude.{ℕ, List, [], Vec, slice_get}
use Rattle.bus_semantics.specs.Common.{Global, option_map_or}

-- the list of a group
abbrev pub listed_at : List (Vec ℕ Global) → (group : ℕ) → List ℕ
listed_at lists g = option_map_or (λ v. v.items) (slice_get lists g) []
