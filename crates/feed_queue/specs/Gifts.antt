-- Lists of wishes by feed.
use Rattle.std.specs.Prelude.{ℕ, List, [], slice_get, Vec}
use Rattle.bus_semantics.specs.Common.{Global, option_map_or}
use Rattle.bus_semantics.specs.declared.entries.Wish.{Wish}

-- the wishes of a feed
abbrev pub wishes_at : List (Vec Wish Global) → (feed : ℕ) → List Wish
wishes_at lists f = option_map_or (λ v. v.items) (slice_get lists f) []
