-- Counts of instances, as far as they matter.
use Rattle.std.specs.Prelude.{◌≡◌, ℕ, List, Vec, length, min, slice_index, slice_get, Some}
use Rattle.std.specs.Global.{Global}
use Rattle.std.specs.Option.{option_map_or}
use Rattle.description_types.specs.declared.description.Composition.{Composition}
use Rattle.description_types.specs.declared.description.Description.{Description}
use Rattle.description_types.specs.Places.{size, size_of}
use Rattle.description_types.specs.Members.{sum_of}

-- the counts of the instances at most n deep below each composition, up to 1,025
abbrev pub AreCounts : Description → ℕ → List ℕ → Type 0
AreCounts d n counts = (c : ℕ) → slice_index counts c ≡ min (size d n c) 1025

-- the counts for each depth up to 8
abbrev pub IsCounted : Description → List (Vec ℕ Global) → Type 0
IsCounted d levels = (length levels ≡ 9) × ((n : ℕ) (counts : Vec ℕ Global) → slice_get levels n ≡ Some counts → AreCounts d n counts.items)

-- the count of a composition, up to 1,025, by the counts of those that it holds
abbrev pub count_for : List ℕ → Composition → ℕ
count_for counts x = min (sum_of (λ p. size_of (slice_index counts) p.of_type) x.prototypes) 1025

-- the count of the composition c in these levels, at a depth
abbrev pub count_in : List (Vec ℕ Global) → ℕ → ℕ → ℕ
count_in levels depth c = option_map_or (λ counts. slice_index counts.items c) (slice_get levels depth) 0
