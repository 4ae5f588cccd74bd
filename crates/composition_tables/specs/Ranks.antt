-- Ranks of compositions.
use Rattle.std.specs.Prelude.{◌≡◌, ◌<◌, length, ℕ, List, Bool, true, nat_lt, nat_le, slice_index}
use Rattle.std.specs.Option.{option_map_or}
use Rattle.std.specs.List.{list_all}
use Rattle.description_types.specs.declared.description.Description.{Description}
use Rattle.description_types.specs.declared.description.Prototype.{Prototype}
use Rattle.description_types.specs.Paths.{prototypes_of, declared_composition}

-- the composition of the prototype, if it is one, ranks at most so high, or lower
abbrev pub ranks_within : Description → List ℕ → ℕ → Prototype → Bool
ranks_within d ranks highest p = option_map_or (λ e. nat_le (slice_index ranks e) highest) (declared_composition d p) true

abbrev pub ranks_below : Description → List ℕ → ℕ → Prototype → Bool
ranks_below d ranks limit p = option_map_or (λ e. nat_lt (slice_index ranks e) limit) (declared_composition d p) true

-- no composition holds one that ranks above it
abbrev pub IsRanking : Description → List ℕ → Type 0
IsRanking d ranks = (c : ℕ) → c < length d.compositions → list_all (ranks_within d ranks (slice_index ranks c)) (prototypes_of d c) ≡ true
