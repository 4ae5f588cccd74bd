use Rattle.std.proofs.Common.{◌≡◌, ℕ, ◌<◌, true, slice_index}
use Rattle.std.specs.List.{list_all}
use Rattle.description_types.specs.Paths.{prototypes_of}
use Rattle.composition_tables.specs.Ranks.{ranks_within}
use Rattle.composition_tables.proofs.ranks.is_ranking.Given as goal

abbrev pub invariant-loop-composition : goal.invariant-loop-composition
invariant-loop-composition l = (c : ℕ) → c < l.composition → list_all (ranks_within l.d l.ranks (slice_index l.ranks c)) (prototypes_of l.d c) ≡ true
