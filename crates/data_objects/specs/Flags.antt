-- The flags of receivers and of events.
use Rattle.std.specs.Prelude.{◌≡◌, ℕ, List, map, Bool, false, Some, slice_get}
use Rattle.std.specs.List.{All}
use Rattle.latches.specs.Latches.{Latch}

-- for each flag whether it is set
abbrev pub are_set : List Latch → List Bool
are_set flags = map (λ (l : Latch). l.is_set) flags

-- all flags are of the one group that there is
abbrev pub AreOneGroup : List Latch → Type 0
AreOneGroup flags = All (λ (l : Latch). l.group ≡ 0) flags

-- a clear flag has this name, at its place in the list of names
pub record IsOfClear (flags : List Bool) (names : List ℕ) (name : ℕ) : Type 0 where
  pub at : ℕ
  pub clear : slice_get flags at ≡ Some false
  pub named : slice_get names at ≡ Some name
