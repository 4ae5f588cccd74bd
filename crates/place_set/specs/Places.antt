-- The first place of a set.
use Rattle.std.specs.Prelude.{◌≡◌, ℕ, ◌<◌, ◌≤◌, List, Bool, true, false, slice_index_or, Option, Some, None}

-- no place from one up to another is in the set
abbrev pub NoneBetween : (flags : List Bool) → (from : ℕ) → (to : ℕ) → Type 0
NoneBetween flags from to = (place : ℕ) → from ≤ place → place < to → slice_index_or flags place false ≡ false

-- the place is the first of them
pub record IsFirst (flags : List Bool) (from to at : ℕ) : Type 0 where
  pub behind : from ≤ at
  pub within : at < to
  pub chosen : slice_index_or flags at false ≡ true
  pub none : NoneBetween flags from at

-- the first place of the set from one up to another, if there is one
abbrev pub IsNext : (flags : List Bool) → (from : ℕ) → (to : ℕ) → Option ℕ → Type 0
IsNext flags from to None = NoneBetween flags from to
IsNext flags from to (Some at) = IsFirst flags from to at
