-- Flags in groups, and what each call makes of them.
use Rattle.std.specs.Prelude.{◌≡◌, ℕ, ◌==◌, ◌||◌, Bool, true, false, not, List, Some, slice_get}

-- a flag of a group
pub record Latch : Type 0 where
  pub group : ℕ
  pub is_set : Bool

-- a flag of a group that is clear, and one that is set
abbrev pub clear_in : (group : ℕ) → Latch
clear_in g = record { group = g; is_set = false }

abbrev pub set_in : (group : ℕ) → Latch
set_in g = record { group = g; is_set = true }

abbrev pub is_clear : Latch → Bool
is_clear l = not l.is_set

-- a flag after all flags of a group were set
abbrev pub after_set : (group : ℕ) → Latch → Latch
after_set g l = record { group = l.group; is_set = (l.group == g) || l.is_set }

-- a clear flag of the group has this name, at its place in the list of names
pub record IsNamedIn (group : ℕ) (latches : List Latch) (names : List ℕ) (name : ℕ) : Type 0 where
  pub at : ℕ
  pub latch : Latch
  pub is : slice_get latches at ≡ Some latch
  pub group_is : latch.group ≡ group
  pub clear : latch.is_set ≡ false
  pub named : slice_get names at ≡ Some name

-- a flag with this name, at its place in the list of names, was clear before and is set now
pub record IsNewlySet (before now : List Latch) (names : List ℕ) (name : ℕ) : Type 0 where
  pub at : ℕ
  pub group : ℕ
  pub was : slice_get before at ≡ Some (clear_in group)
  pub is : slice_get now at ≡ Some (set_in group)
  pub named : slice_get names at ≡ Some name
