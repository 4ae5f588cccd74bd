-- The lists of clear flags.
use Rattle.std.specs.Prelude.{◌≡◌, ℕ, ◌<◌, ◌≤◌, ◌==◌, ◌&&◌, Bool, false, not, List, [], length, count_by, slice_get, Some, Vec}
use Rattle.std.specs.Global.{Global}
use Rattle.std.specs.List.{Contains}
use Rattle.std.specs.Vec.{vec_capacity}
use Rattle.latches.specs.Latches.{Latch}

-- whether a flag is of a group, and whether it is and is clear
abbrev pub is_of : (group : ℕ) → Latch → Bool
is_of g l = l.group == g

abbrev pub is_clear_of : (group : ℕ) → Latch → Bool
is_clear_of g l = (l.group == g) && not l.is_set

-- at the place stands a flag of the group
pub record IsOf (group : ℕ) (latches : List Latch) (at : ℕ) : Type 0 where
  pub latch : Latch
  pub is : slice_get latches at ≡ Some latch
  pub group_is : latch.group ≡ group

-- places of flags of a group, all that are clear among them
pub record IsListed (group : ℕ) (latches : List Latch) (places : List ℕ) : Type 0 where
  pub inside : (at : ℕ) → Contains places at → IsOf group latches at
  pub listed : (at : ℕ) (l : Latch) → slice_get latches at ≡ Some l → l.group ≡ group → l.is_set ≡ false → Contains places at

-- the list of a group: no more places than clear flags, with room for all flags of the group
pub record IsNoted (group : ℕ) (latches : List Latch) (places : Vec ℕ Global) : Type 0 where
  pub listed : IsListed group latches places.items
  pub few : length places.items ≤ count_by (is_clear_of group) latches
  pub room : count_by (is_of group) latches ≤ vec_capacity places

-- each flag is of a group that has a list, and each list is that of its group
pub record AreNoted (latches : List Latch) (cleared : List (Vec ℕ Global)) : Type 0 where
  pub grouped : (at : ℕ) (l : Latch) → slice_get latches at ≡ Some l → l.group < length cleared
  pub noted : (group : ℕ) (places : Vec ℕ Global) → slice_get cleared group ≡ Some places → IsNoted group latches places

-- an empty list with room for the flags of its group
pub record IsReserved (group : ℕ) (groups : List ℕ) (places : Vec ℕ Global) : Type 0 where
  pub empty : places.items ≡ []
  pub room : count_by (λ g. g == group) groups ≤ vec_capacity places

abbrev pub AreReserved : (groups : List ℕ) → (lists : List (Vec ℕ Global)) → Type 0
AreReserved groups lists = (group : ℕ) (places : Vec ℕ Global) → slice_get lists group ≡ Some places → IsReserved group groups places
