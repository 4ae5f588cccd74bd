-- What of a plan belongs to an exclusive area: its number.
use Rattle.std.specs.Prelude.{◌≤◌, ◌<◌, ◌-◌, ℕ}
use Rattle.bus_semantics.specs.Common.{Plan, first_area, first_machine}

-- the object is one of the plan's areas
pub record IsArea (p : Plan) (object : ℕ) : Type 0 where
  pub from : first_area p ≤ object
  pub below : object < first_machine p

-- the area that the object is
abbrev pub area_of : Plan → (object : ℕ) → ℕ
area_of p object = object - first_area p
