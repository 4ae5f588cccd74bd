-- How many things of a plan go by name.
use Rattle.std.specs.Prelude.{◌≡◌, ◌<◌, ◌^◌, length, true}
use Rattle.bus_semantics.specs.Common.{list_all, Plan}
use Rattle.script_reading.specs.Index.{has_few_modes}

-- 32 bits number the elements and the mode elements. Of these a sound plan may have any number
pub record HasFewNumbers (p : Plan) : Type 0 where
  pub elements : length p.elements < 2 ^ 32
  pub mode_ports : length p.mode_ports < 2 ^ 32

-- and the points, and the machines with their modes
pub record IsNumbered (p : Plan) : Type 0 where
  pub elements : length p.elements < 2 ^ 32
  pub points : length p.points < 2 ^ 32
  pub machines : length p.machines < 2 ^ 32
  pub mode_ports : length p.mode_ports < 2 ^ 32
  pub modes : list_all has_few_modes p.machines ≡ true
