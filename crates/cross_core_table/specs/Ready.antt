-- A round as code keeps it.
use Rattle.std.specs.Prelude.{◌≡◌, ◌≤◌, ◌*◌, ℕ, [], true, Vec}
use Rattle.bus_semantics.specs.Common.{vec_capacity, Global, groups_fit}
use Rattle.atomic_table.specs.Seated.{TableId}
use Rattle.bus_semantics.specs.declared.entries.Stamped.{Stamped}
use Rattle.port_objects.specs.declared.object.Object.{Object}
use Rattle.port_objects.specs.Objects.{ArePlans}
use Rattle.cross_core_table.specs.declared.views.Opening.{Opening}
use Rattle.cross_core_table.specs.Logs.{plan_in}
use Rattle.cross_core_table.specs.Rules.{place_of}

-- the table has a word for each object and one for the stamps; the objects at the opening were those of the plan; and there is room for all that the close gives
pub record IsReady (t : TableId) (k : Opening) (cores : ℕ) (entries : Vec Stamped Global) (rooms : Vec (Vec Stamped Global) Global) (returned : Vec Object Global) : Type 0 where
  pub words : t.words ≡ place_of t.slots
  pub slots : t.slots ≡ (plan_in k).objects
  pub groups : groups_fit (plan_in k) ≡ true
  pub planned : ArePlans (plan_in k) k.objects.value.items
  pub some_core : 1 ≤ cores
  pub written : entries.items ≡ []
  pub for_entries : cores * k.room ≤ vec_capacity entries
  pub taken : rooms.items ≡ []
  pub for_parts : cores ≤ vec_capacity rooms
  pub given_back : returned.items ≡ []
  pub for_objects : t.slots ≤ vec_capacity returned
