-- What the counts tell before anything is listed.
use Rattle.std.specs.Prelude.{◌≡◌, ◌≤◌, ◌+◌, ℕ, length, Bool, true, false}
use Rattle.plan_definitions.specs.Common.{Description, Flat, Planned, plan_of, is_too_large}

-- the elements, servers, areas and mode machines of a plan
abbrev pub listed : Planned → ℕ
listed p = length p.elements + (length p.servers + (length p.areas + length p.machines))

-- the lists are short: besides what the two ends of each join may name, as many elements, servers, areas and mode machines as there may
-- be objects, and as many events and points as there may be
pub record AreShort (d : Description) (f : Flat) : Type 0 where
  pub objects : listed (plan_of d f) ≤ 16384 + (length f.joins + length f.joins)
  pub events : length (plan_of d f).events ≤ 16384
  pub points : length (plan_of d f).points ≤ 262144

-- either the plan is too large, or its lists are short
abbrev pub IsForetold : Bool → Description → Flat → Type 0
IsForetold true d f = is_too_large (plan_of d f) ≡ true
IsForetold false d f = AreShort d f
