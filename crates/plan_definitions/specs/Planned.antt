-- The plan of a description made flat (Software Component Template, flattened): each list by instance and in declared order, what
-- belongs to the environment last.
use Rattle.std.specs.Prelude.{ℕ, List, [], map, length, ◌+◌, slice_get}
use Rattle.bus_semantics.specs.Common.{option_map_or, Runnable, runnable_of}
use Rattle.description_types.specs.declared.description.Description.{Description}
use Rattle.description_types.specs.declared.flat.Flat.{Flat}
use Rattle.description_types.specs.declared.flat.Instance.{Instance}
use Rattle.plan_definitions.specs.Lists.{from}
use Rattle.bus_semantics.specs.declared.plan.AreaPlan.{AreaPlan}
use Rattle.bus_semantics.specs.declared.plan.BusPlan.{BusPlan}
use Rattle.bus_semantics.specs.declared.plan.CoherentList.{CoherentList}
use Rattle.bus_semantics.specs.declared.plan.EventPlan.{EventPlan}
use Rattle.bus_semantics.specs.declared.plan.MachinePlan.{MachinePlan}
use Rattle.bus_semantics.specs.declared.plan.ModePortPlan.{ModePortPlan}
use Rattle.bus_semantics.specs.declared.plan.PointPlan.{PointPlan}
use Rattle.bus_semantics.specs.declared.plan.ServerPlan.{ServerPlan}
use Rattle.plan_definitions.specs.Elements.{Elem, elem_seen, elements, leaders}
use Rattle.plan_definitions.specs.ElementGroups.{groups}
use Rattle.plan_definitions.specs.Listed.{bundles, homes, lists}
use Rattle.plan_definitions.specs.Modes.{machines, mode_ports}
use Rattle.plan_definitions.specs.Services.{points, servers}
use Rattle.plan_definitions.specs.Started.{events, runnables}

-- a plan as plain data: its values by their words, and its programs as trees
pub record Planned : Type 0 where
  pub names : List (List ℕ)
  pub elements : List Elem
  pub groups : List (List ℕ)
  pub points : List PointPlan
  pub servers : List ServerPlan
  pub areas : List AreaPlan
  pub machines : List MachinePlan
  pub mode_ports : List ModePortPlan
  pub events : List EventPlan
  pub runnables : List Runnable
  pub lists : List CoherentList
  pub homes : List ℕ
  pub bundles : List (List ℕ)
  pub objects : ℕ

abbrev pub seen : BusPlan → Planned
seen p = record {
  names = p.names;
  elements = map elem_seen p.elements;
  groups = p.groups;
  points = p.points;
  servers = p.servers;
  areas = p.areas;
  machines = p.machines;
  mode_ports = p.mode_ports;
  events = p.events;
  runnables = map runnable_of p.runnables;
  lists = p.lists;
  homes = p.homes;
  bundles = p.bundles;
  objects = p.objects;
}

-- ---- areas

abbrev pub area_of : ℕ → List ℕ → AreaPlan
area_of i name = record { instance = i; name = name }

abbrev pub named_areas : ℕ → List (List ℕ) → List AreaPlan
named_areas i names = map (area_of i) names

abbrev pub areas_at : Description → Instance → List (List ℕ)
areas_at d x = option_map_or (λ c. c.behavior.exclusive_areas) (slice_get d.components x.component) []

abbrev pub areas : Description → Flat → List AreaPlan
areas d f = from 0 (λ i x. named_areas i (areas_at d x)) f.instances

-- ---- the whole; the objects are the bundles, servers, areas, machines and the clock

abbrev pub object_count : ℕ → ℕ → ℕ → ℕ → ℕ
object_count bundles servers areas machines = bundles + (servers + (areas + (machines + 1)))

abbrev pub plan_of : Description → Flat → Planned
plan_of d f = record {
  names = map (λ x. x.path) f.instances;
  elements = elements d f;
  groups = groups (leaders d f);
  points = points d f;
  servers = servers d f;
  areas = areas d f;
  machines = machines d f;
  mode_ports = mode_ports d f;
  events = events d f;
  runnables = runnables d f;
  lists = lists d f;
  homes = homes d f;
  bundles = bundles d f;
  objects = object_count (length (bundles d f)) (length (servers d f)) (length (areas d f)) (length (machines d f));
}
