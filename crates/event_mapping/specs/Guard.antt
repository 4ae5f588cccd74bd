-- How much a plan would list, counted before anything is listed.
use Rattle.std.specs.Prelude.{ℕ, ◌+◌, ◌-◌, List, length, sum_by, Bool, true, false, slice_get, Option, Some, None, if◌then◌else◌}
use Rattle.bus_semantics.specs.Common.{option_map_or, AccessKind}
use Rattle.runnable_lang.specs.declared.program.AccessKind.TheVariants as kind
use Rattle.plan_definitions.specs.Common.{TypeTable, Access, Component, Port, PortKind, Provided, Required, Runnable, Description, Flat, Instance, operations_at, root_ports, shape_at}
use Rattle.plan_definitions.specs.declared.site.SiteKind.{SiteKind}
use Rattle.plan_definitions.specs.declared.site.SiteKind.TheVariants.{ModePort}

-- data elements, variables, servers and mode machines; a required mode element has its machine elsewhere
abbrev pub is_counted : SiteKind → Bool
is_counted ModePort = false
is_counted _ = true

-- how many of them stand at a port, and at some ports
abbrev pub counted_with : SiteKind × ℕ → ℕ
counted_with x = if is_counted x.0 then x.1 else 0

abbrev pub items_at : TypeTable → Option ℕ → Port → ℕ
items_at types owner port = option_map_or counted_with (shape_at types owner port) 0

abbrev pub items_of_ports : TypeTable → Option ℕ → List Port → ℕ
items_of_ports types owner ports = sum_by (items_at types owner) ports

-- those of an instance, with its variables and its exclusive areas: as many for each instance of a component
abbrev pub items_in : TypeTable → Component → ℕ
items_in types c = items_of_ports types (Some 0) c.ports + (length c.behavior.variables + length c.behavior.exclusive_areas)

abbrev pub items_of_instance : Description → Instance → ℕ
items_of_instance d x = option_map_or (items_in d.types) (slice_get d.components x.component) 0

abbrev pub events_of_instance : Description → Instance → ℕ
events_of_instance d x = option_map_or (λ c. length c.behavior.events) (slice_get d.components x.component) 0

-- those of all instances and of the environment
abbrev pub item_count : Description → Flat → ℕ
item_count d f = sum_by (items_of_instance d) f.instances + items_of_ports d.types None (root_ports d)

abbrev pub event_count : Description → Flat → ℕ
event_count d f = sum_by (events_of_instance d) f.instances

-- points: one for each call of a runnable, and one for each operation that the root provides
abbrev pub points_at : Access → ℕ
points_at a = by_kind a.kind
  where
    by_kind : AccessKind → ℕ
    by_kind kind.Call = 1
    by_kind kind.ACall = 1
    by_kind _ = 0

abbrev pub points_of_runnable : Runnable → ℕ
points_of_runnable r = sum_by points_at r.accesses

-- those of an instance: as many for each instance of a component
abbrev pub points_in : Component → ℕ
points_in c = sum_by points_of_runnable c.behavior.runnables

abbrev pub points_of_instance : Description → Instance → ℕ
points_of_instance d x = option_map_or points_in (slice_get d.components x.component) 0

abbrev pub outer_points : Description → Port → ℕ
outer_points d port = by_kind port.kind
  where
    by_kind : PortKind → ℕ
    by_kind Required = 0
    by_kind Provided = operations_at d port

abbrev pub point_count : Description → Flat → ℕ
point_count d f = sum_by (points_of_instance d) f.instances + sum_by (outer_points d) (root_ports d)

-- as many, but no more than so many
abbrev pub at_most : {X : Type 0} → ℕ → (X → ℕ) → X → ℕ
at_most most count x = most - (most - count x)
