-- Which events are mapped, and to which task (SWS_RTE: RteEventToTaskMapping).
use Rattle.std.specs.Prelude.{ℕ, List, map, filter, Bool, false, ◌&&◌, nat_eq, bytes_eq, Option, option_map, option_and_then}
use Rattle.description_types.specs.declared.component.Component.{Component}
use Rattle.description_types.specs.declared.component.EventKind.{EventKind}
use Rattle.description_types.specs.declared.component.EventKind.TheVariants.{OperationInvoked}
use Rattle.bus_semantics.specs.Common.{list_any, position_from, option_map_or}
use Rattle.description_types.specs.declared.description.Description.{Description}
use Rattle.description_types.specs.declared.description.MappedEvent.{MappedEvent}
use Rattle.description_types.specs.declared.flat.Flat.{Flat}
use Rattle.plan_definitions.specs.Keys.{same_pair}
use Rattle.plan_definitions.specs.Parts.{component_of}

-- the instance of this path, and its event of this name
abbrev pub instance_named : Flat → List ℕ → Option ℕ
instance_named f path = position_from (λ x. bytes_eq path x.path) 0 f.instances

abbrev pub event_names : Component → List (List ℕ)
event_names c = map (λ e. e.short_name) c.behavior.events

abbrev pub event_named : Description → Flat → List ℕ → ℕ → Option (ℕ × ℕ)
event_named d f name i = option_map (λ m. (i, m)) (option_and_then (λ c. position_from (λ e. bytes_eq name e.short_name) 0 c.behavior.events) (component_of d f i))

-- what a mapped event names: an instance and the position of an event in its component
abbrev pub named_by : Description → Flat → MappedEvent → Option (ℕ × ℕ)
named_by d f x = option_and_then (event_named d f x.event) (instance_named f x.instance)

abbrev pub names : Description → Flat → ℕ × ℕ → MappedEvent → Bool
names d f e x = option_map_or (same_pair e) (named_by d f x) false

-- the mapped events that name an event
abbrev pub mapped_as : Description → Flat → ℕ × ℕ → List MappedEvent
mapped_as d f e = filter (names d f e) d.mapping.events

abbrev pub is_mapped : Description → Flat → ℕ × ℕ → Bool
is_mapped d f e = list_any (names d f e) d.mapping.events

-- the first event of an instance by which an operation is invoked
abbrev pub invokes : ℕ → ℕ → EventKind → Bool
invokes k n (OperationInvoked port operation) = nat_eq k port && nat_eq n operation
invokes k n _ = false

abbrev pub invocation_of : Description → Flat → ℕ → ℕ → ℕ → Option ℕ
invocation_of d f i k n = option_and_then (λ c. position_from (λ e. invokes k n e.kind) 0 c.behavior.events) (component_of d f i)
