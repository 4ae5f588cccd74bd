-- Who serves the operations of a component (Software Component Template: OperationInvokedEvent).
use Rattle.std.specs.Prelude.{ℕ, List, [], ◌∷◌, map, length, Bool, true, ◌==◌, nat_eq, Option, slice_get}
use Rattle.bus_semantics.specs.Common.{flat_map, option_or, option_map_or}
use Rattle.description_types.specs.declared.interface.InterfaceKind.{InterfaceKind}
use Rattle.description_types.specs.declared.interface.InterfaceKind.TheVariants.{ClientServer}
use Rattle.description_types.specs.declared.interface.TypeTable.{TypeTable}
use Rattle.description_types.specs.declared.component.Component.{Component}
use Rattle.description_types.specs.declared.component.Event.{Event}
use Rattle.description_types.specs.declared.component.EventKind.{EventKind}
use Rattle.description_types.specs.declared.component.EventKind.TheVariants.{OperationInvoked}
use Rattle.description_types.specs.declared.component.Port.{Port}
use Rattle.description_types.specs.declared.component.PortKind.{PortKind}
use Rattle.description_types.specs.declared.component.PortKind.TheVariants.{Provided, Required}
use Rattle.plan_definitions.specs.declared.spot.Spot.{Spot}
use Rattle.plan_definitions.specs.declared.spot.Spot.TheVariants as spot
use Rattle.plan_definitions.specs.Firsts.{first_of, unless, each_number}
use Rattle.plan_definitions.specs.Counts.{count, same_operation}

-- the operation, with its port, that an event is of
abbrev pub operation_of : EventKind → List (ℕ × ℕ)
operation_of (OperationInvoked k n) = (k, n) ∷ []
operation_of _ = []

abbrev pub invoked : List Event → List (ℕ × ℕ)
invoked events = flat_map (λ e. operation_of e.kind) events

-- how many operations an interface has
abbrev pub operation_count : InterfaceKind → ℕ
operation_count (ClientServer operations) = length operations
operation_count _ = 0

abbrev pub operations_at : TypeTable → Port → ℕ
operations_at types port = option_map_or (λ i. operation_count i.kind) (slice_get types.interfaces port.interface) 0

-- each operation of the port has exactly one OperationInvokedEvent, if it is a P-port
abbrev pub is_served : TypeTable → List Event → ℕ → Port → Bool
is_served types events k port = by_kind port.kind
  where
    by_kind : PortKind → Bool
    by_kind Provided = each_number (λ n. count (same_operation (k, n)) (invoked events) == 1) 0 (operations_at types port)
    by_kind Required = true

-- the runnables that events start, each as often as one does
abbrev pub started : List Event → List ℕ
started events = map (λ e. e.runnable) events

-- the runnable of an OperationInvokedEvent has no other event
abbrev pub is_alone : List Event → Event → Bool
is_alone events e = by_kind e.kind
  where
    by_kind : EventKind → Bool
    by_kind (OperationInvoked k n) = count (nat_eq e.runnable) (started events) == 1
    by_kind _ = true

-- Rule 22: each operation of a P-port has exactly one OperationInvokedEvent, and that event's runnable has no other event. The
-- first port of a component that breaks it, or else the first OperationInvokedEvent.
abbrev pub unserved : TypeTable → Component → Option Spot
unserved types c = first_of (λ k port. unless (is_served types c.behavior.events k port) (spot.Port k)) 0 c.ports

abbrev pub shared : Component → Option Spot
shared c = first_of (λ k e. unless (is_alone c.behavior.events e) (spot.Event k)) 0 c.behavior.events

abbrev pub wrongly_served : TypeTable → Component → Option Spot
wrongly_served types c = option_or (unserved types c) (shared c)
