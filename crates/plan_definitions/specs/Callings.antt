-- Calls: who calls which operation (Software Component Template: ServerCallPoint).
use Rattle.std.specs.Prelude.{ℕ, List, [], ◌∷◌, ◌++◌, map, length, Bool, true, false, ◌&&◌, nat_eq, Option, Some, None, option_map, slice_get, if◌then◌else◌}
use Rattle.bus_semantics.specs.Common.{flat_map, position_from, option_map_or, unwrap_or, AccessKind}
use Rattle.runnable_lang.specs.declared.program.AccessKind.TheVariants as kind
use Rattle.description_types.specs.declared.interface.InterfaceKind.{InterfaceKind}
use Rattle.description_types.specs.declared.interface.InterfaceKind.TheVariants.{ClientServer}
use Rattle.description_types.specs.declared.component.Access.{Access}
use Rattle.description_types.specs.declared.component.Component.{Component}
use Rattle.description_types.specs.declared.component.Port.{Port}
use Rattle.description_types.specs.declared.component.PortKind.{PortKind}
use Rattle.description_types.specs.declared.component.PortKind.TheVariants.{Provided, Required}
use Rattle.description_types.specs.declared.component.Runnable.{Runnable}
use Rattle.description_types.specs.declared.description.Description.{Description}
use Rattle.description_types.specs.declared.flat.Flat.{Flat}
use Rattle.plan_definitions.specs.declared.calling.Calling.{Calling}
use Rattle.plan_definitions.specs.Lists.{from, positions}
use Rattle.plan_definitions.specs.Parts.{of_instances}
use Rattle.plan_definitions.specs.Sites.{root_ports}

-- a call that is an access of a runnable of an instance, none for other accesses
abbrev pub calling_of : ℕ → ℕ → Access → List Calling
calling_of i m a = by_kind a.kind
  where
    by_kind : AccessKind → List Calling
    by_kind kind.Call = record { caller = Some (i, m); port = a.port; item = a.item; asynchronous = false } ∷ []
    by_kind kind.ACall = record { caller = Some (i, m); port = a.port; item = a.item; asynchronous = true } ∷ []
    by_kind _ = []

abbrev pub callings_in : ℕ → ℕ → Runnable → List Calling
callings_in i m r = flat_map (calling_of i m) r.accesses

abbrev pub callings_of_component : ℕ → Component → List Calling
callings_of_component i c = from 0 (callings_in i) c.behavior.runnables

-- the environment may call each operation that the root provides
abbrev pub operation_count : InterfaceKind → ℕ
operation_count (ClientServer operations) = length operations
operation_count _ = 0

abbrev pub operations_at : Description → Port → ℕ
operations_at d port = option_map_or (λ i. operation_count i.kind) (slice_get d.types.interfaces port.interface) 0

abbrev pub outer_calling : ℕ → ℕ → Calling
outer_calling k n = record { caller = None; port = k; item = n; asynchronous = true }

abbrev pub outer_callings : Description → ℕ → Port → List Calling
outer_callings d k port = by_kind port.kind
  where
    by_kind : PortKind → List Calling
    by_kind Required = []
    by_kind Provided = map (outer_calling k) (positions 0 (operations_at d port))

-- the points of the plan, by runnable and access, the environment's last
abbrev pub callings : Description → Flat → List Calling
callings d f = of_instances callings_of_component d f ++ from 0 (outer_callings d) (root_ports d)

abbrev pub owner_of : Calling → Option ℕ
owner_of c = option_map (λ x. x.0) c.caller

-- the number of the point of a runnable, and of the one of an instance whose result is taken
abbrev pub is_calling : ℕ × ℕ → ℕ → ℕ → Calling → Bool
is_calling r k n c = option_map_or (λ x. nat_eq x.0 r.0 && nat_eq x.1 r.1) c.caller false && (nat_eq c.port k && nat_eq c.item n)

abbrev pub leaves : ℕ → ℕ → ℕ → Calling → Bool
leaves i k n c = (option_map_or (λ x. nat_eq x.0 i) c.caller false && c.asynchronous) && (nat_eq c.port k && nat_eq c.item n)

abbrev pub first_calling : (Calling → Bool) → List Calling → ℕ
first_calling test list = unwrap_or (position_from test 0 list) 0

abbrev pub point_number : Description → Flat → (Calling → Bool) → ℕ
point_number d f test = first_calling test (callings d f)

-- the keys by which they are found: a caller, and an instance that goes on without waiting
abbrev pub call_key : Calling → Option (ℕ × ℕ) × ℕ × ℕ
call_key c = (c.caller, c.port, c.item)

abbrev pub left_key : Calling → Option ℕ × ℕ × ℕ
left_key c = (if c.asynchronous then option_map (λ x. x.0) c.caller else None, c.port, c.item)
