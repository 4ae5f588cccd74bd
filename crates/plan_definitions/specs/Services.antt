-- Servers and points (Software Component Template: OperationInvokedEvent, ServerCallPoint).
use Rattle.std.specs.Prelude.{ℕ, List, [], map, Bool, true, false, Option, Some, None, option_map, option_and_then, slice_get, if◌then◌else◌}
use Rattle.bus_semantics.specs.Common.{option_map_or, unwrap_or, Limits}
use Rattle.description_types.specs.declared.interface.Argument.{Argument}
use Rattle.description_types.specs.declared.interface.Direction.{Direction}
use Rattle.description_types.specs.declared.interface.Direction.TheVariants.{In, Out}
use Rattle.description_types.specs.declared.interface.InterfaceKind.{InterfaceKind}
use Rattle.description_types.specs.declared.interface.InterfaceKind.TheVariants.{ClientServer}
use Rattle.description_types.specs.declared.interface.Operation.{Operation}
use Rattle.description_types.specs.declared.description.Description.{Description}
use Rattle.description_types.specs.declared.flat.Flat.{Flat}
use Rattle.plan_definitions.specs.declared.site.Site.{Site}
use Rattle.bus_semantics.specs.declared.plan.ArgPlan.{ArgPlan}
use Rattle.bus_semantics.specs.declared.plan.PointPlan.{PointPlan}
use Rattle.bus_semantics.specs.declared.plan.ServerPlan.{ServerPlan}
use Rattle.plan_definitions.specs.Signatures.{arguments_of, limits_of}
use Rattle.plan_definitions.specs.declared.calling.Calling.{Calling}
use Rattle.plan_definitions.specs.Callings.{callings, owner_of}
use Rattle.plan_definitions.specs.Parts.{component_of, events_of, runnables_of}
use Rattle.plan_definitions.specs.Joined.{end_at, provider_of}
use Rattle.plan_definitions.specs.Keys.{end_key, pair_number}
use Rattle.plan_definitions.specs.Mapped.{invocation_of, is_mapped}
use Rattle.plan_definitions.specs.Ports.{interface_of, item_text, queue_length_of}
use Rattle.plan_definitions.specs.Things.{server_number, servers_of}

abbrev pub operation_in : InterfaceKind → ℕ → Option Operation
operation_in (ClientServer operations) n = slice_get operations n
operation_in _ n = None

abbrev pub operation_at : Description → Flat → Option ℕ → ℕ → ℕ → Option Operation
operation_at d f owner k item = option_and_then (λ kind. operation_in kind item) (interface_of d f owner k)

-- the runnable that an event of an instance starts
abbrev pub started_by : Description → Flat → ℕ → ℕ → ℕ
started_by d f i m = option_map_or (λ e. e.runnable) (option_and_then (λ c. slice_get c.behavior.events m) (component_of d f i)) 0

abbrev pub is_out : Direction → Bool
is_out In = false
is_out Out = true

abbrev pub argument_of : Description → Argument → ArgPlan
argument_of d a = record { out = is_out a.direction; limits = limits_of d.types.data_types a.of_type }

-- whether the event of a number is mapped
abbrev pub is_numbered_mapped : Description → Flat → ℕ → Bool
is_numbered_mapped d f n = option_map_or (is_mapped d f) (slice_get (events_of d f) n) false

-- how many requests may wait at an operation, its event being that of a number: none if it is not mapped, and the server direct
abbrev pub queue_of : Description → Flat → ℕ → ℕ → ℕ → ℕ → Option ℕ
queue_of d f i k n event = if is_numbered_mapped d f event then Some (queue_length_of d f (Some i) k n) else None

-- a server, by its instance, port, operation and the position of its event
abbrev pub server_at : Description → Flat → ℕ → ℕ → ℕ → ℕ → ServerPlan
server_at d f i k n m = record {
  instance = i;
  name = item_text d f (Some i) k n;
  runnable = pair_number (runnables_of d f) (i, started_by d f i m);
  event = pair_number (events_of d f) (i, m);
  queue = queue_of d f i k n (pair_number (events_of d f) (i, m));
  arguments = option_map_or (λ o. map (argument_of d) o.arguments) (operation_at d f (Some i) k n) [];
  errors = option_map_or (λ o. map (λ e. e.code) o.errors) (operation_at d f (Some i) k n) [];
}

abbrev pub server_of : Description → Flat → Site → ServerPlan
server_of d f s = let i = unwrap_or s.owner 0 in let k = unwrap_or s.port 0 in
    server_at d f i k s.item (unwrap_or (invocation_of d f i k s.item) 0)

abbrev pub servers : Description → Flat → List ServerPlan
servers d f = map (server_of d f) (servers_of d f)

-- points: who calls which operation, and the server that it is joined to
abbrev pub point_words : Description → Flat → Direction → Calling → List Limits
point_words d f way c = option_map_or (λ o. arguments_of d.types.data_types way o.arguments) (operation_at d f (owner_of c) c.port c.item) []

abbrev pub point_of : Description → Flat → Calling → PointPlan
point_of d f c = record {
  runnable = option_map (pair_number (runnables_of d f)) c.caller;
  name = item_text d f (owner_of c) c.port c.item;
  server = option_map (λ e. server_number d f (end_key e)) (provider_of f.joins (end_at (owner_of c) c.port c.item));
  asynchronous = c.asynchronous;
  ins = point_words d f In c;
  outs = point_words d f Out c;
}

abbrev pub points : Description → Flat → List PointPlan
points d f = map (point_of d f) (callings d f)
