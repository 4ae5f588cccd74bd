-- Events and runnables of instances (Software Component Template: RTEEvent, RunnableEntity).
use Rattle.std.specs.Prelude.{ℕ, List, [], ◌∷◌, map, get_or, nat_eq, Option, Some, None, option_map, if◌then◌else◌}
use Rattle.bus_semantics.specs.Common.{arc_value, option_map_or, AccessKind, program_tree, Runnable}
use Rattle.runnable_lang.specs.declared.program.AccessKind.TheVariants as kind
use Rattle.description_types.specs.declared.component.Access.{Access}
use Rattle.description_types.specs.declared.component.Component.{Component}
use Rattle.description_types.specs.declared.component.DisabledInModes.{DisabledInModes}
use Rattle.description_types.specs.declared.component.Event.{Event}
use Rattle.description_types.specs.declared.component.EventKind as declared_kind
use Rattle.description_types.specs.declared.component.EventKind.TheVariants as declared_event
use Rattle.description_types.specs.declared.component.ModeActivation.{ModeActivation}
use Rattle.description_types.specs.declared.component.ModeActivation.TheVariants as activation
use Rattle.description_types.specs.declared.component.Runnable as declared_runnable
use Rattle.description_types.specs.declared.description.Description.{Description}
use Rattle.description_types.specs.declared.flat.Flat.{Flat}
use Rattle.bus_semantics.specs.declared.plan.Disabling.{Disabling}
use Rattle.bus_semantics.specs.declared.plan.EventKind.{EventKind}
use Rattle.bus_semantics.specs.declared.plan.EventKind.TheVariants.{Timing, Init, DataReceived, Invoked, Returns, ModeSwitch, Ack}
use Rattle.bus_semantics.specs.declared.plan.EventPlan.{EventPlan}
use Rattle.bus_semantics.specs.declared.plan.Moment.{Moment}
use Rattle.bus_semantics.specs.declared.plan.Moment.TheVariants as moment
use Rattle.plan_definitions.specs.Signatures.{signature}
use Rattle.plan_definitions.specs.Listed.{list_numbers}
use Rattle.plan_definitions.specs.Lists.{from}
use Rattle.plan_definitions.specs.Parts.{areas_of, of_instances, runnables_of}
use Rattle.plan_definitions.specs.Keys.{pair_number}
use Rattle.plan_definitions.specs.Things.{element_number, machine_for, machine_number, mode_port_number, server_number}
use Rattle.plan_definitions.specs.Callings.{is_calling, leaves, point_number}
use Rattle.plan_definitions.specs.Invoked.{invoked_by}

-- ---- events

abbrev pub moment_of : ModeActivation → Moment
moment_of (activation.OnEntry mode) = moment.OnEntry mode
moment_of (activation.OnExit mode) = moment.OnExit mode
moment_of (activation.OnTransition before after) = moment.OnTransition before after

abbrev pub kind_of : Description → Flat → ℕ → declared_kind.EventKind → EventKind
kind_of d f i (declared_event.Timing period) = Timing period
kind_of d f i declared_event.Init = Init
kind_of d f i (declared_event.DataReceived k n) = DataReceived (element_number d f i (Some k) n)
kind_of d f i (declared_event.OperationInvoked k n) = Invoked (server_number d f (Some i, Some k, n))
kind_of d f i (declared_event.CallReturns k n) = Returns (point_number d f (leaves i k n))
kind_of d f i (declared_event.ModeSwitch k when) = ModeSwitch (machine_for d f (Some i) k) (moment_of when)
kind_of d f i (declared_event.ModeSwitchedAck k) = Ack (machine_number d f (Some i, Some k, 0))

abbrev pub disabling_of : Description → Flat → ℕ → DisabledInModes → Disabling
disabling_of d f i disabled = record { machine = machine_for d f (Some i) disabled.port; modes = disabled.modes }

abbrev pub event_of : Description → Flat → ℕ → Event → EventPlan
event_of d f i e = record {
  runnable = pair_number (runnables_of d f) (i, e.runnable);
  name = e.short_name;
  kind = kind_of d f i e.kind;
  disabled = option_map (disabling_of d f i) e.disabled_in_modes;
}

abbrev pub events_of_component : Description → Flat → ℕ → Component → List EventPlan
events_of_component d f i c = map (event_of d f i) c.behavior.events

abbrev pub events : Description → Flat → List EventPlan
events d f = of_instances (events_of_component d f) d f

-- ---- runnables

-- what an access of a runnable names: an element, a point, a machine, a mode port or an area
abbrev pub target_of : Description → Flat → ℕ → ℕ → Access → ℕ
target_of d f i m a = by_kind a.kind
  where
    by_kind : AccessKind → ℕ
    by_kind kind.IrvWrite = element_number d f i None a.item
    by_kind kind.IrvRead = element_number d f i None a.item
    by_kind kind.IrvIWrite = element_number d f i None a.item
    by_kind kind.IrvIRead = element_number d f i None a.item
    by_kind kind.Call = point_number d f (is_calling (i, m) a.port a.item)
    by_kind kind.ACall = point_number d f (is_calling (i, m) a.port a.item)
    by_kind kind.TakeResult = point_number d f (leaves i a.port a.item)
    by_kind kind.Switch = machine_number d f (Some i, Some a.port, 0)
    by_kind kind.Mode = mode_port_number d f i a.port
    by_kind kind.Enter = pair_number (areas_of d f) (i, a.item)
    by_kind _ = element_number d f i (Some a.port) a.item

-- the operation that a runnable serves: that of the first OperationInvokedEvent that starts it
abbrev pub serves : ℕ → Event → Option (ℕ × ℕ)
serves m e = if nat_eq e.runnable m then invoked_by e.kind else None

abbrev pub served_by : List Event → ℕ → Option (ℕ × ℕ)
served_by [] m = None
served_by (e ∷ es) m = option_map_or (λ x. Some x) (serves m e) (served_by es m)

abbrev pub served_number : Description → Flat → ℕ → ℕ × ℕ → ℕ
served_number d f i x = server_number d f (Some i, Some x.0, x.1)

abbrev pub runnable_of : Description → Flat → ℕ → Component → ℕ → declared_runnable.Runnable → Runnable
runnable_of d f i c m r = record {
  instance = i;
  name = r.short_name;
  program = program_tree (arc_value r.program);
  accesses = signature d.types c r.accesses;
  targets = map (target_of d f i m) r.accesses;
  server = option_map (served_number d f i) (served_by c.behavior.events m);
  lists = get_or (list_numbers d f) (pair_number (runnables_of d f) (i, m)) [];
}

abbrev pub runnables_of_component : Description → Flat → ℕ → Component → List Runnable
runnables_of_component d f i c = from 0 (λ m r. runnable_of d f i c m r ∷ []) c.behavior.runnables

abbrev pub runnables : Description → Flat → List Runnable
runnables d f = of_instances (runnables_of_component d f) d f
