-- What components are read as, but for the programs of their runnables.
use Rattle.std.specs.Prelude.{ℕ, ◌^◌, List, map, bytes_eq, codes, if◌then◌else◌, option_map}
use Rattle.serde_json.specs.Data.{Data}
use Rattle.serde_json.specs.Find.{get}
use Rattle.runnable_lang.specs.declared.program.AccessKind.{AccessKind}
use Rattle.runnable_lang.specs.declared.program.AccessKind.TheVariants as kind
use Rattle.description_types.specs.declared.component.Access.{Access}
use Rattle.description_types.specs.declared.component.DisabledInModes.{DisabledInModes}
use Rattle.description_types.specs.declared.component.Event.{Event}
use Rattle.description_types.specs.declared.component.EventKind.{EventKind}
use Rattle.description_types.specs.declared.component.EventKind.TheVariants as event
use Rattle.description_types.specs.declared.component.ItemPair.{ItemPair}
use Rattle.description_types.specs.declared.component.ModeActivation.{ModeActivation}
use Rattle.description_types.specs.declared.component.ModeActivation.TheVariants.{OnEntry, OnExit, OnTransition}
use Rattle.description_types.specs.declared.component.Variable.{Variable}
use Rattle.declared_names.specs.declared.in_component.ComponentNames.{ComponentNames}
use Rattle.declared_names.specs.declared.scopes.InterfaceNames.{InterfaceNames}
use Rattle.declared_names.specs.declared.scopes.TypeNames.{TypeNames}
use Rattle.declared_names.specs.Components.{item_in, mode_in}
use Rattle.declared_names.specs.Names.{position_in}
use Rattle.declared_names.specs.Values.{items_at, items_in, number_at, text_at, text_in, text_of_part, text_of_part_at}
use Rattle.component_model.specs.Ports.{init_value_reading}
use Rattle.program_reading.specs.Words.{access_kind_of}

-- a variable (VariableDataPrototype, an inter-runnable variable)
abbrev pub variable_reading : TypeNames → Data → Variable
variable_reading types d = record {
  short_name = text_at (codes "shortName") d;
  of_type = position_in types.data_types (text_at (codes "type") d);
  init_value = init_value_reading d;
}

-- the port and the item of an access: a variable or an area has no port, and an access to modes no item
abbrev pub port_of_access : ComponentNames → AccessKind → Data → ℕ
port_of_access names kind.IrvWrite d = 0
port_of_access names kind.IrvRead d = 0
port_of_access names kind.IrvIWrite d = 0
port_of_access names kind.IrvIRead d = 0
port_of_access names kind.Enter d = 0
port_of_access names _ d = position_in names.ports (text_of_part 1 d)

abbrev pub item_of_access : InterfaceNames → ComponentNames → AccessKind → Data → ℕ
item_of_access interfaces names kind.IrvWrite d = position_in names.variables (text_of_part 1 d)
item_of_access interfaces names kind.IrvRead d = position_in names.variables (text_of_part 1 d)
item_of_access interfaces names kind.IrvIWrite d = position_in names.variables (text_of_part 1 d)
item_of_access interfaces names kind.IrvIRead d = position_in names.variables (text_of_part 1 d)
item_of_access interfaces names kind.Enter d = position_in names.areas (text_of_part 1 d)
item_of_access interfaces names kind.Switch d = 0
item_of_access interfaces names kind.Mode d = 0
item_of_access interfaces names _ d = item_in interfaces names (position_in names.ports (text_of_part 1 d)) (text_of_part 2 d)

abbrev pub access_reading : InterfaceNames → ComponentNames → Data → Access
access_reading interfaces names d = record {
  kind = access_kind_of (text_of_part 0 d);
  port = port_of_access names (access_kind_of (text_of_part 0 d)) d;
  item = item_of_access interfaces names (access_kind_of (text_of_part 0 d)) d;
}

-- an item that a coherent access list names
abbrev pub pair_reading : InterfaceNames → ComponentNames → Data → ItemPair
pair_reading interfaces names d = record { port = position_in names.ports (text_of_part 0 d); item = item_in interfaces names (position_in names.ports (text_of_part 0 d)) (text_of_part 1 d) }

-- a coherent access list
abbrev pub coherent_reading : InterfaceNames → ComponentNames → Data → List ItemPair
coherent_reading interfaces names d = map (pair_reading interfaces names) (items_in d)

-- the port that an event names, and an item of it
abbrev pub port_of_event : ComponentNames → Data → ℕ
port_of_event names d = position_in names.ports (text_at (codes "port") d)

abbrev pub item_of_event : InterfaceNames → ComponentNames → (key : List ℕ) → Data → ℕ
item_of_event interfaces names key d = item_in interfaces names (port_of_event names d) (text_at key d)

-- when in a mode switch an event comes (ModeActivationKind)
abbrev pub mode_of_event : InterfaceNames → ComponentNames → ℕ → Data → ℕ
mode_of_event interfaces names i d = mode_in interfaces names (port_of_event names d) (text_of_part_at (codes "modes") i d)

abbrev pub activation_reading : InterfaceNames → ComponentNames → (word : List ℕ) → Data → ModeActivation
activation_reading interfaces names word d =
    if bytes_eq word (codes "onEntry") then OnEntry (mode_of_event interfaces names 0 d) else
    (if bytes_eq word (codes "onExit") then OnExit (mode_of_event interfaces names 0 d) else
    OnTransition (mode_of_event interfaces names 0 d) (mode_of_event interfaces names 1 d))

-- the kind of an event, by its word
abbrev pub event_kind_reading : InterfaceNames → ComponentNames → (word : List ℕ) → Data → EventKind
event_kind_reading interfaces names word d =
    if bytes_eq word (codes "TimingEvent") then event.Timing (number_at (2 ^ 32) 0 (codes "period") d) else
    (if bytes_eq word (codes "InitEvent") then event.Init else
    (if bytes_eq word (codes "DataReceivedEvent") then event.DataReceived (port_of_event names d) (item_of_event interfaces names (codes "element") d) else
    (if bytes_eq word (codes "OperationInvokedEvent") then event.OperationInvoked (port_of_event names d) (item_of_event interfaces names (codes "operation") d) else
    (if bytes_eq word (codes "AsynchronousServerCallReturnsEvent") then event.CallReturns (port_of_event names d) (item_of_event interfaces names (codes "operation") d) else
    (if bytes_eq word (codes "SwcModeSwitchEvent") then event.ModeSwitch (port_of_event names d) (activation_reading interfaces names (text_at (codes "activation") d) d) else
    event.ModeSwitchedAck (port_of_event names d))))))

-- the modes in which an event starts nothing (ModeDisablingDependency)
abbrev pub disabling_modes_reading : InterfaceNames → ComponentNames → (port : ℕ) → Data → List ℕ
disabling_modes_reading interfaces names port d = map (λ m. mode_in interfaces names port (text_in m)) (items_at (codes "modes") d)

abbrev pub disabling_reading : InterfaceNames → ComponentNames → Data → DisabledInModes
disabling_reading interfaces names d = record {
  port = port_of_event names d;
  modes = disabling_modes_reading interfaces names (port_of_event names d) d;
}

-- an event (RTEEvent)
abbrev pub event_reading : InterfaceNames → ComponentNames → Data → Event
event_reading interfaces names d = record {
  short_name = text_at (codes "shortName") d;
  runnable = position_in names.runnables (text_at (codes "runnable") d);
  kind = event_kind_reading interfaces names (text_at (codes "kind") d) d;
  disabled_in_modes = option_map (disabling_reading interfaces names) (get (codes "disabledInModes") d);
}
