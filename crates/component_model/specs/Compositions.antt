-- What compositions and the mapping of events to tasks are read as.
use Rattle.std.specs.Prelude.{ℕ, ◌^◌, List, map, length, nat_lt, slice_get, bytes_eq, codes, if◌then◌else◌, Option, Some, None}
use Rattle.serde_json.specs.Data.{Data}
use Rattle.description_types.specs.declared.description.Composition.{Composition}
use Rattle.description_types.specs.declared.description.Connector.{Connector}
use Rattle.description_types.specs.declared.description.Connector.TheVariants.{Assembly, Delegation}
use Rattle.description_types.specs.declared.description.InnerPort.{InnerPort}
use Rattle.description_types.specs.declared.description.MappedEvent.{MappedEvent}
use Rattle.description_types.specs.declared.description.Prototype.{Prototype}
use Rattle.description_types.specs.declared.description.PrototypeType.{PrototypeType}
use Rattle.description_types.specs.declared.description.PrototypeType.TheVariants as of
use Rattle.description_types.specs.declared.description.Task.{Task}
use Rattle.description_types.specs.declared.description.TaskMapping.{TaskMapping}
use Rattle.component_model.specs.declared.composition_reading.Ends.{Ends}
use Rattle.declared_names.specs.declared.scopes.InterfaceNames.{InterfaceNames}
use Rattle.declared_names.specs.declared.scopes.PrototypeNames.{PrototypeNames}
use Rattle.declared_names.specs.Names.{Names, position_at, position_in, short_names}
use Rattle.component_model.specs.Ports.{port_reading}
use Rattle.declared_names.specs.Scopes.{port_names}
use Rattle.declared_names.specs.Values.{items_at, number_at, text_at, text_of_part_at}

-- the component or composition of a name
abbrev pub type_named : PrototypeNames → List ℕ → PrototypeType
type_named names name =
    if nat_lt (position_in names.components name) (length names.components) then of.Component (position_in names.components name)
    else of.Composition (position_in names.compositions name)

-- a prototype (SwComponentPrototype)
abbrev pub prototype_type_reading : PrototypeNames → Data → PrototypeType
prototype_type_reading names d = type_named names (text_at (codes "type") d)

abbrev pub prototype_reading : PrototypeNames → Data → Prototype
prototype_reading names d = record { short_name = text_at (codes "shortName") d; of_type = prototype_type_reading names d }

-- where a port of this name stands in a prototype's type
abbrev pub port_in_type : PrototypeNames → Option PrototypeType → List ℕ → ℕ
port_in_type names None name = 0
port_in_type names (Some (of.Component c)) name = position_at names.component_ports c name
port_in_type names (Some (of.Composition c)) name = position_at names.composition_ports c name

-- what the connectors of a composition name: its prototypes, with their types, and its own ports
abbrev pub ends_in : PrototypeNames → Data → Ends
ends_in names d = record {
  prototypes = short_names (items_at (codes "prototypes") d);
  types = map (prototype_type_reading names) (items_at (codes "prototypes") d);
  outer = port_names d;
}

-- the port of a prototype that a pair of names gives
abbrev pub inner_port_reading : PrototypeNames → Ends → (key : List ℕ) → Data → InnerPort
inner_port_reading names ends key d = record {
  prototype = position_in ends.prototypes (text_of_part_at key 0 d);
  port = port_in_type names (slice_get ends.types (position_in ends.prototypes (text_of_part_at key 0 d))) (text_of_part_at key 1 d);
}

-- a connector (AssemblySwConnector, DelegationSwConnector)
abbrev pub connector_reading : PrototypeNames → Ends → Data → Connector
connector_reading names ends d =
    if bytes_eq (text_at (codes "kind") d) (codes "DelegationSwConnector")
    then Delegation (inner_port_reading names ends (codes "inner") d) (position_in ends.outer (text_at (codes "outer") d))
    else Assembly (inner_port_reading names ends (codes "provider") d) (inner_port_reading names ends (codes "requester") d)

abbrev pub connectors_between : PrototypeNames → Ends → Data → List Connector
connectors_between names ends d = map (connector_reading names ends) (items_at (codes "connectors") d)

-- a composition (CompositionSwComponentType)
abbrev pub composition_reading : InterfaceNames → PrototypeNames → Data → Composition
composition_reading interfaces names d = record {
  short_name = text_at (codes "shortName") d;
  ports = map (port_reading interfaces) (items_at (codes "ports") d);
  prototypes = map (prototype_reading names) (items_at (codes "prototypes") d);
  connectors = connectors_between names (ends_in names d) d;
}

-- a task (OsTask), and an event in its task (RteEventToTaskMapping)
abbrev pub task_reading : Data → Task
task_reading d = record { short_name = text_at (codes "shortName") d; core = number_at (2 ^ 32) 0 (codes "core") d }

abbrev pub mapped_event_reading : (tasks : Names) → Data → MappedEvent
mapped_event_reading tasks d = record {
  instance = text_at (codes "instance") d;
  event = text_at (codes "event") d;
  task = position_in tasks (text_at (codes "task") d);
  position = number_at (2 ^ 32) 0 (codes "position") d;
}

abbrev pub mapping_reading : Data → TaskMapping
mapping_reading d = record {
  cores = number_at (2 ^ 32) 0 (codes "cores") d;
  tasks = map task_reading (items_at (codes "tasks") d);
  events = map (mapped_event_reading (short_names (items_at (codes "tasks") d))) (items_at (codes "events") d);
}
