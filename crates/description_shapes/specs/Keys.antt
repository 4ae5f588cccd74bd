-- The keys of each kind of object, in order.
use Rattle.std.specs.Prelude.{ℕ, List, [], ◌∷◌, Bool, true, false, codes}
use Prim.Native.String.{String}
use Rattle.description_shapes.specs.declared.keys.Field.{Field}
use Rattle.description_shapes.specs.declared.kind.Kind.{Kind}
use Rattle.description_shapes.specs.declared.kind.Kind.TheVariants.{Anything, Description, DataType, ModeGroup, SenderReceiverInterface, ClientServerInterface, ModeSwitchInterface}
use Rattle.description_shapes.specs.declared.kind.Kind.TheVariants.{UnknownInterface, DataElement, Operation, Argument, OperationError, ModeElement, Component, Port, ComSpec, Behavior}
use Rattle.description_shapes.specs.declared.kind.Kind.TheVariants.{Variable, Runnable, TimingEvent, InitEvent, DataReceivedEvent, OperationInvokedEvent, CallReturnsEvent, ModeSwitchEvent}
use Rattle.description_shapes.specs.declared.kind.Kind.TheVariants.{ModeTransitionEvent, ModeSwitchAckEvent, UnknownEvent, DisabledModes, Composition, Prototype, AssemblyConnector}
use Rattle.description_shapes.specs.declared.kind.Kind.TheVariants.{DelegationConnector, UnknownConnector, Mapping, Task, MappedEvent, DataTypes, ModeGroups, DeclaredModes, Interfaces}
use Rattle.description_shapes.specs.declared.kind.Kind.TheVariants.{DataElements, Operations, Arguments, OperationErrors, Components, Ports, ComSpecs, Words, DeclaredAreas, Variables}
use Rattle.description_shapes.specs.declared.kind.Kind.TheVariants.{Runnables, Accesses, CoherentLists, Statements, Events, OneMode, TwoModes, SomeModes, Compositions, Prototypes}
use Rattle.description_shapes.specs.declared.kind.Kind.TheVariants.{Connectors, Tasks, MappedEvents, PortOfPrototype, DeclaredName, RootName, InitialMode, TypeName, GroupName, InterfaceName}
use Rattle.description_shapes.specs.declared.kind.Kind.TheVariants.{ComSpecItem, RunnableName, ComponentPort, EventItem, PrototypeTypeName, OuterPort, TaskName, EventName, InstancePath}
use Rattle.description_shapes.specs.declared.kind.Kind.TheVariants.{BaseType, Policy, Direction, PortKind, InterfaceKind, EventKind, ConnectorKind, Activation, Limit, CoreNumber, WordCount}
use Rattle.description_shapes.specs.declared.kind.Kind.TheVariants.{ErrorNumber, QueueLength, Period, CoreCount, Position, Flag}

-- a key of an object: its text, whether it may not be missing, and the kind of its value
pub record Key : Type 0 where
  pub name : List ℕ
  pub is_needed : Bool
  pub kind : Kind

abbrev pub needed : String → Kind → Key
needed name kind = record { name = codes name; is_needed = true; kind = kind }

-- a key that may be missing; every key whose value is a list of any length is one
abbrev pub optional : String → Kind → Key
optional name kind = record { name = codes name; is_needed = false; kind = kind }

-- the key that a line of the program's table stands for
abbrev pub key_of : Field → Key
key_of f = record { name = f.name.now; is_needed = f.is_needed; kind = f.kind }

-- An object whose `kind` is unknown has the keys that every kind has, and may have those that some kind has.
abbrev pub keys_of : Kind → List Key
keys_of Description =
    optional "dataTypes" DataTypes ∷
    optional "modeGroups" ModeGroups ∷
    optional "interfaces" Interfaces ∷
    optional "components" Components ∷
    optional "compositions" Compositions ∷
    needed "root" RootName ∷
    needed "mapping" Mapping ∷
    []
keys_of DataType =
    needed "shortName" DeclaredName ∷
    needed "baseType" BaseType ∷
    needed "lower" Limit ∷
    needed "upper" Limit ∷
    needed "words" WordCount ∷
    []
keys_of ModeGroup =
    needed "shortName" DeclaredName ∷
    needed "modes" DeclaredModes ∷
    needed "initialMode" InitialMode ∷
    []
keys_of SenderReceiverInterface =
    needed "kind" InterfaceKind ∷
    needed "shortName" DeclaredName ∷
    optional "dataElements" DataElements ∷
    []
keys_of ClientServerInterface =
    needed "kind" InterfaceKind ∷
    needed "shortName" DeclaredName ∷
    optional "operations" Operations ∷
    []
keys_of ModeSwitchInterface =
    needed "kind" InterfaceKind ∷
    needed "shortName" DeclaredName ∷
    needed "modeGroup" ModeElement ∷
    []
keys_of UnknownInterface =
    needed "kind" InterfaceKind ∷
    needed "shortName" DeclaredName ∷
    optional "dataElements" Anything ∷
    optional "operations" Anything ∷
    optional "modeGroup" Anything ∷
    []
keys_of DataElement =
    needed "shortName" DeclaredName ∷
    needed "type" TypeName ∷
    needed "swImplPolicy" Policy ∷
    []
keys_of Operation =
    needed "shortName" DeclaredName ∷
    optional "arguments" Arguments ∷
    optional "errors" OperationErrors ∷
    []
keys_of Argument =
    needed "shortName" DeclaredName ∷
    needed "type" TypeName ∷
    needed "direction" Direction ∷
    []
keys_of OperationError =
    needed "shortName" DeclaredName ∷
    needed "code" ErrorNumber ∷
    []
keys_of ModeElement =
    needed "shortName" DeclaredName ∷
    needed "type" GroupName ∷
    []
keys_of Component =
    needed "shortName" DeclaredName ∷
    optional "ports" Ports ∷
    needed "behavior" Behavior ∷
    []
keys_of Port =
    needed "kind" PortKind ∷
    needed "shortName" DeclaredName ∷
    needed "interface" InterfaceName ∷
    optional "comSpecs" ComSpecs ∷
    []
keys_of ComSpec =
    needed "element" ComSpecItem ∷
    optional "initValue" Words ∷
    optional "handleNeverReceived" Flag ∷
    optional "queueLength" QueueLength ∷
    optional "supportsAsynchronousModeSwitch" Flag ∷
    []
keys_of Behavior =
    optional "exclusiveAreas" DeclaredAreas ∷
    optional "variables" Variables ∷
    optional "runnables" Runnables ∷
    optional "events" Events ∷
    []
keys_of Variable =
    needed "shortName" DeclaredName ∷
    needed "type" TypeName ∷
    optional "initValue" Words ∷
    []
keys_of Runnable =
    needed "shortName" DeclaredName ∷
    optional "canBeInvokedConcurrently" Flag ∷
    optional "accesses" Accesses ∷
    optional "coherent" CoherentLists ∷
    optional "program" Statements ∷
    []
keys_of TimingEvent =
    needed "kind" EventKind ∷
    needed "shortName" DeclaredName ∷
    needed "runnable" RunnableName ∷
    needed "period" Period ∷
    optional "disabledInModes" DisabledModes ∷
    []
keys_of InitEvent =
    needed "kind" EventKind ∷
    needed "shortName" DeclaredName ∷
    needed "runnable" RunnableName ∷
    optional "disabledInModes" DisabledModes ∷
    []
keys_of DataReceivedEvent =
    needed "kind" EventKind ∷
    needed "shortName" DeclaredName ∷
    needed "runnable" RunnableName ∷
    needed "port" ComponentPort ∷
    needed "element" EventItem ∷
    optional "disabledInModes" DisabledModes ∷
    []
keys_of OperationInvokedEvent =
    needed "kind" EventKind ∷
    needed "shortName" DeclaredName ∷
    needed "runnable" RunnableName ∷
    needed "port" ComponentPort ∷
    needed "operation" EventItem ∷
    optional "disabledInModes" DisabledModes ∷
    []
keys_of CallReturnsEvent =
    needed "kind" EventKind ∷
    needed "shortName" DeclaredName ∷
    needed "runnable" RunnableName ∷
    needed "port" ComponentPort ∷
    needed "operation" EventItem ∷
    optional "disabledInModes" DisabledModes ∷
    []
keys_of ModeSwitchEvent =
    needed "kind" EventKind ∷
    needed "shortName" DeclaredName ∷
    needed "runnable" RunnableName ∷
    needed "port" ComponentPort ∷
    needed "activation" Activation ∷
    needed "modes" OneMode ∷
    optional "disabledInModes" DisabledModes ∷
    []
keys_of ModeTransitionEvent =
    needed "kind" EventKind ∷
    needed "shortName" DeclaredName ∷
    needed "runnable" RunnableName ∷
    needed "port" ComponentPort ∷
    needed "activation" Activation ∷
    needed "modes" TwoModes ∷
    optional "disabledInModes" DisabledModes ∷
    []
keys_of ModeSwitchAckEvent =
    needed "kind" EventKind ∷
    needed "shortName" DeclaredName ∷
    needed "runnable" RunnableName ∷
    needed "port" ComponentPort ∷
    optional "disabledInModes" DisabledModes ∷
    []
keys_of UnknownEvent =
    needed "kind" EventKind ∷
    needed "shortName" DeclaredName ∷
    needed "runnable" RunnableName ∷
    optional "period" Anything ∷
    optional "port" Anything ∷
    optional "element" Anything ∷
    optional "operation" Anything ∷
    optional "activation" Anything ∷
    optional "modes" Anything ∷
    optional "disabledInModes" Anything ∷
    []
keys_of DisabledModes =
    needed "port" ComponentPort ∷
    optional "modes" SomeModes ∷
    []
keys_of Composition =
    needed "shortName" DeclaredName ∷
    optional "ports" Ports ∷
    optional "prototypes" Prototypes ∷
    optional "connectors" Connectors ∷
    []
keys_of Prototype =
    needed "shortName" DeclaredName ∷
    needed "type" PrototypeTypeName ∷
    []
keys_of AssemblyConnector =
    needed "kind" ConnectorKind ∷
    needed "provider" PortOfPrototype ∷
    needed "requester" PortOfPrototype ∷
    []
keys_of DelegationConnector =
    needed "kind" ConnectorKind ∷
    needed "inner" PortOfPrototype ∷
    needed "outer" OuterPort ∷
    []
keys_of UnknownConnector =
    needed "kind" ConnectorKind ∷
    optional "provider" Anything ∷
    optional "requester" Anything ∷
    optional "inner" Anything ∷
    optional "outer" Anything ∷
    []
keys_of Mapping =
    needed "cores" CoreCount ∷
    optional "tasks" Tasks ∷
    optional "events" MappedEvents ∷
    []
keys_of Task =
    needed "shortName" DeclaredName ∷
    needed "core" CoreNumber ∷
    []
keys_of MappedEvent =
    needed "instance" InstancePath ∷
    needed "event" EventName ∷
    needed "task" TaskName ∷
    needed "position" Position ∷
    []
keys_of _ = []
