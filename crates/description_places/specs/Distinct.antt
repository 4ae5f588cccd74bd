-- Rule 4: the names that one list declares are distinct. Lists of names that refer declare none.
use Rattle.std.specs.Prelude.{ℕ, List, Bool, false, ◌||◌, nat_lt, slice_get, Option, Some, None, option_and_then}
use Rattle.serde_json.specs.Data.{Data}
use Rattle.description_places.specs.declared.catalogs.Catalog.{Catalog}
use Rattle.description_places.specs.declared.catalogs.TypeNumber.{TypeNumber}
use Rattle.description_places.specs.declared.catalogs.TypeNumber.TheVariants as of
use Rattle.declared_names.specs.Names.{Names, has_name, position_in}
use Rattle.declared_names.specs.Values.{text_in}
use Rattle.description_shapes.specs.declared.kind.Kind.{Kind}
use Rattle.description_shapes.specs.declared.kind.Kind.TheVariants.{DataType, ModeGroup, SenderReceiverInterface, ClientServerInterface, ModeSwitchInterface, UnknownInterface, DataElement}
use Rattle.description_shapes.specs.declared.kind.Kind.TheVariants.{Operation, Argument, OperationError, Component, Port, Variable, Runnable, TimingEvent, InitEvent, DataReceivedEvent}
use Rattle.description_shapes.specs.declared.kind.Kind.TheVariants.{OperationInvokedEvent, CallReturnsEvent, ModeSwitchEvent, ModeTransitionEvent, ModeSwitchAckEvent, UnknownEvent}
use Rattle.description_shapes.specs.declared.kind.Kind.TheVariants.{Composition, Prototype, Task, DeclaredName, DeclaredMode, DeclaredArea, ComSpecItem, Position, ItemAccess, VariableAccess}
use Rattle.description_shapes.specs.declared.kind.Kind.TheVariants.{PortAccess, AreaAccess}
use Rattle.description_places.specs.Around.{number_of, owner_of, type_around}
use Rattle.description_places.specs.Owners.{component_of, composition_of}
use Rattle.description_shapes.specs.Shape.{holds}
use Rattle.description_shapes.specs.Spots.{Level}
use Rattle.description_shapes.specs.Visits.{Visit}

-- the name stands at an earlier place than this of its list
abbrev pub stands_before : Names → List ℕ → (number : ℕ) → Bool
stands_before ns name number = nat_lt (position_in ns name) number

-- so does what stands at this place, by where each of the list first stands
abbrev pub is_later_in : (firsts : List ℕ) → (number : ℕ) → Bool
is_later_in firsts number = holds (λ first. nat_lt first number) (slice_get firsts number)

abbrev pub is_later : Option (List ℕ) → (number : ℕ) → Bool
is_later firsts number = holds (λ places. is_later_in places number) firsts

-- of what an operation of an interface declares
abbrev pub firsts_of_operation : List (List (List ℕ)) → (operation interface : ℕ) → Option (List ℕ)
firsts_of_operation lists operation interface = option_and_then (λ (os : List (List ℕ)). slice_get os operation) (slice_get lists interface)

-- an item of an interface stands at an earlier place of it
abbrev pub item_before : Catalog → (name : List ℕ) → (number interface : ℕ) → Bool
item_before c name number interface = holds (λ ns. stands_before ns name number) (slice_get c.interfaces.items interface)

-- a composition stands at an earlier place of the components and compositions, which count as one list
abbrev pub composition_before : Catalog → (name : List ℕ) → (number : ℕ) → Bool
composition_before c name number = has_name c.prototypes.components name || stands_before c.prototypes.compositions name number

-- the port stands at an earlier place of the component or composition
abbrev pub port_before : Catalog → (port : List ℕ) → (number : ℕ) → Option TypeNumber → Bool
port_before c port number None = false
port_before c port number (Some (of.Component n)) = holds (λ l. stands_before l.ports.names port number) (slice_get c.prototypes.in_components n)
port_before c port number (Some (of.Composition n)) = holds (λ l. stands_before l.ports.names port number) (slice_get c.prototypes.in_compositions n)

-- of the com specs of a port of the component or composition
abbrev pub firsts_of_port : Catalog → (port : ℕ) → Option TypeNumber → Option (List ℕ)
firsts_of_port c port None = None
firsts_of_port c port (Some (of.Component n)) = option_and_then (λ l. slice_get l.ports.com_specs port) (slice_get c.prototypes.in_components n)
firsts_of_port c port (Some (of.Composition n)) = option_and_then (λ l. slice_get l.ports.com_specs port) (slice_get c.prototypes.in_compositions n)

-- The name of the object around it stands at an earlier place of the object's list. Of an interface of modes there is one element alone.
abbrev pub is_named_before : Catalog → (object : Kind) → (name : List ℕ) → List Level → Bool
is_named_before c DataType name around = stands_before c.types.data_types name (number_of 1 around)
is_named_before c ModeGroup name around = stands_before c.types.mode_groups name (number_of 1 around)
is_named_before c SenderReceiverInterface name around = stands_before c.interfaces.names name (number_of 1 around)
is_named_before c ClientServerInterface name around = stands_before c.interfaces.names name (number_of 1 around)
is_named_before c ModeSwitchInterface name around = stands_before c.interfaces.names name (number_of 1 around)
is_named_before c UnknownInterface name around = stands_before c.interfaces.names name (number_of 1 around)
is_named_before c DataElement name around = item_before c name (number_of 1 around) (number_of 3 around)
is_named_before c Operation name around = item_before c name (number_of 1 around) (number_of 3 around)
is_named_before c Argument name around = is_later (firsts_of_operation c.interfaces.arguments (number_of 3 around) (number_of 5 around)) (number_of 1 around)
is_named_before c OperationError name around = is_later (firsts_of_operation c.interfaces.errors (number_of 3 around) (number_of 5 around)) (number_of 1 around)
is_named_before c Component name around = stands_before c.prototypes.components name (number_of 1 around)
is_named_before c Composition name around = composition_before c name (number_of 1 around)
is_named_before c Port name around = port_before c name (number_of 1 around) (type_around around)
is_named_before c Variable name around = holds (λ l. stands_before l.behavior.variables name (number_of 1 around)) (component_of c (type_around around))
is_named_before c Runnable name around = holds (λ l. stands_before l.behavior.runnables name (number_of 1 around)) (component_of c (type_around around))
is_named_before c TimingEvent name around = holds (λ l. is_later_in l.behavior.events (number_of 1 around)) (component_of c (type_around around))
is_named_before c InitEvent name around = holds (λ l. is_later_in l.behavior.events (number_of 1 around)) (component_of c (type_around around))
is_named_before c DataReceivedEvent name around = holds (λ l. is_later_in l.behavior.events (number_of 1 around)) (component_of c (type_around around))
is_named_before c OperationInvokedEvent name around = holds (λ l. is_later_in l.behavior.events (number_of 1 around)) (component_of c (type_around around))
is_named_before c CallReturnsEvent name around = holds (λ l. is_later_in l.behavior.events (number_of 1 around)) (component_of c (type_around around))
is_named_before c ModeSwitchEvent name around = holds (λ l. is_later_in l.behavior.events (number_of 1 around)) (component_of c (type_around around))
is_named_before c ModeTransitionEvent name around = holds (λ l. is_later_in l.behavior.events (number_of 1 around)) (component_of c (type_around around))
is_named_before c ModeSwitchAckEvent name around = holds (λ l. is_later_in l.behavior.events (number_of 1 around)) (component_of c (type_around around))
is_named_before c UnknownEvent name around = holds (λ l. is_later_in l.behavior.events (number_of 1 around)) (component_of c (type_around around))
is_named_before c Prototype name around = holds (λ l. stands_before l.prototypes name (number_of 1 around)) (composition_of c (type_around around))
is_named_before c Task name around = stands_before c.mapping.tasks name (number_of 1 around)
is_named_before c _ name around = false

-- the access stands at an earlier place of its runnable
abbrev pub is_access_before : Catalog → List Level → Bool
is_access_before c around = is_later (option_and_then (λ l. slice_get l.behavior.accesses (number_of 2 around)) (component_of c (type_around around))) (number_of 0 around)

-- What is declared here is declared at an earlier place of its list.
abbrev pub is_repeated : Catalog → Kind → Data → List Level → Bool
is_repeated c DeclaredName d around = is_named_before c (owner_of around) (text_in d) around
is_repeated c DeclaredMode d around = is_later (slice_get c.types.modes (number_of 2 around)) (number_of 0 around)
is_repeated c DeclaredArea d around = holds (λ l. stands_before l.behavior.areas (text_in d) (number_of 0 around)) (component_of c (type_around around))
is_repeated c ComSpecItem d around = is_later (firsts_of_port c (number_of 3 around) (type_around around)) (number_of 1 around)
is_repeated c Position d around = is_later_in c.mapping.positions (number_of 1 around)
is_repeated c ItemAccess d around = is_access_before c around
is_repeated c VariableAccess d around = is_access_before c around
is_repeated c PortAccess d around = is_access_before c around
is_repeated c AreaAccess d around = is_access_before c around
is_repeated c _ d around = false

abbrev pub breaks_distinct : Catalog → Visit → Bool
breaks_distinct c v = is_repeated c v.kind v.value v.around
