-- What the programs of runnables are read as, and the components that hold them.
use Rattle.std.specs.Prelude.{ℕ, List, [], ◌∷◌, ◌++◌, map, filter, slice_get, slice_index_or, Bool, bytes_eq, codes, Option, Some, None, unwrap_or}
use Rattle.std.specs.Arc.{arc_value}
use Rattle.serde_json.specs.Data.{Data, null}
use Rattle.serde_json.specs.Find.{get}
use Rattle.runnable_lang.specs.Trees.{ProgramTree, program_tree}
use Rattle.description_types.specs.declared.component.Access.{Access}
use Rattle.description_types.specs.declared.component.Behavior.{Behavior}
use Rattle.description_types.specs.declared.component.Component.{Component}
use Rattle.description_types.specs.declared.component.Event.{Event}
use Rattle.description_types.specs.declared.component.ItemPair.{ItemPair}
use Rattle.description_types.specs.declared.component.Port.{Port}
use Rattle.description_types.specs.declared.component.Runnable.{Runnable}
use Rattle.description_types.specs.declared.component.Variable.{Variable}
use Rattle.declared_names.specs.declared.in_component.ComponentNames.{ComponentNames}
use Rattle.declared_names.specs.declared.scopes.InterfaceNames.{InterfaceNames}
use Rattle.declared_names.specs.declared.scopes.Scope.{Scope}
use Rattle.declared_names.specs.declared.scopes.TypeNames.{TypeNames}
use Rattle.declared_names.specs.Components.{component_names}
use Rattle.declared_names.specs.Names.{Names, position_in, texts}
use Rattle.declared_names.specs.Values.{flag_at, items_at, text_at}
use Rattle.program_reading.specs.Programs.{program_reading}
use Rattle.component_model.specs.Components.{access_reading, coherent_reading, event_reading, item_of_event, port_of_event, variable_reading}
use Rattle.component_model.specs.Ports.{port_reading}

-- A runnable, a behavior and a component with its programs as trees; all else as it stands.
pub record RunnableTree : Type 0 where
  pub short_name : List ℕ
  pub can_be_invoked_concurrently : Bool
  pub accesses : List Access
  pub coherent : List (List ItemPair)
  pub program : ProgramTree

pub record BehaviorTree : Type 0 where
  pub exclusive_areas : Names
  pub variables : List Variable
  pub runnables : List RunnableTree
  pub events : List Event

pub record ComponentTree : Type 0 where
  pub short_name : List ℕ
  pub ports : List Port
  pub behavior : BehaviorTree

abbrev pub runnable_tree : Runnable → RunnableTree
runnable_tree r = record {
  short_name = r.short_name;
  can_be_invoked_concurrently = r.can_be_invoked_concurrently;
  accesses = r.accesses;
  coherent = r.coherent;
  program = program_tree (arc_value r.program);
}

abbrev pub behavior_tree : Behavior → BehaviorTree
behavior_tree b = record { exclusive_areas = b.exclusive_areas; variables = b.variables; runnables = map runnable_tree b.runnables; events = b.events }

abbrev pub component_tree : Component → ComponentTree
component_tree c = record { short_name = c.short_name; ports = c.ports; behavior = behavior_tree c.behavior }

-- the events that a call of an operation starts a runnable by
abbrev pub is_invoked : Data → Bool
is_invoked e = bytes_eq (text_at (codes "kind") e) (codes "OperationInvokedEvent")

abbrev pub invoked_events : (behavior : Data) → List Data
invoked_events b = filter is_invoked (items_at (codes "events") b)

abbrev pub runnable_names : (events : List Data) → Names
runnable_names es = map (text_at (codes "runnable")) es

-- the arguments of the operation that an event names
abbrev pub arguments_among : List (List Names) → (interface : Option ℕ) → (operation : ℕ) → Names
arguments_among arguments None operation = []
arguments_among arguments (Some i) operation = slice_index_or (slice_index_or arguments i []) operation []

abbrev pub arguments_of : InterfaceNames → ComponentNames → (event : Data) → Names
arguments_of interfaces names e = arguments_among interfaces.arguments (slice_get names.port_interfaces (port_of_event names e)) (item_of_event interfaces names (codes "operation") e)

-- The names of a program's first variables: those of a server, which such an event starts, are its operation's arguments and `error`; the first such event counts.
abbrev pub first_names : InterfaceNames → ComponentNames → (event : Option Data) → Names
first_names interfaces names None = []
first_names interfaces names (Some e) = arguments_of interfaces names e ++ codes "error" ∷ []

-- a runnable (RunnableEntity) beside the events by which calls start runnables, with the runnables that they name
abbrev pub runnable_reading : InterfaceNames → ComponentNames → (events : List Data) → (servers : Names) → Data → RunnableTree
runnable_reading interfaces names events servers d = record {
  short_name = text_at (codes "shortName") d;
  can_be_invoked_concurrently = flag_at (codes "canBeInvokedConcurrently") d;
  accesses = map (access_reading interfaces names) (items_at (codes "accesses") d);
  coherent = map (coherent_reading interfaces names) (items_at (codes "coherent") d);
  program = program_reading interfaces names (first_names interfaces names (slice_get events (position_in servers (text_at (codes "shortName") d)))) (unwrap_or (get (codes "program") d) null);
}

abbrev pub runnables_reading : InterfaceNames → ComponentNames → (events : List Data) → (servers : Names) → (behavior : Data) → List RunnableTree
runnables_reading interfaces names events servers b = map (runnable_reading interfaces names events servers) (items_at (codes "runnables") b)

abbrev pub runnables_in : InterfaceNames → ComponentNames → (behavior : Data) → List RunnableTree
runnables_in interfaces names b = runnables_reading interfaces names (invoked_events b) (runnable_names (invoked_events b)) b

-- a behavior (SwcInternalBehavior)
abbrev pub behavior_reading : TypeNames → InterfaceNames → ComponentNames → Data → BehaviorTree
behavior_reading types interfaces names b = record {
  exclusive_areas = texts (items_at (codes "exclusiveAreas") b);
  variables = map (variable_reading types) (items_at (codes "variables") b);
  runnables = runnables_in interfaces names b;
  events = map (event_reading interfaces names) (items_at (codes "events") b);
}

-- a component (ApplicationSwComponentType)
abbrev pub behavior_in : Data → Data
behavior_in d = unwrap_or (get (codes "behavior") d) null

abbrev pub component_reading : Scope → Data → ComponentTree
component_reading scope d = record {
  short_name = text_at (codes "shortName") d;
  ports = map (port_reading scope.interfaces) (items_at (codes "ports") d);
  behavior = behavior_reading scope.types scope.interfaces (component_names scope.interfaces d (behavior_in d)) (behavior_in d);
}
