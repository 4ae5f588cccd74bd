-- What a description keeps that breaks none of the first eight rules: names are names, and distinct in the list that declares
-- them; numbers lie in their ranges; what refers to something has a position in the list that declares it; types and initial
-- values fit.
use Rattle.std.specs.Prelude.{◌≡◌, ℕ, List, [], ◌∷◌, map, length, Bool, true, false, not, ◌&&◌, ◌||◌, ◌==◌, nat_lt, nat_le, slice_get, Option, Some, None}
use Rattle.bus_semantics.specs.Common.{arc_value, list_all, list_any, option_map_or, AccessKind, program_tree, is_name, is_in, same_numbers, is_well_formed, same_kind}
use Rattle.runnable_lang.specs.declared.program.AccessKind.TheVariants as kind
use Rattle.description_types.specs.declared.base_type.DataType.{DataType}
use Rattle.description_types.specs.declared.interface.ComSpec.{ComSpec}
use Rattle.description_types.specs.declared.interface.DataElement.{DataElement}
use Rattle.description_types.specs.declared.interface.Interface.{Interface}
use Rattle.description_types.specs.declared.interface.InterfaceKind.{InterfaceKind}
use Rattle.description_types.specs.declared.interface.InterfaceKind.TheVariants.{SenderReceiver, ClientServer, ModeSwitch}
use Rattle.description_types.specs.declared.interface.ModeElement.{ModeElement}
use Rattle.description_types.specs.declared.interface.ModeGroup.{ModeGroup}
use Rattle.description_types.specs.declared.interface.Operation.{Operation}
use Rattle.description_types.specs.declared.interface.TypeTable.{TypeTable}
use Rattle.description_types.specs.Ranges.{keeps_range}
use Rattle.description_types.specs.Refusals.{is_sound}
use Rattle.description_types.specs.declared.component.Access.{Access}
use Rattle.description_types.specs.declared.component.Component.{Component}
use Rattle.description_types.specs.declared.component.Event.{Event}
use Rattle.description_types.specs.declared.component.EventKind.{EventKind}
use Rattle.description_types.specs.declared.component.EventKind.TheVariants.{Timing, Init, DataReceived, OperationInvoked, CallReturns, ModeSwitch as SwitchesMode, ModeSwitchedAck}
use Rattle.description_types.specs.declared.component.Port.{Port}
use Rattle.description_types.specs.declared.component.Runnable.{Runnable}
use Rattle.description_types.specs.declared.component.Variable.{Variable}
use Rattle.description_types.specs.declared.description.Composition.{Composition}
use Rattle.description_types.specs.declared.description.Description.{Description}
use Rattle.description_types.specs.declared.description.MappedEvent.{MappedEvent}
use Rattle.description_types.specs.declared.description.Prototype.{Prototype}
use Rattle.description_types.specs.declared.description.PrototypeType.{PrototypeType}
use Rattle.description_types.specs.declared.description.PrototypeType.TheVariants as of
use Rattle.description_types.specs.declared.description.Task.{Task}
use Rattle.description_types.specs.Initials.{keeps, keeps_element}

-- each name of a list is a name, and no other one of it is the same
abbrev pub distinct : List (List ℕ) → Bool
distinct [] = true
distinct (n ∷ ns) = not (list_any (same_numbers n) ns) && distinct ns

abbrev pub names_fit : List (List ℕ) → Bool
names_fit ns = list_all is_name ns && distinct ns

-- ---- types

abbrev pub type_fits : DataType → Bool
type_fits t = is_in 1 16 t.words && keeps_range t

abbrev pub group_fits : ModeGroup → Bool
group_fits g = is_in 1 32 (length g.modes) && (names_fit g.modes && nat_lt g.initial_mode (length g.modes))

-- the codes of errors are 1 to 63; rule 7 says the rest of an operation
abbrev pub operation_fits : List DataType → Operation → Bool
operation_fits types o = is_sound types o && list_all (λ e. is_in 1 63 e.code) o.errors

abbrev pub kind_fits : TypeTable → InterfaceKind → Bool
kind_fits t (SenderReceiver es) = names_fit (map (λ (e : DataElement). e.short_name) es) && list_all (λ (e : DataElement). nat_lt e.of_type (length t.data_types)) es
kind_fits t (ClientServer os) = names_fit (map (λ (o : Operation). o.short_name) os) && list_all (operation_fits t.data_types) os
kind_fits t (ModeSwitch e) = is_name e.short_name && nat_lt e.of_type (length t.mode_groups)

abbrev pub types_fit : TypeTable → Bool
types_fit t = list_all type_fits t.data_types && (list_all group_fits t.mode_groups && list_all (λ (i : Interface). kind_fits t i.kind) t.interfaces)

-- ---- ports

abbrev pub item_count : InterfaceKind → ℕ
item_count (SenderReceiver es) = length es
item_count (ClientServer os) = length os
item_count (ModeSwitch e) = 1

abbrev pub items_at : TypeTable → (interface : ℕ) → ℕ
items_at t n = option_map_or (λ (i : Interface). item_count i.kind) (slice_get t.interfaces n) 0

-- a com spec is of an item of the interface; an initial value of a data element fits it
abbrev pub com_spec_fits : TypeTable → (interface : ℕ) → ComSpec → Bool
com_spec_fits t n s = nat_lt s.element (items_at t n) && (is_in 1 1024 s.queue_length && keeps_element t n s)

abbrev pub port_fits : TypeTable → Port → Bool
port_fits t p = nat_lt p.interface (length t.interfaces) && list_all (com_spec_fits t p.interface) p.com_specs

abbrev pub ports_fit : TypeTable → List Port → Bool
ports_fit t ps = names_fit (map (λ (p : Port). p.short_name) ps) && list_all (port_fits t) ps

-- how many items the port at a position has
abbrev pub items_of_port : TypeTable → List Port → ℕ → ℕ
items_of_port t ps k = option_map_or (λ (p : Port). items_at t p.interface) (slice_get ps k) 0

-- ---- components

abbrev pub variable_fits : TypeTable → Variable → Bool
variable_fits t v = nat_lt v.of_type (length t.data_types) && keeps t.data_types v.of_type v.init_value

-- an access names a variable or an area of its component, or an item of a port; one of modes names a port alone
abbrev pub access_fits : TypeTable → Component → Access → Bool
access_fits t c a = by_kind a.kind
  where
    by_kind : AccessKind → Bool
    by_kind kind.IrvWrite = nat_lt a.item (length c.behavior.variables)
    by_kind kind.IrvRead = nat_lt a.item (length c.behavior.variables)
    by_kind kind.IrvIWrite = nat_lt a.item (length c.behavior.variables)
    by_kind kind.IrvIRead = nat_lt a.item (length c.behavior.variables)
    by_kind kind.Enter = nat_lt a.item (length c.behavior.exclusive_areas)
    by_kind kind.Switch = nat_lt a.port (length c.ports) && (a.item == 0)
    by_kind kind.Mode = nat_lt a.port (length c.ports) && (a.item == 0)
    by_kind _ = nat_lt a.item (items_of_port t c.ports a.port)

-- the accesses of a runnable are distinct: those to variables and areas have no port
abbrev pub same_access : Access → Access → Bool
same_access a b = same_kind a.kind b.kind && ((a.port == b.port) && (a.item == b.item))

abbrev pub accesses_distinct : List Access → Bool
accesses_distinct [] = true
accesses_distinct (a ∷ more) = not (list_any (same_access a) more) && accesses_distinct more

abbrev pub runnable_fits : TypeTable → Component → Runnable → Bool
runnable_fits t c r = list_all (access_fits t c) r.accesses && (accesses_distinct r.accesses && is_well_formed (program_tree (arc_value r.program)))

-- an event names a port or an item of one
abbrev pub event_kind_fits : TypeTable → Component → EventKind → Bool
event_kind_fits t c (Timing period) = is_in 1 1000000 period
event_kind_fits t c Init = true
event_kind_fits t c (DataReceived k n) = nat_lt n (items_of_port t c.ports k)
event_kind_fits t c (OperationInvoked k n) = nat_lt n (items_of_port t c.ports k)
event_kind_fits t c (CallReturns k n) = nat_lt n (items_of_port t c.ports k)
event_kind_fits t c (SwitchesMode k activation) = nat_lt k (length c.ports)
event_kind_fits t c (ModeSwitchedAck k) = nat_lt k (length c.ports)

abbrev pub event_fits : TypeTable → Component → Event → Bool
event_fits t c e = nat_lt e.runnable (length c.behavior.runnables)
    && (event_kind_fits t c e.kind && option_map_or (λ x. nat_lt x.port (length c.ports)) e.disabled_in_modes true)

-- the arguments of the operation at an item of a port
abbrev pub argument_count : InterfaceKind → ℕ → ℕ
argument_count (ClientServer os) n = option_map_or (λ (o : Operation). length o.arguments) (slice_get os n) 0
argument_count _ n = 0

abbrev pub arguments_at : TypeTable → List Port → (port : ℕ) → (operation : ℕ) → ℕ
arguments_at t ps k n = option_map_or (λ (p : Port). option_map_or (λ (i : Interface). argument_count i.kind n) (slice_get t.interfaces p.interface) 0) (slice_get ps k) 0

-- The program of a server, which an OperationInvokedEvent starts, has a variable for each argument and one for `error`. (Where
-- several such events start one runnable its first counts; a later rule refuses that.)
abbrev pub serves_fit : TypeTable → Component → List Event → (seen : List ℕ) → Bool
serves_fit t c [] seen = true
serves_fit t c (e ∷ es) seen = by_kind (λ now_seen. serves_fit t c es now_seen) e.kind
  where
    has_variables : ℕ → ℕ → Bool
    has_variables k n = option_map_or (λ (r : Runnable). nat_lt (arguments_at t c.ports k n) (program_tree (arc_value r.program)).vars) (slice_get c.behavior.runnables e.runnable) false

    by_kind : (List ℕ → Bool) → EventKind → Bool
    by_kind rest (OperationInvoked k n) = (list_any (λ r. r == e.runnable) seen || has_variables k n) && rest (e.runnable ∷ seen)
    by_kind rest _ = rest seen

abbrev pub component_fits : TypeTable → Component → Bool
component_fits t c =
    ports_fit t c.ports
    && (names_fit c.behavior.exclusive_areas
    && (names_fit (map (λ (v : Variable). v.short_name) c.behavior.variables) && (list_all (variable_fits t) c.behavior.variables
    && (names_fit (map (λ (r : Runnable). r.short_name) c.behavior.runnables) && (list_all (runnable_fits t c) c.behavior.runnables
    && (names_fit (map (λ (e : Event). e.short_name) c.behavior.events) && (list_all (event_fits t c) c.behavior.events
    && serves_fit t c c.behavior.events [])))))))

-- ---- compositions and the mapping

abbrev pub prototype_fits : Description → PrototypeType → Bool
prototype_fits d (of.Component n) = nat_lt n (length d.components)
prototype_fits d (of.Composition n) = nat_lt n (length d.compositions)

abbrev pub composition_fits : Description → Composition → Bool
composition_fits d c =
    ports_fit d.types c.ports
    && (names_fit (map (λ (p : Prototype). p.short_name) c.prototypes) && list_all (λ (p : Prototype). prototype_fits d p.of_type) c.prototypes)

abbrev pub mapping_fits : Description → Bool
mapping_fits d =
    is_in 1 8 d.mapping.cores && (nat_le (length d.mapping.tasks) 256
    && (names_fit (map (λ (t : Task). t.short_name) d.mapping.tasks) && (list_all (λ (t : Task). nat_lt t.core d.mapping.cores) d.mapping.tasks
    && list_all (λ (x : MappedEvent). nat_lt x.task (length d.mapping.tasks)) d.mapping.events)))

-- ---- the whole

pub record IsWellFormed (d : Description) : Type 0 where
  pub types : types_fit d.types ≡ true
  pub components : list_all (component_fits d.types) d.components ≡ true
  pub compositions : list_all (composition_fits d) d.compositions ≡ true
  pub root : nat_lt d.root (length d.compositions) ≡ true
  pub mapping : mapping_fits d ≡ true
