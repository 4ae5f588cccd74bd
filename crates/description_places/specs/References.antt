-- Rule 5: each name refers to something declared, a root is a composition, and a core is one of the mapping's.
use Rattle.std.specs.Prelude.{ℕ, List, Bool, true, false, not, ◌||◌, nat_lt, slice_get, Option, Some, None, option_and_then, codes}
use Rattle.serde_json.specs.Data.{Data}
use Rattle.serde_json.specs.Find.{as_number, as_u64}
use Rattle.description_places.specs.declared.catalogs.Catalog.{Catalog}
use Rattle.description_places.specs.declared.catalogs.ComponentLists.{ComponentLists}
use Rattle.description_places.specs.declared.catalogs.CompositionLists.{CompositionLists}
use Rattle.description_places.specs.declared.catalogs.TypeNumber.{TypeNumber}
use Rattle.description_places.specs.declared.catalogs.TypeNumber.TheVariants as of
use Rattle.declared_names.specs.Names.{has_at, has_name, position_in, texts}
use Rattle.declared_names.specs.Values.{items_at, text_at, text_in, text_of_part}
use Rattle.description_shapes.specs.declared.kind.Kind.{Kind}
use Rattle.description_shapes.specs.declared.kind.Kind.TheVariants.{TypeName, GroupName, InterfaceName, PrototypeTypeName, RootName, TaskName, InitialMode, RunnableName, ComponentPort}
use Rattle.description_shapes.specs.declared.kind.Kind.TheVariants.{OuterPort, AreaName, VariableName, ComSpecItem, EventItem, AccessItem, PairItem, JoinedPrototype, JoinedPort, CoreNumber}
use Rattle.description_places.specs.Around.{number_at, value_at, type_around}
use Rattle.description_places.specs.Owners.{component_of, composition_of}
use Rattle.description_shapes.specs.Shape.{holds}
use Rattle.description_shapes.specs.Spots.{Level}
use Rattle.description_shapes.specs.Visits.{Visit}

-- the component or composition declares the port
abbrev pub type_has : Catalog → List ℕ → Option TypeNumber → Bool
type_has c port None = false
type_has c port (Some (of.Component n)) = holds (λ l. has_name l.ports.names port) (slice_get c.prototypes.in_components n)
type_has c port (Some (of.Composition n)) = holds (λ l. has_name l.ports.names port) (slice_get c.prototypes.in_compositions n)

-- the interface of this name declares the item: a data element, an operation or a mode element
abbrev pub interface_has : Catalog → (item interface : List ℕ) → Bool
interface_has c item interface = has_at c.interfaces.items (position_in c.interfaces.names interface) item

-- the interface of the component's port does, and that of a port of the component around
abbrev pub port_has : Catalog → (item port : List ℕ) → ComponentLists → Bool
port_has c item port l = holds (λ i. has_at c.interfaces.items i item) (slice_get l.ports.interfaces (position_in l.ports.names port))

abbrev pub item_found : Catalog → (item port : List ℕ) → List Level → Bool
item_found c item port around = holds (port_has c item port) (component_of c (type_around around))

-- the type of the composition's prototype declares the port, and that of a prototype of the composition around
abbrev pub prototype_has : Catalog → (port prototype : List ℕ) → CompositionLists → Bool
prototype_has c port prototype l = type_has c port (slice_get l.types (position_in l.prototypes prototype))

abbrev pub port_found : Catalog → (port prototype : List ℕ) → List Level → Bool
port_found c port prototype around = holds (prototype_has c port prototype) (composition_of c (type_around around))

-- the number is at least 0 and below the mapping's number of cores
abbrev pub is_core : Data → Data → Bool
is_core mapping d = holds (λ n. nat_lt n (number_at (codes "cores") mapping)) (option_and_then as_u64 (as_number d))

-- What a value of the kind refers to is declared. An item is named beside its port: by an event under the key `port`, by an
-- access, a statement or a coherent list in the part before, and by a com spec in that port; a port of a prototype in the part after it.
abbrev pub is_found : Catalog → Kind → Data → List Level → Bool
is_found c TypeName d around = has_name c.types.data_types (text_in d)
is_found c GroupName d around = has_name c.types.mode_groups (text_in d)
is_found c InterfaceName d around = has_name c.interfaces.names (text_in d)
is_found c PrototypeTypeName d around = has_name c.prototypes.components (text_in d) || has_name c.prototypes.compositions (text_in d)
is_found c RootName d around = has_name c.prototypes.compositions (text_in d)
is_found c TaskName d around = has_name c.mapping.tasks (text_in d)
is_found c InitialMode d around = has_name (texts (items_at (codes "modes") (value_at 0 around))) (text_in d)
is_found c RunnableName d around = holds (λ l. has_name l.behavior.runnables (text_in d)) (component_of c (type_around around))
is_found c AreaName d around = holds (λ l. has_name l.behavior.areas (text_in d)) (component_of c (type_around around))
is_found c VariableName d around = holds (λ l. has_name l.behavior.variables (text_in d)) (component_of c (type_around around))
is_found c ComponentPort d around = type_has c (text_in d) (type_around around)
is_found c OuterPort d around = type_has c (text_in d) (type_around around)
is_found c JoinedPrototype d around = holds (λ l. has_name l.prototypes (text_in d)) (composition_of c (type_around around))
is_found c ComSpecItem d around = interface_has c (text_in d) (text_at (codes "interface") (value_at 2 around))
is_found c EventItem d around = item_found c (text_in d) (text_at (codes "port") (value_at 0 around)) around
is_found c AccessItem d around = item_found c (text_in d) (text_of_part 1 (value_at 0 around)) around
is_found c PairItem d around = item_found c (text_in d) (text_of_part 0 (value_at 0 around)) around
is_found c JoinedPort d around = port_found c (text_in d) (text_of_part 0 (value_at 0 around)) around
is_found c CoreNumber d around = is_core (value_at 2 around) d
is_found c _ d around = true

abbrev pub breaks_references : Catalog → Visit → Bool
breaks_references c v = not (is_found c v.kind v.value v.around)
