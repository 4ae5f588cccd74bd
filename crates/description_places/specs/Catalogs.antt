-- What a description declares, list by list.
use Rattle.std.specs.Prelude.{ℕ, List, map, codes, if◌then◌else◌, unwrap_or}
use Rattle.serde_json.specs.Data.{Data, null}
use Rattle.serde_json.specs.Find.{get}
use Rattle.description_places.specs.declared.catalogs.BehaviorLists.{BehaviorLists}
use Rattle.description_places.specs.declared.catalogs.Catalog.{Catalog}
use Rattle.description_places.specs.declared.catalogs.ComponentLists.{ComponentLists}
use Rattle.description_places.specs.declared.catalogs.CompositionLists.{CompositionLists}
use Rattle.description_places.specs.declared.catalogs.InterfaceLists.{InterfaceLists}
use Rattle.description_places.specs.declared.catalogs.MappingLists.{MappingLists}
use Rattle.description_places.specs.declared.catalogs.PortLists.{PortLists}
use Rattle.description_places.specs.declared.catalogs.PrototypeLists.{PrototypeLists}
use Rattle.description_places.specs.declared.catalogs.TypeLists.{TypeLists}
use Rattle.description_places.specs.declared.catalogs.TypeNumber.{TypeNumber}
use Rattle.description_places.specs.declared.catalogs.TypeNumber.TheVariants.{Component, Composition}
use Rattle.description_places.specs.FirstPlaces.{access_text, first_places, position_text}
use Rattle.declared_names.specs.Names.{Names, has_name, position_in, short_names, texts}
use Rattle.declared_names.specs.Scopes.{item_names}
use Rattle.declared_names.specs.Values.{items_at, text_at}

-- the value at a key, and null where there is none
abbrev pub value_at : List ℕ → Data → Data
value_at key d = unwrap_or (get key d) null

-- where the interface of a port stands among these
abbrev pub interface_at : (interfaces : Names) → Data → ℕ
interface_at interfaces d = position_in interfaces (text_at (codes "interface") d)

-- the component or composition of a name, if it is of one
abbrev pub type_number : (components compositions : Names) → List ℕ → TypeNumber
type_number components compositions name = if has_name components name then Component (position_in components name) else Composition (position_in compositions name)

-- where the names of what is declared at a key of an operation first stand, and those of each operation of an interface
abbrev pub firsts_in : (key : List ℕ) → Data → List ℕ
firsts_in key d = first_places (short_names (items_at key d))

abbrev pub operation_firsts : (key : List ℕ) → Data → List (List ℕ)
operation_firsts key d = map (firsts_in key) (items_at (codes "operations") d)

-- where the modes of a group, the elements of a port's com specs, and the accesses of a runnable first stand
abbrev pub mode_firsts : Data → List ℕ
mode_firsts d = first_places (texts (items_at (codes "modes") d))

abbrev pub com_spec_firsts : Data → List ℕ
com_spec_firsts d = first_places (map (text_at (codes "element")) (items_at (codes "comSpecs") d))

abbrev pub access_firsts : Data → List ℕ
access_firsts d = first_places (map access_text (items_at (codes "accesses") d))

-- the ports of a component or composition
abbrev pub port_lists : (interfaces : Names) → Data → PortLists
port_lists interfaces d = record {
  names = short_names (items_at (codes "ports") d);
  interfaces = map (interface_at interfaces) (items_at (codes "ports") d);
  com_specs = map com_spec_firsts (items_at (codes "ports") d);
}

-- what a behavior declares
abbrev pub behavior_lists : Data → BehaviorLists
behavior_lists b = record {
  areas = texts (items_at (codes "exclusiveAreas") b);
  variables = short_names (items_at (codes "variables") b);
  runnables = short_names (items_at (codes "runnables") b);
  accesses = map access_firsts (items_at (codes "runnables") b);
  events = firsts_in (codes "events") b;
}

-- what a component declares
abbrev pub component_lists : (interfaces : Names) → Data → ComponentLists
component_lists interfaces d = record { ports = port_lists interfaces d; behavior = behavior_lists (value_at (codes "behavior") d) }

-- where the type of a prototype stands
abbrev pub prototype_type : (components compositions : Names) → Data → TypeNumber
prototype_type components compositions d = type_number components compositions (text_at (codes "type") d)

-- what a composition declares
abbrev pub composition_lists : (interfaces components compositions : Names) → Data → CompositionLists
composition_lists interfaces components compositions d = record {
  ports = port_lists interfaces d;
  prototypes = short_names (items_at (codes "prototypes") d);
  types = map (prototype_type components compositions) (items_at (codes "prototypes") d);
}

-- the data types and the mode groups
abbrev pub type_lists : Data → TypeLists
type_lists d = record {
  data_types = short_names (items_at (codes "dataTypes") d);
  mode_groups = short_names (items_at (codes "modeGroups") d);
  modes = map mode_firsts (items_at (codes "modeGroups") d);
}

-- the interfaces
abbrev pub interface_lists : Data → InterfaceLists
interface_lists d = record {
  names = short_names (items_at (codes "interfaces") d);
  items = map item_names (items_at (codes "interfaces") d);
  arguments = map (operation_firsts (codes "arguments")) (items_at (codes "interfaces") d);
  errors = map (operation_firsts (codes "errors")) (items_at (codes "interfaces") d);
}

-- the components and the compositions
abbrev pub prototype_lists : (interfaces : Names) → Data → PrototypeLists
prototype_lists interfaces d = record {
  components = short_names (items_at (codes "components") d);
  compositions = short_names (items_at (codes "compositions") d);
  in_components = map (component_lists interfaces) (items_at (codes "components") d);
  in_compositions = map (composition_lists interfaces (short_names (items_at (codes "components") d)) (short_names (items_at (codes "compositions") d))) (items_at (codes "compositions") d);
}

-- what the mapping declares
abbrev pub mapping_lists : Data → MappingLists
mapping_lists m = record {
  tasks = short_names (items_at (codes "tasks") m);
  positions = first_places (map position_text (items_at (codes "events") m));
}

-- all of these
abbrev pub catalog_of : Data → Catalog
catalog_of d = record {
  types = type_lists d;
  interfaces = interface_lists d;
  prototypes = prototype_lists (interface_lists d).names d;
  mapping = mapping_lists (value_at (codes "mapping") d);
}
