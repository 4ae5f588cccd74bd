-- What the names of a description refer to: the lists that declare them.
use Rattle.std.specs.Prelude.{List, [], ◌∷◌, map, slice_get, bytes_eq, codes, if◌then◌else◌, Option, Some, None}
use Rattle.serde_json.specs.Data.{Data}
use Rattle.declared_names.specs.declared.scopes.InterfaceNames.{InterfaceNames}
use Rattle.declared_names.specs.declared.scopes.PrototypeNames.{PrototypeNames}
use Rattle.declared_names.specs.declared.scopes.Scope.{Scope}
use Rattle.declared_names.specs.declared.scopes.TypeNames.{TypeNames}
use Rattle.declared_names.specs.Names.{Names, position_in, short_names, texts}
use Rattle.declared_names.specs.Values.{items_at, text_at, text_at_in}

-- the data types and the mode groups of the description
abbrev pub type_names : Data → TypeNames
type_names d = record {
  data_types = short_names (items_at (codes "dataTypes") d);
  mode_groups = short_names (items_at (codes "modeGroups") d);
}

-- the items of an interface: its data elements, its operations or its mode element
abbrev pub item_names : Data → Names
item_names i =
    if bytes_eq (text_at (codes "kind") i) (codes "ClientServerInterface") then short_names (items_at (codes "operations") i) else
    (if bytes_eq (text_at (codes "kind") i) (codes "ModeSwitchInterface") then text_at_in (codes "modeGroup") (codes "shortName") i ∷ [] else
    short_names (items_at (codes "dataElements") i))

-- the modes of an interface: those of its mode element's group, if it has one
abbrev pub modes_in : Option Data → Names
modes_in None = []
modes_in (Some g) = texts (items_at (codes "modes") g)

abbrev pub mode_names : (group_names : Names) → List Data → Data → Names
mode_names group_names groups i = modes_in (slice_get groups (position_in group_names (text_at_in (codes "modeGroup") (codes "type") i)))

-- the arguments of an operation, and of each operation of an interface
abbrev pub operation_arguments : Data → Names
operation_arguments o = short_names (items_at (codes "arguments") o)

abbrev pub argument_names : Data → List Names
argument_names i = map operation_arguments (items_at (codes "operations") i)

-- the interfaces of the description
abbrev pub interface_names : (group_names : Names) → Data → InterfaceNames
interface_names group_names d = record {
  interfaces = short_names (items_at (codes "interfaces") d);
  items = map item_names (items_at (codes "interfaces") d);
  modes = map (mode_names group_names (items_at (codes "modeGroups") d)) (items_at (codes "interfaces") d);
  arguments = map argument_names (items_at (codes "interfaces") d);
}

-- the ports of a component or composition
abbrev pub port_names : Data → Names
port_names d = short_names (items_at (codes "ports") d)

-- the components and the compositions of the description
abbrev pub prototype_names : Data → PrototypeNames
prototype_names d = record {
  components = short_names (items_at (codes "components") d);
  compositions = short_names (items_at (codes "compositions") d);
  component_ports = map port_names (items_at (codes "components") d);
  composition_ports = map port_names (items_at (codes "compositions") d);
}

-- all of these
abbrev pub scope_of : Data → Scope
scope_of d = record {
  types = type_names d;
  interfaces = interface_names (type_names d).mode_groups d;
  prototypes = prototype_names d;
}
