-- What the names within a component refer to.
use Rattle.std.specs.Prelude.{ℕ, List, map, slice_get, codes, Option, Some, None}
use Rattle.serde_json.specs.Data.{Data}
use Rattle.declared_names.specs.declared.in_component.ComponentNames.{ComponentNames}
use Rattle.declared_names.specs.declared.scopes.InterfaceNames.{InterfaceNames}
use Rattle.declared_names.specs.Names.{Names, position_at, position_in, short_names, texts}
use Rattle.declared_names.specs.Scopes.{port_names}
use Rattle.declared_names.specs.Values.{items_at, text_at}

-- the interface of a port
abbrev pub interface_of_port : InterfaceNames → Data → ℕ
interface_of_port names d = position_in names.interfaces (text_at (codes "interface") d)

-- what a component's ports and behavior declare
abbrev pub component_names : InterfaceNames → (component : Data) → (behavior : Data) → ComponentNames
component_names interfaces d b = record {
  ports = port_names d;
  port_interfaces = map (interface_of_port interfaces) (items_at (codes "ports") d);
  areas = texts (items_at (codes "exclusiveAreas") b);
  variables = short_names (items_at (codes "variables") b);
  runnables = short_names (items_at (codes "runnables") b);
}

-- an item and a mode of the interface of the port at this position
abbrev pub position_beyond : List Names → (interface : Option ℕ) → List ℕ → ℕ
position_beyond lists None name = 0
position_beyond lists (Some i) name = position_at lists i name

abbrev pub item_in : InterfaceNames → ComponentNames → (port : ℕ) → List ℕ → ℕ
item_in interfaces names port name = position_beyond interfaces.items (slice_get names.port_interfaces port) name

abbrev pub mode_in : InterfaceNames → ComponentNames → (port : ℕ) → List ℕ → ℕ
mode_in interfaces names port name = position_beyond interfaces.modes (slice_get names.port_interfaces port) name
