-- What the ports of components and compositions are read as.
use Rattle.std.specs.Prelude.{ℕ, ℤ, ◌^◌, List, map, bytes_eq, codes, if◌then◌else◌, Option, option_map}
use Rattle.serde_json.specs.Data.{Data}
use Rattle.serde_json.specs.Find.{get}
use Rattle.description_types.specs.declared.interface.ComSpec.{ComSpec}
use Rattle.description_types.specs.declared.component.Port.{Port}
use Rattle.description_types.specs.declared.component.PortKind.{PortKind}
use Rattle.description_types.specs.declared.component.PortKind.TheVariants.{Provided, Required}
use Rattle.declared_names.specs.declared.scopes.InterfaceNames.{InterfaceNames}
use Rattle.declared_names.specs.Components.{interface_of_port}
use Rattle.declared_names.specs.Names.{Names, position_at}
use Rattle.declared_names.specs.Values.{flag_at, items_at, items_in, number_at, text_at, word_in}

-- the initial value of a com spec or variable, if there is one
abbrev pub init_value_reading : Data → Option (List ℤ)
init_value_reading d = option_map (λ v. map word_in (items_in v)) (get (codes "initValue") d)

-- a com spec (PPortComSpec, RPortComSpec) of a port with this interface
abbrev pub com_spec_reading : (items : List Names) → (interface : ℕ) → Data → ComSpec
com_spec_reading items interface d = record {
  element = position_at items interface (text_at (codes "element") d);
  init_value = init_value_reading d;
  handle_never_received = flag_at (codes "handleNeverReceived") d;
  queue_length = number_at (2 ^ 32) 1 (codes "queueLength") d;
  supports_asynchronous_mode_switch = flag_at (codes "supportsAsynchronousModeSwitch") d;
}

abbrev pub port_kind_reading : List ℕ → PortKind
port_kind_reading kind = if bytes_eq kind (codes "RPortPrototype") then Required else Provided

-- a port (PortPrototype)
abbrev pub port_reading : InterfaceNames → Data → Port
port_reading names d = record {
  kind = port_kind_reading (text_at (codes "kind") d);
  short_name = text_at (codes "shortName") d;
  interface = interface_of_port names d;
  com_specs = map (com_spec_reading names.items (interface_of_port names d)) (items_at (codes "comSpecs") d);
}
