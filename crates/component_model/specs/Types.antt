-- What the types of a description are read as.
use Rattle.std.specs.Prelude.{ℕ, ◌^◌, List, map, bytes_eq, codes, if◌then◌else◌}
use Rattle.serde_json.specs.Data.{Data}
use Rattle.description_types.specs.declared.base_type.BaseType.{BaseType}
use Rattle.description_types.specs.declared.base_type.BaseType.TheVariants as base
use Rattle.description_types.specs.declared.base_type.DataType.{DataType}
use Rattle.description_types.specs.declared.interface.ApplicationError.{ApplicationError}
use Rattle.description_types.specs.declared.interface.Argument.{Argument}
use Rattle.description_types.specs.declared.interface.DataElement.{DataElement}
use Rattle.description_types.specs.declared.interface.Direction.{Direction}
use Rattle.description_types.specs.declared.interface.Direction.TheVariants.{In, Out}
use Rattle.description_types.specs.declared.interface.Interface.{Interface}
use Rattle.description_types.specs.declared.interface.InterfaceKind.{InterfaceKind}
use Rattle.description_types.specs.declared.interface.InterfaceKind.TheVariants.{SenderReceiver, ClientServer, ModeSwitch}
use Rattle.description_types.specs.declared.interface.ModeElement.{ModeElement}
use Rattle.description_types.specs.declared.interface.ModeGroup.{ModeGroup}
use Rattle.description_types.specs.declared.interface.Operation.{Operation}
use Rattle.description_types.specs.declared.interface.SwImplPolicy.{SwImplPolicy}
use Rattle.description_types.specs.declared.interface.SwImplPolicy.TheVariants.{Standard, Queued}
use Rattle.description_types.specs.declared.interface.TypeTable.{TypeTable}
use Rattle.declared_names.specs.declared.scopes.TypeNames.{TypeNames}
use Rattle.declared_names.specs.Names.{position_in, texts}
use Rattle.declared_names.specs.Values.{items_at, number_at, text_at, text_at_in, word_at}

-- the base type of a name
abbrev pub base_type_reading : List ℕ → BaseType
base_type_reading name =
    if bytes_eq name (codes "boolean") then base.Boolean else
    (if bytes_eq name (codes "uint8") then base.Uint8 else
    (if bytes_eq name (codes "uint16") then base.Uint16 else
    (if bytes_eq name (codes "uint32") then base.Uint32 else
    (if bytes_eq name (codes "sint8") then base.Sint8 else
    (if bytes_eq name (codes "sint16") then base.Sint16 else base.Sint32)))))

-- a data type (ImplementationDataType)
abbrev pub data_type_reading : Data → DataType
data_type_reading d = record {
  base = base_type_reading (text_at (codes "baseType") d);
  limits = record { low = word_at (codes "lower") d; high = word_at (codes "upper") d };
  words = number_at (2 ^ 8) 0 (codes "words") d;
}

-- a mode group (ModeDeclarationGroup)
abbrev pub mode_group_reading : Data → ModeGroup
mode_group_reading d = record {
  short_name = text_at (codes "shortName") d;
  modes = texts (items_at (codes "modes") d);
  initial_mode = position_in (texts (items_at (codes "modes") d)) (text_at (codes "initialMode") d);
}

-- a data element (VariableDataPrototype)
abbrev pub policy_reading : List ℕ → SwImplPolicy
policy_reading word = if bytes_eq word (codes "queued") then Queued else Standard

abbrev pub data_element_reading : TypeNames → Data → DataElement
data_element_reading names d = record {
  short_name = text_at (codes "shortName") d;
  of_type = position_in names.data_types (text_at (codes "type") d);
  sw_impl_policy = policy_reading (text_at (codes "swImplPolicy") d);
}

-- an operation (ClientServerOperation) with its arguments (ArgumentDataPrototype) and errors (ApplicationError)
abbrev pub direction_reading : List ℕ → Direction
direction_reading word = if bytes_eq word (codes "out") then Out else In

abbrev pub argument_reading : TypeNames → Data → Argument
argument_reading names d = record {
  short_name = text_at (codes "shortName") d;
  of_type = position_in names.data_types (text_at (codes "type") d);
  direction = direction_reading (text_at (codes "direction") d);
}

abbrev pub error_reading : Data → ApplicationError
error_reading d = record { short_name = text_at (codes "shortName") d; code = number_at (2 ^ 8) 0 (codes "code") d }

abbrev pub operation_reading : TypeNames → Data → Operation
operation_reading names d = record {
  short_name = text_at (codes "shortName") d;
  arguments = map (argument_reading names) (items_at (codes "arguments") d);
  errors = map error_reading (items_at (codes "errors") d);
}

-- the mode element of an interface (ModeDeclarationGroupPrototype)
abbrev pub mode_element_reading : TypeNames → Data → ModeElement
mode_element_reading names d = record {
  short_name = text_at_in (codes "modeGroup") (codes "shortName") d;
  of_type = position_in names.mode_groups (text_at_in (codes "modeGroup") (codes "type") d);
}

-- an interface (PortInterface)
abbrev pub interface_kind_reading : TypeNames → List ℕ → Data → InterfaceKind
interface_kind_reading names kind d =
    if bytes_eq kind (codes "ClientServerInterface") then ClientServer (map (operation_reading names) (items_at (codes "operations") d)) else
    (if bytes_eq kind (codes "ModeSwitchInterface") then ModeSwitch (mode_element_reading names d) else
    SenderReceiver (map (data_element_reading names) (items_at (codes "dataElements") d)))

abbrev pub interface_reading : TypeNames → Data → Interface
interface_reading names d = record {
  short_name = text_at (codes "shortName") d;
  kind = interface_kind_reading names (text_at (codes "kind") d) d;
}

-- the types of a description
abbrev pub types_reading : TypeNames → Data → TypeTable
types_reading names d = record {
  data_types = map data_type_reading (items_at (codes "dataTypes") d);
  mode_groups = map mode_group_reading (items_at (codes "modeGroups") d);
  interfaces = map (interface_reading names) (items_at (codes "interfaces") d);
}
