-- Names of ends, as in a trace: the path of the instance or `env`, the port and the item, with dots between.
use Rattle.std.specs.Prelude.{ℕ, List, [], ◌++◌, codes, slice_get, Option, Some, None}
use Rattle.std.specs.Option.{option_map_or}
use Rattle.description_types.specs.declared.interface.InterfaceKind.{InterfaceKind}
use Rattle.description_types.specs.declared.interface.InterfaceKind.TheVariants.{SenderReceiver, ClientServer, ModeSwitch}
use Rattle.description_types.specs.declared.component.Port.{Port}
use Rattle.description_types.specs.declared.description.Description.{Description}
use Rattle.description_types.specs.declared.description.PrototypeType.TheVariants as of_type
use Rattle.description_types.specs.declared.flat.End.{End}
use Rattle.description_types.specs.declared.flat.Flat.{Flat}
use Rattle.plan_definitions.specs.Connectors.{ports_of}

-- the short name of an item of an interface
abbrev pub item_name : InterfaceKind → ℕ → List ℕ
item_name (SenderReceiver elements) n = option_map_or (λ x. x.short_name) (slice_get elements n) []
item_name (ClientServer operations) n = option_map_or (λ x. x.short_name) (slice_get operations n) []
item_name (ModeSwitch element) n = element.short_name

abbrev pub item_of_port : Description → Port → ℕ → List ℕ
item_of_port d port n = option_map_or (λ i. item_name i.kind n) (slice_get d.types.interfaces port.interface) []

-- a port and its item
abbrev pub item_text : Description → Option Port → ℕ → List ℕ
item_text d None n = []
item_text d (Some port) n = (port.short_name ++ codes ".") ++ item_of_port d port n

-- who has the port: an instance or the environment
abbrev pub owner_name : Flat → Option ℕ → List ℕ
owner_name f (Some i) = option_map_or (λ x. x.path) (slice_get f.instances i) []
owner_name f None = codes "env"

abbrev pub owner_ports : Description → Flat → Option ℕ → List Port
owner_ports d f (Some i) = option_map_or (λ x. ports_of d (of_type.Component x.component)) (slice_get f.instances i) []
owner_ports d f None = ports_of d (of_type.Composition d.root)

abbrev pub end_text : Description → Flat → End → List ℕ
end_text d f e = (owner_name f e.instance ++ codes ".") ++ item_text d (slice_get (owner_ports d f e.instance) e.port) e.element
