-- What a port of a component has (Software Component Template: PortPrototype, PortInterface).
use Rattle.std.specs.Prelude.{ℕ, List, length, Option, slice_get, option_map, option_and_then}
use Rattle.description_types.specs.declared.interface.InterfaceKind.{InterfaceKind}
use Rattle.description_types.specs.declared.interface.InterfaceKind.TheVariants.{SenderReceiver, ClientServer, ModeSwitch}
use Rattle.description_types.specs.declared.interface.TypeTable.{TypeTable}
use Rattle.description_types.specs.declared.component.Port.{Port}
use Rattle.description_types.specs.declared.component.PortKind.{PortKind}
use Rattle.plan_definitions.specs.declared.item.Item.{Item}
use Rattle.plan_definitions.specs.declared.item.Item.TheVariants.{Data, Operation, Modes}

-- The item of an interface at a position. A mode element is the only one of its interface, and stands for each position.
abbrev pub item_of : TypeTable → InterfaceKind → ℕ → Option Item
item_of types (SenderReceiver elements) n = option_map (λ e. Data e.sw_impl_policy) (slice_get elements n)
item_of types (ClientServer operations) n = option_map (λ o. Operation) (slice_get operations n)
item_of types (ModeSwitch element) n = option_map (λ g. Modes (length g.modes)) (slice_get types.mode_groups element.of_type)

abbrev pub item_of_port : TypeTable → Port → ℕ → Option Item
item_of_port types port n = option_and_then (λ i. item_of types i.kind n) (slice_get types.interfaces port.interface)

-- the side of a port, and the item that it has at a position
abbrev pub item_at : TypeTable → List Port → (port : ℕ) → (item : ℕ) → Option (PortKind × Item)
item_at types ports k n = option_and_then (λ port. option_map (λ item. (port.kind, item)) (item_of_port types port n)) (slice_get ports k)
