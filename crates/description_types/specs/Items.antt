-- Which items of two interfaces are joined (Software Component Template: PortInterface). Data elements and operations are
-- joined by their short names, a mode element with the other interface's mode element whatever its name. Interfaces of
-- different kinds join nothing.
use Rattle.std.specs.Prelude.{◌≡◌, ℕ, List, map, slice_get, Option, Some, option_map}
use Rattle.description_types.specs.declared.description.Description.{Description}
use Rattle.description_types.specs.declared.interface.DataElement.{DataElement}
use Rattle.description_types.specs.declared.interface.InterfaceKind.{InterfaceKind}
use Rattle.description_types.specs.declared.interface.InterfaceKind.TheVariants.{SenderReceiver, ClientServer, ModeSwitch}
use Rattle.description_types.specs.declared.interface.Operation.{Operation}

abbrev pub interface_at : Description → ℕ → Option InterfaceKind
interface_at d i = option_map (λ x. x.kind) (slice_get d.types.interfaces i)

abbrev pub element_names : List DataElement → List (List ℕ)
element_names xs = map (λ x. x.short_name) xs

abbrev pub operation_names : List Operation → List (List ℕ)
operation_names xs = map (λ x. x.short_name) xs

-- one name stands at i in the one list and at j in the other
abbrev pub IsSameName : List (List ℕ) → List (List ℕ) → ℕ → ℕ → Type 0
IsSameName xs ys i j = (name : List ℕ) × (slice_get xs i ≡ Some name) × (slice_get ys j ≡ Some name)

-- the item i of the provided interface and the item j of the required one are joined, where their ports are
abbrev pub ItemsJoin : Option InterfaceKind → Option InterfaceKind → ℕ → ℕ → Type 0
ItemsJoin (Some (SenderReceiver xs)) (Some (SenderReceiver ys)) i j = IsSameName (element_names xs) (element_names ys) i j
ItemsJoin (Some (ClientServer xs)) (Some (ClientServer ys)) i j = IsSameName (operation_names xs) (operation_names ys) i j
ItemsJoin (Some (ModeSwitch x)) (Some (ModeSwitch y)) i j = (i ≡ 0) × (j ≡ 0)
ItemsJoin _ _ i j = ⊥
