-- Initial values that fit their types.
use Rattle.std.specs.Prelude.{ℕ, ℤ, List, length, slice_get, Bool, true, false, ◌&&◌, ◌==◌, int_le, Option, Some, None, option_map, option_and_then}
use Rattle.std.specs.List.{list_all}
use Rattle.rte_value.specs.declared.kinds.Limits.{Limits}
use Rattle.description_types.specs.declared.base_type.DataType.{DataType}
use Rattle.description_types.specs.declared.interface.ComSpec.{ComSpec}
use Rattle.description_types.specs.declared.interface.InterfaceKind.{InterfaceKind}
use Rattle.description_types.specs.declared.interface.InterfaceKind.TheVariants.{SenderReceiver, ClientServer, ModeSwitch}
use Rattle.description_types.specs.declared.interface.TypeTable.{TypeTable}

-- a word within limits
abbrev pub is_within : Limits → ℤ → Bool
is_within l x = int_le l.low x && int_le x l.high

-- as many words as the type has, each within its limits
abbrev pub fits : DataType → List ℤ → Bool
fits t ws = (length ws == t.words) && list_all (is_within t.limits) ws

abbrev pub fits_type : Option DataType → List ℤ → Bool
fits_type None ws = false
fits_type (Some t) ws = fits t ws

-- an initial value, if there is one, fits its type
abbrev pub keeps : List DataType → (of_type : ℕ) → Option (List ℤ) → Bool
keeps types n None = true
keeps types n (Some ws) = fits_type (slice_get types n) ws

-- the type of an item of an interface, if the item is a data element
abbrev pub type_in : InterfaceKind → (item : ℕ) → Option ℕ
type_in (SenderReceiver es) item = option_map (λ e. e.of_type) (slice_get es item)
type_in (ClientServer os) item = None
type_in (ModeSwitch e) item = None

abbrev pub element_type : TypeTable → (interface : ℕ) → (item : ℕ) → Option ℕ
element_type types interface item = option_and_then (λ i. type_in i.kind item) (slice_get types.interfaces interface)

-- an initial value of a data element is judged, one of an operation or mode element is not
abbrev pub keeps_type : List DataType → Option ℕ → Option (List ℤ) → Bool
keeps_type types None init = true
keeps_type types (Some n) init = keeps types n init

abbrev pub keeps_element : TypeTable → (interface : ℕ) → ComSpec → Bool
keeps_element types interface s = keeps_type types.data_types (element_type types interface s.element) s.init_value
