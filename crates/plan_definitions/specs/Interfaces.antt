-- When two interfaces are compatible (Software Component Template, compatibility of port interfaces). The first is the
-- provided one.
use Rattle.std.specs.Prelude.{ℕ, List, Bool, true, false, ◌&&◌, ◌==◌, length, nat_eq, bytes_eq, slice_get, Option, Some, zip}
use Rattle.std.specs.List.{list_all, list_any}
use Rattle.std.specs.Cmp.Lexicographic.{pointwise}
use Rattle.description_types.specs.declared.interface.ApplicationError.{ApplicationError}
use Rattle.description_types.specs.declared.interface.Argument.{Argument}
use Rattle.description_types.specs.declared.interface.DataElement.{DataElement}
use Rattle.description_types.specs.declared.interface.Direction.{Direction}
use Rattle.description_types.specs.declared.interface.Direction.TheVariants.{In, Out}
use Rattle.description_types.specs.declared.interface.Interface.{Interface}
use Rattle.description_types.specs.declared.interface.InterfaceKind.{InterfaceKind}
use Rattle.description_types.specs.declared.interface.InterfaceKind.TheVariants.{SenderReceiver, ClientServer, ModeSwitch}
use Rattle.description_types.specs.declared.interface.ModeElement.{ModeElement}
use Rattle.description_types.specs.declared.interface.ModeGroup.{ModeGroup}
use Rattle.description_types.specs.declared.interface.Operation.{Operation}
use Rattle.description_types.specs.declared.interface.SwImplPolicy.{SwImplPolicy}
use Rattle.description_types.specs.declared.interface.SwImplPolicy.TheVariants.{Standard, Queued}
use Rattle.description_types.specs.declared.interface.TypeTable.{TypeTable}
use Rattle.plan_definitions.specs.Types.{agree, types_agree}

abbrev pub same_policy : SwImplPolicy → SwImplPolicy → Bool
same_policy Standard Standard = true
same_policy Queued Queued = true
same_policy _ _ = false

abbrev pub same_direction : Direction → Direction → Bool
same_direction In In = true
same_direction Out Out = true
same_direction _ _ = false

-- Sender-receiver: each required element has a provided one of the same short name, with a compatible type and the same
-- swImplPolicy.
abbrev pub serves_element : TypeTable → DataElement → DataElement → Bool
serves_element types p r = bytes_eq p.short_name r.short_name && (types_agree types.data_types p.of_type r.of_type && same_policy p.sw_impl_policy r.sw_impl_policy)

abbrev pub serve_elements : TypeTable → List DataElement → List DataElement → Bool
serve_elements types ps rs = list_all (λ r. list_any (λ p. serves_element types p r) ps) rs

-- Client-server: each required operation has a provided one of the same short name, with equally many arguments that agree
-- in order, and each error of the provided operation is declared by the required one.
abbrev pub same_argument : TypeTable → Argument → Argument → Bool
same_argument types p r = bytes_eq p.short_name r.short_name && (same_direction p.direction r.direction && types_agree types.data_types p.of_type r.of_type)

abbrev pub same_arguments : TypeTable → List Argument → List Argument → Bool
same_arguments types ps rs = (length ps == length rs) && list_all (λ x. same_argument types x.0 x.1) (zip ps rs)

abbrev pub same_error : ApplicationError → ApplicationError → Bool
same_error p r = bytes_eq p.short_name r.short_name && nat_eq p.code r.code

abbrev pub declares_errors : List ApplicationError → List ApplicationError → Bool
declares_errors ps rs = list_all (λ p. list_any (λ r. same_error p r) rs) ps

abbrev pub serves_operation : TypeTable → Operation → Operation → Bool
serves_operation types p r = bytes_eq p.short_name r.short_name && (same_arguments types p.arguments r.arguments && declares_errors p.errors r.errors)

abbrev pub serve_operations : TypeTable → List Operation → List Operation → Bool
serve_operations types ps rs = list_all (λ r. list_any (λ p. serves_operation types p r) ps) rs

-- Mode switch: the mode lists are equal in order, and so are the initial modes.
abbrev pub same_modes : ModeGroup → ModeGroup → Bool
same_modes a b = pointwise bytes_eq a.modes b.modes && nat_eq a.initial_mode b.initial_mode

abbrev pub groups_agree : TypeTable → ModeElement → ModeElement → Bool
groups_agree types p r = agree same_modes (slice_get types.mode_groups p.of_type) (slice_get types.mode_groups r.of_type)

-- both interfaces are of one kind, and compatible as its lines above say
abbrev pub serves : TypeTable → InterfaceKind → InterfaceKind → Bool
serves types (SenderReceiver ps) (SenderReceiver rs) = serve_elements types ps rs
serves types (ClientServer ps) (ClientServer rs) = serve_operations types ps rs
serves types (ModeSwitch p) (ModeSwitch r) = groups_agree types p r
serves types _ _ = false

-- both are there, and the first serves the second
abbrev pub serves_in : TypeTable → Option Interface → Option Interface → Bool
serves_in types (Some p) (Some r) = serves types p.kind r.kind
serves_in types _ _ = false

-- the interfaces at two positions are compatible
abbrev pub are_compatible : TypeTable → ℕ → ℕ → Bool
are_compatible types p r = serves_in types (slice_get types.interfaces p) (slice_get types.interfaces r)

-- how many items an interface has
abbrev pub item_count : InterfaceKind → ℕ
item_count (SenderReceiver elements) = length elements
item_count (ClientServer operations) = length operations
item_count (ModeSwitch element) = 1
