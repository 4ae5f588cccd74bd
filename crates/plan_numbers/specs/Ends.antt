-- Ends as keys.
use Rattle.std.specs.Prelude.{ℕ, List, [], ◌∷◌, Bool, true, false, ◌&&◌, nat_eq, Option, Some, None, if◌then◌else◌}
use Rattle.std.specs.Option.{option_eq}
use Rattle.description_types.specs.declared.interface.InterfaceKind.{InterfaceKind}
use Rattle.description_types.specs.declared.interface.InterfaceKind.TheVariants.{SenderReceiver, ClientServer, ModeSwitch}
use Rattle.plan_definitions.specs.Common.{Description, End, Flat, Join, interface_of}

abbrev pub EndKey : Type 0
EndKey = Option ℕ × ℕ × ℕ

abbrev pub key_of : End → EndKey
key_of e = (e.instance, e.port, e.element)

abbrev pub same_end_key : EndKey → EndKey → Bool
same_end_key a b = (option_eq nat_eq a.0 b.0 && nat_eq a.1 b.1) && nat_eq a.2 b.2

-- what a port of this interface has may be served: it is an operation or a mode element
abbrev pub may_serve : Option InterfaceKind → Bool
may_serve (Some (SenderReceiver elements)) = false
may_serve (Some (ClientServer operations)) = true
may_serve (Some (ModeSwitch element)) = true
may_serve None = true

-- the item at an end may be served
abbrev pub is_served : Description → Flat → End → Bool
is_served d f e = may_serve (interface_of d f e.instance e.port)

-- the required end of a join as a key, with the provided one, if its item may be served
abbrev pub served_entry : Description → Flat → Join → List (EndKey × End)
served_entry d f j = if is_served d f j.required then (key_of j.required, j.provided) ∷ [] else []
