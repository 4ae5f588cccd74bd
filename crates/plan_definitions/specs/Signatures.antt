-- What a runnable may access, with the limits of the words that go through each access (SWS_RTE: the signatures of the RTE's
-- calls).
use Rattle.std.specs.Prelude.{ℕ, pos, List, [], map, filter, replicate, Bool, true, false, Option, slice_get, option_map, option_and_then}
use Rattle.bus_semantics.specs.Common.{option_map_or, Limits, AccessKind, AccessSig}
use Rattle.runnable_lang.specs.declared.program.AccessKind.TheVariants as kind
use Rattle.description_types.specs.declared.base_type.DataType.{DataType}
use Rattle.description_types.specs.declared.interface.Argument.{Argument}
use Rattle.description_types.specs.declared.interface.Direction.{Direction}
use Rattle.description_types.specs.declared.interface.Direction.TheVariants.{In, Out}
use Rattle.description_types.specs.declared.interface.InterfaceKind.{InterfaceKind}
use Rattle.description_types.specs.declared.interface.InterfaceKind.TheVariants.{SenderReceiver, ClientServer, ModeSwitch}
use Rattle.description_types.specs.declared.interface.TypeTable.{TypeTable}
use Rattle.description_types.specs.declared.component.Access.{Access}
use Rattle.description_types.specs.declared.component.Component.{Component}
use Rattle.plan_definitions.specs.declared.item.Item.{Item}
use Rattle.plan_definitions.specs.declared.item.Item.TheVariants.{Modes}
use Rattle.plan_definitions.specs.Items.{item_at}

-- the limits of a type, and those of each of its words; of no type there are none
abbrev pub limits_of : List DataType → ℕ → Limits
limits_of types n = option_map_or (λ t. t.limits) (slice_get types n) (record { low = pos 0; high = pos 0 })

abbrev pub words_of : List DataType → ℕ → List Limits
words_of types n = option_map_or (λ t. replicate t.words t.limits) (slice_get types n) []

abbrev pub goes : Direction → Argument → Bool
goes In a = is_in a.direction
  where
    is_in : Direction → Bool
    is_in In = true
    is_in Out = false
goes Out a = is_out a.direction
  where
    is_out : Direction → Bool
    is_out In = false
    is_out Out = true

-- the limits of the arguments of one direction, in declared order
abbrev pub arguments_of : List DataType → Direction → List Argument → List Limits
arguments_of types way arguments = map (λ a. limits_of types a.of_type) (filter (goes way) arguments)

-- what goes through an item: the words of a data element, either way; an operation's arguments of the direction
abbrev pub words_of_item : TypeTable → Direction → InterfaceKind → ℕ → List Limits
words_of_item types way (SenderReceiver elements) n = option_map_or (λ e. words_of types.data_types e.of_type) (slice_get elements n) []
words_of_item types way (ClientServer operations) n = option_map_or (λ o. arguments_of types.data_types way o.arguments) (slice_get operations n) []
words_of_item types way (ModeSwitch element) n = []

abbrev pub kind_at : TypeTable → Component → (port : ℕ) → Option InterfaceKind
kind_at types c k = option_map (λ i. i.kind) (option_and_then (λ port. slice_get types.interfaces port.interface) (slice_get c.ports k))

abbrev pub words_at : TypeTable → Direction → Component → (port : ℕ) → (item : ℕ) → List Limits
words_at types way c k n = option_map_or (λ kind. words_of_item types way kind n) (kind_at types c k) []

abbrev pub words_of_variable : TypeTable → Component → ℕ → List Limits
words_of_variable types c n = option_map_or (λ v. words_of types.data_types v.of_type) (slice_get c.behavior.variables n) []

-- what a statement with this access gives
abbrev pub given : TypeTable → Component → Access → List Limits
given types c a = by_kind a.kind
  where
    by_kind : AccessKind → List Limits
    by_kind kind.Write = words_at types In c a.port a.item
    by_kind kind.Send = words_at types In c a.port a.item
    by_kind kind.IWrite = words_at types In c a.port a.item
    by_kind kind.Call = words_at types In c a.port a.item
    by_kind kind.ACall = words_at types In c a.port a.item
    by_kind kind.IrvWrite = words_of_variable types c a.item
    by_kind kind.IrvIWrite = words_of_variable types c a.item
    by_kind _ = []

-- what it takes
abbrev pub taken : TypeTable → Component → Access → List Limits
taken types c a = by_kind a.kind
  where
    by_kind : AccessKind → List Limits
    by_kind kind.Read = words_at types Out c a.port a.item
    by_kind kind.Receive = words_at types Out c a.port a.item
    by_kind kind.IRead = words_at types Out c a.port a.item
    by_kind kind.Call = words_at types Out c a.port a.item
    by_kind kind.TakeResult = words_at types Out c a.port a.item
    by_kind kind.IrvRead = words_of_variable types c a.item
    by_kind kind.IrvIRead = words_of_variable types c a.item
    by_kind _ = []

-- how many modes the port has, if the access is of a mode port
abbrev pub mode_count : Item → ℕ
mode_count (Modes n) = n
mode_count _ = 0

abbrev pub modes_of : TypeTable → Component → Access → ℕ
modes_of types c a = by_kind a.kind
  where
    at_port : ℕ
    at_port = option_map_or (λ x. mode_count x.1) (item_at types c.ports a.port a.item) 0

    by_kind : AccessKind → ℕ
    by_kind kind.Switch = at_port
    by_kind kind.Mode = at_port
    by_kind _ = 0

abbrev pub access_sig : TypeTable → Component → Access → AccessSig
access_sig types c a = record { kind = a.kind; port = a.port; item = a.item; ins = given types c a; outs = taken types c a; modes = modes_of types c a }

-- the signature of accesses of a component
abbrev pub signature : TypeTable → Component → List Access → List AccessSig
signature types c accesses = map (access_sig types c) accesses
