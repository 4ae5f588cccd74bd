-- Kinds that are found by a word of the value.
use Rattle.std.specs.Prelude.{ℕ, List, [], ◌∷◌, codes, Option, Some, None, bytes_eq, is_some, option_and_then, if◌then◌else◌}
use Rattle.std.specs.List.{find}
use Prim.Native.String.{String}
use Rattle.serde_json.specs.Data.{Data}
use Rattle.serde_json.specs.Find.{get, at, as_number, as_str}
use Rattle.description_shapes.specs.declared.alternatives.Alternative.{Alternative}
use Rattle.description_shapes.specs.declared.kind.Kind.{Kind}
use Rattle.description_shapes.specs.declared.kind.Kind.TheVariants.{SenderReceiverInterface, ClientServerInterface, ModeSwitchInterface, UnknownInterface, TimingEvent, InitEvent}
use Rattle.description_shapes.specs.declared.kind.Kind.TheVariants.{DataReceivedEvent, OperationInvokedEvent, CallReturnsEvent, ModeSwitchEvent, ModeTransitionEvent, ModeSwitchAckEvent}
use Rattle.description_shapes.specs.declared.kind.Kind.TheVariants.{UnknownEvent, AssemblyConnector, DelegationConnector, UnknownConnector, Interface, Event, Connector, Access, Statement}
use Rattle.description_shapes.specs.declared.kind.Kind.TheVariants.{Expression, ItemAccess, VariableAccess, PortAccess, AreaAccess, UnknownAccess, SetStatement, IfStatement, RepeatStatement}
use Rattle.description_shapes.specs.declared.kind.Kind.TheVariants.{AreaStatement, GivingStatement, TakingStatement, ItemStatement, LateWrite, EarlyRead, VariableWrite, VariableRead}
use Rattle.description_shapes.specs.declared.kind.Kind.TheVariants.{CallStatement, SwitchStatement, ModeStatement, UnknownStatement, Operator, UnknownExpression, LocalName, Constant}

-- a word, and the kind that it names
pub record Choice : Type 0 where
  pub word : List ℕ
  pub kind : Kind

abbrev pub choice : String → Kind → Choice
choice word kind = record { word = codes word; kind = kind }

-- the choice that a line of the program's table stands for
abbrev pub choice_of : Alternative → Choice
choice_of a = record { word = a.word.now; kind = a.kind }

-- the words that a value of the kind may name its own kind by
abbrev pub choices_of : Kind → List Choice
choices_of Interface =
    choice "SenderReceiverInterface" SenderReceiverInterface ∷
    choice "ClientServerInterface" ClientServerInterface ∷
    choice "ModeSwitchInterface" ModeSwitchInterface ∷
    []
choices_of Event =
    choice "TimingEvent" TimingEvent ∷
    choice "InitEvent" InitEvent ∷
    choice "DataReceivedEvent" DataReceivedEvent ∷
    choice "OperationInvokedEvent" OperationInvokedEvent ∷
    choice "AsynchronousServerCallReturnsEvent" CallReturnsEvent ∷
    choice "SwcModeSwitchEvent" ModeSwitchEvent ∷
    choice "ModeSwitchedAckEvent" ModeSwitchAckEvent ∷
    []
choices_of Connector =
    choice "AssemblySwConnector" AssemblyConnector ∷
    choice "DelegationSwConnector" DelegationConnector ∷
    []
choices_of Access =
    choice "write" ItemAccess ∷
    choice "read" ItemAccess ∷
    choice "invalidate" ItemAccess ∷
    choice "isUpdated" ItemAccess ∷
    choice "send" ItemAccess ∷
    choice "receive" ItemAccess ∷
    choice "iwrite" ItemAccess ∷
    choice "iread" ItemAccess ∷
    choice "call" ItemAccess ∷
    choice "acall" ItemAccess ∷
    choice "result" ItemAccess ∷
    choice "irvWrite" VariableAccess ∷
    choice "irvRead" VariableAccess ∷
    choice "irvIWrite" VariableAccess ∷
    choice "irvIRead" VariableAccess ∷
    choice "switch" PortAccess ∷
    choice "mode" PortAccess ∷
    choice "enter" AreaAccess ∷
    []
choices_of Statement =
    choice "set" SetStatement ∷
    choice "if" IfStatement ∷
    choice "repeat" RepeatStatement ∷
    choice "area" AreaStatement ∷
    choice "write" GivingStatement ∷
    choice "read" TakingStatement ∷
    choice "invalidate" ItemStatement ∷
    choice "isUpdated" ItemStatement ∷
    choice "send" GivingStatement ∷
    choice "receive" TakingStatement ∷
    choice "iwrite" LateWrite ∷
    choice "iread" EarlyRead ∷
    choice "irvWrite" VariableWrite ∷
    choice "irvRead" VariableRead ∷
    choice "irvIWrite" VariableWrite ∷
    choice "irvIRead" VariableRead ∷
    choice "call" CallStatement ∷
    choice "acall" GivingStatement ∷
    choice "result" TakingStatement ∷
    choice "switch" SwitchStatement ∷
    choice "mode" ModeStatement ∷
    []
choices_of Expression =
    choice "add" Operator ∷
    choice "sub" Operator ∷
    choice "mul" Operator ∷
    choice "div" Operator ∷
    choice "eq" Operator ∷
    choice "ne" Operator ∷
    choice "lt" Operator ∷
    choice "le" Operator ∷
    []
choices_of ModeSwitchEvent =
    choice "onTransition" ModeTransitionEvent ∷
    []
choices_of _ = []

abbrev pub kind_of : Kind → Option Choice → Kind
kind_of other None = other
kind_of other (Some c) = c.kind

-- the kind that the word names, else the other
abbrev pub pick : List Choice → Kind → List ℕ → Kind
pick cs other word = kind_of other (find (λ c. bytes_eq c.word word) cs)

abbrev pub pick_if : List Choice → Kind → Option (List ℕ) → Kind
pick_if cs other None = other
pick_if cs other (Some word) = pick cs other word

-- the text at a key, and the text of the first part
abbrev pub word_at : List ℕ → Data → Option (List ℕ)
word_at key d = option_and_then as_str (get key d)

abbrev pub first_word : Data → Option (List ℕ)
first_word d = option_and_then as_str (at 0 d)

-- an event on a mode switch names two modes if it comes on transition, else one
abbrev pub by_activation : Kind → Data → Kind
by_activation ModeSwitchEvent d = pick_if (choices_of ModeSwitchEvent) ModeSwitchEvent (word_at (codes "activation") d)
by_activation kind d = kind

-- an expression is a constant, a variable's name or an operator with two expressions
abbrev pub expression_kind : Data → Kind
expression_kind d =
    if is_some (as_number d) then Constant else
    (if is_some (as_str d) then LocalName else pick_if (choices_of Expression) UnknownExpression (first_word d))

-- the kind that a value is found to have
abbrev pub resolved : Kind → Data → Kind
resolved Interface d = pick_if (choices_of Interface) UnknownInterface (word_at (codes "kind") d)
resolved Event d = by_activation (pick_if (choices_of Event) UnknownEvent (word_at (codes "kind") d)) d
resolved Connector d = pick_if (choices_of Connector) UnknownConnector (word_at (codes "kind") d)
resolved Access d = pick_if (choices_of Access) UnknownAccess (first_word d)
resolved Statement d = pick_if (choices_of Statement) UnknownStatement (first_word d)
resolved Expression d = expression_kind d
resolved kind d = kind
