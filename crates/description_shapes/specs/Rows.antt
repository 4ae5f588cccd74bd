-- The parts of arrays, and the words of the values that are one of some words.
use Rattle.std.specs.Prelude.{ℕ, List, [], ◌∷◌, codes}
use Rattle.std.specs.Borrow.{Bor}
use Rattle.description_shapes.specs.declared.kind.Kind.{Kind}
use Rattle.description_shapes.specs.declared.kind.Kind.TheVariants.{Anything, Expression, Statements, Expressions, LocalNames, PortOfPrototype, ItemAccess, VariableAccess, PortAccess}
use Rattle.description_shapes.specs.declared.kind.Kind.TheVariants.{AreaAccess, ItemPair, SetStatement, IfStatement, RepeatStatement, AreaStatement, GivingStatement, TakingStatement}
use Rattle.description_shapes.specs.declared.kind.Kind.TheVariants.{ItemStatement, LateWrite, EarlyRead, VariableWrite, VariableRead, CallStatement, SwitchStatement, ModeStatement, Operator}
use Rattle.description_shapes.specs.declared.kind.Kind.TheVariants.{ComponentPort, AccessItem, PairItem, AreaName, VariableName, ModeName, JoinedPrototype, JoinedPort, LocalName, BaseType}
use Rattle.description_shapes.specs.declared.kind.Kind.TheVariants.{Policy, Direction, PortKind, InterfaceKind, EventKind, ConnectorKind, Activation, RepeatCount}

-- what the parts of an array are, the first of a statement, access or operator its keyword
abbrev pub row_of : Kind → List Kind
row_of PortOfPrototype = JoinedPrototype ∷ JoinedPort ∷ []
row_of ItemAccess = Anything ∷ ComponentPort ∷ AccessItem ∷ []
row_of VariableAccess = Anything ∷ VariableName ∷ []
row_of PortAccess = Anything ∷ ComponentPort ∷ []
row_of AreaAccess = Anything ∷ AreaName ∷ []
row_of ItemPair = ComponentPort ∷ PairItem ∷ []
row_of SetStatement = Anything ∷ LocalName ∷ Expression ∷ []
row_of IfStatement = Anything ∷ Expression ∷ Statements ∷ Statements ∷ []
row_of RepeatStatement = Anything ∷ RepeatCount ∷ Statements ∷ []
row_of AreaStatement = Anything ∷ AreaName ∷ Statements ∷ []
row_of GivingStatement = Anything ∷ ComponentPort ∷ AccessItem ∷ Expressions ∷ LocalName ∷ []
row_of TakingStatement = Anything ∷ ComponentPort ∷ AccessItem ∷ LocalNames ∷ LocalName ∷ []
row_of ItemStatement = Anything ∷ ComponentPort ∷ AccessItem ∷ LocalName ∷ []
row_of LateWrite = Anything ∷ ComponentPort ∷ AccessItem ∷ Expressions ∷ []
row_of EarlyRead = Anything ∷ ComponentPort ∷ AccessItem ∷ LocalNames ∷ []
row_of VariableWrite = Anything ∷ VariableName ∷ Expressions ∷ []
row_of VariableRead = Anything ∷ VariableName ∷ LocalNames ∷ []
row_of CallStatement = Anything ∷ ComponentPort ∷ AccessItem ∷ Expressions ∷ LocalNames ∷ LocalName ∷ []
row_of SwitchStatement = Anything ∷ ComponentPort ∷ ModeName ∷ LocalName ∷ []
row_of ModeStatement = Anything ∷ ComponentPort ∷ LocalName ∷ []
row_of Operator = Anything ∷ Expression ∷ Expression ∷ []
row_of _ = []

-- the words that may stand there
abbrev pub words_of : Kind → List (List ℕ)
words_of BaseType = codes "boolean" ∷ codes "uint8" ∷ codes "uint16" ∷ codes "uint32" ∷ codes "sint8" ∷ codes "sint16" ∷ codes "sint32" ∷ []
words_of Policy = codes "standard" ∷ codes "queued" ∷ []
words_of Direction = codes "in" ∷ codes "out" ∷ []
words_of PortKind = codes "PPortPrototype" ∷ codes "RPortPrototype" ∷ []
words_of InterfaceKind = codes "SenderReceiverInterface" ∷ codes "ClientServerInterface" ∷ codes "ModeSwitchInterface" ∷ []
words_of EventKind = codes "TimingEvent" ∷ codes "InitEvent" ∷ codes "DataReceivedEvent" ∷ codes "OperationInvokedEvent" ∷ codes "AsynchronousServerCallReturnsEvent" ∷ codes "SwcModeSwitchEvent" ∷ codes "ModeSwitchedAckEvent" ∷ []
words_of ConnectorKind = codes "AssemblySwConnector" ∷ codes "DelegationSwConnector" ∷ []
words_of Activation = codes "onEntry" ∷ codes "onExit" ∷ codes "onTransition" ∷ []
words_of _ = []

-- the text that a word of the program's table stands for
abbrev pub text_of : Bor (List ℕ) → List ℕ
text_of s = s.now
