-- The form of each kind of value.
use Rattle.description_shapes.specs.declared.form.Form.{Form}
use Rattle.description_shapes.specs.declared.form.Form.TheVariants as form
use Rattle.description_shapes.specs.declared.kind.Kind.{Kind}
use Rattle.description_shapes.specs.declared.kind.Kind.TheVariants.{Anything, DataType, ModeGroup, DataElement, Operation, Argument, OperationError, Component, Port, ComSpec, Variable}
use Rattle.description_shapes.specs.declared.kind.Kind.TheVariants.{Runnable, Composition, Prototype, Task, MappedEvent, Interface, Event, Connector, Access, Statement, Expression}
use Rattle.description_shapes.specs.declared.kind.Kind.TheVariants.{DataTypes, ModeGroups, DeclaredModes, Interfaces, DataElements, Operations, Arguments, OperationErrors, Components, Ports}
use Rattle.description_shapes.specs.declared.kind.Kind.TheVariants.{ComSpecs, Words, DeclaredAreas, Variables, Runnables, Accesses, CoherentLists, CoherentList, Statements, Events, OneMode}
use Rattle.description_shapes.specs.declared.kind.Kind.TheVariants.{TwoModes, SomeModes, Compositions, Prototypes, Connectors, Tasks, MappedEvents, Expressions, LocalNames, PortOfPrototype}
use Rattle.description_shapes.specs.declared.kind.Kind.TheVariants.{ItemAccess, VariableAccess, PortAccess, AreaAccess, UnknownAccess, ItemPair, SetStatement, IfStatement, RepeatStatement}
use Rattle.description_shapes.specs.declared.kind.Kind.TheVariants.{AreaStatement, GivingStatement, TakingStatement, ItemStatement, LateWrite, EarlyRead, VariableWrite, VariableRead}
use Rattle.description_shapes.specs.declared.kind.Kind.TheVariants.{CallStatement, SwitchStatement, ModeStatement, UnknownStatement, Operator, UnknownExpression, DeclaredName, DeclaredMode}
use Rattle.description_shapes.specs.declared.kind.Kind.TheVariants.{DeclaredArea, RootName, InitialMode, TypeName, GroupName, InterfaceName, ComSpecItem, RunnableName, ComponentPort}
use Rattle.description_shapes.specs.declared.kind.Kind.TheVariants.{EventItem, AccessItem, PairItem, AreaName, VariableName, ModeName, PrototypeTypeName, JoinedPrototype, JoinedPort}
use Rattle.description_shapes.specs.declared.kind.Kind.TheVariants.{OuterPort, TaskName, EventName, LocalName, InstancePath, BaseType, Policy, Direction, PortKind, InterfaceKind, EventKind}
use Rattle.description_shapes.specs.declared.kind.Kind.TheVariants.{ConnectorKind, Activation, Limit, Word, CoreNumber, Constant, WordCount, ErrorNumber, QueueLength, Period, CoreCount}
use Rattle.description_shapes.specs.declared.kind.Kind.TheVariants.{Position, RepeatCount, Flag}

-- what a value of the kind is: a kind that is not named here is an object
abbrev pub form_of : Kind → Form
form_of Anything = form.Anything
form_of DataTypes = form.List DataType
form_of ModeGroups = form.List ModeGroup
form_of DeclaredModes = form.Counted 1 32 DeclaredMode
form_of Interfaces = form.List Interface
form_of DataElements = form.List DataElement
form_of Operations = form.List Operation
form_of Arguments = form.List Argument
form_of OperationErrors = form.List OperationError
form_of Components = form.List Component
form_of Ports = form.List Port
form_of ComSpecs = form.List ComSpec
form_of Words = form.List Word
form_of DeclaredAreas = form.List DeclaredArea
form_of Variables = form.List Variable
form_of Runnables = form.List Runnable
form_of Accesses = form.List Access
form_of CoherentLists = form.List CoherentList
form_of CoherentList = form.List ItemPair
form_of Statements = form.List Statement
form_of Events = form.List Event
form_of OneMode = form.Counted 1 1 ModeName
form_of TwoModes = form.Counted 2 2 ModeName
form_of SomeModes = form.List ModeName
form_of Compositions = form.List Composition
form_of Prototypes = form.List Prototype
form_of Connectors = form.List Connector
form_of Tasks = form.Counted 0 256 Task
form_of MappedEvents = form.List MappedEvent
form_of Expressions = form.List Expression
form_of LocalNames = form.List LocalName
form_of PortOfPrototype = form.Row
form_of ItemAccess = form.Row
form_of VariableAccess = form.Row
form_of PortAccess = form.Row
form_of AreaAccess = form.Row
form_of ItemPair = form.Row
form_of SetStatement = form.Row
form_of IfStatement = form.Row
form_of RepeatStatement = form.Row
form_of AreaStatement = form.Row
form_of GivingStatement = form.Row
form_of TakingStatement = form.Row
form_of ItemStatement = form.Row
form_of LateWrite = form.Row
form_of EarlyRead = form.Row
form_of VariableWrite = form.Row
form_of VariableRead = form.Row
form_of CallStatement = form.Row
form_of SwitchStatement = form.Row
form_of ModeStatement = form.Row
form_of Operator = form.Row
form_of UnknownAccess = form.Nothing
form_of UnknownStatement = form.Nothing
form_of UnknownExpression = form.Nothing
form_of DeclaredName = form.Name
form_of DeclaredMode = form.Name
form_of DeclaredArea = form.Name
form_of RootName = form.Name
form_of InitialMode = form.Name
form_of TypeName = form.Name
form_of GroupName = form.Name
form_of InterfaceName = form.Name
form_of ComSpecItem = form.Name
form_of RunnableName = form.Name
form_of ComponentPort = form.Name
form_of EventItem = form.Name
form_of AccessItem = form.Name
form_of PairItem = form.Name
form_of AreaName = form.Name
form_of VariableName = form.Name
form_of ModeName = form.Name
form_of PrototypeTypeName = form.Name
form_of JoinedPrototype = form.Name
form_of JoinedPort = form.Name
form_of OuterPort = form.Name
form_of TaskName = form.Name
form_of EventName = form.Name
form_of LocalName = form.Name
form_of InstancePath = form.Text
form_of BaseType = form.Word
form_of Policy = form.Word
form_of Direction = form.Word
form_of PortKind = form.Word
form_of InterfaceKind = form.Word
form_of EventKind = form.Word
form_of ConnectorKind = form.Word
form_of Activation = form.Word
form_of Limit = form.Int
form_of Word = form.Int
form_of CoreNumber = form.Int
form_of Constant = form.Int
form_of WordCount = form.Range 1 16
form_of ErrorNumber = form.Range 1 63
form_of QueueLength = form.Range 1 1024
form_of Period = form.Range 1 1000000
form_of CoreCount = form.Range 1 8
form_of Position = form.Range 0 65535
form_of RepeatCount = form.Range 0 1000
form_of Flag = form.Flag
form_of _ = form.Object
