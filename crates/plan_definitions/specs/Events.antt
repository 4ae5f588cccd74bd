-- Whether events fit their ports (Software Component Template: RTEEvent, ModeDisablingDependency).
use Rattle.std.specs.Prelude.{ℕ, List, Bool, true, false, ◌&&◌, nat_lt, Option, Some, None}
use Rattle.std.specs.List.{list_all}
use Rattle.description_types.specs.declared.interface.TypeTable.{TypeTable}
use Rattle.description_types.specs.declared.component.Component.{Component}
use Rattle.description_types.specs.declared.component.DisabledInModes.{DisabledInModes}
use Rattle.description_types.specs.declared.component.EventKind.{EventKind}
use Rattle.description_types.specs.declared.component.EventKind.TheVariants.{Timing, Init, DataReceived, OperationInvoked, CallReturns, ModeSwitch, ModeSwitchedAck}
use Rattle.description_types.specs.declared.component.ModeActivation.{ModeActivation}
use Rattle.description_types.specs.declared.component.ModeActivation.TheVariants.{OnEntry, OnExit, OnTransition}
use Rattle.description_types.specs.declared.component.Port.{Port}
use Rattle.description_types.specs.declared.component.PortKind.{PortKind}
use Rattle.description_types.specs.declared.component.PortKind.TheVariants.{Provided, Required}
use Rattle.plan_definitions.specs.declared.item.Item.{Item}
use Rattle.plan_definitions.specs.declared.item.Item.TheVariants.{Data, Operation, Modes}
use Rattle.plan_definitions.specs.declared.spot.Spot.{Spot}
use Rattle.plan_definitions.specs.declared.spot.Spot.TheVariants as spot
use Rattle.plan_definitions.specs.Firsts.{first_of, unless}
use Rattle.plan_definitions.specs.Items.{item_at}

-- what a port has at a position: a data element that is required, an operation that is provided or required
abbrev pub requires_data : Option (PortKind × Item) → Bool
requires_data (Some (Required, Data policy)) = true
requires_data _ = false

abbrev pub provides_operation : Option (PortKind × Item) → Bool
provides_operation (Some (Provided, Operation)) = true
provides_operation _ = false

abbrev pub requires_operation : Option (PortKind × Item) → Bool
requires_operation (Some (Required, Operation)) = true
requires_operation _ = false

abbrev pub provides_modes : Option (PortKind × Item) → Bool
provides_modes (Some (Provided, Modes n)) = true
provides_modes _ = false

-- how many modes there are, if they are required
abbrev pub required_modes : Option (PortKind × Item) → Option ℕ
required_modes (Some (Required, Modes n)) = Some n
required_modes _ = None

-- the modes are of a group with so many
abbrev pub has_moment : Option ℕ → ModeActivation → Bool
has_moment None moment = false
has_moment (Some n) (OnEntry mode) = nat_lt mode n
has_moment (Some n) (OnExit mode) = nat_lt mode n
has_moment (Some n) (OnTransition before after) = nat_lt before n && nat_lt after n

-- An event fits its port: data are received at an R-port, an operation is invoked at a P-port and returns at an R-port, modes
-- are switched at an R-port with modes, and a switch is acknowledged at a P-port with modes; the modes are of its group.
abbrev pub kind_fits : TypeTable → List Port → EventKind → Bool
kind_fits types ports (Timing period) = true
kind_fits types ports Init = true
kind_fits types ports (DataReceived k n) = requires_data (item_at types ports k n)
kind_fits types ports (OperationInvoked k n) = provides_operation (item_at types ports k n)
kind_fits types ports (CallReturns k n) = requires_operation (item_at types ports k n)
kind_fits types ports (ModeSwitch k moment) = has_moment (required_modes (item_at types ports k 0)) moment
kind_fits types ports (ModeSwitchedAck k) = provides_modes (item_at types ports k 0)

-- Rule 21: each event fits its port. The first event of a component that does not.
abbrev pub misplaced : TypeTable → Component → Option Spot
misplaced types c = first_of (λ k e. unless (kind_fits types c.ports e.kind) (spot.Event k)) 0 c.behavior.events

-- an event that modes may disable
abbrev pub may_be_disabled : EventKind → Bool
may_be_disabled (Timing period) = true
may_be_disabled Init = true
may_be_disabled (DataReceived k n) = true
may_be_disabled (CallReturns k n) = true
may_be_disabled _ = false

-- each of these modes is of a group with so many
abbrev pub has_modes : Option ℕ → List ℕ → Bool
has_modes None modes = false
has_modes (Some n) modes = list_all (λ mode. nat_lt mode n) modes

abbrev pub disabling_fits : TypeTable → List Port → EventKind → Option DisabledInModes → Bool
disabling_fits types ports kind None = true
disabling_fits types ports kind (Some disabled) = may_be_disabled kind && has_modes (required_modes (item_at types ports disabled.port 0)) disabled.modes

-- Rule 24: modes disable only TimingEvents, InitEvents, DataReceivedEvents and AsynchronousServerCallReturnsEvents, and are of
-- the group of an R-port. The first event of a component whose modes do not.
abbrev pub wrongly_disabled : TypeTable → Component → Option Spot
wrongly_disabled types c = first_of (λ k e. unless (disabling_fits types c.ports e.kind e.disabled_in_modes) (spot.Event k)) 0 c.behavior.events
