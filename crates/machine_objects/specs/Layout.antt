-- What of a plan belongs to a mode machine: its number, and the events that it starts or disables (SWS_RTE: SwcModeSwitchEvent,
-- ModeSwitchedAckEvent, ModeDisablingDependency).
use Rattle.std.specs.Prelude.{◌≡◌, ℕ, ◌≤◌, ◌<◌, ◌-◌, ◌^◌, ◌==◌, List, [], length, filter, Bool, true, false, not, ◌||◌, Option, Some}
use Rattle.bus_semantics.specs.Common.{list_all, option_map_or, same_number, Plan, look, kind_of, disabling_of, positions, first_machine, clock, object_of_kind, disabler_of, modes_of}
use Rattle.bus_semantics.specs.Common.{initial_of}
use Rattle.bus_semantics.specs.declared.plan.MachinePlan.{MachinePlan}
use Rattle.bus_semantics.specs.declared.plan.EventKind.{EventKind}
use Rattle.bus_semantics.specs.declared.plan.EventKind.TheVariants.{ModeSwitch, Ack}
use Rattle.bus_semantics.specs.declared.plan.Disabling.{Disabling}
use Rattle.bus_semantics.specs.declared.plan.Moment.{Moment}
use Rattle.bus_semantics.specs.declared.plan.Moment.TheVariants as moment
use Rattle.mode_machine.specs.declared.owed.ModeEvent.{ModeEvent}
use Rattle.mode_machine.specs.declared.owed.ModeEvent.TheVariants.{OnExit, OnTransition, OnEntry}
use Rattle.object_kinds.specs.Layout.{events_of}

-- ---- the machine

-- the machine that the object is
abbrev pub machine_of : Plan → (object : ℕ) → ℕ
machine_of p object = object - first_machine p

-- how many accepted switches may wait to begin
abbrev pub places_of : Plan → (machine : ℕ) → ℕ
places_of p m = look p.machines m (λ (n : MachinePlan). n.queue) 0

-- ---- the events that it starts

-- a SwcModeSwitchEvent of the machine
abbrev pub waits_for_phase : (machine : ℕ) → EventKind → Bool
waits_for_phase m (ModeSwitch n at) = m == n
waits_for_phase m _ = false

-- a ModeSwitchedAckEvent of the machine
abbrev pub waits_for_end : (machine : ℕ) → EventKind → Bool
waits_for_end m (Ack n) = m == n
waits_for_end m _ = false

abbrev pub owed_events : Plan → (machine : ℕ) → List ℕ
owed_events p m = events_of p (waits_for_phase m)

abbrev pub ack_events : Plan → (machine : ℕ) → List ℕ
ack_events p m = events_of p (waits_for_end m)

-- the moment of a SwcModeSwitchEvent; the first exit for another event
abbrev pub moment_in : EventKind → Moment
moment_in (ModeSwitch n at) = at
moment_in _ = moment.OnExit 0

-- the same in the words of the machine
abbrev pub mode_event : Moment → ModeEvent
mode_event (moment.OnExit a) = OnExit a
mode_event (moment.OnTransition a b) = OnTransition a b
mode_event (moment.OnEntry b) = OnEntry b

abbrev pub moment_at : Plan → (event : ℕ) → ModeEvent
moment_at p e = mode_event (moment_in (kind_of p e))

-- ---- the events that it disables

-- the machine disables the event in some of its modes
abbrev pub may_disable : Plan → (machine : ℕ) → (event : ℕ) → Bool
may_disable p m e = same_number (disabler_of p e) (Some m)

abbrev pub disabled_events : Plan → (machine : ℕ) → List ℕ
disabled_events p m = filter (may_disable p m) (positions (length p.events))

-- the modes in which an event is disabled
abbrev pub disabling_modes : Plan → (event : ℕ) → List ℕ
disabling_modes p e = option_map_or (λ (d : Disabling). d.modes) (disabling_of p e) []

-- the machine starts the event or disables it
abbrev pub matters : Plan → (machine : ℕ) → (event : ℕ) → Bool
matters p m e = waits_for_phase m (kind_of p e) || (waits_for_end m (kind_of p e) || may_disable p m e)

abbrev pub machine_events : Plan → (machine : ℕ) → List ℕ
machine_events p m = filter (matters p m) (positions (length p.events))

-- the machine that starts an event of this kind, or else the one that disables it
abbrev pub mattering : EventKind → (disabler : Option ℕ) → Option ℕ
mattering (ModeSwitch n at) other = Some n
mattering (Ack n) other = Some n
mattering _ other = other

abbrev pub machine_for : Plan → (event : ℕ) → Option ℕ
machine_for p e = mattering (kind_of p e) (disabler_of p e)

-- ---- machines

-- an event is not started by this object
abbrev pub starts_elsewhere : Plan → (object : ℕ) → (event : ℕ) → Bool
starts_elsewhere p object e = not (same_number (object_of_kind p (kind_of p e)) (Some object))

-- the object is one of the plan's machines; its initial mode is one of its modes, of which there are not too many to count; and what it
-- disables it does not start itself
pub record IsMachine (p : Plan) (object : ℕ) : Type 0 where
  pub from : first_machine p ≤ object
  pub below : object < clock p
  pub initial : initial_of p (machine_of p object) < modes_of p (machine_of p object)
  pub few_modes : modes_of p (machine_of p object) < 2 ^ 32
  pub apart : list_all (starts_elsewhere p object) (disabled_events p (machine_of p object)) ≡ true
