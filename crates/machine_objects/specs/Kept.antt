-- What a mode machine keeps, as plain data (SWS_RTE: mode switch procedure, Rte_Switch, SwcModeSwitchEvent, ModeSwitchedAckEvent,
-- ModeDisablingDependency).
use Rattle.std.specs.Prelude.{ℕ, List, length, map, Bool, Option, Some, None}
use Rattle.bus_semantics.specs.Common.{Plan, modes_of, initial_of, waits_of}
use Rattle.mode_machine.specs.Kept as machines
use Rattle.mode_machine.specs.Owed as owed
use Rattle.object_kinds.specs.Common.{place, is_pending}
use Rattle.machine_objects.specs.Layout.{places_of, owed_events, ack_events, disabled_events, moment_at, disabling_modes}

-- the plan's SwcModeSwitchEvents and ModeSwitchedAckEvents of the machine and the events that it disables, each in rising order, and what
-- the machine keeps of them by place
pub record Kept : Type 0 where
  pub owed : List ℕ
  pub acks : List ℕ
  pub disabled : List ℕ
  pub machine : machines.Kept

-- with the events that the last phase or end made pending
pub record MachineState : Type 0 where
  pub kept : Kept
  pub woken : List ℕ

-- what is kept before anything has happened
abbrev pub opening : Plan → (machine : ℕ) → Kept
opening p m = record {
  owed = owed_events p m;
  acks = ack_events p m;
  disabled = disabled_events p m;
  machine = machines.fresh (modes_of p m) (initial_of p m) (places_of p m) (map (moment_at p) (owed_events p m)) (length (ack_events p m)) (map (disabling_modes p) (disabled_events p m)) (waits_of p m);
}

-- whether a start by the event at these places may come, of which there is one at most
abbrev pub may_start_at : machines.Kept → (owed_place ack_place : Option ℕ) → Bool
may_start_at k (Some i) acks = owed.may_start (machines.owed_at i k)
may_start_at k None acks = is_pending k.acks acks

-- whether a start by an event may come
abbrev pub may_start : Kept → (event : ℕ) → Bool
may_start k e = may_start_at k.machine (place e k.owed) (place e k.acks)

-- whether a phase may come
abbrev pub may_move : Kept → Bool
may_move k = machines.is_phase (machines.answer_to_advance k.machine)
