-- What a mode machine keeps, as the definitions give it from a past of the machine.
use Rattle.std.specs.Prelude.{◌≡◌, ℕ, map, drop, Bool, not, ◌&&◌}
use Rattle.bus_semantics.specs.Common.{list_any, Plan, kind_of, Past, modes_of, phase_of, stage_of, settled_of, next_of, waits_of, is_stable_phase, accepted_switches, closes_of, is_start_by}
use Rattle.bus_semantics.specs.Common.{owes_moment, started_in_phase, is_done, follows_last, ends_transition, switch_due, admitted_runs, is_open, runs_by}
use Rattle.mode_machine.specs.declared.owed.OwedEvent.{OwedEvent}
use Rattle.mode_machine.specs.Disabling.{Dependency}
use Rattle.mode_machine.specs.Kept as machines
use Rattle.machine_objects.specs.Layout.{IsMachine, machine_of, places_of, owed_events, ack_events, disabled_events, moment_in, moment_at, disabling_modes}
use Rattle.machine_objects.specs.Kept.{Kept}

-- a SwcModeSwitchEvent: whether it is due, an activation by it runs, one was started in this phase, and whether the phase owes it and it is
-- not done
abbrev pub owed_after : Plan → (machine : ℕ) → Past → (event : ℕ) → OwedEvent
owed_after p m l e = record {
  moment = moment_at p e;
  due = switch_due p e m (moment_in (kind_of p e)) l;
  running = is_open (runs_by e) l;
  begun = started_in_phase m e l;
  left = owes_moment p m l (moment_in (kind_of p e)) && not (is_done m e l);
}

-- a ModeSwitchedAckEvent: whether it is due
abbrev pub acked_after : (machine : ℕ) → Past → (event : ℕ) → Bool
acked_after m l e = follows_last (is_start_by e) (ends_transition m) l

-- an event that the machine disables: in which modes, and whether an admitted activation by it runs
abbrev pub dependency_after : Plan → Past → (event : ℕ) → Dependency
dependency_after p l e = record { modes = disabling_modes p e; admitted = admitted_runs e l }

-- the machine: its stage, its settled and its next mode, the accepted switches without a Close, and its events
abbrev pub machine_after : Plan → (machine : ℕ) → Past → machines.Kept
machine_after p m l = record {
  modes = modes_of p m;
  queue = places_of p m;
  waits = waits_of p m;
  stage = stage_of m l;
  settled = settled_of p m l;
  next = next_of p m l;
  was_stable = list_any (λ n. is_stable_phase (phase_of m n)) l;
  unbegun = drop (closes_of m l) (accepted_switches m l);
  owed = map (owed_after p m l) (owed_events p m);
  acks = map (acked_after m l) (ack_events p m);
  disablings = map (dependency_after p l) (disabled_events p m);
}

abbrev pub kept_after : Plan → (machine : ℕ) → Past → Kept
kept_after p m l = record { owed = owed_events p m; acks = ack_events p m; disabled = disabled_events p m; machine = machine_after p m l }

pub record Keeps (p : Plan) (object : ℕ) (k : Kept) (l : Past) : Type 0 where
  pub is_machine : IsMachine p object
  pub same : k ≡ kept_after p (machine_of p object) l
