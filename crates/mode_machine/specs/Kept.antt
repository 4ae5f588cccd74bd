-- What a mode machine keeps, and what each call makes of it (SWS_RTE: mode switch procedure, Rte_Switch, Rte_Mode,
-- SwcModeSwitchEvent, ModeSwitchedAckEvent, ModeDisablingDependency).
use Rattle.std.specs.Prelude.{◌≡◌, ℕ, List, [], ◌∷◌, ◌++◌, length, map, drop, set, replicate, position, Bool, true, false, ◌||◌, nat_lt, if◌then◌else◌, Option, Some, None, slice_get, slice_index_or}
use Rattle.rte_value.specs.declared.kinds.Step.{Step}
use Rattle.rte_value.specs.declared.kinds.Step.TheVariants as step
use Rattle.mode_machine.specs.Disabling.{Dependency, has_mode, holds_back, idle_dependency}
use Rattle.mode_machine.specs.Owed.{idle_event, may_start, never_owed, owed_by}
use Rattle.mode_machine.specs.declared.disabling.Admitted.{Admitted}
use Rattle.mode_machine.specs.declared.disabling.Admitted.TheVariants.{Yes, No, Runs}
use Rattle.mode_machine.specs.declared.machine.Advanced.{Advanced}
use Rattle.mode_machine.specs.declared.machine.Advanced.TheVariants.{Did, NoSwitch, Running, Owed}
use Rattle.mode_machine.specs.declared.owed.ModeEvent.{ModeEvent}
use Rattle.mode_machine.specs.declared.owed.OwedEvent.{OwedEvent}

pub record Kept : Type 0 where
  -- what no call changes: how many modes there are, how many switches may wait, and whether Exit waits for activations that the next
  -- mode disables
  pub modes : ℕ
  pub queue : ℕ
  pub waits : Bool
  -- the last phase, and Entry before the first
  pub stage : Step
  -- the mode of the last switch that ended, and that of the last one that began
  pub settled : ℕ
  pub next : ℕ
  -- a Stable has come
  pub was_stable : Bool
  -- the modes of accepted switches that have not begun, the oldest first
  pub unbegun : List ℕ
  pub owed : List OwedEvent
  -- for each acknowledgement event: a Stable that ended a switch came after its last start
  pub acks : List Bool
  pub disablings : List Dependency

-- the machine is in Entry of its initial mode, and owes that mode's on-entry events
abbrev pub fresh : (modes initial queue : ℕ) → List ModeEvent → (acks : ℕ) → List (List ℕ) → (waits : Bool) → Kept
fresh modes initial queue moments acks disablings waits = record {
  modes = modes;
  queue = queue;
  waits = waits;
  stage = step.Entry;
  settled = initial;
  next = initial;
  was_stable = false;
  unbegun = [];
  owed = map (owed_by step.Entry initial initial) (map never_owed moments);
  acks = replicate acks false;
  disablings = map idle_dependency disablings;
}

abbrev pub is_stable : Step → Bool
is_stable (step.Close mode) = false
is_stable step.Exit = false
is_stable step.Transition = false
is_stable step.Entry = false
is_stable step.Stable = true

-- ---- switches

abbrev pub has_place : Kept → Bool
has_place k = nat_lt (length k.unbegun) k.queue

-- 130 RTE_E_LIMIT exactly if as many accepted switches have not begun as the queue is long, else 0
abbrev pub answer_to_switch : Kept → ℕ
answer_to_switch k = if has_place k then 0 else 130

abbrev pub with_unbegun : List ℕ → Kept → Kept
with_unbegun unbegun k = record {
  modes = k.modes;
  queue = k.queue;
  waits = k.waits;
  stage = k.stage;
  settled = k.settled;
  next = k.next;
  was_stable = k.was_stable;
  unbegun = unbegun;
  owed = k.owed;
  acks = k.acks;
  disablings = k.disablings;
}

abbrev pub after_switch : (mode : ℕ) → Kept → Kept
after_switch mode k = if has_place k then with_unbegun (k.unbegun ++ mode ∷ []) k else k

-- the settled mode if the machine is stable, else the number of modes
abbrev pub mode_of : Kept → ℕ
mode_of k = if is_stable k.stage then k.settled else k.modes

-- ---- phases

abbrev pub begun : Option ℕ → Advanced
begun None = NoSwitch
begun (Some mode) = Did (step.Close mode)

abbrev pub unless_running : Option ℕ → Advanced
unless_running None = Did step.Exit
unless_running (Some d) = Running d

abbrev pub unless_owed : Option ℕ → Step → Advanced
unless_owed None s = Did s
unless_owed (Some e) s = Owed e

abbrev pub first_left : Kept → Option ℕ
first_left k = position (λ (e : OwedEvent). e.left) k.owed

-- the phase that may come after another, or why none may, with the least number that forbids it
abbrev pub phase_after : Step → Kept → Advanced
phase_after step.Stable k = begun (slice_get k.unbegun 0)
phase_after (step.Close mode) k = unless_running (if k.waits then position (holds_back k.next) k.disablings else None)
phase_after step.Exit k = unless_owed (first_left k) step.Transition
phase_after step.Transition k = unless_owed (first_left k) step.Entry
phase_after step.Entry k = unless_owed (first_left k) step.Stable

abbrev pub answer_to_advance : Kept → Advanced
answer_to_advance k = phase_after k.stage k

abbrev pub is_phase : Advanced → Bool
is_phase (Did s) = true
is_phase NoSwitch = false
is_phase (Running d) = false
is_phase (Owed e) = false

-- Close takes the oldest switch that has not begun
abbrev pub next_after : Step → Kept → ℕ
next_after (step.Close mode) k = mode
next_after step.Exit k = k.next
next_after step.Transition k = k.next
next_after step.Entry k = k.next
next_after step.Stable k = k.next

abbrev pub unbegun_after : Step → Kept → List ℕ
unbegun_after (step.Close mode) k = drop 1 k.unbegun
unbegun_after step.Exit k = k.unbegun
unbegun_after step.Transition k = k.unbegun
unbegun_after step.Entry k = k.unbegun
unbegun_after step.Stable k = k.unbegun

-- Stable ends the switch; all Stables but the first make the acknowledgement events due
abbrev pub settled_after : Step → Kept → ℕ
settled_after s k = if is_stable s then k.next else k.settled

abbrev pub acks_after : Step → Kept → List Bool
acks_after s k = if is_stable s then (if k.was_stable then replicate (length k.acks) true else k.acks) else k.acks

abbrev pub after_step : Step → Kept → Kept
after_step s k = record {
  modes = k.modes;
  queue = k.queue;
  waits = k.waits;
  stage = s;
  settled = settled_after s k;
  next = next_after s k;
  was_stable = is_stable s || k.was_stable;
  unbegun = unbegun_after s k;
  owed = map (owed_by s k.settled (next_after s k)) k.owed;
  acks = acks_after s k;
  disablings = k.disablings;
}

abbrev pub after_advance : Advanced → Kept → Kept
after_advance (Did s) k = after_step s k
after_advance NoSwitch k = k
after_advance (Running d) k = k
after_advance (Owed e) k = k

-- ---- starts and ends

abbrev pub owed_at : (event : ℕ) → Kept → OwedEvent
owed_at e k = slice_index_or k.owed e idle_event

abbrev pub with_owed : List OwedEvent → Kept → Kept
with_owed owed k = record {
  modes = k.modes;
  queue = k.queue;
  waits = k.waits;
  stage = k.stage;
  settled = k.settled;
  next = k.next;
  was_stable = k.was_stable;
  unbegun = k.unbegun;
  owed = owed;
  acks = k.acks;
  disablings = k.disablings;
}

abbrev pub after_owed : (event : ℕ) → (OwedEvent → OwedEvent) → Kept → Kept
after_owed e f k = with_owed (set k.owed e (f (owed_at e k))) k

abbrev pub with_acks : List Bool → Kept → Kept
with_acks acks k = record {
  modes = k.modes;
  queue = k.queue;
  waits = k.waits;
  stage = k.stage;
  settled = k.settled;
  next = k.next;
  was_stable = k.was_stable;
  unbegun = k.unbegun;
  owed = k.owed;
  acks = acks;
  disablings = k.disablings;
}

abbrev pub is_acked : (event : ℕ) → Kept → Bool
is_acked e k = slice_index_or k.acks e false

-- ---- what a phase tells

-- a mode switch event with this name, at its place in the list of names, could not start before and may start now
pub record IsStartable (names : List ℕ) (before now : Kept) (name : ℕ) : Type 0 where
  pub event : ℕ
  pub named : slice_get names event ≡ Some name
  pub was : may_start (owed_at event before) ≡ false
  pub is : may_start (owed_at event now) ≡ true

-- an acknowledgement event with this name was not pending before and is pending now
pub record IsAcknowledged (names : List ℕ) (before now : Kept) (name : ℕ) : Type 0 where
  pub event : ℕ
  pub named : slice_get names event ≡ Some name
  pub was : is_acked event before ≡ false
  pub is : is_acked event now ≡ true

-- ---- admission

abbrev pub dependency_at : (dependency : ℕ) → Kept → Dependency
dependency_at d k = slice_index_or k.disablings d (idle_dependency [])

-- an event is disabled if the machine is stable in one of the event's disabling modes, or is not stable and the settled or the next
-- mode is one
abbrev pub is_disabled : Kept → List ℕ → Bool
is_disabled k modes = if is_stable k.stage then has_mode k.settled modes else (has_mode k.settled modes || has_mode k.next modes)

abbrev pub answer_to_admit : (dependency : ℕ) → Kept → Admitted
answer_to_admit d k = if (dependency_at d k).admitted then Runs else (if is_disabled k (dependency_at d k).modes then No else Yes)

abbrev pub with_admitted : (dependency : ℕ) → Bool → Kept → Kept
with_admitted d runs k = record {
  modes = k.modes;
  queue = k.queue;
  waits = k.waits;
  stage = k.stage;
  settled = k.settled;
  next = k.next;
  was_stable = k.was_stable;
  unbegun = k.unbegun;
  owed = k.owed;
  acks = k.acks;
  disablings = set k.disablings d (record { modes = (dependency_at d k).modes; admitted = runs });
}

-- an activation that is admitted runs; one that is not is over, and is not remembered
abbrev pub admitted_by : Admitted → (dependency : ℕ) → Kept → Kept
admitted_by Yes d k = with_admitted d true k
admitted_by No d k = k
admitted_by Runs d k = k

abbrev pub after_admit : (dependency : ℕ) → Kept → Kept
after_admit d k = admitted_by (answer_to_admit d k) d k

abbrev pub after_end_admitted : (dependency : ℕ) → Kept → Kept
after_end_admitted d k = if (dependency_at d k).admitted then with_admitted d false k else k
