-- The lead: what a mode machine keeps after an entry if it kept that before, or nothing if it would not answer so (SWS_RTE: Rte_Switch,
-- Rte_Mode, mode switch procedure, SwcModeSwitchEvent, ModeSwitchedAckEvent, ModeDisablingDependency). It is a function of plain data, and
-- knows no history. The entry touches the machine.
use Rattle.std.specs.Prelude.{ℕ, set, Bool, true, false, not, ◌==◌, Option, Some, None, option_map, option_and_then, slice_index_or}
use Rattle.bus_semantics.specs.Common.{Step, Noted, Wanted, to_start, to_move_on}
use Rattle.rte_value.specs.declared.kinds.Step.TheVariants as step
use Rattle.bus_semantics.specs.declared.entries.Deed.{Deed}
use Rattle.bus_semantics.specs.declared.entries.Deed.TheVariants as deed
use Rattle.mode_machine.specs.declared.disabling.Admitted.{Admitted}
use Rattle.mode_machine.specs.declared.disabling.Admitted.TheVariants.{Yes, No, Runs}
use Rattle.mode_machine.specs.declared.machine.Advanced.{Advanced}
use Rattle.mode_machine.specs.declared.machine.Advanced.TheVariants as advanced
use Rattle.mode_machine.specs.Kept as machines
use Rattle.mode_machine.specs.Owed as owed
use Rattle.object_kinds.specs.declared.acted.Shown.{Shown}
use Rattle.object_kinds.specs.declared.acted.Shown.TheVariants.{NotDue, NoSwitch, Running, Owed, Unmatched}
use Rattle.object_kinds.specs.Common.{place, given, is_set}
use Rattle.machine_objects.specs.Kept.{Kept}

-- ---- phases (mode switch procedure)

abbrev pub same_step : Step → Step → Bool
same_step (step.Close a) (step.Close b) = a == b
same_step step.Exit step.Exit = true
same_step step.Transition step.Transition = true
same_step step.Entry step.Entry = true
same_step step.Stable step.Stable = true
same_step _ _ = false

-- this phase was made
abbrev pub is_made : Step → Advanced → Bool
is_made s (advanced.Did t) = same_step t s
is_made s advanced.NoSwitch = false
is_made s (advanced.Running d) = false
is_made s (advanced.Owed e) = false

-- ---- starts, admissions and ends by an event at these places

-- a start (SwcModeSwitchEvent, ModeSwitchedAckEvent)
abbrev pub started_at : machines.Kept → (owed_place ack_place : Option ℕ) → Option machines.Kept
started_at k (Some i) acks = given (owed.may_start (machines.owed_at i k)) (machines.after_owed i owed.after_owed_start k)
started_at k None (Some i) = given (is_set k.acks i) (machines.with_acks (set k.acks i false) k)
started_at k None None = None

-- this was answered (ModeDisablingDependency)
abbrev pub is_answered : (answer : Bool) → Admitted → Bool
is_answered answer Yes = answer
is_answered answer No = not answer
is_answered answer Runs = false

abbrev pub admitted_at : (answer : Bool) → machines.Kept → (disabled_place : Option ℕ) → Option machines.Kept
admitted_at answer k at = option_and_then (λ d. given (is_answered answer (machines.answer_to_admit d k)) (machines.after_admit d k)) at

-- an end
abbrev pub ended_at : machines.Kept → (owed_place disabled_place : Option ℕ) → Option machines.Kept
ended_at k (Some i) disabled = given (machines.owed_at i k).running (machines.after_owed i owed.after_end k)
ended_at k None (Some d) = given (machines.dependency_at d k).admitted (machines.after_end_admitted d k)
ended_at k None None = None

-- ---- the lead

-- an Admit and an End go by the event that started the activation
abbrev pub lead_of_machine : Kept → (event : Option ℕ) → Deed → Option machines.Kept
lead_of_machine k event (deed.Switch n mode code) = given (code == machines.answer_to_switch k.machine) (machines.after_switch mode k.machine)
lead_of_machine k event (deed.Mode port mode) = given (mode == machines.mode_of k.machine) k.machine
lead_of_machine k event (deed.Phase s) = given (is_made s (machines.answer_to_advance k.machine)) (machines.after_step s k.machine)
lead_of_machine k event (deed.Start e point value) = started_at k.machine (place e k.owed) (place e k.acks)
lead_of_machine k event (deed.Admit answer) = option_and_then (λ e. admitted_at answer k.machine (place e k.disabled)) event
lead_of_machine k event deed.End = option_and_then (λ e. ended_at k.machine (place e k.owed) (place e k.disabled)) event
lead_of_machine k event _ = None

-- the events stay
abbrev pub with_machine : Kept → machines.Kept → Kept
with_machine k machine = record { owed = k.owed; acks = k.acks; disabled = k.disabled; machine = machine }

abbrev pub lead : Kept → Noted → Option Kept
lead k n = option_map (with_machine k) (lead_of_machine k n.event n.entry.deed)

-- ---- why a wish may not come

-- why no phase may come: the event of the plan that forbids it, if one does
abbrev pub why_no_phase : Kept → Advanced → Shown
why_no_phase k (advanced.Did s) = Unmatched
why_no_phase k advanced.NoSwitch = NoSwitch
why_no_phase k (advanced.Running d) = Running (slice_index_or k.disabled d 0)
why_no_phase k (advanced.Owed e) = Owed (slice_index_or k.owed e 0)

-- a start is not due, or its activation runs; every other wish that may not come, but a phase, is none of the machine's or does not match
abbrev pub why_held : Kept → Wanted → Shown
why_held k (to_start event) = NotDue event
why_held k to_move_on = why_no_phase k (machines.answer_to_advance k.machine)
why_held k w = Unmatched

-- an entry that can make a start come
abbrev pub wakes : Deed → Bool
wakes (deed.Phase s) = true
wakes deed.End = true
wakes _ = false
