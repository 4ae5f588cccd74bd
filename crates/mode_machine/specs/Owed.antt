-- The events that the phases of a machine owe (SWS_RTE: on-exit, on-transition and on-entry ExecutableEntities).
use Rattle.std.specs.Prelude.{◌≡◌, ℕ, Bool, true, false, not, ◌&&◌, ◌||◌, ◌==◌, if◌then◌else◌, List, Some, slice_get}
use Rattle.rte_value.specs.declared.kinds.Step.{Step}
use Rattle.rte_value.specs.declared.kinds.Step.TheVariants as step
use Rattle.mode_machine.specs.declared.owed.ModeEvent.{ModeEvent}
use Rattle.mode_machine.specs.declared.owed.ModeEvent.TheVariants.{OnExit, OnTransition, OnEntry}
use Rattle.mode_machine.specs.declared.owed.OwedEvent.{OwedEvent}

-- Exit owes the on-exit events of the last mode, Transition those from the last to the next mode, Entry the on-entry events of the next
abbrev pub owes : Step → (settled : ℕ) → (next : ℕ) → ModeEvent → Bool
owes (step.Close mode) settled next moment = false
owes step.Exit settled next (OnExit a) = a == settled
owes step.Exit settled next (OnTransition a b) = false
owes step.Exit settled next (OnEntry b) = false
owes step.Transition settled next (OnExit a) = false
owes step.Transition settled next (OnTransition a b) = (a == settled) && (b == next)
owes step.Transition settled next (OnEntry b) = false
owes step.Entry settled next (OnExit a) = false
owes step.Entry settled next (OnTransition a b) = false
owes step.Entry settled next (OnEntry b) = b == next
owes step.Stable settled next moment = false

-- an event before anything happened
abbrev pub never_owed : ModeEvent → OwedEvent
never_owed moment = record { moment = moment; due = false; running = false; begun = false; left = false }

-- what stands past the end of a list of events
abbrev pub idle_event : OwedEvent
idle_event = never_owed (OnExit 0)

-- a phase makes the events due that it owes, and they are left until an activation of each was started and has ended
abbrev pub owed_by : Step → (settled : ℕ) → (next : ℕ) → OwedEvent → OwedEvent
owed_by s settled next e = record { moment = e.moment; due = owes s settled next e.moment || e.due; running = e.running; begun = false; left = owes s settled next e.moment }

-- a start by an event may come if it is due and does not run
abbrev pub may_start : OwedEvent → Bool
may_start e = e.due && not e.running

-- a phase makes a start by an event possible that was not so before
abbrev pub is_woken : Step → (settled : ℕ) → (next : ℕ) → OwedEvent → Bool
is_woken s settled next e = not (may_start e) && may_start (owed_by s settled next e)

abbrev pub after_owed_start : OwedEvent → OwedEvent
after_owed_start e = if may_start e then record { moment = e.moment; due = false; running = true; begun = true; left = e.left } else e

-- the end of an activation that was started since the last phase is what that phase owes
abbrev pub after_end : OwedEvent → OwedEvent
after_end e = if e.running then record { moment = e.moment; due = e.due; running = false; begun = e.begun; left = e.left && not e.begun } else e

-- a place that passes has this name, at that place in the list of names
pub record IsNamed (names : List ℕ) (test : (place : ℕ) → Bool) (name : ℕ) : Type 0 where
  pub place : ℕ
  pub named : slice_get names place ≡ Some name
  pub passes : test place ≡ true
