-- What the clock keeps, and what each call makes of it (SWS_RTE: TimingEvent, InitEvent).
use Rattle.std.specs.Prelude.{◌≡◌, ℕ, suc, ◌%◌, ◌==◌, ◌||◌, List, map, replicate, set, Bool, true, false, Option, Some, option_map, slice_get}
use Rattle.std.specs.Option.{option_map_or}

-- a TimingEvent: its period in ticks of one millisecond, how many ticks there were modulo the period, and whether a tick that
-- completes a period came after its last start
pub record Timer : Type 0 where
  pub period : ℕ
  pub passed : ℕ
  pub due : Bool

-- the timers, and for each InitEvent whether it has not started yet
pub record Kept : Type 0 where
  pub timers : List Timer
  pub unstarted : List Bool

abbrev pub fresh_timer : ℕ → Timer
fresh_timer period = record { period = period; passed = 0; due = false }

-- nothing has happened yet
abbrev pub fresh : (periods : List ℕ) → (inits : ℕ) → Kept
fresh periods inits = record { timers = map fresh_timer periods; unstarted = replicate inits true }

abbrev pub ticked : Timer → Timer
ticked t = record { period = t.period; passed = suc t.passed % t.period; due = (suc t.passed % t.period == 0) || t.due }

abbrev pub after_tick : Kept → Kept
after_tick k = record { timers = map ticked k.timers; unstarted = k.unstarted }

abbrev pub started : Timer → Timer
started t = record { period = t.period; passed = t.passed; due = false }

-- a timer after its start, among the others
abbrev pub timers_after : (event : ℕ) → List Timer → List Timer
timers_after e ts = option_map_or (λ t. set ts e (started t)) (slice_get ts e) ts

abbrev pub after_timing : (event : ℕ) → Kept → Kept
after_timing e k = record { timers = timers_after e k.timers; unstarted = k.unstarted }

abbrev pub after_init : (event : ℕ) → Kept → Kept
after_init e k = record { timers = k.timers; unstarted = set k.unstarted e false }

-- whether a TimingEvent is due; none for one that there is not
abbrev pub is_due : (event : ℕ) → Kept → Option Bool
is_due e k = option_map (λ (t : Timer). t.due) (slice_get k.timers e)

-- a TimingEvent with this name, at its place in the list of names, was not pending before and is now
pub record IsRung (names : List ℕ) (before now : Kept) (name : ℕ) : Type 0 where
  pub event : ℕ
  pub named : slice_get names event ≡ Some name
  pub was : is_due event before ≡ Some false
  pub is : is_due event now ≡ Some true
