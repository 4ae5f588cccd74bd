-- How the clock runs: the TimingEvents of one period share its countdown, which is the group of their flags.
use Rattle.std.specs.Prelude.{◌<◌, ◌≤◌, ℕ, ◌-◌, ◌%◌, ◌==◌, ◌||◌, Bool, List, length, slice_get, slice_index_or, All, Option, option_map}
use Rattle.latches.specs.Latches.{Latch}
use Rattle.tick_events.specs.Countdowns.{Countdown, whole}
use Rattle.tick_events.specs.Kept as kept

-- ---- what is kept

abbrev pub countdown_of : List Countdown → Latch → Countdown
countdown_of cs l = slice_index_or cs l.group (whole 0)

-- what is kept of a TimingEvent
abbrev pub kept_at : Countdown → (due : Bool) → kept.Timer
kept_at c due = record { period = c.period; passed = c.period - c.left; due = due }

-- the same if its countdown may have ended and is not begun anew yet: then the TimingEvent is pending
abbrev pub settled_at : Countdown → (due : Bool) → kept.Timer
settled_at c due = record { period = c.period; passed = (c.period - c.left) % c.period; due = (c.left == 0) || due }

abbrev pub kept_timer : List Countdown → Latch → kept.Timer
kept_timer cs l = kept_at (countdown_of cs l) l.is_set

abbrev pub settled_timer : List Countdown → Latch → kept.Timer
settled_timer cs l = settled_at (countdown_of cs l) l.is_set

-- whether a TimingEvent is pending; none for one that there is not
abbrev pub pending : List Latch → (event : ℕ) → Option Bool
pending ls event = option_map (λ (l : Latch). l.is_set) (slice_get ls event)

-- ---- what is always so

-- no more is left of a countdown than its period, which is at least a tick
abbrev pub IsWithin : Countdown → Type 0
IsWithin c = (1 ≤ c.period) × (c.left ≤ c.period)

-- each flag has its countdown
pub record AreFit (cs : List Countdown) (ls : List Latch) : Type 0 where
  pub within : All IsWithin cs
  pub there : All (λ (l : Latch). l.group < length cs) ls

-- and no countdown has ended
pub record IsRunning (cs : List Countdown) (ls : List Latch) : Type 0 where
  pub fit : AreFit cs ls
  pub going : All (λ (c : Countdown). 1 ≤ c.left) cs
