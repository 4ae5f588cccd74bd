-- Countdowns, and what is made of them.
use Rattle.std.specs.Prelude.{ℕ, ◌+◌, ◌-◌, ◌%◌, ◌^◌, List, map}
use Rattle.tick_events.specs.declared.countdown.Countdown as kept

-- a period, and how much of it is left, both in ticks of one millisecond
pub record Countdown : Type 0 where
  pub period : ℕ
  pub left : ℕ

-- all of a period is left
abbrev pub whole : (period : ℕ) → Countdown
whole period = record { period = period; left = period }

abbrev pub one_less : Countdown → Countdown
one_less c = record { period = c.period; left = c.left - 1 }

-- the ticks from one number of ticks to another, which are counted modulo 2 ^ 64
abbrev pub ticks_between : (now end : ℕ) → ℕ
ticks_between now end = (end + (2 ^ 64 - now)) % 2 ^ 64

-- a countdown that is kept by its end
abbrev pub seen : (now : ℕ) → kept.Countdown → Countdown
seen now c = record { period = c.period; left = ticks_between now c.end }

abbrev pub all_seen : (now : ℕ) → List kept.Countdown → List Countdown
all_seen now cs = map (seen now) cs
