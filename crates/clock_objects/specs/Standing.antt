-- What the clock keeps, as the definitions give it from a past of the clock.
use Rattle.std.specs.Prelude.{◌≡◌, ℕ, ◌%◌, map, Bool}
use Rattle.bus_semantics.specs.declared.entries.Actor.TheVariants.{Env}
use Rattle.bus_semantics.specs.Common.{Plan, kind_of, Past, clock, ticks, is_due}
use Rattle.tick_events.specs.Kept as clock_kept
use Rattle.object_kinds.specs.Layout.{events_of}
use Rattle.clock_objects.specs.Layout.{is_timing, is_init, period_in}
use Rattle.clock_objects.specs.Kept.{Kept}

-- whether an event is due after these entries. What is due by the clock goes by no actor
abbrev pub due_after : Plan → Past → (event : ℕ) → Bool
due_after p l e = is_due p Env e l

-- the period of a TimingEvent, the ticks modulo it, and whether it is due
abbrev pub timer_after : Plan → Past → (event : ℕ) → clock_kept.Timer
timer_after p l e = record { period = period_in (kind_of p e); passed = ticks l % period_in (kind_of p e); due = due_after p l e }

pub record Keeps (p : Plan) (object : ℕ) (k : Kept) (l : Past) : Type 0 where
  pub is_clock : object ≡ clock p
  pub timing : k.timings ≡ events_of p is_timing
  pub initial : k.inits ≡ events_of p is_init
  pub timers : k.clock.timers ≡ map (timer_after p l) k.timings
  pub unstarted : k.clock.unstarted ≡ map (due_after p l) k.inits
