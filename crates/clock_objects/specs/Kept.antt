-- What the clock keeps, as plain data.
use Rattle.std.specs.Prelude.{ℕ, List, length, map, Bool, false, Option, Some, None}
use Rattle.bus_semantics.specs.Plan.{Plan, kind_of}
use Rattle.tick_events.specs.Kept as clock
use Rattle.object_kinds.specs.Common.{events_of, place, is_set}
use Rattle.clock_objects.specs.Layout.{is_timing, is_init, period_in}

-- the plan's TimingEvents and InitEvents, each in rising order, and what is kept of them
pub record Kept : Type 0 where
  pub timings : List ℕ
  pub inits : List ℕ
  pub clock : clock.Kept

-- with the TimingEvents that the last tick made pending
pub record TicksState : Type 0 where
  pub kept : Kept
  pub woken : List ℕ

-- what is kept before anything has happened
abbrev pub opening : Plan → Kept
opening p = record {
  timings = events_of p is_timing;
  inits = events_of p is_init;
  clock = clock.fresh (map (λ e. period_in (kind_of p e)) (events_of p is_timing)) (length (events_of p is_init));
}

abbrev pub is_timer_due : Option Bool → Bool
is_timer_due None = false
is_timer_due (Some due) = due

-- a TimingEvent is due, else an InitEvent has not started
abbrev pub is_pending_at : (timing : Option ℕ) → (init : Option ℕ) → clock.Kept → Bool
is_pending_at (Some i) init k = is_timer_due (clock.is_due i k)
is_pending_at None (Some i) k = is_set k.unstarted i
is_pending_at None None k = false

-- whether a start by an event may come
abbrev pub may_start : Kept → (event : ℕ) → Bool
may_start k e = is_pending_at (place e k.timings) (place e k.inits) k.clock
