-- The clock as it is of a plan: all in it that no call changes.
use Rattle.std.specs.Prelude.{◌≡◌, ℕ, map, length}
use Rattle.bus_semantics.specs.Common.{Plan, kind_of, clock}
use Rattle.tick_events.specs.Kept.{Timer}
use Rattle.object_kinds.specs.Layout.{events_of}
use Rattle.clock_objects.specs.Layout.{is_timing, is_init, period_in}
use Rattle.clock_objects.specs.Kept.{Kept}

pub record IsOfPlan (p : Plan) (object : ℕ) (k : Kept) : Type 0 where
  pub is_clock : object ≡ clock p
  pub timing : k.timings ≡ events_of p is_timing
  pub initial : k.inits ≡ events_of p is_init
  pub periods : map (λ (r : Timer). r.period) k.clock.timers ≡ map (λ e. period_in (kind_of p e)) k.timings
  pub count : length k.clock.unstarted ≡ length k.inits
