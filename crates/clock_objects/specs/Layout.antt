-- What of a plan belongs to the clock: the events that time and the beginning make pending.
use Rattle.std.specs.Prelude.{ℕ, Bool, true, false, nat_le}
use Rattle.bus_semantics.specs.Common.{list_all, Plan}
use Rattle.bus_semantics.specs.declared.plan.EventKind.{EventKind}
use Rattle.bus_semantics.specs.declared.plan.EventKind.TheVariants.{Timing, Init}
use Rattle.bus_semantics.specs.declared.plan.EventPlan.{EventPlan}

abbrev pub is_timing : EventKind → Bool
is_timing (Timing period) = true
is_timing _ = false

abbrev pub is_init : EventKind → Bool
is_init Init = true
is_init _ = false

-- the period of a TimingEvent in ticks
abbrev pub period_in : EventKind → ℕ
period_in (Timing period) = period
period_in _ = 0

-- a TimingEvent's period is at least one millisecond
abbrev pub has_period : EventKind → Bool
has_period (Timing period) = nat_le 1 period
has_period _ = true

abbrev pub have_periods : Plan → Bool
have_periods p = list_all (λ (v : EventPlan). has_period v.kind) p.events
