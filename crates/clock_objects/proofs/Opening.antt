-- What the clock keeps at first stands for no entry, and is of its plan.
use Rattle.std.proofs.Common.{◌≡◌, ◌≤◌, ℕ, zero, suc, ◌<◌, ◌%◌, Bool, true, false, refl, sym, ◌∙◌, ap, subst, arith, List, [], ◌∷◌, length, map}
use Rattle.std.specs.Prelude.{All, replicate, slice_index_or}
use Rattle.bus_semantics.specs.Common.{list_all, slice_get, option_map_or, and_parts, false≢true, nat_tests, length-map, length-replicate, Plan, kind_of, clock}
use Rattle.std.proofs.Math.Nat.{zero-mod}
use Rattle.std.proofs.lemmas.List.{map-id}
use mathlib.Core.List.{map-map}
use Rattle.bus_semantics.specs.declared.plan.EventPlan.{EventPlan}
use Rattle.bus_semantics.specs.declared.plan.EventKind.{EventKind}
use Rattle.bus_semantics.specs.declared.plan.EventKind.TheVariants.{Timing, Init}
use Rattle.tick_events.specs.Kept.{Timer, fresh_timer}
use Rattle.object_kinds.specs.Common.{events_of, is_rising}
use Rattle.object_kinds.proofs.Events.{events_all, events_rise}
use Rattle.object_kinds.proofs.Lists.{filled_all, map_all}
use Rattle.clock_objects.specs.Layout.{has_period, have_periods, is_timing, is_init, period_in}
use Rattle.clock_objects.specs.Kept.{Kept, opening}
use Rattle.clock_objects.specs.Plans.{IsOfPlan}
use Rattle.clock_objects.specs.Standing.{due_after, timer_after, Keeps}
use Rattle.clock_objects.proofs.Timed.{of_period, of_init, timing_due, init_due}

filled_list : {B : Type 0} (ok : ℕ → Bool) (g : ℕ → B) (b : B) (ys : List ℕ) → list_all ok ys ≡ true → ((y : ℕ) → ok y ≡ true → g y ≡ b) → replicate (length ys) b ≡ map g ys
filled_list ok g b ys all each = ap (λ zs. replicate (length zs) b) (sym (map-id ys)) ∙ filled_all ok (λ y. y) g b ys all each

pub clock_opens : (p : Plan) → Keeps p (clock p) (opening p) []
clock_opens p = record {
  is_clock = refl;
  timing = refl;
  initial = refl;
  timers = map-map fresh_timer (λ e. period_in (kind_of p e)) (events_of p is_timing)
      ∙ map_all (λ e. is_timing (kind_of p e)) (λ e. fresh_timer (period_in (kind_of p e))) (timer_after p []) (events_of p is_timing) (events_all p is_timing) fresh_at;
  unstarted = filled_list (λ e. is_init (kind_of p e)) (due_after p []) true (events_of p is_init) (events_all p is_init) (λ e init. init_due p e [] (of_init (kind_of p e) init));
}
  where
    fresh_at : (e : ℕ) → is_timing (kind_of p e) ≡ true → fresh_timer (period_in (kind_of p e)) ≡ timer_after p [] e
    fresh_at e timing =
        let of = of_period (kind_of p e) timing in
        let due : false ≡ due_after p [] e = sym (timing_due p e of.period [] of.kind) in
        let passed : 0 ≡ 0 % period_in (kind_of p e) = sym (zero-mod (period_in (kind_of p e))) in
        λ i. record { period = period_in (kind_of p e); passed = passed i; due = due i }

pub clock_planned : (p : Plan) → IsOfPlan p (clock p) (opening p)
clock_planned p = record {
  is_clock = refl;
  timing = refl;
  initial = refl;
  periods = timer_periods (map (λ e. period_in (kind_of p e)) (events_of p is_timing));
  count = length-replicate (length (events_of p is_init)) true;
}
  where
    timer_periods : (ns : List ℕ) → map (λ (r : Timer). r.period) (map fresh_timer ns) ≡ ns
    timer_periods [] = refl
    timer_periods (n ∷ ns) = ap (λ ms. n ∷ ms) (timer_periods ns)

-- its lists rise, and there are as many timers and flags as events
pub opening_fits : (p : Plan) (k : Kept) → k ≡ opening p
    → (is_rising k.timings ≡ true) × (is_rising k.inits ≡ true) × (length k.clock.timers ≡ length k.timings) × (length k.clock.unstarted ≡ length k.inits)
opening_fits p k is = subst (λ (z : Kept). (is_rising z.timings ≡ true) × (is_rising z.inits ≡ true) × (length z.clock.timers ≡ length z.timings) × (length z.clock.unstarted ≡ length z.inits)) (sym is) (
  events_rise p is_timing,
  events_rise p is_init,
  length-map (map (λ e. period_in (kind_of p e)) (events_of p is_timing)) fresh_timer ∙ length-map (events_of p is_timing) (λ e. period_in (kind_of p e)),
  length-replicate (length (events_of p is_init)) true,
)

-- ---- periods

period_at : (p : Plan) (e : ℕ) → have_periods p ≡ true → is_timing (kind_of p e) ≡ true → 1 ≤ period_in (kind_of p e)
period_at p e all timing = by_event p.events e all timing
  where
    kind_here : List EventPlan → ℕ → EventKind
    kind_here vs i = option_map_or (λ (v : EventPlan). v.kind) (slice_get vs i) Init

    of_kind : (k : EventKind) → has_period k ≡ true → is_timing k ≡ true → 1 ≤ period_in k
    of_kind (Timing period) has is = grind (arith, nat_tests)
    of_kind k has is = absurd (false≢true is)

    by_event : (vs : List EventPlan) (i : ℕ) → list_all (λ (v : EventPlan). has_period v.kind) vs ≡ true → is_timing (kind_here vs i) ≡ true → 1 ≤ period_in (kind_here vs i)
    by_event [] i all is = absurd (false≢true is)
    by_event (v ∷ vs) zero all is = of_kind v.kind (and_parts (has_period v.kind) (list_all (λ (w : EventPlan). has_period w.kind) vs) all).0 is
    by_event (v ∷ vs) (suc i) all is = by_event vs i (and_parts (has_period v.kind) (list_all (λ (w : EventPlan). has_period w.kind) vs) all).1 is

pub periods_fit : (p : Plan) → have_periods p ≡ true → All (λ period. 1 ≤ period) (map (λ e. period_in (kind_of p e)) (events_of p is_timing))
periods_fit p periods = each (events_of p is_timing) (events_all p is_timing)
  where
    each : (es : List ℕ) → list_all (λ e. is_timing (kind_of p e)) es ≡ true → (k d : ℕ) → k < length (map (λ e. period_in (kind_of p e)) es) → 1 ≤ slice_index_or (map (λ e. period_in (kind_of p e)) es) k d
    each [] all k d less = absurd (omega arith)
    each (e ∷ es) all zero d less = period_at p e periods (and_parts (is_timing (kind_of p e)) (list_all (λ c. is_timing (kind_of p c)) es) all).0
    each (e ∷ es) all (suc k) d less = each es (and_parts (is_timing (kind_of p e)) (list_all (λ c. is_timing (kind_of p c)) es) all).1 k d (omega arith)
