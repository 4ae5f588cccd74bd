-- A tick and a start leave the clock that of its plan.
use Rattle.std.proofs.Common.{◌≡◌, ℕ, zero, suc, false, refl, sym, ◌∙◌, ap, subst, List, [], ◌∷◌, length, map, set, Option, Some, None, length-set}
use Rattle.std.specs.Prelude.{unwrap_or, option_map}
use Rattle.bus_semantics.specs.Common.{slice_get, option_map_or, Plan}
use Rattle.tick_events.specs.Kept.{Timer, after_init, after_timing, started, ticked}
use Rattle.tick_events.specs.Kept as clock_kept
use Rattle.object_kinds.specs.Common.{is_set, place}
use Rattle.object_kinds.proofs.Options.{given_some}
use Rattle.clock_objects.specs.Kept.{Kept, is_timer_due}
use Rattle.clock_objects.specs.Leading.{after_start, after_tick, lead_of_start, with_clock}
use Rattle.clock_objects.specs.Plans.{IsOfPlan}

-- with the same periods and as many flags
pub record HasSame (c d : clock_kept.Kept) : Type 0 where
  pub periods : map (λ (t : Timer). t.period) d.timers ≡ map (λ (t : Timer). t.period) c.timers
  pub count : length d.unstarted ≡ length c.unstarted

planned_with : (p : Plan) (object : ℕ) (k : Kept) (c : clock_kept.Kept) → HasSame k.clock c → IsOfPlan p object k → IsOfPlan p object (with_clock k c)
planned_with p object k c same planned = record {
  is_clock = planned.is_clock;
  timing = planned.timing;
  initial = planned.initial;
  periods = same.periods ∙ planned.periods;
  count = same.count ∙ planned.count;
}

pub tick_planned : (p : Plan) (object : ℕ) (k : Kept) → IsOfPlan p object k → IsOfPlan p object (after_tick k)
tick_planned p object k planned = planned_with p object k (clock_kept.after_tick k.clock) (record { periods = same_periods k.clock.timers; count = refl }) planned
  where
    same_periods : (ts : List Timer) → map (λ (t : Timer). t.period) (map ticked ts) ≡ map (λ (t : Timer). t.period) ts
    same_periods [] = refl
    same_periods (t ∷ ts) = ap (λ ns. t.period ∷ ns) (same_periods ts)

-- a timer that is started has the same period
set_periods : (ts : List Timer) (i : ℕ) (t : Timer) → slice_get ts i ≡ Some t → map (λ (t : Timer). t.period) (set ts i (started t)) ≡ map (λ (t : Timer). t.period) ts
set_periods [] i t there = refl
set_periods (x ∷ ts) zero t there = let same : x ≡ t = cc in ap (λ (z : Timer). z.period ∷ map (λ (t : Timer). t.period) ts) (sym same)
set_periods (x ∷ ts) (suc i) t there = ap (λ ns. x.period ∷ ns) (set_periods ts i t there)

timing_same : (c : clock_kept.Kept) (i : ℕ) → HasSame c (after_timing i c)
timing_same c i = record { periods = by_timer (slice_get c.timers i) refl; count = refl }
  where
    by_timer : (o : Option Timer) → slice_get c.timers i ≡ o → map (λ (t : Timer). t.period) (option_map_or (λ t. set c.timers i (started t)) o c.timers) ≡ map (λ (t : Timer). t.period) c.timers
    by_timer None there = refl
    by_timer (Some t) there = set_periods c.timers i t there

start_same : (c d : clock_kept.Kept) (timing init : Option ℕ) → lead_of_start timing init c ≡ Some d → HasSame c d
start_same c d (Some i) init leads =
    let gives = given_some (is_timer_due (clock_kept.is_due i c)) (after_timing i c) d leads in
    subst (HasSame c) gives.same (timing_same c i)
start_same c d None (Some i) leads =
    let gives = given_some (is_set c.unstarted i) (after_init i c) d leads in
    subst (HasSame c) gives.same (record { periods = refl; count = length-set c.unstarted i false })
start_same c d None None leads = absurd (cc leads)

pub start_planned : (p : Plan) (object : ℕ) (k : Kept) (event : ℕ) → IsOfPlan p object k → IsOfPlan p object (unwrap_or (after_start k event) k)
start_planned p object k event planned = by_lead (lead_of_start (place event k.timings) (place event k.inits) k.clock) refl
  where
    by_lead : (o : Option clock_kept.Kept) → lead_of_start (place event k.timings) (place event k.inits) k.clock ≡ o → IsOfPlan p object (unwrap_or (option_map (with_clock k) o) k)
    by_lead None none = planned
    by_lead (Some c) some = planned_with p object k c (start_same k.clock c (place event k.timings) (place event k.inits) some) planned
