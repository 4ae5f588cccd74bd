-- What a tick tells: the events that it made pending, and no others.
use Rattle.std.proofs.Common.{◌≡◌, ℕ, zero, suc, Bool, true, false, refl, sym, ◌∙◌, ap, subst, List, [], ◌∷◌, map, Option, Some, None}
use Rattle.std.specs.Prelude.{option_map}
use Rattle.bus_semantics.specs.Common.{Contains, slice_get, false≢true, get_or_from_slice_get, slice_get_within}
use Rattle.tick_events.specs.Kept.{IsRung, Timer, after_tick, is_due, ticked}
use Rattle.tick_events.specs.Kept as clock_kept
use Rattle.object_kinds.specs.Common.{place, is_rising}
use Rattle.object_kinds.proofs.Placing.{place_at}
use Rattle.object_kinds.proofs.Rising.{place_found, rising_pairs}
use Rattle.clock_objects.specs.Kept.{Kept, is_pending_at, is_timer_due, may_start}
use Rattle.clock_objects.specs.Leading.{with_clock}

due_true : (o : Option Bool) → is_timer_due o ≡ true → o ≡ Some true
due_true None on = absurd (false≢true on)
due_true (Some b) on = ap (λ c. Some c) on

none_ticked : (ts : List Timer) (i : ℕ) → slice_get ts i ≡ None → slice_get (map ticked ts) i ≡ None
none_ticked [] i e = refl
none_ticked (t ∷ ts) zero e = absurd (cc e)
none_ticked (t ∷ ts) (suc i) e = none_ticked ts i e

-- a TimingEvent that there is not is not due after a tick either
none_due : (k : clock_kept.Kept) (i : ℕ) → is_due i k ≡ None → is_timer_due (is_due i (after_tick k)) ≡ false
none_due k i none = by_timer (slice_get k.timers i) refl none
  where
    by_timer : (o : Option Timer) → slice_get k.timers i ≡ o → option_map (λ (t : Timer). t.due) o ≡ None → is_timer_due (is_due i (after_tick k)) ≡ false
    by_timer None there none = ap (λ (o : Option Timer). is_timer_due (option_map (λ (t : Timer). t.due) o)) (none_ticked k.timers i there)
    by_timer (Some t) there none = absurd (cc none)

module _ (k : Kept) (names woken : List ℕ) (new : clock_kept.Kept) (named : names ≡ k.timings) (ticks : new ≡ after_tick k.clock) where
  -- a TimingEvent is told by its name, which is its number in the plan
  pub tick_told : ((i name : ℕ) → is_due i k.clock ≡ Some false → is_due i new ≡ Some true → slice_get names i ≡ Some name → Contains woken name)
      → (event : ℕ) → may_start k event ≡ false → may_start (with_clock k new) event ≡ true → Contains woken event
  tick_told told event off on = by_place (place event k.timings) (place event k.inits) refl off (subst (λ c. is_pending_at (place event k.timings) (place event k.inits) c ≡ true) ticks on)
    where
      by_place : (timing init : Option ℕ) → place event k.timings ≡ timing → is_pending_at timing init k.clock ≡ false → is_pending_at timing init (after_tick k.clock) ≡ true → Contains woken event
      by_place None None there off on = absurd (false≢true on)
      by_place None (Some i) there off on = absurd (false≢true (sym off ∙ on))
      by_place (Some i) init there off on = by_due (is_due i k.clock) refl off
        where
          by_due : (o : Option Bool) → is_due i k.clock ≡ o → is_timer_due o ≡ false → Contains woken event
          by_due None is off = absurd (false≢true (sym (none_due k.clock i is) ∙ on))
          by_due (Some b) is off =
              told i event (is ∙ ap (λ c. Some c) off) (ap (is_due i) ticks ∙ due_true (is_due i (after_tick k.clock)) on) (ap (λ xs. slice_get xs i) named ∙ place_at event k.timings i there)

  pub tick_only : is_rising k.timings ≡ true → ((name : ℕ) → Contains woken name → IsRung names k.clock new name)
      → (event : ℕ) → Contains woken event → (may_start k event ≡ false) × (may_start (with_clock k new) event ≡ true)
  tick_only rising only event among = (
    ap (λ o. is_pending_at o (place event k.inits) k.clock) here ∙ ap is_timer_due rung.was,
    ap (λ o. is_pending_at o (place event k.inits) new) here ∙ ap is_timer_due rung.is,
  )
    where
      rung : IsRung names k.clock new event
      rung = only event among

      there : slice_get k.timings rung.event ≡ Some event
      there = ap (λ xs. slice_get xs rung.event) (sym named) ∙ rung.named

      here : place event k.timings ≡ Some rung.event
      here = place_found k.timings rung.event event (rising_pairs k.timings rising) (slice_get_within k.timings rung.event event there) (get_or_from_slice_get k.timings rung.event event 0 there)
