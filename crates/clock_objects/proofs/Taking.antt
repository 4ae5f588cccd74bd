-- A start that is taken from the clock leaves what the lead gives, and one that is not pending changes nothing.
use Rattle.std.proofs.Common.{◌≡◌, ℕ, Bool, true, false, refl, sym, ◌∙◌, ap, Option, Some, None}
use Rattle.std.specs.Prelude.{set, option_map, unwrap_or}
use Rattle.bus_semantics.specs.Common.{slice_get, option_map_or}
use Rattle.tick_events.specs.Kept.{Timer, after_init, after_timing, is_due, started}
use Rattle.tick_events.specs.Kept as clock_kept
use Rattle.object_kinds.specs.Layout.{place}
use Rattle.object_kinds.proofs.Lists.{set_same}
use Rattle.clock_objects.specs.Kept.{Kept}
use Rattle.clock_objects.specs.Leading.{after_start, lead_of_start, with_clock}

not_due : (t : Timer) → t.due ≡ false → started t ≡ t
not_due t e = λ i. record { period = t.period; passed = t.passed; due = sym e i }

timers_same : (k : clock_kept.Kept) (i : ℕ) (o : Option Timer) → slice_get k.timers i ≡ o → option_map (λ (t : Timer). t.due) o ≡ Some false → option_map_or (λ (t : Timer). set k.timers i (started t)) o k.timers ≡ k.timers
timers_same k i None there due = refl
timers_same k i (Some t) there due = let off : t.due ≡ false = cc in
    ap (set k.timers i) (not_due t off) ∙ set_same k.timers i t there

-- with what the lead of the start gives
led_to : (k : Kept) (event : ℕ) (timing init : Option ℕ) (o : Option clock_kept.Kept) → place event k.timings ≡ timing → place event k.inits ≡ init → lead_of_start timing init k.clock ≡ o
    → unwrap_or (after_start k event) k ≡ with_clock k (unwrap_or o k.clock)
led_to k event timing init o there here is = ap (λ q. unwrap_or (option_map (with_clock k) q) k) ((λ i. lead_of_start (there i) (here i) k.clock) ∙ is) ∙ by_lead o
  where
    by_lead : (q : Option clock_kept.Kept) → unwrap_or (option_map (with_clock k) q) k ≡ with_clock k (unwrap_or q k.clock)
    by_lead None = refl
    by_lead (Some c) = refl

pub timing_taken : (k : Kept) (new : clock_kept.Kept) (event i : ℕ) (pending : Bool) → place event k.timings ≡ Some i → Some pending ≡ is_due i k.clock → new ≡ after_timing i k.clock
    → with_clock k new ≡ unwrap_or (after_start k event) k
timing_taken k new event i true there due next = ap (with_clock k) next ∙ sym (led_to k event (Some i) (place event k.inits) (Some (after_timing i k.clock)) there refl (rw (← due) refl))
timing_taken k new event i false there due next =
    ap (with_clock k) (next ∙ (λ j. record { timers = timers_same k.clock i (slice_get k.clock.timers i) refl (sym due) j; unstarted = k.clock.unstarted }))
    ∙ sym (led_to k event (Some i) (place event k.inits) None there refl (rw (← due) refl))

pub init_taken : (k : Kept) (new : clock_kept.Kept) (event i : ℕ) (pending : Bool) → place event k.timings ≡ None → place event k.inits ≡ Some i → Some pending ≡ slice_get k.clock.unstarted i
    → new ≡ after_init i k.clock → with_clock k new ≡ unwrap_or (after_start k event) k
init_taken k new event i true none there due next = ap (with_clock k) next ∙ sym (led_to k event None (Some i) (Some (after_init i k.clock)) none there (rw (← due) refl))
init_taken k new event i false none there due next =
    ap (with_clock k) (next ∙ (λ j. record { timers = k.clock.timers; unstarted = set_same k.clock.unstarted i false (sym due) j }))
    ∙ sym (led_to k event None (Some i) None none there (rw (← due) refl))
