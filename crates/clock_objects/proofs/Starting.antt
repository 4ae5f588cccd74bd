-- Starts that the clock does not allow, and entries that make none come.
use Rattle.std.proofs.Common.{◌≡◌, ℕ, zero, suc, Bool, true, false, refl, sym, ap, subst, List, [], ◌∷◌, set, Option, Some, None}
use Rattle.std.specs.Prelude.{option_map, unwrap_or}
use Rattle.bus_semantics.specs.Common.{slice_get, option_map_or, false≢true, Noted, to_start, wanted_by}
use Rattle.bus_semantics.specs.declared.entries.Deed.{Deed}
use Rattle.bus_semantics.specs.declared.entries.Deed.TheVariants as deed
use Rattle.tick_events.specs.Kept as clock_kept
use Rattle.object_kinds.specs.Common.{given, is_set, place}
use Rattle.object_kinds.proofs.Options.{given_some, mapped_some}
use Rattle.clock_objects.specs.Kept.{Kept, is_pending_at, is_timer_due, may_start}
use Rattle.clock_objects.specs.Leading.{after_start, lead, lead_of_clock, lead_of_start, wakes, with_clock}

-- ---- starts

given_none : {X : Type 0} (b : Bool) (x : X) → b ≡ false → given b x ≡ None
given_none true x e = absurd (false≢true (sym e))
given_none false x e = refl

none_given : {X : Type 0} (b : Bool) (x : X) → given b x ≡ None → b ≡ false
none_given true x e = absurd (cc e)
none_given false x e = refl

clock_started : (k : clock_kept.Kept) (timing init : Option ℕ) → is_pending_at timing init k ≡ false → lead_of_start timing init k ≡ None
clock_started k (Some i) init held = given_none (is_timer_due (clock_kept.is_due i k)) (clock_kept.after_timing i k) held
clock_started k None (Some i) held = given_none (is_set k.unstarted i) (clock_kept.after_init i k) held
clock_started k None None held = refl

clock_held : (k : clock_kept.Kept) (timing init : Option ℕ) → lead_of_start timing init k ≡ None → is_pending_at timing init k ≡ false
clock_held k (Some i) init none = none_given (is_timer_due (clock_kept.is_due i k)) (clock_kept.after_timing i k) none
clock_held k None (Some i) none = none_given (is_set k.unstarted i) (clock_kept.after_init i k) none
clock_held k None None none = refl

mapped_none : {X Y : Type 0} (f : X → Y) (o : Option X) → option_map f o ≡ None → o ≡ None
mapped_none f None e = refl
mapped_none f (Some x) e = absurd (cc e)

-- where the flag of an event is clear, and there alone, a start by it gives nothing
pub not_started : (k : Kept) (event : ℕ) → may_start k event ≡ false → after_start k event ≡ None
not_started k event held = ap (option_map (with_clock k)) (clock_started k.clock (place event k.timings) (place event k.inits) held)

pub not_pending : (k : Kept) (event : ℕ) → after_start k event ≡ None → may_start k event ≡ false
not_pending k event none =
    clock_held k.clock (place event k.timings) (place event k.inits) (mapped_none (with_clock k) (lead_of_start (place event k.timings) (place event k.inits) k.clock) none)

-- an entry of the wish to start is a start by that event
pub starts_by : (k : Kept) (n : Noted) (by event : ℕ) → wanted_by by n.entry.deed ≡ to_start event → lead k n ≡ after_start k event
starts_by k n by event same = by_deed n.entry.deed same
  where
    by_deed : (d : Deed) → wanted_by by d ≡ to_start event → option_map (with_clock k) (lead_of_clock k.timings k.inits k.clock d) ≡ after_start k event
    by_deed (deed.Start e point value) same = let is : e ≡ event = cc in ap (after_start k) is
    by_deed d same = absurd (cc same)

-- ---- other entries

-- a flag that is cleared sets no flag
set_off : (flags : List Bool) (i j : ℕ) → is_set flags j ≡ false → is_set (set flags i false) j ≡ false
set_off [] i j off = off
set_off (b ∷ flags) zero zero off = refl
set_off (b ∷ flags) zero (suc j) off = off
set_off (b ∷ flags) (suc i) zero off = off
set_off (b ∷ flags) (suc i) (suc j) off = set_off flags i j off

due_at : List clock_kept.Timer → ℕ → Bool
due_at ts j = is_timer_due (option_map (λ (t : clock_kept.Timer). t.due) (slice_get ts j))

started_off : (ts : List clock_kept.Timer) (i j : ℕ) (t : clock_kept.Timer) → due_at ts j ≡ false → due_at (set ts i (clock_kept.started t)) j ≡ false
unfolding due_at
started_off [] i j t off = off
started_off (x ∷ ts) zero zero t off = refl
started_off (x ∷ ts) zero (suc j) t off = off
started_off (x ∷ ts) (suc i) zero t off = off
started_off (x ∷ ts) (suc i) (suc j) t off = started_off ts i j t off

timers_off : (ts : List clock_kept.Timer) (i j : ℕ) (o : Option clock_kept.Timer) → due_at ts j ≡ false → due_at (option_map_or (λ t. set ts i (clock_kept.started t)) o ts) j ≡ false
timers_off ts i j None off = off
timers_off ts i j (Some t) off = started_off ts i j t off

timing_off : (k : clock_kept.Kept) (i : ℕ) (timing init : Option ℕ) → is_pending_at timing init k ≡ false → is_pending_at timing init (clock_kept.after_timing i k) ≡ false
unfolding due_at
timing_off k i (Some j) init off = timers_off k.timers i j (slice_get k.timers i) off
timing_off k i None (Some j) off = off
timing_off k i None None off = refl

init_off : (k : clock_kept.Kept) (i : ℕ) (timing init : Option ℕ) → is_pending_at timing init k ≡ false → is_pending_at timing init (clock_kept.after_init i k) ≡ false
init_off k i (Some j) init off = off
init_off k i None (Some j) off = set_off k.unstarted i j off
init_off k i None None off = refl

start_off : (k after : clock_kept.Kept) (timing init at other : Option ℕ) → lead_of_start timing init k ≡ Some after → is_pending_at at other k ≡ false → is_pending_at at other after ≡ false
start_off k after (Some i) init at other leads off =
    let gives = given_some (is_timer_due (clock_kept.is_due i k)) (clock_kept.after_timing i k) after leads in
    subst (λ (z : clock_kept.Kept). is_pending_at at other z ≡ false) gives.same (timing_off k i at other off)
start_off k after None (Some i) at other leads off =
    let gives = given_some (is_set k.unstarted i) (clock_kept.after_init i k) after leads in
    subst (λ (z : clock_kept.Kept). is_pending_at at other z ≡ false) gives.same (init_off k i at other off)
start_off k after None None at other leads off = absurd (cc leads)

clock_off : (k : Kept) (after : clock_kept.Kept) (d : Deed) (event : ℕ) → lead_of_clock k.timings k.inits k.clock d ≡ Some after → wakes d ≡ false
    → is_pending_at (place event k.timings) (place event k.inits) k.clock ≡ false → is_pending_at (place event k.timings) (place event k.inits) after ≡ false
clock_off k after deed.Tick event leads other off = absurd (false≢true (sym other))
clock_off k after (deed.Start e point value) event leads other off = start_off k.clock after (place e k.timings) (place e k.inits) (place event k.timings) (place event k.inits) leads off
clock_off k after d event leads other off = absurd (cc leads)

pub wakes_nothing : (before after : Kept) (n : Noted) → lead before n ≡ Some after → wakes n.entry.deed ≡ false → (event : ℕ) → may_start before event ≡ false → may_start after event ≡ false
wakes_nothing before after n leads other event off =
    let gives = mapped_some (with_clock before) (lead_of_clock before.timings before.inits before.clock n.entry.deed) after leads in
    subst (λ k. may_start k event ≡ false) gives.gives (clock_off before gives.item n.entry.deed event gives.is other off)

-- what is kept after a start, or without one, allows no start that was not allowed before
pub start_wakes_nothing : (before : Kept) (event other : ℕ) → may_start before other ≡ false → may_start (unwrap_or (after_start before event) before) other ≡ false
start_wakes_nothing before event other off = by_start (after_start before event) refl
  where
    by_start : (o : Option Kept) → after_start before event ≡ o → may_start (unwrap_or o before) other ≡ false
    by_start None none = off
    by_start (Some after) some =
        let gives = mapped_some (with_clock before) (lead_of_start (place event before.timings) (place event before.inits) before.clock) after some in
        subst (λ k. may_start k other ≡ false) gives.gives (start_off before.clock gives.item (place event before.timings) (place event before.inits) (place other before.timings) (place other before.inits) gives.is off)
