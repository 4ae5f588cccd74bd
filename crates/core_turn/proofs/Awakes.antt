-- What sleeps of a core, as slots step and events fall asleep.
use Rattle.std.proofs.Common.{◌≡◌, ◌≢◌, ℕ, ◌<◌, ◌≤◌, Bool, true, false, refl, sym, ◌∙◌, ap, subst, arith, List, [], length, get_or, set, replicate, inl, inr, Option, Some, None}
use Rattle.bus_semantics.specs.Common.{option_map, slice_get, cases_lt, false≢true, length-set, length-replicate, length-map, get_or_from_slice_get, slice_get-get_or, slice_get_within}
use Rattle.bus_semantics.specs.Common.{slice_get-map, Plan, gathered, start_try}
use Rattle.std.proofs.lemmas.List.{get_or_past, get_or-replicate}
use Rattle.port_objects.specs.declared.object.Object.{Object}
use Rattle.place_set.specs.Places.{NoneBetween}
use Rattle.task_machine.specs.declared.instr.TaskSet.{TaskSet}
use Rattle.task_slots.specs.declared.slot.Slot.{Slot}
use Rattle.task_slots.specs.declared.slot.Slot.TheVariants as of
use Rattle.task_slots.specs.declared.slot.Activity.{Activity}
use Rattle.task_slots.specs.declared.slot.Activity.TheVariants.{Free, Runs, Calls, Serves}
use Rattle.task_slots.specs.Slots.{tries_of, slot_tries, events_of_slot}
use Rattle.task_slots.specs.Looking.{AllHeld}
use Rattle.task_slots.specs.Waiting.{flags, EventsHeld, is_free_task, is_free, idle_tries}
use Rattle.latches.proofs.Places.{Placed, here, there, placed}
use Rattle.task_slots.proofs.Unchanged.{TriesHeld}
use Rattle.core_turn.specs.Awake.{AwakeState, all_awake, Fits, AreHeld, StartsHeld, IsOver, IsQuiet, HeldTold, IsSettled, with_slots}
use Rattle.core_turn.proofs.Order.{no_both}
use Rattle.core_turn.proofs.Waiters.{none_waits, waiter_held}

-- all that a slot tries in which nothing runs
pub free_tries : (p : Plan) (t : TaskSet) (s : Slot) → is_free s ≡ true → slot_tries p t s ≡ idle_tries p s
free_tries p t (of.Machine n) free = refl
free_tries p t (of.Task s) free = by_activity s.activity free
  where
    by_activity : (a : Activity) → is_free_task a ≡ true → tries_of p t s.events.items s.frame s.inner a ≡ gathered (start_try p) s.events.items
    by_activity Free free = refl
    by_activity (Runs k) free = absurd (false≢true free)
    by_activity (Calls c) free = absurd (false≢true free)
    by_activity (Serves c) free = absurd (false≢true free)

-- ---- all awake

none_asleep : (n i : ℕ) → slice_get (replicate n true) i ≡ Some false → ⊥
none_asleep n i e =
    let within : i < n = subst (λ k. i < k) (length-replicate n true) (slice_get_within (replicate n true) i false e) in
    false≢true (sym (get_or_from_slice_get (replicate n true) i false true e) ∙ get_or-replicate n i true true within)

pub all_starts : (p : Plan) (t : TaskSet) (objects : List Object) (slots : List Slot) (a : AwakeState) → a.slots ≡ replicate (length slots) true → a.events ≡ all_awake slots → StartsHeld p t objects slots a
all_starts p t objects slots a flags rows = record {
  events = λ i j e s row found at event sleeps.
      let f : Slot → List Bool = λ (s : Slot). replicate (length (events_of_slot s)) true in
      let is : Some row ≡ Some (f s) = sym at ∙ ap (λ xs. slice_get xs i) rows ∙ slice_get-map f slots i ∙ ap (option_map f) found in
      let same : row ≡ f s = cc in
      absurd (none_asleep (length (events_of_slot s)) j (subst (λ r. slice_get r j ≡ Some false) same sleeps));
  slots = λ i s found sleeps dry. absurd (none_asleep (length slots) i (subst (λ r. slice_get r i ≡ Some false) flags sleeps));
}

pub all_held : (p : Plan) (t : TaskSet) (objects : List Object) (touched : Option ℕ) (slots : List Slot) (first : ℕ) (a : AwakeState) (n : ℕ) → a.slots ≡ replicate (length slots) true → a.events ≡ all_awake slots → length a.waiting ≡ n → NoneBetween a.waiting 0 n
    → AreHeld p t objects touched slots first a
all_held p t objects touched slots first a n flags rows count none = record { starts = all_starts p t objects slots a flags rows; waiters = none_waits p t objects touched slots first a n count none }

pub all_fits : (slots : List Slot) (first : ℕ) (a : AwakeState) → a.slots ≡ replicate (length slots) true → a.events ≡ all_awake slots → length a.waiting ≡ length slots → length a.areas ≡ length slots → a.first ≡ first → Fits slots first a
all_fits slots first a flags rows waiting areas begins = record {
  count = ap length flags ∙ length-replicate (length slots) true;
  rows = ap length rows ∙ length-map slots (λ (s : Slot). replicate (length (events_of_slot s)) true);
  widths = λ i s row found at.
      let f : Slot → List Bool = λ (s : Slot). replicate (length (events_of_slot s)) true in
      let is : Some row ≡ Some (f s) = sym at ∙ ap (λ xs. slice_get xs i) rows ∙ slice_get-map f slots i ∙ ap (option_map f) found in
      let same : row ≡ f s = cc in
      ap length same ∙ length-replicate (length (events_of_slot s)) true;
  waiting = waiting;
  areas = areas;
  begins = begins;
}

-- ---- one wakes

-- with these rows of events
abbrev pub with_rows : AwakeState → List (List Bool) → AwakeState
with_rows a rows = record { slots = a.slots; events = rows; waiting = a.waiting; areas = a.areas; first = a.first }

-- where a flag was set, one that is not set was not before
not_before : (flags : List Bool) (n i : ℕ) → slice_get (set flags n true) i ≡ Some false → (i ≢ n) × (slice_get flags i ≡ Some false)
not_before flags n i e = of_place (placed flags n true i false e)
  where
    of_place : Placed Bool flags n true i false → (i ≢ n) × (slice_get flags i ≡ Some false)
    of_place (here at same) = absurd (false≢true same)
    of_place (there other found) = (other, found)

other_flag : (flags : List Bool) (n i : ℕ) (x : Bool) → i ≢ n → slice_get (set flags n x) i ≡ Some false → slice_get flags i ≡ Some false
other_flag flags n i x other e = of_place (placed flags n x i false e)
  where
    of_place : Placed Bool flags n x i false → slice_get flags i ≡ Some false
    of_place (here at same) = absurd (other at)
    of_place (there apart found) = found

pub row_there : (rows : List (List Bool)) (n place : ℕ) → place < length (get_or rows n []) → n < length rows
row_there rows n place within = elim (cases_lt n (length rows)) [
  | inl inside ↦ inside
  | inr past ↦ let none : length (get_or rows n []) ≡ 0 = ap length (get_or_past rows n [] past) in absurd (omega arith)
]

-- a slot wakes
pub starts_waking : (p : Plan) (t : TaskSet) (objects : List Object) (slots : List Slot) (a : AwakeState) (n : ℕ) → StartsHeld p t objects slots a → StartsHeld p t objects slots (with_slots a (set a.slots n true) (set a.waiting n false) a.areas)
starts_waking p t objects slots a n held = record {
  events = held.events;
  slots = λ i s found sleeps dry.
      let before = not_before a.slots n i sleeps in
      held.slots i s found before.1 (other_flag a.waiting n i false before.0 dry);
}

-- an event wakes
pub starts_on : (p : Plan) (t : TaskSet) (objects : List Object) (slots : List Slot) (a : AwakeState) (n place : ℕ) (row : List Bool) → slice_get a.events n ≡ Some row → StartsHeld p t objects slots a
    → StartsHeld p t objects slots (with_rows a (set a.events n (set row place true)))
starts_on p t objects slots a n place row at held = record {
  events = λ i j e s r found there_it event sleeps. of_place i j e s r found event sleeps (placed a.events n (set row place true) i r there_it);
  slots = held.slots;
}
  where
    of_place : (i j e : ℕ) (s : Slot) (r : List Bool) → slice_get slots i ≡ Some s → slice_get (events_of_slot s) j ≡ Some e → slice_get r j ≡ Some false → Placed (List Bool) a.events n (set row place true) i r → AllHeld p objects (start_try p e)
    of_place i j e s r found event sleeps (here same is) =
        held.events i j e s row found (ap (slice_get a.events) same ∙ at) event (not_before row place j (subst (λ x. slice_get x j ≡ Some false) is sleeps)).1
    of_place i j e s r found event sleeps (there other here_it) = held.events i j e s r found here_it event sleeps

-- an event falls asleep, no start by which may come
pub starts_off : (p : Plan) (t : TaskSet) (objects : List Object) (slots : List Slot) (a : AwakeState) (n place : ℕ) (row : List Bool) → slice_get a.events n ≡ Some row → IsOver p objects slots n place → StartsHeld p t objects slots a
    → StartsHeld p t objects slots (with_rows a (set a.events n (set row place false)))
starts_off p t objects slots a n place row at over held = record {
  events = λ i j e s r found there_it event sleeps. of_place i j e s r found event sleeps (placed a.events n (set row place false) i r there_it);
  slots = held.slots;
}
  where
    of_flag : (i j e : ℕ) (s : Slot) → slice_get slots i ≡ Some s → slice_get (events_of_slot s) j ≡ Some e → i ≡ n → Placed Bool row place false j false → AllHeld p objects (start_try p e)
    of_flag i j e s found event same (here is off) = over s e (ap (slice_get slots) (sym same) ∙ found) (ap (slice_get (events_of_slot s)) (sym is) ∙ event)
    of_flag i j e s found event same (there other was) = held.events i j e s row found (ap (slice_get a.events) same ∙ at) event was

    of_place : (i j e : ℕ) (s : Slot) (r : List Bool) → slice_get slots i ≡ Some s → slice_get (events_of_slot s) j ≡ Some e → slice_get r j ≡ Some false → Placed (List Bool) a.events n (set row place false) i r → AllHeld p objects (start_try p e)
    of_place i j e s r found event sleeps (here same is) = of_flag i j e s found event same (placed row place false j false (subst (λ x. slice_get x j ≡ Some false) is sleeps))
    of_place i j e s r found event sleeps (there other here_it) = held.events i j e s r found here_it event sleeps

-- ---- where a bench tells its objects

module _ (p : Plan) where
  pub events_held : (t : TaskSet) (o : Option (List Object)) (slots : List Slot) (first : ℕ) (a : AwakeState) (i : ℕ) (s : Slot) (row : List Bool) → slice_get slots i ≡ Some s → slice_get a.events i ≡ Some row → length row ≡ length (events_of_slot s) → HeldTold p t o None slots first a
      → EventsHeld p o (events_of_slot s) (flags row)
  events_held t None slots first a i s row found at width held = tt
  events_held t (Some objects) slots first a i s row found at width held = λ j e event sleeps.
      let within : j < length (events_of_slot s) = slice_get_within (events_of_slot s) j e event in
      held.starts.events i j e s row found at event (slice_get-get_or row j false (omega (arith, width, within)) ∙ ap (λ b. Some b) sleeps)

  module _ (objects : List Object) where
    -- the events of one slot fell asleep
    pub starts_row : (t : TaskSet) (slots : List Slot) (a : AwakeState) (at : ℕ) (s : Slot) (row : List Bool) → slice_get slots at ≡ Some s → EventsHeld p (Some objects) (events_of_slot s) (flags row)
        → StartsHeld p t objects slots a → StartsHeld p t objects slots (with_rows a (set a.events at row))
    starts_row t slots a at s row found held before = record {
      events = λ i j e x r there_it at_it event sleeps. of_place i j e x r there_it event sleeps (placed a.events at row i r at_it);
      slots = before.slots;
    }
      where
        of_place : (i j e : ℕ) (x : Slot) (r : List Bool) → slice_get slots i ≡ Some x → slice_get (events_of_slot x) j ≡ Some e → slice_get r j ≡ Some false → Placed (List Bool) a.events at row i r → AllHeld p objects (start_try p e)
        of_place i j e x r there_it event sleeps (here same is) =
            let one : Some x ≡ Some s = sym there_it ∙ ap (slice_get slots) same ∙ found in
            let own : x ≡ s = cc in
            held j e (subst (λ y. slice_get (events_of_slot y) j ≡ Some e) own event) (get_or_from_slice_get row j false false (subst (λ y. slice_get y j ≡ Some false) is sleeps))
        of_place i j e x r there_it event sleeps (there other here_it) = before.events i j e x r there_it here_it event sleeps

    -- a slot of which nothing may come fell asleep
    pub starts_settled : (t : TaskSet) (slots : List Slot) (a a' : AwakeState) (at : ℕ) (s : Slot) → slice_get slots at ≡ Some s → AllHeld p objects (slot_tries p t s) → IsSettled p t s (is_free s) at a a' → StartsHeld p t objects slots a
        → StartsHeld p t objects slots a'
    starts_settled t slots a a' at s found held settled before = of_free (is_free s) refl settled
      where
        -- its flag fell
        put_out : IsQuiet p t objects s → StartsHeld p t objects slots (with_slots a (set a.slots at false) a.waiting a.areas)
        put_out quiet = record {
          events = before.events;
          slots = λ i x there_it sleeps dry. of_place i x there_it dry (placed a.slots at false i false sleeps);
        }
          where
            of_place : (i : ℕ) (x : Slot) → slice_get slots i ≡ Some x → slice_get a.waiting i ≡ Some false → Placed Bool a.slots at false i false → IsQuiet p t objects x
            of_place i x there_it dry (here same is) =
                let one : Some x ≡ Some s = sym there_it ∙ ap (slice_get slots) same ∙ found in
                let own_slot : x ≡ s = cc in
                subst (IsQuiet p t objects) (sym own_slot) quiet
            of_place i x there_it dry (there other sleeps) = before.slots i x there_it sleeps dry

        of_free : (r : Bool) → is_free s ≡ r → IsSettled p t s r at a a' → StartsHeld p t objects slots a'
        of_free false free (inl same) = subst (StartsHeld p t objects slots) (sym same) before
        of_free false free (inr (inl f)) = subst (StartsHeld p t objects slots) (sym f.changed) (record {
          events = before.events;
          slots = λ i x there_it sleeps dry.
              let waits = not_before a.waiting at i dry in
              before.slots i x there_it (other_flag a.slots at i false waits.0 sleeps) waits.1;
        })
        of_free false free (inr (inr f)) = subst (StartsHeld p t objects slots) (sym f.changed) (put_out (inr (record { point = f.point; hears = f.hears; held = held })))
        of_free true free put = subst (StartsHeld p t objects slots) (sym put) (put_out (inl (free, subst (AllHeld p objects) (free_tries p t s free) held)))

    -- a slot that is awake stepped
    pub starts_stepped : (t : TaskSet) (slots : List Slot) (a : AwakeState) (at : ℕ) (s stepped : Slot) → slice_get slots at ≡ Some s → events_of_slot stepped ≡ events_of_slot s → slice_get a.slots at ≡ Some true → StartsHeld p t objects slots a
        → StartsHeld p t objects (set slots at stepped) a
    starts_stepped t slots a at s stepped found same awake before = record {
      events = λ i j e x row there_it at_it event sleeps. of_events i j e x row at_it event sleeps (placed slots at stepped i x there_it);
      slots = λ i x there_it sleeps dry. of_slots i x sleeps dry (placed slots at stepped i x there_it);
    }
      where
        of_events : (i j e : ℕ) (x : Slot) (row : List Bool) → slice_get a.events i ≡ Some row → slice_get (events_of_slot x) j ≡ Some e → slice_get row j ≡ Some false → Placed Slot slots at stepped i x → AllHeld p objects (start_try p e)
        of_events i j e x row at_it event sleeps (here place is) =
            let listed : events_of_slot x ≡ events_of_slot s = ap events_of_slot is ∙ same in
            before.events i j e s row (ap (slice_get slots) place ∙ found) at_it (subst (λ v. slice_get v j ≡ Some e) listed event) sleeps
        of_events i j e x row at_it event sleeps (there other here_it) = before.events i j e x row here_it at_it event sleeps

        of_slots : (i : ℕ) (x : Slot) → slice_get a.slots i ≡ Some false → slice_get a.waiting i ≡ Some false → Placed Slot slots at stepped i x → IsQuiet p t objects x
        of_slots i x sleeps dry (here place is) = no_both (slice_get a.slots at) awake (ap (slice_get a.slots) (sym place) ∙ sleeps)
        of_slots i x sleeps dry (there other here_it) = before.slots i x here_it sleeps dry

  -- a slot that sleeps tries nothing that may come, if none before it is awake
  pub asleep_held : (t : TaskSet) (o : Option (List Object)) (slots : List Slot) (from : ℕ) (a : AwakeState) (i : ℕ) (s : Slot) → slice_get slots i ≡ Some s → slice_get a.slots i ≡ Some false → i < length a.waiting → from ≤ i → NoneBetween a.slots from i
      → HeldTold p t o None slots from a → TriesHeld p o (slot_tries p t s)
  asleep_held t None slots from a i s found sleeps inside begun none held = tt
  asleep_held t (Some objects) slots from a i s found sleeps inside begun none held = of_flag (get_or a.waiting i false) refl
    where
      flag : slice_get a.waiting i ≡ Some (get_or a.waiting i false)
      flag = slice_get-get_or a.waiting i false inside

      quiet : IsQuiet p t objects s → AllHeld p objects (slot_tries p t s)
      quiet (inl free) = subst (AllHeld p objects) (sym (free_tries p t s free.0)) free.1
      quiet (inr deaf) = deaf.held

      of_flag : (b : Bool) → get_or a.waiting i false ≡ b → AllHeld p objects (slot_tries p t s)
      of_flag true is = waiter_held p t objects slots a from i s found begun none (flag ∙ ap (λ b. Some b) is) held.waiters
      of_flag false is = quiet (held.starts.slots i s found sleeps (flag ∙ ap (λ b. Some b) is))

-- ---- a place for each

fits_out : (slots : List Slot) (first : ℕ) (a a' : AwakeState) (at : ℕ) → a' ≡ with_slots a (set a.slots at false) a.waiting a.areas → Fits slots first a → Fits slots first a'
fits_out slots first a a' at put fits = subst (Fits slots first) (sym put) (record {
  count = length-set a.slots at false ∙ fits.count;
  rows = fits.rows;
  widths = fits.widths;
  waiting = fits.waiting;
  areas = fits.areas;
  begins = fits.begins;
})

pub fits_settled : (p : Plan) (t : TaskSet) (slots : List Slot) (first : ℕ) (a a' : AwakeState) (at : ℕ) (s : Slot) (free : Bool) → IsSettled p t s free at a a' → Fits slots first a → Fits slots first a'
fits_settled p t slots first a a' at s true put fits = fits_out slots first a a' at put fits
fits_settled p t slots first a a' at s false (inl same) fits = subst (Fits slots first) (sym same) fits
fits_settled p t slots first a a' at s false (inr (inr f)) fits = fits_out slots first a a' at f.changed fits
fits_settled p t slots first a a' at s false (inr (inl f)) fits = subst (Fits slots first) (sym f.changed) (record {
  count = length-set a.slots at false ∙ fits.count;
  rows = fits.rows;
  widths = fits.widths;
  waiting = length-set a.waiting at true ∙ fits.waiting;
  areas = length-set a.areas at f.object ∙ fits.areas;
  begins = fits.begins;
})

pub fits_row : (slots : List Slot) (first : ℕ) (a : AwakeState) (at : ℕ) (s : Slot) (row : List Bool) → slice_get slots at ≡ Some s → length row ≡ length (events_of_slot s) → Fits slots first a → Fits slots first (with_rows a (set a.events at row))
fits_row slots first a at s row found width fits = record {
  count = fits.count;
  rows = length-set a.events at row ∙ fits.rows;
  widths = λ i x r there_it at_it. of_place i x r there_it (placed a.events at row i r at_it);
  waiting = fits.waiting;
  areas = fits.areas;
  begins = fits.begins;
}
  where
    of_place : (i : ℕ) (x : Slot) (r : List Bool) → slice_get slots i ≡ Some x → Placed (List Bool) a.events at row i r → length r ≡ length (events_of_slot x)
    of_place i x r there_it (here same is) =
        let one : Some x ≡ Some s = sym there_it ∙ ap (slice_get slots) same ∙ found in
        let own : s ≡ x = cc in
        ap length is ∙ width ∙ ap (λ (y : Slot). length (events_of_slot y)) own
    of_place i x r there_it (there other here_it) = fits.widths i x r there_it here_it

pub fits_off : (slots : List Slot) (first : ℕ) (a : AwakeState) (n place : ℕ) (row : List Bool) → slice_get a.events n ≡ Some row → Fits slots first a → Fits slots first (with_rows a (set a.events n (set row place false)))
fits_off slots first a n place row at fits = record {
  count = fits.count;
  rows = length-set a.events n (set row place false) ∙ fits.rows;
  widths = λ i x r there_it at_it. of_place i x r there_it (placed a.events n (set row place false) i r at_it);
  waiting = fits.waiting;
  areas = fits.areas;
  begins = fits.begins;
}
  where
    of_place : (i : ℕ) (x : Slot) (r : List Bool) → slice_get slots i ≡ Some x → Placed (List Bool) a.events n (set row place false) i r → length r ≡ length (events_of_slot x)
    of_place i x r there_it (here same is) = ap length is ∙ length-set row place false ∙ fits.widths i x row there_it (ap (slice_get a.events) same ∙ at)
    of_place i x r there_it (there other here_it) = fits.widths i x r there_it here_it

pub fits_stepped : (slots : List Slot) (first : ℕ) (a : AwakeState) (at : ℕ) (s stepped : Slot) → slice_get slots at ≡ Some s → events_of_slot stepped ≡ events_of_slot s → Fits slots first a → Fits (set slots at stepped) first a
fits_stepped slots first a at s stepped found same fits = record {
  count = fits.count ∙ sym (length-set slots at stepped);
  rows = fits.rows ∙ sym (length-set slots at stepped);
  widths = λ i x row there_it at_it. of_place i x row at_it (placed slots at stepped i x there_it);
  waiting = fits.waiting ∙ sym (length-set slots at stepped);
  areas = fits.areas ∙ sym (length-set slots at stepped);
  begins = fits.begins;
}
  where
    of_place : (i : ℕ) (x : Slot) (row : List Bool) → slice_get a.events i ≡ Some row → Placed Slot slots at stepped i x → length row ≡ length (events_of_slot x)
    of_place i x row at_it (here place is) =
        fits.widths i s row (ap (slice_get slots) place ∙ found) at_it ∙ sym (ap (λ (y : Slot). length (events_of_slot y)) is ∙ ap length same)
    of_place i x row at_it (there other here_it) = fits.widths i x row here_it at_it
