-- Looks at the slots of a core that are awake, one after the other.
use Rattle.std.proofs.Common.{◌≡◌, ℕ, suc, ◌+◌, ◌-◌, ◌<◌, ◌≤◌, drop, Bool, true, false, refl, sym, ◌∙◌, ap, subst, arith, List, length, get_or, set, inl, inr, Option, Some, None}
use Rattle.bus_semantics.specs.Common.{slice_get, cases_lt, slice_get-get_or, slice_get_read, slice_get_within, Plan, touched_by, gathered}
use Rattle.bus_semantics.specs.declared.entries.Stamped.{Stamped}
use Rattle.port_objects.specs.declared.object.Object.{Object}
use Rattle.place_set.specs.Places.{NoneBetween}
use Rattle.task_machine.specs.declared.instr.TaskSet.{TaskSet}
use Rattle.task_slots.specs.declared.slot.Slot.{Slot}
use Rattle.task_slots.specs.Common.{Made, ObjectsLooked, EventsHeld, noting_of}
use Rattle.task_slots.specs.Slots.{slot_tries, events_of_slot}
use Rattle.core_turn.specs.Cores.{slots_between}
use Rattle.core_turn.specs.Awake.{AwakeState, Fits, AreHeld, HeldTold, IsSettled}
use Rattle.task_slots.specs.Waiting.{flags, is_free}
use Rattle.task_slots.proofs.Unchanged.{TriesHeld, gathered_held, taken, dropped}
use Rattle.core_turn.proofs.Awakes.{asleep_held, with_rows, starts_row, starts_settled, starts_stepped, fits_settled, fits_row, fits_stepped}
use Rattle.core_turn.proofs.Waiters.{AlikeLaw, touches_own, waiters_onward, waiters_round, waiters_settled, waiters_stepped}

-- ---- slots that were passed

-- the slots from one place up to another
pub between_held : (p : Plan) (t : TaskSet) (o : Option (List Object)) (slots : List Slot) (from to : ℕ) → ((i : ℕ) (s : Slot) → from ≤ i → i < to → slice_get slots i ≡ Some s → TriesHeld p o (slot_tries p t s))
    → TriesHeld p o (gathered (slot_tries p t) (slots_between from to slots))
between_held p t o slots from to each = gathered_held p o (slot_tries p t) (slots_between from to slots) (λ i s found.
    let at = taken (drop from slots) (to - from) i s found in
    let before : i < to - from = at.0 in
    each (from + i) s (omega arith) (omega arith) (dropped slots from i s at.1))

module _ (p : Plan) (t : TaskSet) (o : Option (List Object)) (slots : List Slot) (a : AwakeState) (first : ℕ) (fits : Fits slots first a) (from behind : ℕ) (held : HeldTold p t o None slots behind a)
    (passed : (i : ℕ) (s : Slot) → from ≤ i → i < behind → slice_get slots i ≡ Some s → TriesHeld p o (slot_tries p t s)) where
  -- up to the next one that is awake
  pub passed_on : (at to : ℕ) → to ≤ at → NoneBetween a.slots behind at → (i : ℕ) (s : Slot) → from ≤ i → i < to → slice_get slots i ≡ Some s → TriesHeld p o (slot_tries p t s)
  passed_on at to less none i s after before found = elim (cases_lt i behind) [
    | inl low ↦ passed i s after low found
    | inr high ↦
        let within = slice_get_within slots i s found in
        let count = fits.count in
        let more = fits.waiting in
        let inside : i < length a.slots = omega arith in
        let wide : i < length a.waiting = omega arith in
        asleep_held p t o slots behind a i s found (slice_get-get_or a.slots i false inside ∙ ap (λ b. Some b) (none i high (omega arith))) wide high (λ j begun less_too. none j begun (omega arith)) held
  ]

-- ---- the order of slots begins later

pub held_onward : (p : Plan) (t : TaskSet) (o : Option (List Object)) (slots : List Slot) (a : AwakeState) (from to : ℕ) → from ≤ to → NoneBetween a.slots from to → HeldTold p t o None slots from a → HeldTold p t o None slots to a
held_onward p t None slots a from to less none held = tt
held_onward p t (Some objects) slots a from to less none held = record { starts = held.starts; waiters = waiters_onward p t objects slots a from to less none held.waiters }

pub held_round : (p : Plan) (t : TaskSet) (o : Option (List Object)) (slots : List Slot) (a : AwakeState) (count : ℕ) → length slots ≤ count → HeldTold p t o None slots count a → HeldTold p t o None slots 0 a
held_round p t None slots a count less held = tt
held_round p t (Some objects) slots a count less held = record { starts = held.starts; waiters = waiters_round p t objects slots a count less held.waiters }

-- ---- the next turn begins elsewhere

abbrev pub begins_at : AwakeState → (place : ℕ) → AwakeState
begins_at a place = record { slots = a.slots; events = a.events; waiting = a.waiting; areas = a.areas; first = place }

pub fits_begins : (slots : List Slot) (first next : ℕ) (a : AwakeState) (place : ℕ) → place ≡ next → Fits slots first a → Fits slots next (begins_at a place)
fits_begins slots first next a place same fits = record { count = fits.count; rows = fits.rows; widths = fits.widths; waiting = fits.waiting; areas = fits.areas; begins = same }

-- after the step of a slot
pub held_turned : (p : Plan) (t : TaskSet) (o : Option (List Object)) (touched : Option ℕ) (slots slots' : List Slot) (at place : ℕ) (a a' : AwakeState) → slots' ≡ slots → suc at ≡ place → a' ≡ a
    → HeldTold p t o touched slots (suc at) a → HeldTold p t o touched slots' place (begins_at a' place)
held_turned p t None touched slots slots' at place a a' same_slots same_place same_a held = tt
held_turned p t (Some objects) touched slots slots' at place a a' same_slots same_place same_a held =
    let here : AreHeld p t objects touched slots (suc at) a' = subst (AreHeld p t objects touched slots (suc at)) (sym same_a) held in
    let begun : AreHeld p t objects touched slots (suc at) (begins_at a' place) = record { starts = record { events = here.starts.events; slots = here.starts.slots }; waiters = here.waiters } in
    subst (λ n. AreHeld p t objects touched slots' n (begins_at a' place)) same_place
    (subst (λ ys. AreHeld p t objects touched ys (suc at) (begins_at a' place)) (sym same_slots) begun)

-- ---- the slot that is looked at

module _ (slots : List Slot) (a : AwakeState) (first : ℕ) (fits : Fits slots first a) (at : ℕ) (inside : at < length a.slots) where
  pub slot_within : at < length slots
  slot_within = let count = fits.count in omega arith

  pub row_within : at < length a.events
  row_within = let count = fits.count in let more = fits.rows in omega arith

  pub slot_found : (s : Slot) → s ≡ get_or slots at s → slice_get slots at ≡ Some s
  slot_found s is = slice_get_read slots (length slots) at s refl slot_within is

  pub row_found : (row : List Bool) → row ≡ get_or a.events at row → slice_get a.events at ≡ Some row
  row_found row is = slice_get_read a.events (length a.events) at row refl row_within is

  pub flag_found : get_or a.slots at false ≡ true → slice_get a.slots at ≡ Some true
  flag_found chosen = slice_get-get_or a.slots at false inside ∙ ap (λ b. Some b) chosen

  -- it stepped
  pub fits_made : (s stepped : Slot) (row : List Bool) → s ≡ get_or slots at s → length row ≡ length (events_of_slot s) → events_of_slot stepped ≡ events_of_slot s → Fits (set slots at stepped) first (with_rows a (set a.events at row))
  fits_made s stepped row is width events =
      fits_stepped slots first (with_rows a (set a.events at row)) at s stepped (slot_found s is) events (fits_row slots first a at s row (slot_found s is) width fits)

  -- nothing of it may come
  pub fits_nothing : (p : Plan) (t : TaskSet) (a' : AwakeState) (s : Slot) (row : List Bool) → s ≡ get_or slots at s → length row ≡ length (events_of_slot s) → IsSettled p t s (is_free s) at (with_rows a (set a.events at row)) a' → Fits slots first a'
  fits_nothing p t a' s row is width settled = fits_settled p t slots first (with_rows a (set a.events at row)) a' at s (is_free s) settled (fits_row slots first a at s row (slot_found s is) width fits)

  module _ (p : Plan) (t : TaskSet) (o : Option (List Object)) (from : ℕ) (begun : from ≤ at) (none : NoneBetween a.slots from at) (chosen : get_or a.slots at false ≡ true) (held : HeldTold p t o None slots from a) where
    pub held_made : (s stepped : Slot) (row : List Bool) (e : Stamped) (after : Option (List Object)) → s ≡ get_or slots at s → EventsHeld p o (events_of_slot s) (flags row) → events_of_slot stepped ≡ events_of_slot s → ObjectsLooked p (slot_tries p t s) o after (Made e)
        → HeldTold p t o (touched_by p (noting_of e)) (set slots at stepped) (suc at) (with_rows a (set a.events at row))
    held_made s stepped row e after is asleep events looked = of_told o held asleep looked
      where
        of_told : (o : Option (List Object)) → HeldTold p t o None slots from a → EventsHeld p o (events_of_slot s) (flags row) → ObjectsLooked p (slot_tries p t s) o after (Made e)
            → HeldTold p t o (touched_by p (noting_of e)) (set slots at stepped) (suc at) (with_rows a (set a.events at row))
        of_told None held asleep looked = tt
        of_told (Some objects) held asleep looked = record {
          starts = starts_stepped p objects t slots (with_rows a (set a.events at row)) at s stepped (slot_found s is) events (flag_found chosen) (starts_row p objects t slots a at s row (slot_found s is) asleep held.starts);
          waiters = waiters_stepped p t objects slots (with_rows a (set a.events at row)) from at s (slot_found s is) (flag_found chosen) begun none (touched_by p (noting_of e)) stepped
              (λ object waits. touches_own p t s object objects after e waits looked) held.waiters;
        }

    pub held_nothing : AlikeLaw → (a' : AwakeState) (s : Slot) (row : List Bool) → s ≡ get_or slots at s → EventsHeld p o (events_of_slot s) (flags row) → TriesHeld p o (slot_tries p t s) → IsSettled p t s (is_free s) at (with_rows a (set a.events at row)) a'
        → HeldTold p t o None slots (suc at) a'
    held_nothing alike a' s row is asleep tries settled = of_told o held asleep tries
      where
        of_told : (o : Option (List Object)) → HeldTold p t o None slots from a → EventsHeld p o (events_of_slot s) (flags row) → TriesHeld p o (slot_tries p t s) → HeldTold p t o None slots (suc at) a'
        of_told None held asleep tries = tt
        of_told (Some objects) held asleep tries =
            let count = fits.count in
            let more = fits.areas in
            let widths : length a.areas ≡ length a.slots = omega arith in
            record {
              starts = starts_settled p objects t slots (with_rows a (set a.events at row)) a' at s (slot_found s is) tries settled (starts_row p objects t slots a at s row (slot_found s is) asleep held.starts);
              waiters = waiters_settled p t objects slots (with_rows a (set a.events at row)) from at s (slot_found s is) (flag_found chosen) begun none alike tries a' settled widths held.waiters;
            }
