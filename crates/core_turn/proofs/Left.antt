-- An area is left, and the first that waits there wakes; or it is entered, and none need be woken.
use Rattle.std.proofs.Common.{◌≡◌, ◌≢◌, ◌⊎◌, inl, inr, ℕ, ◌==◌, Bool, true, false, sym, ◌∙◌, ap, subst, List, get_or, set, Option, Some, None}
use Rattle.bus_semantics.specs.Common.{slice_get, unsigned_Decides, false≢true, and_from, and_parts, get_or_from_slice_get, slice_get-get_or, same_Some, Plan}
use Rattle.port_objects.specs.declared.object.Object.{Object}
use Rattle.port_objects.specs.Common.{kept_of, IsClosed}
use Rattle.task_machine.specs.declared.instr.TaskSet.{TaskSet}
use Rattle.task_slots.specs.declared.slot.Slot.{Slot}
use Rattle.core_turn.specs.Awake.{AwakeState, ComesBefore, MaySleep, IsWaiting, WaitersHeld, with_slots, waits_for, IsFirstWaiter, FirstIs, FirstWakes, woken_at, StartsHeld}
use Rattle.task_slots.specs.Waiting.{WaitsAt}
use Rattle.latches.proofs.Places.{Placed, here, there, placed, set_here}
use Rattle.core_turn.proofs.Order.{set_there, same_or_not, either}
use Rattle.core_turn.proofs.Awakes.{starts_waking}
use Rattle.core_turn.proofs.Waiters.{waiters_waking}

module _ (p : Plan) (t : TaskSet) (objects : List Object) (object : ℕ) (after : Object) (of : List Slot) (first : ℕ) (a : AwakeState) where
  -- one that waits at another area
  elsewhere : (other i : ℕ) → other ≢ object → MaySleep p t objects (Some object) of first a.slots other i → MaySleep p t (set objects object after) None of first a.slots other i
  elsewhere other i apart (inl told) = absurd (apart (sym (same_Some object other told)))
  elsewhere other i apart (inr (inl shut)) = inr (inl (record { area = shut.area; found = set_there objects object other after shut.area apart shut.found; closed = shut.closed }))
  elsewhere other i apart (inr (inr pre)) = inr (inr pre)

  -- each that waits there may sleep
  pub settled_by : ((i : ℕ) → slice_get a.waiting i ≡ Some true → slice_get a.areas i ≡ Some object → MaySleep p t (set objects object after) None of first a.slots object i)
      → WaitersHeld p t objects (Some object) of first a → WaitersHeld p t (set objects object after) None of first a
  settled_by there_too held i waits =
      let w = held i waits in
      record { slot = w.slot; found = w.found; asleep = w.asleep; object = w.object; listed = w.listed; waits = w.waits; why = of_place w (same_or_not w.object object) }
    where
      of_place : (w : IsWaiting p t objects (Some object) of first a.slots a.areas i) → (w.object ≡ object) ⊎ (w.object ≢ object) → MaySleep p t (set objects object after) None of first a.slots w.object i
      of_place w (inl same) = subst (λ n. MaySleep p t (set objects object after) None of first a.slots n i) (sym same) (there_too i waits (w.listed ∙ ap (λ n. Some n) same))
      of_place w (inr apart) = elsewhere w.object i apart w.why

  -- nobody may enter it
  pub waiters_entered : (before : Object) → slice_get objects object ≡ Some before → IsClosed p object (kept_of after) → WaitersHeld p t objects (Some object) of first a → WaitersHeld p t (set objects object after) None of first a
  waiters_entered before found closed = settled_by (λ i waits listed. inr (inl (record { area = after; found = set_here objects object before after found; closed = closed })))

waiting_is : (a : AwakeState) (object i : ℕ) → slice_get a.waiting i ≡ Some true → slice_get a.areas i ≡ Some object → waits_for a.waiting a.areas object i ≡ true
waiting_is a object i waits listed =
    and_from (get_or a.waiting i false) (get_or a.areas i 0 == object) (get_or_from_slice_get a.waiting i true false waits)
    ((unsigned_Decides (get_or a.areas i 0) object).1 (get_or_from_slice_get a.areas i object 0 listed))

-- ---- it is left

module _ (p : Plan) (t : TaskSet) (objects : List Object) (object : ℕ) (left : Object) (of : List Slot) (old new : AwakeState) (held : WaitersHeld p t objects (Some object) of old.first old) where
  woken_none : ((i : ℕ) → waits_for old.waiting old.areas object i ≡ false) → WaitersHeld p t (set objects object left) None of old.first old
  woken_none none = settled_by p t objects object left of old.first old (λ i waits listed. absurd (false≢true (sym (none i) ∙ waiting_is old object i waits listed))) held

  module _ (at : ℕ) (w : IsFirstWaiter old object at) where
    flag : slice_get old.waiting at ≡ Some true
    flag = slice_get-get_or old.waiting at false w.inside ∙ ap (λ b. Some b) (and_parts (get_or old.waiting at false) (get_or old.areas at 0 == object) w.waits).0

    it : IsWaiting p t objects (Some object) of old.first old.slots old.areas at
    it = held at flag

    its : it.object ≡ object
    its = sym (get_or_from_slice_get old.areas at it.object 0 it.listed) ∙ (unsigned_Decides (get_or old.areas at 0) object).0 (and_parts (get_or old.waiting at false) (get_or old.areas at 0 == object) w.waits).1

    woken : AwakeState
    woken = with_slots old (set old.slots at true) (set old.waiting at false) old.areas

    -- what waits still comes later
    still : (i : ℕ) → slice_get woken.waiting i ≡ Some true → slice_get woken.areas i ≡ Some object → ComesBefore old.first at i
    unfolding woken
    still i waits listed = of_place (placed old.waiting at false i true waits)
      where
        of_order : (ComesBefore old.first i at) ⊎ (ComesBefore old.first at i) → slice_get old.waiting i ≡ Some true → ComesBefore old.first at i
        of_order (inl before) found = absurd (false≢true (sym (w.none i before) ∙ waiting_is old object i found listed))
        of_order (inr after) found = after

        of_place : Placed Bool old.waiting at false i true → ComesBefore old.first at i
        of_place (here same is) = absurd (false≢true (sym is))
        of_place (there other found) = of_order (either old.first i at other) found

    woken_first : WaitersHeld p t (set objects object left) None of old.first woken
    unfolding woken
    woken_first = settled_by p t objects object left of old.first woken
        (λ i waits listed. inr (inr (record {
          other = at;
          slot = it.slot;
          found = it.found;
          is_awake = set_here old.slots at false true it.asleep;
          waits = subst (WaitsAt p t it.slot) its it.waits;
          before = still i waits listed;
        })))
        (waiters_waking p t objects (Some object) of old.first old at held)

  waiters_by : (which : Option ℕ) → FirstIs old object which → WaitersHeld p t (set objects object left) None of old.first (woken_at old which)
  unfolding woken
  waiters_by None none = woken_none none
  waiters_by (Some at) w = woken_first at w

  pub waiters_left : (which : Option ℕ) → FirstWakes object old new which → WaitersHeld p t (set objects object left) None of old.first new
  waiters_left which wakes = subst (WaitersHeld p t (set objects object left) None of old.first) (sym wakes.changed) (waiters_by which wakes.first)

-- ---- starts

starts_woken : (p : Plan) (t : TaskSet) (objects : List Object) (slots : List Slot) (a : AwakeState) (which : Option ℕ) → StartsHeld p t objects slots a → StartsHeld p t objects slots (woken_at a which)
starts_woken p t objects slots a None held = held
starts_woken p t objects slots a (Some at) held = starts_waking p t objects slots a at held

pub starts_first : (p : Plan) (t : TaskSet) (objects : List Object) (slots : List Slot) (object : ℕ) (old new : AwakeState) (which : Option ℕ) → FirstWakes object old new which → StartsHeld p t objects slots old → StartsHeld p t objects slots new
starts_first p t objects slots object old new which wakes held = subst (StartsHeld p t objects slots) (sym wakes.changed) (starts_woken p t objects slots old which held)
