-- Activations that wait at areas and sleep: what keeps it so.
use Rattle.std.proofs.Common.{◌≡◌, ◌≢◌, ◌⊎◌, inl, inr, ℕ, zero, suc, ◌<◌, ◌≤◌, Bool, true, false, refl, sym, ◌∙◌, ap, subst, arith, List, [], ◌∷◌, ◌++◌, length, get_or, set, Option, Some, None}
use Rattle.std.specs.Prelude.{unwrap_or}
use Rattle.bus_semantics.specs.Common.{slice_get, false≢true, get_or_from_slice_get, slice_get-get_or, slice_get_within, ActKey, Plan, to_enter, wanted_by, Noted, object_of, touched_by}
use Rattle.bus_semantics.specs.Common.{wish_fits, Try}
use Rattle.bus_laws.specs.Common.{Act, Deed, Entry, Stamped}
use Rattle.bus_semantics.specs.declared.entries.Deed.TheVariants as deed
use Rattle.port_objects.specs.declared.object.Object.{Object}
use Rattle.port_objects.specs.Common.{Kept, lead, kept_of, IsClosed}
use Rattle.place_set.specs.Places.{NoneBetween}
use Rattle.task_machine.specs.declared.instr.TaskSet.{TaskSet}
use Rattle.task_slots.specs.declared.slot.Slot.{Slot}
use Rattle.task_slots.specs.Slots.{slot_tries}
use Rattle.task_slots.specs.Looking.{IsHeldOn, IsHeldAt, AllHeld, FirstMade}
use Rattle.core_turn.specs.Awake.{AwakeState, IsClosedAt, IsPreceded, MaySleep, IsWaiting, WaitersHeld, FallsAsleep, IsSettled, with_slots, ComesBefore, onward, around, behind}
use Rattle.task_slots.specs.Waiting.{is_free, WaitsAt}
use Rattle.task_slots.specs.Stepping.{noting_of}
use Rattle.latches.proofs.Places.{Placed, here, there, placed, set_here}
use Rattle.core_turn.proofs.Order.{set_there, no_both, same_or_not, later, outside, round}

-- ---- the tries of a slot that waits

-- if one that may want to enter cannot, nobody can
abbrev pub AlikeLaw : Type 0
AlikeLaw = (p : Plan) (object area : ℕ) (k : Kept) (a : ActKey) → wish_fits p (Act a) (to_enter area) ≡ true → object_of p (Act a) (to_enter area) ≡ Some object
    → ((n : Noted) → n.entry.actor ≡ Act a → wanted_by (unwrap_or n.event 0) n.entry.deed ≡ to_enter area → lead p object k n ≡ None) → IsClosed p object k

module _ (p : Plan) (t : TaskSet) (s : Slot) (object : ℕ) (w : WaitsAt p t s object) where
  tries_are : slot_tries p t s ≡ (Act w.key, to_enter w.area) ∷ []
  tries_are = w.tries

  pub shut_by : AlikeLaw → (objects : List Object) → AllHeld p objects (slot_tries p t s) → IsClosedAt p objects object
  shut_by alike objects held =
      let tries : AllHeld p objects ((Act w.key, to_enter w.area) ∷ []) = subst (AllHeld p objects) tries_are held in
      let on : IsHeldOn p objects (Act w.key) (to_enter w.area) object = subst (IsHeldAt p objects (Act w.key) (to_enter w.area)) w.there tries.0 in
      record { area = on.before; found = on.found; closed = alike p object w.area (kept_of on.before) w.key w.fits w.there on.none }

  pub held_at : (objects : List Object) → IsClosedAt p objects object → AllHeld p objects (slot_tries p t s)
  held_at objects shut =
      let on : IsHeldOn p objects (Act w.key) (to_enter w.area) object = record {
        before = shut.area;
        found = shut.found;
        none = λ n actor wish. shut.closed n w.area wish;
        flag = λ r e actor wish. absurd (cc wish);
      } in
      subst (AllHeld p objects) (sym tries_are) (subst (IsHeldAt p objects (Act w.key) (to_enter w.area)) (sym w.there) on, tt)

-- ---- the entry of a slot that waited

-- what wants to enter is an Enter
enters : (d : Deed) (by x : ℕ) → wanted_by by d ≡ to_enter x → d ≡ deed.Enter x
enters (deed.Enter y) by x is = let same : y ≡ x = cc in ap (λ z. deed.Enter z) same
enters d by x is = absurd (cc is)

only_try : (x y : Try) (before after : List Try) → x ∷ [] ≡ before ++ y ∷ after → y ≡ x
only_try x y [] after is = cc
only_try x y (z ∷ []) after is = absurd (cc is)
only_try x y (z ∷ v ∷ before) after is = absurd (cc is)

pub touches_own : (p : Plan) (t : TaskSet) (s : Slot) (object : ℕ) (old : List Object) (new : Option (List Object)) (e : Stamped) → WaitsAt p t s object → FirstMade p (slot_tries p t s) old new e → touched_by p (noting_of e) ≡ Some object
touches_own p t s object old new e w made =
    let own = only_try (Act w.key, to_enter w.area) made.tried made.before made.after (sym (tries_are p t s object w) ∙ made.whole) in
    let actor : e.entry.actor ≡ Act w.key = made.entry.actor ∙ ap (λ (x : Try). x.0) own in
    let wish = made.entry.wish ∙ ap (λ (x : Try). x.1) own in
    let entry : e.entry ≡ record { actor = Act w.key; deed = deed.Enter w.area } = λ i. record { actor = actor i; deed = enters e.entry.deed _ w.area wish i } in
    ap (λ (n : Entry). touched_by p (record { entry = n; event = e.event })) entry ∙ w.there

-- ---- what is said of waiting slots

-- nothing waits
pub none_waits : (p : Plan) (t : TaskSet) (objects : List Object) (touched : Option ℕ) (of : List Slot) (first : ℕ) (a : AwakeState) (n : ℕ) → length a.waiting ≡ n → NoneBetween a.waiting 0 n → WaitersHeld p t objects touched of first a
none_waits p t objects touched of first a n count none i waits =
    let within : i < length a.waiting = slice_get_within a.waiting i true waits in
    absurd (false≢true (sym (none i (omega arith) (omega arith)) ∙ get_or_from_slice_get a.waiting i true false waits))

module _ (p : Plan) (t : TaskSet) where
  -- where nothing is left to be told
  pub waiters_still : (objects : List Object) (touched : Option ℕ) (of : List Slot) (first : ℕ) (a : AwakeState) → WaitersHeld p t objects None of first a → WaitersHeld p t objects touched of first a
  waiters_still objects touched of first a held i waits =
      let w = held i waits in
      record { slot = w.slot; found = w.found; asleep = w.asleep; object = w.object; listed = w.listed; waits = w.waits; why = of_why w.object w.why }
    where
      of_why : (object : ℕ) → MaySleep p t objects None of first a.slots object i → MaySleep p t objects touched of first a.slots object i
      of_why object (inl told) = absurd (cc told)
      of_why object (inr why) = inr why

  -- a slot wakes
  pub waiters_waking : (objects : List Object) (touched : Option ℕ) (of : List Slot) (first : ℕ) (a : AwakeState) (n : ℕ) → WaitersHeld p t objects touched of first a
      → WaitersHeld p t objects touched of first (with_slots a (set a.slots n true) (set a.waiting n false) a.areas)
  waiters_waking objects touched of first a n held i waits = of_place (placed a.waiting n false i true waits)
    where
      of_why : (object : ℕ) → MaySleep p t objects touched of first a.slots object i → MaySleep p t objects touched of first (set a.slots n true) object i
      of_why object (inl told) = inl told
      of_why object (inr (inl shut)) = inr (inl shut)
      of_why object (inr (inr pre)) = inr (inr (record { other = pre.other; slot = pre.slot; found = pre.found; is_awake = awake_still a.slots n pre.other pre.is_awake; waits = pre.waits; before = pre.before }))
        where
          awake_still : (flags : List Bool) (n j : ℕ) → slice_get flags j ≡ Some true → slice_get (set flags n true) j ≡ Some true
          awake_still [] n j e = absurd (cc e)
          awake_still (b ∷ flags) zero zero e = refl
          awake_still (b ∷ flags) zero (suc j) e = e
          awake_still (b ∷ flags) (suc n) zero e = e
          awake_still (b ∷ flags) (suc n) (suc j) e = awake_still flags n j e

      of_place : Placed Bool a.waiting n false i true → IsWaiting p t objects touched of first (set a.slots n true) a.areas i
      of_place (here at same) = absurd (false≢true (sym same))
      of_place (there other found) =
          let w = held i found in
          record { slot = w.slot; found = w.found; asleep = set_there a.slots n i true false other w.asleep; object = w.object; listed = w.listed; waits = w.waits; why = of_why w.object w.why }

  module _ (objects : List Object) (of : List Slot) where
    -- the order begins later, and none that is awake is passed
    pub waiters_onward : (a : AwakeState) (from to : ℕ) → from ≤ to → NoneBetween a.slots from to → WaitersHeld p t objects None of from a → WaitersHeld p t objects None of to a
    waiters_onward a from to less none held i waits =
        let w = held i waits in
        record { slot = w.slot; found = w.found; asleep = w.asleep; object = w.object; listed = w.listed; waits = w.waits; why = of_why w.object w.why }
      where
        of_why : (object : ℕ) → MaySleep p t objects None of from a.slots object i → MaySleep p t objects None of to a.slots object i
        of_why object (inl told) = inl told
        of_why object (inr (inl shut)) = inr (inl shut)
        of_why object (inr (inr pre)) = inr (inr (record {
          other = pre.other;
          slot = pre.slot;
          found = pre.found;
          is_awake = pre.is_awake;
          waits = pre.waits;
          before = later from to pre.other i less (outside a.slots from to pre.other none pre.is_awake) pre.before;
        }))

    -- it begins behind the last slot
    pub waiters_round : (a : AwakeState) (count : ℕ) → length of ≤ count → WaitersHeld p t objects None of count a → WaitersHeld p t objects None of 0 a
    waiters_round a count less held i waits =
        let w = held i waits in
        record { slot = w.slot; found = w.found; asleep = w.asleep; object = w.object; listed = w.listed; waits = w.waits; why = of_why w.object w.why }
      where
        of_why : (object : ℕ) → MaySleep p t objects None of count a.slots object i → MaySleep p t objects None of 0 a.slots object i
        of_why object (inl told) = inl told
        of_why object (inr (inl shut)) = inr (inl shut)
        of_why object (inr (inr pre)) =
            let within : pre.other < length of = slice_get_within of pre.other pre.slot pre.found in
            inr (inr (record { other = pre.other; slot = pre.slot; found = pre.found; is_awake = pre.is_awake; waits = pre.waits; before = round count pre.other i (omega arith) pre.before }))

    -- a slot that waits, and none before it is awake: it may not enter
    pub waiter_held : (a : AwakeState) (from i : ℕ) (s : Slot) → slice_get of i ≡ Some s → from ≤ i → NoneBetween a.slots from i → slice_get a.waiting i ≡ Some true → WaitersHeld p t objects None of from a
        → AllHeld p objects (slot_tries p t s)
    waiter_held a from i s found begun none waits held =
        let w = held i waits in
        let one : Some w.slot ≡ Some s = sym w.found ∙ found in
        let own : w.slot ≡ s = cc in
        subst (λ x. AllHeld p objects (slot_tries p t x)) own (held_at p t w.slot w.object w.waits objects (shut w.object w.why))
      where
        never : {X : Type 0} (j : ℕ) → ComesBefore from j i → (j < from) ⊎ (i ≤ j) → X
        never j (onward more less) (inl low) = absurd (omega arith)
        never j (onward more less) (inr high) = absurd (omega arith)
        never j (around more past) at = absurd (omega arith)
        never j (behind less past) at = absurd (omega arith)

        shut : (object : ℕ) → MaySleep p t objects None of from a.slots object i → IsClosedAt p objects object
        shut object (inl told) = absurd (cc told)
        shut object (inr (inl closed)) = closed
        shut object (inr (inr pre)) = never pre.other pre.before (outside a.slots from i pre.other none pre.is_awake)

    -- ---- the slot that is looked at

    module _ (a : AwakeState) (from at : ℕ) (s : Slot) (found : slice_get of at ≡ Some s) (awake : slice_get a.slots at ≡ Some true) (begun : from ≤ at) (none : NoneBetween a.slots from at) where
      other_than : (i : ℕ) → slice_get a.slots i ≡ Some false → i ≢ at
      other_than i asleep same = no_both (slice_get a.slots at) awake (ap (slice_get a.slots) (sym same) ∙ asleep)

      order : (j i : ℕ) → slice_get a.slots j ≡ Some true → j ≢ at → ComesBefore from j i → ComesBefore (suc at) j i
      order j i is_awake other before = later from (suc at) j i (omega arith) (past (outside a.slots from at j none is_awake)) before
        where
          past : (j < from) ⊎ (at ≤ j) → (j < from) ⊎ (suc at ≤ j)
          past (inl low) = inl low
          past (inr high) = inr (omega (arith, other))

      own : (x : Slot) → slice_get of at ≡ Some x → x ≡ s
      own x there_it = let one : Some x ≡ Some s = sym there_it ∙ found in cc

      -- nothing of it may come, and its flag may fall
      module _ (shut : (object : ℕ) → WaitsAt p t s object → IsClosedAt p objects object) (slots' : List Bool) (areas' : List ℕ)
          (flags : (j : ℕ) (b : Bool) → j ≢ at → slice_get a.slots j ≡ Some b → slice_get slots' j ≡ Some b) (areas : (j : ℕ) (n : ℕ) → j ≢ at → slice_get a.areas j ≡ Some n → slice_get areas' j ≡ Some n) where
        pub waiter_on : (i : ℕ) → IsWaiting p t objects None of from a.slots a.areas i → IsWaiting p t objects None of (suc at) slots' areas' i
        waiter_on i w = record {
          slot = w.slot;
          found = w.found;
          asleep = flags i false (other_than i w.asleep) w.asleep;
          object = w.object;
          listed = areas i w.object (other_than i w.asleep) w.listed;
          waits = w.waits;
          why = of_why w.object w.why;
        }
          where
            of_other : (object : ℕ) (pre : IsPreceded p t of from a.slots object i) → (pre.other ≡ at) ⊎ (pre.other ≢ at) → MaySleep p t objects None of (suc at) slots' object i
            of_other object pre (inl same) =
                inr (inl (shut object (subst (λ x. WaitsAt p t x object) (own pre.slot (ap (slice_get of) (sym same) ∙ pre.found)) pre.waits)))
            of_other object pre (inr other) = inr (inr (record {
              other = pre.other;
              slot = pre.slot;
              found = pre.found;
              is_awake = flags pre.other true other pre.is_awake;
              waits = pre.waits;
              before = order pre.other i pre.is_awake other pre.before;
            }))

            of_why : (object : ℕ) → MaySleep p t objects None of from a.slots object i → MaySleep p t objects None of (suc at) slots' object i
            of_why object (inl told) = inl told
            of_why object (inr (inl closed)) = inr (inl closed)
            of_why object (inr (inr pre)) = of_other object pre (same_or_not pre.other at)

      pub waiters_settled : AlikeLaw → AllHeld p objects (slot_tries p t s) → (a' : AwakeState) → IsSettled p t s (is_free s) at a a' → length a.areas ≡ length a.slots → WaitersHeld p t objects None of from a → WaitersHeld p t objects None of (suc at) a'
      waiters_settled alike tries a' settled widths held = of_free (is_free s) settled
        where
          shut : (object : ℕ) → WaitsAt p t s object → IsClosedAt p objects object
          shut object w = shut_by p t s object w alike objects tries

          fallen : (areas' : List ℕ) → ((j : ℕ) (n : ℕ) → j ≢ at → slice_get a.areas j ≡ Some n → slice_get areas' j ≡ Some n) → (i : ℕ) → IsWaiting p t objects None of from a.slots a.areas i → IsWaiting p t objects None of (suc at) (set a.slots at false) areas' i
          fallen areas' areas i w = waiter_on shut (set a.slots at false) areas' (λ j b other is. set_there a.slots at j false b other is) areas i w

          of_place : (f : FallsAsleep p t s at a a') (i : ℕ) → Placed Bool a.waiting at true i true → IsWaiting p t objects None of (suc at) (set a.slots at false) (set a.areas at f.object) i
          of_place f i (here same is) =
              let inside : at < length a.slots = slice_get_within a.slots at true awake in
              subst (IsWaiting p t objects None of (suc at) (set a.slots at false) (set a.areas at f.object)) (sym same) (record {
                slot = s;
                found = found;
                asleep = set_here a.slots at true false awake;
                object = f.object;
                listed = set_here a.areas at (get_or a.areas at 0) f.object (slice_get-get_or a.areas at 0 (omega arith));
                waits = f.waits;
                why = inr (inl (shut f.object f.waits));
              })
          of_place f i (there other waits) = fallen (set a.areas at f.object) (λ j n apart is. set_there a.areas at j f.object n apart is) i (held i waits)

          of_free : (r : Bool) → IsSettled p t s r at a a' → WaitersHeld p t objects None of (suc at) a'
          of_free true same = subst (WaitersHeld p t objects None of (suc at)) (sym same) (λ i waits. fallen a.areas (λ j n other is. is) i (held i waits))
          of_free false (inl same) = subst (WaitersHeld p t objects None of (suc at)) (sym same) (λ i waits. waiter_on shut a.slots a.areas (λ j b other is. is) (λ j n other is. is) i (held i waits))
          of_free false (inr (inr f)) = subst (WaitersHeld p t objects None of (suc at)) (sym f.changed) (λ i waits. fallen a.areas (λ j n other is. is) i (held i waits))
          of_free false (inr (inl f)) = subst (WaitersHeld p t objects None of (suc at)) (sym f.changed) (λ i waits. of_place f i (placed a.waiting at true i true waits))

      -- it stepped
      pub waiters_stepped : (touched : Option ℕ) (stepped : Slot) → ((object : ℕ) → WaitsAt p t s object → touched ≡ Some object) → WaitersHeld p t objects None of from a → WaitersHeld p t objects touched (set of at stepped) (suc at) a
      waiters_stepped touched stepped told held i waits =
          let w = held i waits in
          record {
            slot = w.slot;
            found = set_there of at i stepped w.slot (other_than i w.asleep) w.found;
            asleep = w.asleep;
            object = w.object;
            listed = w.listed;
            waits = w.waits;
            why = of_why w.object w.why;
          }
        where
          of_other : (object : ℕ) (pre : IsPreceded p t of from a.slots object i) → (pre.other ≡ at) ⊎ (pre.other ≢ at) → MaySleep p t objects touched (set of at stepped) (suc at) a.slots object i
          of_other object pre (inl same) = inl (told object (subst (λ x. WaitsAt p t x object) (own pre.slot (ap (slice_get of) (sym same) ∙ pre.found)) pre.waits))
          of_other object pre (inr other) = inr (inr (record {
            other = pre.other;
            slot = pre.slot;
            found = set_there of at pre.other stepped pre.slot other pre.found;
            is_awake = pre.is_awake;
            waits = pre.waits;
            before = order pre.other i pre.is_awake other pre.before;
          }))

          of_why : (object : ℕ) → MaySleep p t objects None of from a.slots object i → MaySleep p t objects touched (set of at stepped) (suc at) a.slots object i
          of_why object (inl none_told) = absurd (cc none_told)
          of_why object (inr (inl closed)) = inr (inl closed)
          of_why object (inr (inr pre)) = of_other object pre (same_or_not pre.other at)
