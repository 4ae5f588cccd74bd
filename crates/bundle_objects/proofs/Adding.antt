-- What a stored value makes pending is told, of whatever group, and nothing else; and there is room for it.
use Rattle.std.proofs.Common.{◌≡◌, ◌⊎◌, ◌<◌, ◌≤◌, ◌+◌, ℕ, zero, suc, Bool, true, false, not, count_by, refl, sym, ◌∙◌, ap, subst, arith, inl, inr, List, [], ◌∷◌, length, replicate, get_or}
use Rattle.std.proofs.Common.{set, Option, Some, None}
use Rattle.std.specs.Prelude.{option_and_then, sum_by}
use Rattle.bus_semantics.specs.Common.{Contains, list_all, slice_get, option_map_or, false≢true, slice_get_within, get_or_from_slice_get, Value, Plan, group_of, kind_of}
use Rattle.std.proofs.lemmas.List.Sums.{sum_by-set}
use Rattle.object_kinds.specs.Common.{is_set, is_pending, place, waits_for_data, is_rising}
use Rattle.object_kinds.proofs.Events.{waiting_for, events_all}
use Rattle.object_kinds.proofs.Lists.{all_at}
use Rattle.object_kinds.proofs.Options.{number_is}
use Rattle.object_kinds.proofs.Placing.{place_at}
use Rattle.object_kinds.proofs.Rising.{place_here}
use Rattle.data_objects.specs.Kept as groups
use Rattle.bundle_objects.specs.Acting.{Adds, Tells}
use Rattle.bundle_objects.specs.Kept.{Kept, BundleState, route, may_start, clear_in}
use Rattle.bundle_objects.specs.Leading.{with_part, after_publication}
use Rattle.bundle_objects.specs.Plans.{IsOfPlan}
use Rattle.bundle_objects.proofs.Missing.{routed}
use Rattle.bundle_objects.proofs.Parts.{set_here, set_there, numbers_rise, number_home, number_found, At, here, elsewhere, compared}

-- a bundle by its parts
abbrev pub state : Kept → (woken : List ℕ) → (room : ℕ) → BundleState
state k woken room = record { kept = k; woken = woken; room = room }

-- a flag that is set is set after a value was stored
set_stays : (due : List Bool) (i : ℕ) → is_set due i ≡ true → is_set (replicate (length due) true) i ≡ true
set_stays [] i on = absurd (false≢true on)
set_stays (d ∷ due) zero on = refl
set_stays (d ∷ due) (suc i) on = set_stays due i on

pending_stays : (due : List Bool) (at : Option ℕ) → is_pending due at ≡ true → is_pending (replicate (length due) true) at ≡ true
pending_stays due None on = absurd (false≢true on)
pending_stays due (Some i) on = set_stays due i on

-- an event that may start by what a group keeps goes to that group
goes_there : (p : Plan) (b : ℕ) (k : Kept) (i event : ℕ) (part now : groups.Kept) → IsOfPlan p b k → slice_get k.parts i ≡ Some part → now.events ≡ part.events → groups.may_start now event ≡ true → route k event ≡ Some i
goes_there p b k i event part now planned found events on = by_place (place event now.events) refl on
  where
    by_place : (at : Option ℕ) → place event now.events ≡ at → is_pending now.unqueued.due at ≡ true → route k event ≡ Some i
    by_place None there is = absurd (false≢true is)
    by_place (Some j) there is =
        let number = number_found k i part planned.counted found in
        let own = planned.parts i number.group part number.found found in
        let listed : slice_get part.events j ≡ Some event = ap (λ es. slice_get es j) (sym events) ∙ place_at event now.events j there in
        let waits : waits_for_data p number.group (kind_of p event) ≡ true =
        all_at (λ f. waits_for_data p number.group (kind_of p f)) part.events j event
        (subst (λ es. list_all (λ f. waits_for_data p number.group (kind_of p f)) es ≡ true) (sym own.waiting) (events_all p (waits_for_data p number.group))) listed in
        let w = waiting_for p number.group (kind_of p event) waits in
        let rises : is_rising k.numbers ≡ true = ap is_rising planned.numbers ∙ numbers_rise p b in
        routed p b k event w.element number.group i planned.numbers planned.waiting planned.places w.kind (number_is (group_of p w.element) number.group w.inside)
        (number_home p b k.numbers i number.group planned.numbers number.found) (place_here k.numbers i number.group rises number.found)

-- as many events are told as are no longer clear
pub clear_counted : (k : Kept) (i : ℕ) (part now : groups.Kept) (woken told : List ℕ) → slice_get k.parts i ≡ Some part → length told + count_by not now.unqueued.due ≤ length woken + count_by not part.unqueued.due
    → length told + clear_in (with_part k i now) ≤ length woken + clear_in k
clear_counted k i part now woken told found counted =
    let clear : groups.Kept → ℕ = λ q. count_by not q.unqueued.due in
    let moved : sum_by clear (set k.parts i now) + clear (get_or k.parts i part) ≡ sum_by clear k.parts + clear now = sum_by-set clear k.parts i now part (slice_get_within k.parts i part found) in
    let own : clear (get_or k.parts i part) ≡ clear part = ap clear (get_or_from_slice_get k.parts i part part found) in
    omega (arith, moved, own, counted)

module _ (p : Plan) (b : ℕ) (k : Kept) (i : ℕ) (part : groups.Kept) (v : Value) (woken told : List ℕ) (room : ℕ) (planned : IsOfPlan p b k) (found : slice_get k.parts i ≡ Some part) where
  abbrev now : groups.Kept
  now = after_publication v part

  -- whether an event may start, by where it goes
  at_place : (q : groups.Kept → Bool) (event j : ℕ) → i ≡ j → option_map_or q (slice_get (set k.parts i now) j) false ≡ q now
  at_place q event j same = ap (λ o. option_map_or q o false) (ap (slice_get (set k.parts i now)) (sym same) ∙ set_here k.parts i now part found)

  was_place : (q : groups.Kept → Bool) (event j : ℕ) → i ≡ j → option_map_or q (slice_get k.parts j) false ≡ q part
  was_place q event j same = ap (λ o. option_map_or q o false) (ap (slice_get k.parts) (sym same) ∙ found)

  came_by : ((event : ℕ) → groups.may_start part event ≡ false → groups.may_start now event ≡ true → Contains told event)
      → (event : ℕ) → may_start k event ≡ false → may_start (with_part k i now) event ≡ true → Contains told event
  came_by came event off on = by_route (route k event) off on
    where
      by_place : (j : ℕ) → At i j → option_map_or (λ r. groups.may_start r event) (slice_get k.parts j) false ≡ false → option_map_or (λ r. groups.may_start r event) (slice_get (set k.parts i now) j) false ≡ true → Contains told event
      by_place j (here same) was is = came event (sym (was_place (λ r. groups.may_start r event) event j same) ∙ was) (sym (at_place (λ r. groups.may_start r event) event j same) ∙ is)
      by_place j (elsewhere apart) was is =
          absurd (false≢true (sym was ∙ ap (λ o. option_map_or (λ r. groups.may_start r event) o false) (sym (set_there k.parts i j now apart)) ∙ is))

      by_route : (at : Option ℕ) → option_map_or (λ r. groups.may_start r event) (option_and_then (λ j. slice_get k.parts j) at) false ≡ false
          → option_map_or (λ r. groups.may_start r event) (option_and_then (λ j. slice_get (set k.parts i now) j) at) false ≡ true → Contains told event
      by_route None was is = absurd (false≢true is)
      by_route (Some j) was is = by_place j (compared i j) was is

  rises_by : (event : ℕ) → may_start k event ≡ true → may_start (with_part k i now) event ≡ true
  rises_by event on = by_route (route k event) on
    where
      by_place : (j : ℕ) → At i j → option_map_or (λ r. groups.may_start r event) (slice_get k.parts j) false ≡ true → option_map_or (λ r. groups.may_start r event) (slice_get (set k.parts i now) j) false ≡ true
      by_place j (here same) was =
          at_place (λ r. groups.may_start r event) event j same ∙ pending_stays part.unqueued.due (place event part.events) (sym (was_place (λ r. groups.may_start r event) event j same) ∙ was)
      by_place j (elsewhere apart) was = ap (λ o. option_map_or (λ r. groups.may_start r event) o false) (set_there k.parts i j now apart) ∙ was

      by_route : (at : Option ℕ) → option_map_or (λ r. groups.may_start r event) (option_and_then (λ j. slice_get k.parts j) at) false ≡ true
          → option_map_or (λ r. groups.may_start r event) (option_and_then (λ j. slice_get (set k.parts i now) j) at) false ≡ true
      by_route None was = absurd (false≢true was)
      by_route (Some j) was = by_place j (compared i j) was

  only_by : ((event : ℕ) → Contains told event → Contains woken event ⊎ ((groups.may_start part event ≡ false) × (groups.may_start now event ≡ true)))
      → (event : ℕ) → Contains told event → Contains woken event ⊎ ((may_start k event ≡ false) × (may_start (with_part k i now) event ≡ true))
  only_by only event among = by_case (only event among)
    where
      by_case : Contains woken event ⊎ ((groups.may_start part event ≡ false) × (groups.may_start now event ≡ true)) → Contains woken event ⊎ ((may_start k event ≡ false) × (may_start (with_part k i now) event ≡ true))
      by_case (inl before) = inl before
      by_case (inr made) =
          let goes = goes_there p b k i event part now planned found refl made.1 in
          inr (
            ap (λ at. option_map_or (λ r. groups.may_start r event) (option_and_then (λ j. slice_get k.parts j) at) false) goes ∙ was_place (λ r. groups.may_start r event) event i refl ∙ made.0,
            ap (λ at. option_map_or (λ r. groups.may_start r event) (option_and_then (λ j. slice_get (set k.parts i now) j) at) false) goes ∙ at_place (λ r. groups.may_start r event) event i refl ∙ made.1,
          )

  pub store_adds : ((event : ℕ) → groups.may_start part event ≡ false → groups.may_start now event ≡ true → Contains told event) → ((event : ℕ) → Contains woken event → Contains told event)
      → ((event : ℕ) → Contains told event → Contains woken event ⊎ ((groups.may_start part event ≡ false) × (groups.may_start now event ≡ true)))
      → length told + count_by not now.unqueued.due ≤ length woken + count_by not part.unqueued.due → Adds (state k woken room) (state (with_part k i now) told room)
  store_adds came stayed only counted = record {
    came = came_by came;
    stayed = stayed;
    only = only_by only;
    rises = rises_by;
    counted = clear_counted k i part now woken told found counted;
    room = refl;
  }

-- ---- one after the other

pub adds_none : (s : BundleState) → Adds s s
adds_none s = record {
  came = λ event off on. absurd (false≢true (sym off ∙ on));
  stayed = λ event among. among;
  only = λ event among. inl among;
  rises = λ event on. on;
  counted = omega arith;
  room = refl;
}

pub adds_then : (a b c : BundleState) → Adds a b → Adds b c → Adds a c
adds_then a b c first second = record {
  came = λ event off on. by_mid event off on (may_start b.kept event) refl;
  stayed = λ event among. second.stayed event (first.stayed event among);
  only = λ event among. by_second event (second.only event among);
  rises = λ event on. second.rises event (first.rises event on);
  counted = omega (arith, first.counted, second.counted);
  room = second.room ∙ first.room;
}
  where
    by_mid : (event : ℕ) → may_start a.kept event ≡ false → may_start c.kept event ≡ true → (m : Bool) → may_start b.kept event ≡ m → Contains c.woken event
    by_mid event off on true is = second.stayed event (first.came event off is)
    by_mid event off on false is = second.came event is on

    was_off : (event : ℕ) → may_start b.kept event ≡ false → (m : Bool) → may_start a.kept event ≡ m → may_start a.kept event ≡ false
    was_off event off false is = is
    was_off event off true is = absurd (false≢true (sym off ∙ first.rises event is))

    by_first : (event : ℕ) → Contains a.woken event ⊎ ((may_start a.kept event ≡ false) × (may_start b.kept event ≡ true)) → Contains a.woken event ⊎ ((may_start a.kept event ≡ false) × (may_start c.kept event ≡ true))
    by_first event (inl before) = inl before
    by_first event (inr made) = inr (made.0, second.rises event made.1)

    by_second : (event : ℕ) → Contains b.woken event ⊎ ((may_start b.kept event ≡ false) × (may_start c.kept event ≡ true)) → Contains a.woken event ⊎ ((may_start a.kept event ≡ false) × (may_start c.kept event ≡ true))
    by_second event (inl before) = by_first event (first.only event before)
    by_second event (inr made) = inr (was_off event made.0 (may_start a.kept event) refl, made.1)

-- where nothing was told before, what is told is what became pending
pub adds_tell : (old mid new : BundleState) → mid.kept ≡ old.kept → mid.woken ≡ [] → Adds mid new → Tells old new
adds_tell old mid new kept none adds = record {
  came = λ event off on. adds.came event (ap (λ k. may_start k event) kept ∙ off) on;
  only = λ event among. by_case event (adds.only event among);
}
  where
    by_case : (event : ℕ) → Contains mid.woken event ⊎ ((may_start mid.kept event ≡ false) × (may_start new.kept event ≡ true)) → (may_start old.kept event ≡ false) × (may_start new.kept event ≡ true)
    by_case event (inl before) = let nowhere = subst (λ es. Contains es event) none before in absurd (omega (arith, nowhere.1))
    by_case event (inr made) = (ap (λ k. may_start k event) (sym kept) ∙ made.0, made.1)
