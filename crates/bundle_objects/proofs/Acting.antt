-- What the calls of a bundle answer is what its lead gives, and no entry of the wish leads on where nothing was done.
use Rattle.std.proofs.Common.{◌≡◌, ◌<◌, ◌≤◌, ℕ, ℤ, Bool, true, false, refl, sym, ◌∙◌, ap, subst, arith, List, [], ◌∷◌, length, map, set, Option, Some, None}
use Rattle.std.specs.Prelude.{option_and_then, option_map, unwrap_or}
use Rattle.bus_semantics.specs.Common.{Contains, slice_get, option_map_or, false≢true, length-set, same_Some, Value, words_of, same_words, length-words_of, same_words-Decides, Plan}
use Rattle.bus_semantics.specs.Common.{group_of, elems_of, marked, split, bundle_of, groups_at, Noted, Wanted, to_start, to_fetch, to_read, to_write, to_invalidate, to_see_updated}
use Rattle.bus_semantics.specs.Common.{to_publish, to_fetch_all, to_publish_all, wanted_by, is_in_group, last_in, plain_key, answer_fits, event_of, noted_for}
use Rattle.bus_laws.specs.Common.{Actor, Act, Deed, Entry}
use Rattle.bus_semantics.specs.declared.entries.Deed.TheVariants as deed
use Rattle.object_kinds.specs.declared.acted.Acted.{Acted}
use Rattle.object_kinds.specs.declared.acted.Acted.TheVariants.{Done, NotYet}
use Rattle.object_kinds.specs.declared.acted.Shown.{Shown}
use Rattle.object_kinds.specs.declared.acted.Shown.TheVariants.{Unmatched}
use Rattle.object_kinds.specs.Common.{IsMadeBy, IsHeldBy, IsAnswerOf, place, given, is_rising}
use Rattle.object_kinds.proofs.Lists.{set_same}
use Rattle.object_kinds.proofs.Options.{number_is, then_some}
use Rattle.object_kinds.proofs.Placing.{place_at}
use Rattle.data_objects.specs.Acting.{IsWishIn, group_seen}
use Rattle.data_objects.specs.Kept as groups
use Rattle.data_objects.specs.Leading as group_leading
use Rattle.data_objects.specs.Leading.{group_lead}
use Rattle.data_objects.specs.Plans.{IsGroupOfPlan}
use Rattle.bundle_objects.specs.Acting.{IsPartActed, IsOnElem, IsUndone, IsActedAt, IsDone, IsStored, IsFetched, IsPublished, Answered}
use Rattle.bundle_objects.specs.Kept.{Kept, BundleState, route, may_start}
use Rattle.bundle_objects.specs.Leading.{part_of, number_at, with_part, lead_part, moment_in, after_publication, store_at, publish, lead_by, lead, why_held, wakes}
use Rattle.bundle_objects.specs.Layout.{place_of}
use Rattle.bundle_objects.specs.Plans.{IsOfPlan}
use Rattle.bundle_objects.specs.Words.{value_of}
use Rattle.bundle_objects.proofs.Parts.{set_here, set_there, numbers_rise, number_is_at, part_inside, Part, part_found, number_found, At, here, elsewhere, compared}
use Rattle.bundle_objects.proofs.Starting.{starts_by, wakes_nothing}
use Rattle.bundle_objects.proofs.Stored.{Same, store_same, publish_same, taken_by, published_part}

-- ---- a bundle stays its plan's

planned_on : (p : Plan) (b : ℕ) (k after : Kept) → IsOfPlan p b k → Same k after → ((i g : ℕ) (part : groups.Kept) → slice_get k.numbers i ≡ Some g → slice_get after.parts i ≡ Some part → IsGroupOfPlan p g part) → IsOfPlan p b after
planned_on p b k after planned same parts = record {
  is_bundle = planned.is_bundle;
  numbers = same.numbers ∙ planned.numbers;
  waiting = same.events ∙ planned.waiting;
  places = same.places ∙ planned.places ∙ ap (map (place_of p b)) (sym same.events);
  counted = same.counted ∙ planned.counted ∙ ap length (sym same.numbers);
  parts = λ i g part number found. parts i g part (ap (λ ns. slice_get ns i) (sym same.numbers) ∙ number) found;
}

rising : (p : Plan) (b : ℕ) (k : Kept) → IsOfPlan p b k → is_rising k.numbers ≡ true
rising p b k planned = ap is_rising planned.numbers ∙ numbers_rise p b

pub part_planned : (p : Plan) (b : ℕ) (k : Kept) (i g : ℕ) (part now : groups.Kept) → IsOfPlan p b k → slice_get k.numbers i ≡ Some g → slice_get k.parts i ≡ Some part → IsGroupOfPlan p g now → IsOfPlan p b (with_part k i now)
part_planned p b k i g part now planned number found own = planned_on p b k (with_part k i now) planned (record { numbers = refl; events = refl; places = refl; counted = length-set k.parts i now }) parts
  where
    parts : (j h : ℕ) (other : groups.Kept) → slice_get k.numbers j ≡ Some h → slice_get (set k.parts i now) j ≡ Some other → IsGroupOfPlan p h other
    parts j h other place_h at = by_place (compared i j)
      where
        by_place : At i j → IsGroupOfPlan p h other
        by_place (here same) =
            let group : g ≡ h = same_Some g h (sym number ∙ ap (slice_get k.numbers) same ∙ place_h) in
            let it : now ≡ other = same_Some now other (sym (set_here k.parts i now part found) ∙ ap (slice_get (set k.parts i now)) same ∙ at) in
            subst (λ f. IsGroupOfPlan p f other) group (subst (λ q. IsGroupOfPlan p g q) it own)
        by_place (elsewhere apart) = planned.parts j h other place_h (sym (set_there k.parts i j now apart) ∙ at)

stored_planned : (p : Plan) (g : ℕ) (v : Value) (part : groups.Kept) → IsGroupOfPlan p g part → IsGroupOfPlan p g (after_publication v part)
stored_planned p g v part own = record { is_group = own.is_group; waiting = own.waiting; inits = own.inits; receivers = own.receivers }

taken_planned : (p : Plan) (g : ℕ) (o : Option (List ℤ)) (part : groups.Kept) → IsGroupOfPlan p g part → IsGroupOfPlan p g (taken_by o part)
taken_planned p g None part own = own
taken_planned p g (Some ws) part own = stored_planned p g (value_of ws) part own

pub publish_planned : (p : Plan) (b : ℕ) (k : Kept) (pairs : List (ℕ × List ℤ)) → IsOfPlan p b k → IsOfPlan p b (publish p k pairs)
publish_planned p b k pairs planned = planned_on p b k (publish p k pairs) planned (publish_same p k pairs) (λ i g part number at.
    let before = part_found k i g planned.counted number in
    let now = published_part p i g pairs k before.part (rising p b k planned) number before.found in
    subst (λ q. IsGroupOfPlan p g q) (same_Some (taken_by (last_in p g pairs) before.part) part (sym now ∙ at)) (taken_planned p g (last_in p g pairs) before.part (planned.parts i g before.part number before.found)))

pub store_planned : (p : Plan) (b : ℕ) (k : Kept) (v : Value) (at : Option ℕ) → IsOfPlan p b k → IsOfPlan p b (store_at k v at)
store_planned p b k v None planned = planned
store_planned p b k v (Some i) planned = by_part (slice_get k.parts i) refl
  where
    by_part : (o : Option groups.Kept) → slice_get k.parts i ≡ o → IsOfPlan p b (option_map_or (λ part. with_part k i (after_publication v part)) o k)
    by_part None there = planned
    by_part (Some part) there =
        let number = number_found k i part planned.counted there in
        part_planned p b k i number.group part (after_publication v part) planned number.found there (stored_planned p number.group v part (planned.parts i number.group part number.found there))

-- ---- nothing was done

module _ (p : Plan) (b : ℕ) (a : Actor) (w : Wanted) (old new : BundleState) (planned : IsOfPlan p b old.kept) where
  undone : (shown : Shown) → shown ≡ why_held old.kept w → new ≡ old → ((n : Noted) → n.entry.actor ≡ a → wanted_by (unwrap_or n.event 0) n.entry.deed ≡ w → lead p old.kept n ≡ None)
      → ((runnable event : ℕ) → a ≡ Act (plain_key runnable) → w ≡ to_start event → may_start old.kept event ≡ false) → Answered p b a w old new (NotYet shown)
  undone shown why same none flag = record {
    planned = subst (λ (s : BundleState). IsOfPlan p b s.kept) (sym same) planned;
    answer = (why, ap (λ (s : BundleState). s.kept) same, record { none = none; flag = flag });
    same = λ other is. same;
    told = λ event off on. absurd (false≢true (sym off ∙ sym (ap (λ (s : BundleState). may_start s.kept event) same) ∙ on));
    only = λ e is. absurd (cc is);
    left = λ e is. absurd (cc is);
  }

-- ---- a group answered

-- the wish goes to one group: its entries lead as that group does, and wake nothing
pub record GoesTo (p : Plan) (k : Kept) (w : Wanted) (at : Option ℕ) : Type 0 where
  pub leads : (n : Noted) → wanted_by (unwrap_or n.event 0) n.entry.deed ≡ w → lead p k n ≡ lead_part p k n at
  pub sleeps : (by : ℕ) (d : Deed) → wanted_by by d ≡ w → wakes d ≡ false
  pub inside : (i g : ℕ) → at ≡ Some i → slice_get k.numbers i ≡ Some g → IsWishIn p g w
  pub starts : (event : ℕ) → w ≡ to_start event → at ≡ route k event

why_same : (k : Kept) (part : groups.Kept) (w : Wanted) → group_leading.why_held part w ≡ why_held k w
why_same k part (to_start event) = refl
why_same k part w = refl

module _ (p : Plan) (b : ℕ) (a : Actor) (w : Wanted) (old new : BundleState) (planned : IsOfPlan p b old.kept) where
  part_leads : (i g : ℕ) (part : groups.Kept) (n : Noted) → slice_get old.kept.numbers i ≡ Some g → slice_get old.kept.parts i ≡ Some part
      → lead_part p old.kept n (Some i) ≡ option_map (with_part old.kept i) (group_lead p g part n)
  part_leads i g part n number found =
      ap (option_and_then (λ (q : groups.Kept). option_map (with_part old.kept i) (group_lead p (number_at old.kept i) q n))) found
      ∙ ap (λ h. option_map (with_part old.kept i) (group_lead p h part n)) (number_is_at old.kept i g number)

  module _ (i : ℕ) (goes : GoesTo p old.kept w (Some i)) where
    by_answer : (r : Acted) (acted : IsPartActed p i a w old new r) (g : ℕ) → slice_get old.kept.numbers i ≡ Some g
        → IsAnswerOf p (group_lead p g) groups.may_start group_leading.why_held a w acted.before acted.now r → IsGroupOfPlan p g acted.now → (((shown : Shown) → r ≡ NotYet shown → acted.now ≡ acted.before)) → Answered p b a w old new r
    by_answer (Done e) acted g number made own same =
        let leads_on : lead p old.kept (noted_for w e) ≡ Some new.kept =
        goes.leads (noted_for w e) made.wish ∙ part_leads i g acted.before (noted_for w e) number acted.found ∙ ap (option_map (with_part old.kept i)) made.leads ∙ ap (λ z. Some z) (sym acted.kept) in
        let sleeps = goes.sleeps (unwrap_or (event_of w) 0) e.deed made.wish in
        record {
          planned = subst (λ z. IsOfPlan p b z) (sym acted.kept) (part_planned p b old.kept i g acted.before acted.now planned number acted.found own);
          answer = record { actor = made.actor; wish = made.wish; answer = made.answer; leads = leads_on };
          same = λ shown is. absurd (cc is);
          told = λ event off on. absurd (false≢true (sym (wakes_nothing p old.kept new.kept (noted_for w e) leads_on sleeps event off) ∙ on));
          only = λ f is wake. let it : e ≡ f = cc is in absurd (false≢true (sym sleeps ∙ ap (λ (x : Entry). wakes x.deed) it ∙ wake));
          left = λ f is asleep. acted.woken;
        }
    by_answer (NotYet shown) acted g number held own same =
        let kept : new.kept ≡ old.kept = acted.kept ∙ ap (with_part old.kept i) (same shown refl) ∙ (λ j. record {
          numbers = old.kept.numbers;
          events = old.kept.events;
          places = old.kept.places;
          parts = set_same old.kept.parts i acted.before acted.found j;
        }) in
        undone p b a w old new planned shown (held.0 ∙ why_same old.kept acted.before w) (λ j. record { kept = kept j; woken = acted.woken j; room = acted.room j })
        (λ n actor wish. goes.leads n wish ∙ part_leads i g acted.before n number acted.found ∙ ap (option_map (with_part old.kept i)) (held.2.none n actor wish))
        (λ runnable event by is.
        ap (λ at. option_map_or (λ part. groups.may_start part event) (option_and_then (λ j. slice_get old.kept.parts j) at) false) (sym (goes.starts event is))
        ∙ ap (λ o. option_map_or (λ part. groups.may_start part event) o false) acted.found ∙ held.2.flag runnable event by is)

    part_answers : (r : Acted) → IsPartActed p i a w old new r → Answered p b a w old new r
    part_answers r acted =
        let number = number_found old.kept i acted.before planned.counted acted.found in
        let own = planned.parts i number.group acted.before number.found acted.found in
        let inside = goes.inside i number.group refl number.found in
        by_answer r acted number.group number.found (acted.answer number.group inside own) (acted.planned number.group inside own) (acted.same number.group inside)

  pub acted_at : (at : Option ℕ) → GoesTo p old.kept w at → (r : Acted) → IsActedAt p at a w old new r → Answered p b a w old new r
  acted_at None goes (Done e) acted = absurd acted
  acted_at None goes (NotYet shown) acted =
      undone p b a w old new planned shown acted.0 acted.1 (λ n actor wish. goes.leads n wish)
      (λ runnable event by is. ap (λ at. option_map_or (λ part. groups.may_start part event) (option_and_then (λ j. slice_get old.kept.parts j) at) false) (sym (goes.starts event is)))
  acted_at (Some i) goes r acted = part_answers i goes r acted

-- ---- wishes on one group

start_leads : (p : Plan) (k : Kept) (event : ℕ) (n : Noted) (d : Deed) (by : ℕ) → wanted_by by d ≡ to_start event → lead_by p k n d ≡ lead_part p k n (route k event)
start_leads p k event n d by wish = starts_by p k n d by event wish

start_sleeps : (event by : ℕ) (d : Deed) → wanted_by by d ≡ to_start event → wakes d ≡ false
start_sleeps event by (deed.Start e point value) wish = refl
start_sleeps event by d wish = absurd (cc wish)

pub start_goes : (p : Plan) (k : Kept) (event : ℕ) → GoesTo p k (to_start event) (route k event)
start_goes p k event = record {
  leads = λ n wish. start_leads p k event n n.entry.deed (unwrap_or n.event 0) wish;
  sleeps = start_sleeps event;
  inside = λ i g at number. tt;
  starts = λ other is. let same : event ≡ other = cc is in ap (route k) same;
}

in_group : (p : Plan) (k : Kept) (x i g : ℕ) → part_of p k x ≡ Some i → slice_get k.numbers i ≡ Some g → group_of p x ≡ Some g
in_group p k x i g at number = number_is (group_of p x) g (part_inside p k x i g at number)

read_leads : (p : Plan) (k : Kept) (x : ℕ) (n : Noted) (d : Deed) (by : ℕ) → wanted_by by d ≡ to_read x → lead_by p k n d ≡ lead_part p k n (part_of p k x)
read_leads p k x n (deed.Read y code value) by wish = let same : y ≡ x = cc wish in ap (λ z. lead_part p k n (part_of p k z)) same
read_leads p k x n d by wish = absurd (cc wish)

read_sleeps : (x by : ℕ) (d : Deed) → wanted_by by d ≡ to_read x → wakes d ≡ false
read_sleeps x by (deed.Read y code value) wish = refl
read_sleeps x by d wish = absurd (cc wish)

pub read_goes : (p : Plan) (k : Kept) (x : ℕ) → GoesTo p k (to_read x) (part_of p k x)
read_goes p k x = record {
  leads = λ n wish. read_leads p k x n n.entry.deed (unwrap_or n.event 0) wish;
  sleeps = read_sleeps x;
  inside = λ i g at number. in_group p k x i g at number;
  starts = λ event is. absurd (cc is);
}

fetch_leads : (p : Plan) (k : Kept) (x : ℕ) (n : Noted) (d : Deed) (by : ℕ) → wanted_by by d ≡ to_fetch x → lead_by p k n d ≡ lead_part p k n (part_of p k x)
fetch_leads p k x n (deed.Fetch y value) by wish = let same : y ≡ x = cc wish in ap (λ z. lead_part p k n (part_of p k z)) same
fetch_leads p k x n d by wish = absurd (cc wish)

fetch_sleeps : (x by : ℕ) (d : Deed) → wanted_by by d ≡ to_fetch x → wakes d ≡ false
fetch_sleeps x by (deed.Fetch y value) wish = refl
fetch_sleeps x by d wish = absurd (cc wish)

pub fetch_goes : (p : Plan) (k : Kept) (x : ℕ) → GoesTo p k (to_fetch x) (part_of p k x)
fetch_goes p k x = record {
  leads = λ n wish. fetch_leads p k x n n.entry.deed (unwrap_or n.event 0) wish;
  sleeps = fetch_sleeps x;
  inside = λ i g at number. in_group p k x i g at number;
  starts = λ event is. absurd (cc is);
}

invalidate_leads : (p : Plan) (k : Kept) (x : ℕ) (n : Noted) (d : Deed) (by : ℕ) → wanted_by by d ≡ to_invalidate x → lead_by p k n d ≡ lead_part p k n (part_of p k x)
invalidate_leads p k x n (deed.Invalidate y) by wish = let same : y ≡ x = cc wish in ap (λ z. lead_part p k n (part_of p k z)) same
invalidate_leads p k x n d by wish = absurd (cc wish)

invalidate_sleeps : (x by : ℕ) (d : Deed) → wanted_by by d ≡ to_invalidate x → wakes d ≡ false
invalidate_sleeps x by (deed.Invalidate y) wish = refl
invalidate_sleeps x by d wish = absurd (cc wish)

pub invalidate_goes : (p : Plan) (k : Kept) (x : ℕ) → GoesTo p k (to_invalidate x) (part_of p k x)
invalidate_goes p k x = record {
  leads = λ n wish. invalidate_leads p k x n n.entry.deed (unwrap_or n.event 0) wish;
  sleeps = invalidate_sleeps x;
  inside = λ i g at number. tt;
  starts = λ event is. absurd (cc is);
}

see_leads : (p : Plan) (k : Kept) (x : ℕ) (n : Noted) (d : Deed) (by : ℕ) → wanted_by by d ≡ to_see_updated x → lead_by p k n d ≡ lead_part p k n (part_of p k x)
see_leads p k x n (deed.IsUpdated y updated) by wish = let same : y ≡ x = cc wish in ap (λ z. lead_part p k n (part_of p k z)) same
see_leads p k x n d by wish = absurd (cc wish)

see_sleeps : (x by : ℕ) (d : Deed) → wanted_by by d ≡ to_see_updated x → wakes d ≡ false
see_sleeps x by (deed.IsUpdated y updated) wish = refl
see_sleeps x by d wish = absurd (cc wish)

pub see_goes : (p : Plan) (k : Kept) (x : ℕ) → GoesTo p k (to_see_updated x) (part_of p k x)
see_goes p k x = record {
  leads = λ n wish. see_leads p k x n n.entry.deed (unwrap_or n.event 0) wish;
  sleeps = see_sleeps x;
  inside = λ i g at number. in_group p k x i g at number;
  starts = λ event is. absurd (cc is);
}

placed_number : (p : Plan) (k : Kept) (x i g : ℕ) → part_of p k x ≡ Some i → group_of p x ≡ Some g → slice_get k.numbers i ≡ Some g
placed_number p k x i g at group =
    let of = then_some (λ h. place h k.numbers) (group_of p x) i at in
    let same : of.item ≡ g = same_Some of.item g (sym of.is ∙ group) in
    place_at of.item k.numbers i of.gives ∙ ap (λ h. Some h) same

pub elem_goes : (p : Plan) (k : Kept) (x : ℕ) (w : Wanted) → IsOnElem w x → GoesTo p k w (part_of p k x)
elem_goes p k x (to_read y) on = subst (λ z. GoesTo p k (to_read y) (part_of p k z)) on (read_goes p k y)
elem_goes p k x (to_fetch y) on = subst (λ z. GoesTo p k (to_fetch y) (part_of p k z)) on (fetch_goes p k y)
elem_goes p k x (to_invalidate y) on = subst (λ z. GoesTo p k (to_invalidate y) (part_of p k z)) on (invalidate_goes p k y)
elem_goes p k x (to_see_updated y) on = subst (λ z. GoesTo p k (to_see_updated y) (part_of p k z)) on (see_goes p k y)
elem_goes p k x w on = absurd on

-- the group of an element that is read or looked at stands at the element's place
pub seen_at : (p : Plan) (k : Kept) (x i g : ℕ) (w : Wanted) → IsOnElem w x → part_of p k x ≡ Some i → group_seen p w ≡ Some g → slice_get k.numbers i ≡ Some g
seen_at p k x i g (to_read y) on at seen = placed_number p k x i g at (subst (λ z. group_of p z ≡ Some g) on seen)
seen_at p k x i g (to_fetch y) on at seen = placed_number p k x i g at (subst (λ z. group_of p z ≡ Some g) on seen)
seen_at p k x i g (to_see_updated y) on at seen = placed_number p k x i g at (subst (λ z. group_of p z ≡ Some g) on seen)
seen_at p k x i g (to_invalidate y) on at seen = absurd (cc seen)
seen_at p k x i g w on at seen = absurd on

-- ---- values that were stored

module _ (p : Plan) (b : ℕ) (a : Actor) (w : Wanted) (old new : BundleState) (planned : IsOfPlan p b old.kept) where
  -- an entry that stores, by which what was kept leads on
  stored : (entry : Entry) (after : Kept) → ((by : ℕ) → wanted_by by entry.deed ≡ w) → entry.actor ≡ a → answer_fits p a entry.deed ≡ true → wakes entry.deed ≡ true
      → lead p old.kept (noted_for w entry) ≡ Some after → IsOfPlan p b after → (r : Acted) → IsDone p entry after old new r → Answered p b a w old new r
  stored entry after wish actor fits wake leads own (NotYet shown) done = absurd done
  stored entry after wish actor fits wake leads own (Done e) done =
      subst (λ f. Answered p b a w old new (Done f)) (sym done.0) (record {
        planned = subst (λ z. IsOfPlan p b z) (sym done.1) own;
        answer = record { actor = actor; wish = wish (unwrap_or (event_of w) 0); answer = fits; leads = leads ∙ ap (λ z. Some z) (sym done.1) };
        same = λ shown is. absurd (cc is);
        told = (done.2 b planned).came;
        only = λ f is wakes_it. (done.2 b planned).only;
        left = λ f is asleep. let it : entry ≡ f = cc is in absurd (false≢true (sym asleep ∙ ap (λ (x : Entry). wakes x.deed) (sym it) ∙ wake));
      })

module _ (p : Plan) (b : ℕ) (a : Actor) (x : ℕ) (v : Value) (old new : BundleState) (planned : IsOfPlan p b old.kept) where
  part_there : (i : ℕ) → part_of p old.kept x ≡ Some i → Part old.kept i
  part_there i at =
      let of = then_some (λ g. place g old.kept.numbers) (group_of p x) i at in
      part_found old.kept i of.item planned.counted (place_at of.item old.kept.numbers i of.gives)

  write_none : (n : Noted) (d : Deed) (by : ℕ) → part_of p old.kept x ≡ None → wanted_by by d ≡ to_write x (words_of v) → lead_by p old.kept n d ≡ None
  write_none n (deed.Write y value) by none wish = let same : y ≡ x = cc wish in ap (λ z. lead_part p old.kept n (part_of p old.kept z)) same ∙ ap (lead_part p old.kept n) none
  write_none n d by none wish = absurd (cc wish)

  publish_none : (n : Noted) (d : Deed) (by : ℕ) → part_of p old.kept x ≡ None → wanted_by by d ≡ to_publish x (words_of v) → lead_by p old.kept n d ≡ None
  publish_none n (deed.Publish y value) by none wish = let same : y ≡ x = cc wish in ap (λ z. lead_part p old.kept n (part_of p old.kept z)) same ∙ ap (lead_part p old.kept n) none
  publish_none n d by none wish = absurd (cc wish)

  pub write_answers : (r : Acted) (at : Option ℕ) → part_of p old.kept x ≡ at → IsStored p at v (record { actor = a; deed = deed.Write x v }) old new r → Answered p b a (to_write x (words_of v)) old new r
  write_answers (Done e) None none done = absurd done
  write_answers (NotYet shown) None none done =
      undone p b a (to_write x (words_of v)) old new planned shown done.0 done.1 (λ n actor wish. write_none n n.entry.deed (unwrap_or n.event 0) none wish) (λ runnable event by is. absurd (cc is))
  write_answers r (Some i) at done =
      let part = part_there i at in
      let n = noted_for (to_write x (words_of v)) (record { actor = a; deed = deed.Write x v }) in
      stored p b a (to_write x (words_of v)) old new planned (record { actor = a; deed = deed.Write x v }) (store_at old.kept v (Some i)) (λ by. refl) refl refl refl
      (ap (lead_part p old.kept n) at
      ∙ ap (option_and_then (λ (q : groups.Kept). option_map (with_part old.kept i) (group_lead p (number_at old.kept i) q n))) part.found
      ∙ ap (λ o. Some (option_map_or (λ q. with_part old.kept i (after_publication v q)) o old.kept)) (sym part.found))
      (store_planned p b old.kept v (Some i) planned) r done

  pub publish_answers : (r : Acted) (at : Option ℕ) → part_of p old.kept x ≡ at → IsStored p at v (record { actor = a; deed = deed.Publish x v }) old new r → Answered p b a (to_publish x (words_of v)) old new r
  publish_answers (Done e) None none done = absurd done
  publish_answers (NotYet shown) None none done =
      undone p b a (to_publish x (words_of v)) old new planned shown done.0 done.1 (λ n actor wish. publish_none n n.entry.deed (unwrap_or n.event 0) none wish) (λ runnable event by is. absurd (cc is))
  publish_answers r (Some i) at done =
      let part = part_there i at in
      let n = noted_for (to_publish x (words_of v)) (record { actor = a; deed = deed.Publish x v }) in
      stored p b a (to_publish x (words_of v)) old new planned (record { actor = a; deed = deed.Publish x v }) (store_at old.kept v (Some i)) (λ by. refl) refl refl refl
      (ap (lead_part p old.kept n) at
      ∙ ap (option_and_then (λ (q : groups.Kept). option_map (with_part old.kept i) (group_lead p (number_at old.kept i) q n))) part.found
      ∙ ap (λ o. Some (option_map_or (λ q. with_part old.kept i (after_publication v q)) o old.kept)) (sym part.found))
      (store_planned p b old.kept v (Some i) planned) r done

-- ---- lists

module _ (p : Plan) (b : ℕ) (a : Actor) (old : BundleState) (planned : IsOfPlan p b old.kept) where
  pub publish_all_answers : (new : BundleState) (list written : ℕ) (v : Value) (r : Acted) → IsPublished p a list written v old new r → Answered p b a (to_publish_all list written (words_of v)) old new r
  publish_all_answers new list written v r done =
      let pairs = split p (marked written (elems_of p list)) (words_of v) in
      stored p b a (to_publish_all list written (words_of v)) old new planned (record { actor = a; deed = deed.PublishAll list written v }) (publish p old.kept pairs) (λ by. refl) refl refl refl refl
      (publish_planned p b old.kept pairs planned) r done

  -- no value has so many words
  too_long : (list : ℕ) (n : Noted) (d : Deed) (by : ℕ) → 16 < length (moment_in p old.kept (elems_of p list)) → wanted_by by d ≡ to_fetch_all list → lead_by p old.kept n d ≡ None
  too_long list n (deed.FetchAll l value) by many wish =
      let same : l ≡ list = cc wish in
      ap (λ k. given (same_words (words_of value) (moment_in p old.kept (elems_of p k))) old.kept) same
      ∙ ap (λ t. given t old.kept) (by_test (same_words (words_of value) (moment_in p old.kept (elems_of p list))) refl)
    where
      by_test : (t : Bool) → same_words (words_of value) (moment_in p old.kept (elems_of p list)) ≡ t → t ≡ false
      by_test false is = refl
      by_test true is =
          let equal : words_of value ≡ moment_in p old.kept (elems_of p list) = (same_words-Decides (words_of value) (moment_in p old.kept (elems_of p list))).0 is in
          let fits = value.short in
          absurd (omega (arith, many, ap length equal, length-words_of value, fits))
  too_long list n d by many wish = absurd (cc wish)

  pub fetch_all_answers : (list : ℕ) (r : Acted) → IsFetched p a list old.kept r → Answered p b a (to_fetch_all list) old old r
  fetch_all_answers list (NotYet shown) fetched =
      undone p b a (to_fetch_all list) old old planned shown fetched.0 refl (λ n actor wish. too_long list n n.entry.deed (unwrap_or n.event 0) fetched.1 wish) (λ runnable event by is. absurd (cc is))
  fetch_all_answers list (Done e) fetched =
      let v = fetched.0 in
      let words = fetched.1.1 in
      let leads : lead p old.kept (noted_for (to_fetch_all list) (record { actor = a; deed = deed.FetchAll list v })) ≡ Some old.kept =
      ap (λ t. given t old.kept) ((same_words-Decides (words_of v) (moment_in p old.kept (elems_of p list))).1 words) in
      subst (λ f. Answered p b a (to_fetch_all list) old old (Done f)) (sym fetched.1.0) (record {
        planned = planned;
        answer = record { actor = refl; wish = refl; answer = refl; leads = leads };
        same = λ shown is. absurd (cc is);
        told = λ event off on. absurd (false≢true (sym off ∙ on));
        only = λ f is wake. let it : record { actor = a; deed = deed.FetchAll list v } ≡ f = cc is in absurd (false≢true (ap (λ (x : Entry). wakes x.deed) it ∙ wake));
        left = λ f is asleep. refl;
      })

-- ---- other wishes

-- a wish that is none of a bundle's
abbrev pub is_other : Wanted → Bool
is_other (to_start event) = false
is_other (to_fetch x) = false
is_other (to_write x ws) = false
is_other (to_read x) = false
is_other (to_invalidate x) = false
is_other (to_see_updated x) = false
is_other (to_publish x ws) = false
is_other (to_fetch_all l) = false
is_other (to_publish_all l written ws) = false
is_other w = true

leads_nowhere : (p : Plan) (k : Kept) (n : Noted) (d : Deed) (by : ℕ) → is_other (wanted_by by d) ≡ true → lead_by p k n d ≡ None
leads_nowhere p k n (deed.Start e point value) by other = absurd (false≢true other)
leads_nowhere p k n (deed.Fetch x value) by other = absurd (false≢true other)
leads_nowhere p k n (deed.Write x value) by other = absurd (false≢true other)
leads_nowhere p k n (deed.Read x code value) by other = absurd (false≢true other)
leads_nowhere p k n (deed.Invalidate x) by other = absurd (false≢true other)
leads_nowhere p k n (deed.IsUpdated x updated) by other = absurd (false≢true other)
leads_nowhere p k n (deed.Publish x value) by other = absurd (false≢true other)
leads_nowhere p k n (deed.FetchAll l value) by other = absurd (false≢true other)
leads_nowhere p k n (deed.PublishAll l written value) by other = absurd (false≢true other)
leads_nowhere p k n d by other = refl

why_other : (k : Kept) (w : Wanted) → is_other w ≡ true → Unmatched ≡ why_held k w
why_other k (to_start event) other = absurd (false≢true other)
why_other k w other = refl

pub other_answers : (p : Plan) (b : ℕ) (a : Actor) (w : Wanted) (old : BundleState) → IsOfPlan p b old.kept → is_other w ≡ true → Answered p b a w old old (NotYet Unmatched)
other_answers p b a w old planned other =
    undone p b a w old old planned Unmatched (why_other old.kept w other) refl
    (λ n actor wish. leads_nowhere p old.kept n n.entry.deed (unwrap_or n.event 0) (ap is_other wish ∙ other))
    (λ runnable event by is. absurd (false≢true (sym (ap is_other is) ∙ other)))
