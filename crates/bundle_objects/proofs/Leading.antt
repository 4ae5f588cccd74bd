-- The law of leads: an entry by which a bundle leads on follows its past, and what is kept then is what the definitions give. An entry on one
-- group is that group's, and leaves the others as they were.
use Rattle.std.proofs.Common.{◌≡◌, ◌≤◌, ℕ, ℤ, Bool, true, false, ◌==◌, ◌||◌, refl, sym, ◌∙◌, ap, subst, arith, List, [], ◌∷◌, ◌++◌, length, map, set, Option, Some, None}
use Rattle.std.specs.Prelude.{flat_map, option_and_then, option_map}
use Rattle.bus_semantics.specs.Common.{list_any, list_all, slice_get, option_map_or, or_left, or_right, false≢true, eq-eqb, same_Some, Value, words_of, same_words, length-words_of, Plan}
use Rattle.bus_semantics.specs.Common.{group_of, kind_of, elems_of, marked, split, home_of, bundle_of, bundle_of_list, Noted, Past, touches, value_at, moment_of, listed_in, Answers, matches}
use Rattle.bus_semantics.specs.Common.{is_proper}
use Rattle.bus_laws.specs.Common.{Actor, Deed}
use Rattle.bus_semantics.specs.declared.entries.Deed.TheVariants as deed
use Rattle.object_kinds.specs.Common.{LeadsFollow, LeadsKeep, place, waits_for_data, members_of, given, is_set, is_rising}
use Rattle.object_kinds.proofs.Events.{events_all}
use Rattle.object_kinds.proofs.Lists.{all_at}
use Rattle.object_kinds.proofs.Members.{member_of, member_placed}
use Rattle.object_kinds.proofs.Options.{number_is, is_number, given_some, then_some, mapped_some}
use Rattle.object_kinds.proofs.Placing.{place_at}
use Rattle.object_kinds.proofs.Proper.{noting, admitted}
use Rattle.object_kinds.proofs.Touching.{OnGroup}
use Rattle.data_objects.specs.KeptValues as data_kept
use Rattle.data_objects.specs.Kept as groups
use Rattle.data_objects.specs.Leading.{group_lead, value_in}
use Rattle.data_objects.specs.Standing.{GroupKeeps}
use Rattle.data_objects.proofs.Keeping.{leading, value_found}
use Rattle.data_objects.proofs.Leading.{GroupLed, IsGiven, Gives, gives_of, group_leads}
use Rattle.data_objects.proofs.Elsewhere.{IsElsewhere, stays, on_other, fetched_elsewhere, published_elsewhere, published_keeps}
use Rattle.bundle_objects.specs.Layout.{IsBundle, place_of}
use Rattle.bundle_objects.specs.Kept.{Kept, route}
use Rattle.bundle_objects.specs.Leading.{part_of, number_at, with_part, lead_part, value_kept, moment_in, after_publication, publish, part_at, lead_by, lead}
use Rattle.bundle_objects.specs.Standing.{Keeps}
use Rattle.bundle_objects.specs.Words.{value_of}
use Rattle.bundle_objects.proofs.Parts.{set_here, set_there, numbers_rise, group_placed, number_home, one_place, number_is_at, part_inside, inside_part, Part, part_found, Number}
use Rattle.bundle_objects.proofs.Parts.{number_found, At, here, elsewhere, compared}
use Rattle.bundle_objects.proofs.Stored.{Same, part_set_same, taken_by, publish_same, published_part, last_short}
use Rattle.bundle_objects.proofs.Words.{words_of_value}

-- ---- what the lead gives

pub record BundleLed (p : Plan) (b : ℕ) (after : Kept) (l : Past) (n : Noted) : Type 0 where
  pub answers : Answers p l n
  pub matching : matches p l n ≡ true
  pub keeps : Keeps p b after (n ∷ l)

-- all that no entry changes stays, and each part keeps what the definitions give
kept_on : (p : Plan) (b : ℕ) (k after : Kept) (l more : Past) → Keeps p b k l → Same k after
    → ((i g : ℕ) (part : groups.Kept) → slice_get k.numbers i ≡ Some g → slice_get after.parts i ≡ Some part → GroupKeeps p g part more) → Keeps p b after more
kept_on p b k after l more keeps same parts = record {
  is_bundle = keeps.is_bundle;
  numbers = same.numbers ∙ keeps.numbers;
  waiting = same.events ∙ keeps.waiting;
  places = same.places ∙ keeps.places ∙ ap (map (place_of p b)) (sym same.events);
  counted = same.counted ∙ keeps.counted ∙ ap length (sym same.numbers);
  parts = λ i g part number found. parts i g part (ap (λ ns. slice_get ns i) (sym same.numbers) ∙ number) found;
}

module _ (p : Plan) (b : ℕ) (k : Kept) (l : Past) (keeps : Keeps p b k l) (a : Actor) (event : Option ℕ) where
  rises : is_rising k.numbers ≡ true
  rises = ap is_rising keeps.numbers ∙ numbers_rise p b

  -- ---- an entry on one group

  -- the entry is on the group that stands where it goes
  on_part : (d : Deed) (i g : ℕ) (part now : groups.Kept) → slice_get k.numbers i ≡ Some g → slice_get k.parts i ≡ Some part → part_at p k d ≡ Some i
      → group_lead p g part (noting a d event) ≡ Some now → OnGroup p g d
  on_part (deed.Start e point value) i g part now number found at leads =
      let of = gives_of p g part now (noting a (deed.Start e point value) event) leads in
      let there = then_some (λ j. given (is_set part.unqueued.due j) (data_kept.after_start j part.unqueued)) (place e part.events) of.item of.leads in
      let own = keeps.parts i g part number found in
      all_at (λ f. waits_for_data p g (kind_of p f)) part.events there.item e (subst (λ es. list_all (λ f. waits_for_data p g (kind_of p f)) es ≡ true) (sym own.waiting) (events_all p (waits_for_data p g))) (place_at e part.events there.item there.is)
  on_part (deed.Fetch x value) i g part now number found at leads = part_inside p k x i g at number
  on_part (deed.Write x value) i g part now number found at leads = part_inside p k x i g at number
  on_part (deed.Read x code value) i g part now number found at leads = part_inside p k x i g at number
  on_part (deed.Invalidate x) i g part now number found at leads = part_inside p k x i g at number
  on_part (deed.IsUpdated x updated) i g part now number found at leads = part_inside p k x i g at number
  on_part (deed.Publish x value) i g part now number found at leads = part_inside p k x i g at number
  on_part d i g part now number found at leads = absurd (cc at)

  given_on : (d : Deed) (g : ℕ) → OnGroup p g d → IsGiven p g d
  given_on (deed.Write x value) g on = on
  given_on (deed.Publish x value) g on = on
  given_on (deed.Invalidate x) g on = on
  given_on d g on = tt

  module _ (d : Deed) (i g : ℕ) (part now : groups.Kept) (number : slice_get k.numbers i ≡ Some g) (found : slice_get k.parts i ≡ Some part) (on : OnGroup p g d) (led : GroupLed p g now l (noting a d event)) where
    others_stay : (j h : ℕ) (other : groups.Kept) → slice_get k.numbers j ≡ Some h → slice_get (set k.parts i now) j ≡ Some other → GroupKeeps p h other (noting a d event ∷ l)
    others_stay j h other place_h at = by_place (compared i j)
      where
        by_place : At i j → GroupKeeps p h other (noting a d event ∷ l)
        by_place (here same) =
            let group : g ≡ h = same_Some g h (sym number ∙ ap (slice_get k.numbers) same ∙ place_h) in
            let it : now ≡ other = same_Some now other (sym (set_here k.parts i now part found) ∙ ap (slice_get (set k.parts i now)) same ∙ at) in
            subst (λ f. GroupKeeps p f other (noting a d event ∷ l)) group (subst (λ q. GroupKeeps p g q (noting a d event ∷ l)) it led.keeps)
        by_place (elsewhere apart) =
            let own = keeps.parts j h other place_h (sym (set_there k.parts i j now apart) ∙ at) in
            stays p h other l a event d own (on_other p h g (λ same. apart (one_place k.numbers i j h rises (number ∙ ap (λ f. Some f) same) place_h)) a event d on)

    part_led : BundleLed p b (with_part k i now) l (noting a d event)
    part_led = record { answers = led.answers; matching = led.matching; keeps = kept_on p b k (with_part k i now) l (noting a d event ∷ l) keeps (part_set_same k i now) others_stay }

  one_led : (d : Deed) (after : Kept) → is_proper p (noting a d event) ≡ true → lead_part p k (noting a d event) (part_at p k d) ≡ Some after → BundleLed p b after l (noting a d event)
  one_led d after proper leads =
      let n = noting a d event in
      let at = then_some (λ i. option_and_then (λ part. option_map (with_part k i) (group_lead p (number_at k i) part n)) (slice_get k.parts i)) (part_at p k d) after leads in
      let i = at.item in
      let of = then_some (λ part. option_map (with_part k i) (group_lead p (number_at k i) part n)) (slice_get k.parts i) after at.gives in
      let made = mapped_some (with_part k i) (group_lead p (number_at k i) of.item n) after of.gives in
      let number = number_found k i of.item keeps.counted of.is in
      let leads_on : group_lead p number.group of.item n ≡ Some made.item = ap (λ g. group_lead p g of.item n) (sym (number_is_at k i number.group number.found)) ∙ made.is in
      let on = on_part d i number.group of.item made.item number.found of.is at.is leads_on in
      let led = group_leads p number.group of.item made.item l n (keeps.parts i number.group of.item number.found of.is) (given_on d number.group on) proper leads_on in
      subst (λ z. BundleLed p b z l n) made.gives (part_led d i number.group of.item made.item number.found of.is on led)

  -- ---- a fetch of a list

  -- an element of the bundle has the value that the definitions give
  pub value_same : (x : ℕ) → bundle_of p x ≡ Some b → option_map_or words_of (value_kept p k x) [] ≡ value_at p x l
  value_same x home =
      let of = then_some (home_of p) (group_of p x) b home in
      let g = of.item in
      let inside = is_number (group_of p x) g of.is in
      let there = group_placed p b k.numbers g keeps.numbers of.gives in
      let part = part_found k there.at g keeps.counted there.number in
      let own = keeps.parts there.at g part.part there.number part.found in
      let m = member_of p g x inside in
      let r = member_placed p g x inside in
      let value = value_found p g part.part l own x r.at m.elem m.found m.group r.is in
      let at : part_of p k x ≡ Some there.at = ap (option_and_then (λ h. place h k.numbers)) of.is ∙ there.is in
      let kept : value_kept p k x ≡ Some value.value =
      ap (option_and_then (λ i. option_and_then (λ (q : groups.Kept). value_in p (number_at k i) x q.unqueued) (slice_get k.parts i))) at
      ∙ ap (option_and_then (λ (q : groups.Kept). value_in p (number_at k there.at) x q.unqueued)) part.found
      ∙ ap (λ h. value_in p h x part.part.unqueued) (number_is_at k there.at g there.number)
      ∙ ap (option_and_then (λ j. data_kept.value_for j part.part.unqueued)) r.is
      ∙ value.is in
      ap (λ o. option_map_or words_of o []) kept ∙ value.words

  moment_all : (xs : List ℕ) → ((x : ℕ) → list_any (λ y. y == x) xs ≡ true → bundle_of p x ≡ Some b) → moment_in p k xs ≡ moment_of p xs l
  moment_all [] each = refl
  moment_all (x ∷ xs) each =
      let first = value_same x (each x (or_left (x == x) (list_any (λ y. y == x) xs) (eq-eqb x x refl))) in
      let rest = moment_all xs (λ y there. each y (or_right (x == y) (list_any (λ z. z == y) xs) there)) in
      λ i. first i ++ rest i

  pub moment_same : (list : ℕ) → bundle_of_list p list ≡ Some b → moment_in p k (elems_of p list) ≡ moment_of p (elems_of p list) l
  moment_same list home = moment_all (elems_of p list) (λ x there. keeps.is_bundle.together list x home there)

  fetch_led : (list : ℕ) (value : Value) (after : Kept) → bundle_of_list p list ≡ Some b → lead_by p k (noting a (deed.FetchAll list value) event) (deed.FetchAll list value) ≡ Some after
      → BundleLed p b after l (noting a (deed.FetchAll list value) event)
  fetch_led list value after home leads =
      let n = noting a (deed.FetchAll list value) event in
      let of = given_some (same_words (words_of value) (moment_in p k (elems_of p list))) k after leads in
      subst (λ z. BundleLed p b z l n) of.same (record {
        answers = record {
          unqueued = ap (same_words (words_of value)) (sym (moment_same list home)) ∙ of.holds;
          queued = refl;
          calls = refl;
          areas = refl;
          modes = refl;
          admission = admitted p l event (deed.FetchAll list value) refl;
          due = refl;
        };
        matching = refl;
        keeps = kept_on p b k k l (n ∷ l) keeps (record { numbers = refl; events = refl; places = refl; counted = refl })
            (λ i g part number found. stays p g part l a event (deed.FetchAll list value) (keeps.parts i g part number found) (fetched_elsewhere p g a event list value));
      })

  -- ---- a publication of a list

  publish_led : (list written : ℕ) (value : Value) (after : Kept) → lead_by p k (noting a (deed.PublishAll list written value) event) (deed.PublishAll list written value) ≡ Some after
      → BundleLed p b after l (noting a (deed.PublishAll list written value) event)
  publish_led list written value after leads =
      let d = deed.PublishAll list written value in
      let n = noting a d event in
      let pairs = split p (marked written (elems_of p list)) (words_of value) in
      subst (λ z. BundleLed p b z l n) (same_Some (publish p k pairs) after leads) (record {
        answers = record { unqueued = refl; queued = refl; calls = refl; areas = refl; modes = refl; admission = admitted p l event d refl; due = refl };
        matching = refl;
        keeps = kept_on p b k (publish p k pairs) l (n ∷ l) keeps (publish_same p k pairs) taken;
      })
    where
      short : length (words_of value) ≤ 16
      short = let fits = value.short in omega (arith, length-words_of value, fits)

      by_last : (g : ℕ) (part : groups.Kept) → GroupKeeps p g part l → (o : Option (List ℤ)) → listed_in p g list written (words_of value) ≡ o
          → GroupKeeps p g (taken_by o part) (noting a (deed.PublishAll list written value) event ∷ l)
      by_last g part own None none = stays p g part l a event (deed.PublishAll list written value) own (published_elsewhere p g a event list written value none)
      by_last g part own (Some ws) stores =
          published_keeps p g a event part l own list written value (value_of ws)
          (stores ∙ ap (λ vs. Some vs) (sym (words_of_value ws (last_short p g 16 (marked written (elems_of p list)) (words_of value) ws short stores))))

      taken : (i g : ℕ) (part : groups.Kept) → slice_get k.numbers i ≡ Some g → slice_get (publish p k (split p (marked written (elems_of p list)) (words_of value))).parts i ≡ Some part
          → GroupKeeps p g part (noting a (deed.PublishAll list written value) event ∷ l)
      taken i g part number at =
          let pairs = split p (marked written (elems_of p list)) (words_of value) in
          let before = part_found k i g keeps.counted number in
          let now = published_part p i g pairs k before.part rises number before.found in
          subst (λ q. GroupKeeps p g q (noting a (deed.PublishAll list written value) event ∷ l)) (same_Some (taken_by (listed_in p g list written (words_of value)) before.part) part (sym now ∙ at))
          (by_last g before.part (keeps.parts i g before.part number before.found) (listed_in p g list written (words_of value)) refl)

  -- ---- the whole

  bundle_led : (d : Deed) (after : Kept) → touches p b (noting a d event) ≡ true → is_proper p (noting a d event) ≡ true → lead_by p k (noting a d event) d ≡ Some after → BundleLed p b after l (noting a d event)
  bundle_led (deed.FetchAll list value) after touching proper leads = fetch_led list value after (number_is (bundle_of_list p list) b touching) leads
  bundle_led (deed.PublishAll list written value) after touching proper leads = publish_led list written value after leads
  bundle_led d after touching proper leads = one_led d after proper leads

-- ---- the laws

pub leads_follow : (p : Plan) (b : ℕ) → LeadsFollow p b (Keeps p b) (lead p)
leads_follow p b before after l n stands touching proper leads =
    let led = bundle_led p b before l stands.kept n.entry.actor n.event n.entry.deed after touching proper leads in
    record { touching = touching; proper = proper; answers = led.answers; matching = led.matching }

pub leads_keep : (p : Plan) (b : ℕ) → LeadsKeep p b (Keeps p b) (lead p)
leads_keep p b before after l n stands touching proper leads = (bundle_led p b before l stands.kept n.entry.actor n.event n.entry.deed after touching proper leads).keeps
