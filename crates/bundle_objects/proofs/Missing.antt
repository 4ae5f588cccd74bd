-- A bundle of a sound plan misses no entry that may follow its past.
use Rattle.std.proofs.Common.{◌≡◌, ℕ, Bool, true, false, not, refl, sym, ◌∙◌, ap, subst, List, Option, Some, None, is_some}
use Rattle.std.specs.Prelude.{option_and_then, option_map, map, unwrap_or}
use Rattle.bus_semantics.specs.Common.{slice_get, option_map_or, Value, words_of, same_words, Plan, group_of, kind_of, elems_of, home_of, bundle_of, groups_at, Past, is_in_group, Answers}
use Rattle.bus_semantics.specs.Common.{is_proper, IsSound}
use Rattle.bus_laws.specs.Common.{EventKind, DataReceived, Mapping, Actor, Deed}
use Rattle.bus_semantics.specs.declared.entries.Deed.TheVariants as deed
use Rattle.object_kinds.specs.Common.{MissesNothing, place, element_in, events_of, members_of, waits_for_data, waits_in_bundle, given}
use Rattle.object_kinds.proofs.Classes.{StartsOn, On, touching_on}
use Rattle.object_kinds.proofs.Events.{bundled_placed}
use Rattle.object_kinds.proofs.Lists.{mapped_at, all_at}
use Rattle.object_kinds.proofs.Members.{member_placed}
use Rattle.object_kinds.proofs.Numbers.{a_bundle}
use Rattle.object_kinds.proofs.Options.{clash, is_number, then_some, given_where, then_where, mapped_where}
use Rattle.object_kinds.proofs.Placing.{place_at}
use Rattle.object_kinds.proofs.Proper.{noting}
use Rattle.object_kinds.proofs.Touching.{OnGroup, send_queued, receive_queued}
use Rattle.data_objects.specs.Kept as groups
use Rattle.data_objects.specs.Layout.{is_queued_at}
use Rattle.data_objects.specs.Leading.{group_lead}
use Rattle.data_objects.proofs.Missing.{group_misses_nothing}
use Rattle.bundle_objects.specs.Layout.{place_of}
use Rattle.bundle_objects.specs.Kept.{Kept, route}
use Rattle.bundle_objects.specs.Leading.{part_of, number_at, with_part, lead_part, moment_in, part_at, lead_by, lead}
use Rattle.bundle_objects.specs.Standing.{Keeps}
use Rattle.bundle_objects.proofs.Parts.{Placed, group_placed, number_is_at, Part, part_found}
use Rattle.bundle_objects.proofs.Leading.{moment_same}

-- ---- where an event goes

-- an event that waits for a group of the bundle goes to that group
pub routed : (p : Plan) (b : ℕ) (k : Kept) (e x g i : ℕ) → k.numbers ≡ groups_at p b → k.events ≡ events_of p (waits_in_bundle p b) → k.places ≡ map (place_of p b) k.events
    → kind_of p e ≡ DataReceived x → group_of p x ≡ Some g → home_of p g ≡ Some b → place g k.numbers ≡ Some i → route k e ≡ Some i
routed p b k e x g i numbers waiting places kind group home there =
    let at = bundled_placed p b e x kind (ap (option_and_then (home_of p)) group ∙ home) in
    let here : place e k.events ≡ Some at.at = ap (place e) waiting ∙ at.is in
    let goes : place_of p b e ≡ i =
    ap (λ v. unwrap_or (option_and_then (λ h. place h (groups_at p b)) (group_of p (element_in v))) 0) kind
    ∙ ap (λ o. unwrap_or (option_and_then (λ h. place h (groups_at p b)) o) 0) group
    ∙ ap (λ ns. unwrap_or (place g ns) 0) (sym numbers)
    ∙ ap (λ o. unwrap_or o 0) there in
    ap (option_and_then (λ j. slice_get k.places j)) here
    ∙ ap (λ ps. slice_get ps at.at) places
    ∙ mapped_at (place_of p b) k.events at.at e (place_at e k.events at.at here)
    ∙ ap (λ j. Some j) goes

module _ (p : Plan) (b : ℕ) (k : Kept) (l : Past) (keeps : Keeps p b k l) (a : Actor) (event : Option ℕ) where
  -- an entry on a group of the bundle
  one_comes : (d : Deed) (g i : ℕ) → place g k.numbers ≡ Some i → OnGroup p g d → part_at p k d ≡ Some i → is_proper p (noting a d event) ≡ true → Answers p l (noting a d event)
      → is_some (lead_part p k (noting a d event) (part_at p k d)) ≡ true
  one_comes d g i there on at proper answers =
      let n = noting a d event in
      let number = place_at g k.numbers i there in
      let part = part_found k i g keeps.counted number in
      let leads : is_some (group_lead p (number_at k i) part.part n) ≡ true =
      ap (λ h. is_some (group_lead p h part.part n)) (number_is_at k i g number)
      ∙ group_misses_nothing p g part.part l n (keeps.parts i g part.part number part.found) on proper answers in
      then_where (λ j. option_and_then (λ q. option_map (with_part k j) (group_lead p (number_at k j) q n)) (slice_get k.parts j)) (part_at p k d) i at
      (then_where (λ q. option_map (with_part k i) (group_lead p (number_at k i) q n)) (slice_get k.parts i) part.part part.found
      (mapped_where (with_part k i) (group_lead p (number_at k i) part.part n) leads))

  -- an entry of an element
  record Here (x : ℕ) : Type 0 where
    group : ℕ
    inside : is_in_group p group x ≡ true
    is : group_of p x ≡ Some group
    home : home_of p group ≡ Some b
    at : ℕ
    there : place group k.numbers ≡ Some at
    part : part_of p k x ≡ Some at

  here_at : (x : ℕ) → bundle_of p x ≡ Some b → Here x
  here_at x home =
      let of = then_some (home_of p) (group_of p x) b home in
      let there = group_placed p b k.numbers of.item keeps.numbers of.gives in
      record {
        group = of.item;
        inside = is_number (group_of p x) of.item of.is;
        is = of.is;
        home = of.gives;
        at = there.at;
        there = there.is;
        part = ap (option_and_then (λ h. place h k.numbers)) of.is ∙ there.is;
      }

  -- no element of the bundle is queued
  none_queued : {X : Type 0} (x : ℕ) → bundle_of p x ≡ Some b → is_queued_at p x ≡ true → X
  none_queued x home queued =
      let h = here_at x home in
      let there = member_placed p h.group x h.inside in
      let group = keeps.is_bundle.groups h.group h.home in
      clash (not (is_queued_at p x)) (all_at (λ y. not (is_queued_at p y)) (members_of p h.group) there.at x group.unqueued (place_at x (members_of p h.group) there.at there.is)) (ap not queued)

  start_comes : (e : ℕ) (point : Option ℕ) (value : Value) (kind : EventKind) → kind_of p e ≡ kind → StartsOn p (a_bundle b) kind → is_proper p (noting a (deed.Start e point value) event) ≡ true
      → Answers p l (noting a (deed.Start e point value) event) → is_some (lead_part p k (noting a (deed.Start e point value) event) (route k e)) ≡ true
  start_comes e point value (DataReceived x) kind on proper answers =
      let h = here_at x on in
      one_comes (deed.Start e point value) h.group h.at h.there (ap (waits_for_data p h.group) kind ∙ h.inside)
      (routed p b k e x h.group h.at keeps.numbers keeps.waiting keeps.places kind h.is h.home h.there) proper answers
  start_comes e point value kind is on proper answers = absurd on

  bundle_comes : (d : Deed) → On p (a_bundle b) a event d → is_proper p (noting a d event) ≡ true → Answers p l (noting a d event) → is_some (lead_by p k (noting a d event) d) ≡ true
  bundle_comes (deed.Start e point value) on proper answers = start_comes e point value (kind_of p e) refl on proper answers
  bundle_comes (deed.Fetch x value) on proper answers = let h = here_at x on in one_comes (deed.Fetch x value) h.group h.at h.there h.inside h.part proper answers
  bundle_comes (deed.Write x value) on proper answers = let h = here_at x on in one_comes (deed.Write x value) h.group h.at h.there h.inside h.part proper answers
  bundle_comes (deed.Read x code value) on proper answers = let h = here_at x on in one_comes (deed.Read x code value) h.group h.at h.there h.inside h.part proper answers
  bundle_comes (deed.Invalidate x) on proper answers = let h = here_at x on in one_comes (deed.Invalidate x) h.group h.at h.there h.inside h.part proper answers
  bundle_comes (deed.IsUpdated x updated) on proper answers = let h = here_at x on in one_comes (deed.IsUpdated x updated) h.group h.at h.there h.inside h.part proper answers
  bundle_comes (deed.Publish x value) on proper answers = let h = here_at x on in one_comes (deed.Publish x value) h.group h.at h.there h.inside h.part proper answers
  bundle_comes (deed.Send x value code) on proper answers = none_queued x on (send_queued p a event x value code proper)
  bundle_comes (deed.Receive x code value) on proper answers = none_queued x on (receive_queued p a event x code value proper)
  bundle_comes (deed.FetchAll list value) on proper answers =
      given_where (same_words (words_of value) (moment_in p k (elems_of p list))) k (ap (same_words (words_of value)) (moment_same p b k l keeps a event list on) ∙ answers.unqueued)
  bundle_comes (deed.PublishAll list written value) on proper answers = refl
  bundle_comes d on proper answers = absurd on

pub misses_nothing : (p : Plan) (m : Mapping) (b : ℕ) → IsSound p m → MissesNothing p b (Keeps p b) (lead p)
misses_nothing p m b sound k l n stands follows =
    bundle_comes p b k l stands.kept n.entry.actor n.event n.entry.deed
    (touching_on p m sound (a_bundle b) stands.kept.is_bundle.number n.entry.actor n.event n.entry.deed follows.touching follows.proper) follows.proper follows.answers
