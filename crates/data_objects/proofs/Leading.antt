-- The law of leads: an entry by which a group leads on follows its past, and what is kept then is what the definitions give.
use Rattle.std.proofs.Common.{◌≡◌, ℕ, Bool, true, ◌&&◌, ◌==◌, refl, sym, ◌∙◌, ap, subst, ◌∷◌, Option, Some}
use Rattle.bus_semantics.specs.Common.{list_all, slice_get, and_parts, same_Some, Value, words_of, same_words, Plan, kind_of, Noted, Past, touches, is_in_group, value_at, read_code}
use Rattle.bus_semantics.specs.Common.{is_updated, is_due, is_due_kind, start_matches, matches, Answers, is_proper}
use Rattle.bus_semantics.specs.declared.entries.Actor.{Actor}
use Rattle.bus_semantics.specs.declared.entries.Deed.{Deed}
use Rattle.bus_semantics.specs.declared.entries.Deed.TheVariants as deed
use Rattle.data_objects.specs.KeptValues as data_kept
use Rattle.data_objects.specs.KeptValues.{after_write, after_invalidation, after_read, after_start}
use Rattle.object_kinds.specs.Common.{LeadsFollow, LeadsKeep, group_at, IsAlone, members_of, waits_for_data, place, given, is_set}
use Rattle.object_kinds.proofs.Events.{waiting_for, events_all}
use Rattle.object_kinds.proofs.Flags.{flag_set}
use Rattle.object_kinds.proofs.Lists.{mapped_at, all_at}
use Rattle.object_kinds.proofs.Members.{member_of, members_all}
use Rattle.object_kinds.proofs.Options.{given_some, then_some, mapped_some}
use Rattle.object_kinds.proofs.Placing.{place_at}
use Rattle.object_kinds.proofs.Proper.{noting, answer_part, admitted}
use Rattle.object_kinds.proofs.Touching.{touched_inside}
use Rattle.data_objects.specs.Kept.{Kept}
use Rattle.data_objects.specs.Standing.{due_after, GroupKeeps, Keeps}
use Rattle.data_objects.specs.Leading.{read_code_in, has_value, has_flag, lead_of_group, group_lead, lead}
use Rattle.data_objects.proofs.Keeping.{leading, due_kind, value_in, code_in, unnamed, has_flag_is, write_keeps, publish_keeps, invalidate_keeps, read_keeps, fetch_keeps, see_keeps, start_keeps}

-- ---- what the lead gives

-- of a group
pub record GroupLed (p : Plan) (g : ℕ) (after : Kept) (l : Past) (n : Noted) : Type 0 where
  pub answers : Answers p l n
  pub matching : matches p l n ≡ true
  pub keeps : GroupKeeps p g after (n ∷ l)

-- what the entry writes, publishes or invalidates is of the group
abbrev pub IsGiven : Plan → (group : ℕ) → Deed → Type 0
IsGiven p g (deed.Write x value) = is_in_group p g x ≡ true
IsGiven p g (deed.Publish x value) = is_in_group p g x ≡ true
IsGiven p g (deed.Invalidate x) = is_in_group p g x ≡ true
IsGiven p g d = Unit {0}

module _ (p : Plan) (g : ℕ) (k : Kept) (after : data_kept.Kept) (l : Past) (keeps : GroupKeeps p g k l) (a : Actor) (event : Option ℕ) where
  inside_at : (x r : ℕ) → place x (members_of p g) ≡ Some r → is_in_group p g x ≡ true
  inside_at x r there = all_at (is_in_group p g) (members_of p g) r x (members_all p g) (place_at x (members_of p g) r there)

  read_led : (x code : ℕ) (value : Value) → is_proper p (noting a (deed.Read x code value) event) ≡ true
      → lead_of_group p g k.events k.unqueued (deed.Read x code value) ≡ Some after → GroupLed p g (leading k after) l (noting a (deed.Read x code value) event)
  read_led x code value proper leads =
      let at_place = then_some (λ r. given ((code == read_code_in p x k.unqueued) && has_value value r k.unqueued) (after_read r k.unqueued)) (place x (members_of p g)) after leads in
      let r = at_place.item in
      let gives = given_some ((code == read_code_in p x k.unqueued) && has_value value r k.unqueued) (after_read r k.unqueued) after at_place.gives in
      let tests = and_parts (code == read_code_in p x k.unqueued) (has_value value r k.unqueued) gives.holds in
      let m = member_of p g x (inside_at x r at_place.is) in
      let code_is : (code == read_code p x l) ≡ true = subst (λ c. (code == c) ≡ true) (code_in p g k l keeps x m.elem m.found m.group) tests.0 in
      let value_is : same_words (words_of value) (value_at p x l) ≡ true = value_in p g k l keeps x r m.elem m.found m.group at_place.is value tests.1 in
      record {
        answers = record { unqueued = (λ i. code_is i && value_is i); queued = refl; calls = refl; areas = refl; modes = refl; admission = admitted p l event (deed.Read x code value) refl; due = refl };
        matching = refl;
        keeps = subst (λ z. GroupKeeps p g (leading k z) (noting a (deed.Read x code value) event ∷ l)) gives.same (read_keeps p g k l keeps a event x r code value (inside_at x r at_place.is) at_place.is);
      }

  fetch_led : (x : ℕ) (value : Value) → is_proper p (noting a (deed.Fetch x value) event) ≡ true
      → lead_of_group p g k.events k.unqueued (deed.Fetch x value) ≡ Some after → GroupLed p g (leading k after) l (noting a (deed.Fetch x value) event)
  fetch_led x value proper leads =
      let at_place = then_some (λ r. given (has_value value r k.unqueued) k.unqueued) (place x (members_of p g)) after leads in
      let gives = given_some (has_value value at_place.item k.unqueued) k.unqueued after at_place.gives in
      let m = member_of p g x (inside_at x at_place.item at_place.is) in record {
        answers = record {
          unqueued = value_in p g k l keeps x at_place.item m.elem m.found m.group at_place.is value gives.holds;
          queued = refl;
          calls = refl;
          areas = refl;
          modes = refl;
          admission = admitted p l event (deed.Fetch x value) refl;
          due = refl;
        };
        matching = refl;
        keeps = subst (λ z. GroupKeeps p g (leading k z) (noting a (deed.Fetch x value) event ∷ l)) gives.same (fetch_keeps p g k l keeps a event x value);
      }

  see_led : (x : ℕ) (b : Bool) → is_proper p (noting a (deed.IsUpdated x b) event) ≡ true
      → lead_of_group p g k.events k.unqueued (deed.IsUpdated x b) ≡ Some after → GroupLed p g (leading k after) l (noting a (deed.IsUpdated x b) event)
  see_led x b proper leads =
      let at_place = then_some (λ r. given (has_flag b k.unqueued.updated r) k.unqueued) (place x (members_of p g)) after leads in
      let gives = given_some (has_flag b k.unqueued.updated at_place.item) k.unqueued after at_place.gives in
      let flag : slice_get k.unqueued.updated at_place.item ≡ Some (is_updated p x l) =
      ap (λ fs. slice_get fs at_place.item) keeps.updated
      ∙ mapped_at (λ y. is_updated p y l) (members_of p g) at_place.item x (place_at x (members_of p g) at_place.item at_place.is) in record {
        answers = record {
          unqueued = has_flag_is k.unqueued.updated at_place.item b (is_updated p x l) flag gives.holds;
          queued = refl;
          calls = refl;
          areas = refl;
          modes = refl;
          admission = admitted p l event (deed.IsUpdated x b) refl;
          due = refl;
        };
        matching = refl;
        keeps = subst (λ z. GroupKeeps p g (leading k z) (noting a (deed.IsUpdated x b) event ∷ l)) gives.same (see_keeps p g k l keeps a event x b);
      }

  start_led : (e : ℕ) (point : Option ℕ) (value : Value) → is_proper p (noting a (deed.Start e point value) event) ≡ true
      → lead_of_group p g k.events k.unqueued (deed.Start e point value) ≡ Some after → GroupLed p g (leading k after) l (noting a (deed.Start e point value) event)
  start_led e point value proper leads =
      let at_place = then_some (λ i. given (is_set k.unqueued.due i) (after_start i k.unqueued)) (place e k.events) after leads in
      let gives = given_some (is_set k.unqueued.due at_place.item) (after_start at_place.item k.unqueued) after at_place.gives in
      let is_at = place_at e k.events at_place.item at_place.is in
      let flag : slice_get k.unqueued.due at_place.item ≡ Some (due_after p l e) = ap (λ fs. slice_get fs at_place.item) keeps.due ∙ mapped_at (due_after p l) k.events at_place.item e is_at in
      let waits : waits_for_data p g (kind_of p e) ≡ true =
      all_at (λ f. waits_for_data p g (kind_of p f)) k.events at_place.item e (subst (λ es. list_all (λ f. waits_for_data p g (kind_of p f)) es ≡ true) (sym keeps.waiting) (events_all p (waits_for_data p g))) is_at in
      let w = waiting_for p g (kind_of p e) waits in
      let due : is_due p a e l ≡ true =
      ap (λ c. is_due_kind p a e c l) w.kind ∙ sym (due_kind p e w.element l w.kind) ∙ flag_set k.unqueued.due at_place.item (due_after p l e) flag gives.holds in record {
        answers = record {
          unqueued = refl;
          queued = refl;
          calls = unnamed p a (kind_of p e) w.element point (words_of value) l w.kind (answer_part p (noting a (deed.Start e point value) event) proper);
          areas = refl;
          modes = refl;
          admission = admitted p l event (deed.Start e point value) refl;
          due = due;
        };
        matching = ap (λ c. start_matches p l e c) w.kind;
        keeps = subst (λ z. GroupKeeps p g (leading k z) (noting a (deed.Start e point value) event ∷ l)) gives.same (start_keeps p g k l keeps a event e at_place.item point value at_place.is);
      }

  pub group_led : (d : Deed) → IsGiven p g d → is_proper p (noting a d event) ≡ true → lead_of_group p g k.events k.unqueued d ≡ Some after → GroupLed p g (leading k after) l (noting a d event)
  group_led (deed.Write x value) given proper leads = record {
    answers = record { unqueued = refl; queued = refl; calls = refl; areas = refl; modes = refl; admission = admitted p l event (deed.Write x value) refl; due = refl };
    matching = refl;
    keeps = subst (λ z. GroupKeeps p g (leading k z) (noting a (deed.Write x value) event ∷ l)) (same_Some (after_write value k.unqueued) after leads) (write_keeps p g k l keeps a event x value given);
  }
  group_led (deed.Publish x value) given proper leads = record {
    answers = record { unqueued = refl; queued = refl; calls = refl; areas = refl; modes = refl; admission = admitted p l event (deed.Publish x value) refl; due = refl };
    matching = refl;
    keeps = subst (λ z. GroupKeeps p g (leading k z) (noting a (deed.Publish x value) event ∷ l)) (same_Some (after_write value k.unqueued) after leads) (publish_keeps p g k l keeps a event x value given);
  }
  group_led (deed.Invalidate x) given proper leads = record {
    answers = record { unqueued = refl; queued = refl; calls = refl; areas = refl; modes = refl; admission = admitted p l event (deed.Invalidate x) refl; due = refl };
    matching = refl;
    keeps = subst (λ z. GroupKeeps p g (leading k z) (noting a (deed.Invalidate x) event ∷ l)) (same_Some (after_invalidation k.unqueued) after leads) (invalidate_keeps p g k l keeps a event x given);
  }
  group_led (deed.Read x code value) given proper leads = read_led x code value proper leads
  group_led (deed.Fetch x value) given proper leads = fetch_led x value proper leads
  group_led (deed.IsUpdated x b) given proper leads = see_led x b proper leads
  group_led (deed.Start e point value) given proper leads = start_led e point value proper leads
  group_led d given proper leads = absurd (cc leads)

-- ---- the laws

-- what was led to, with the events that wait
pub record Gives (p : Plan) (g : ℕ) (before after : Kept) (n : Noted) : Type 0 where
  pub item : data_kept.Kept
  pub leads : lead_of_group p g before.events before.unqueued n.entry.deed ≡ Some item
  pub same : leading before item ≡ after

pub gives_of : (p : Plan) (g : ℕ) (before after : Kept) (n : Noted) → group_lead p g before n ≡ Some after → Gives p g before after n
gives_of p g before after n leads =
    let of = mapped_some (λ d. leading before d) (lead_of_group p g before.events before.unqueued n.entry.deed) after leads in record { item = of.item; leads = of.is; same = of.gives }

-- a group of several
pub group_leads : (p : Plan) (g : ℕ) (before after : Kept) (l : Past) (n : Noted) → GroupKeeps p g before l → IsGiven p g n.entry.deed → is_proper p n ≡ true → group_lead p g before n ≡ Some after → GroupLed p g after l n
group_leads p g before after l n keeps given proper leads =
    let of = gives_of p g before after n leads in
    subst (λ z. GroupLed p g z l n) of.same (group_led p g before of.item l keeps n.entry.actor n.event n.entry.deed given proper of.leads)

-- a group that is the object
touched_given : (p : Plan) (object : ℕ) (a : Actor) (event : Option ℕ) (d : Deed) → IsAlone p object → touches p object (noting a d event) ≡ true → IsGiven p (group_at p object) d
touched_given p object a event (deed.Write x value) alone touching = touched_inside p object x alone touching
touched_given p object a event (deed.Publish x value) alone touching = touched_inside p object x alone touching
touched_given p object a event (deed.Invalidate x) alone touching = touched_inside p object x alone touching
touched_given p object a event d alone touching = tt

object_led : (p : Plan) (object : ℕ) (before after : Kept) (l : Past) (n : Noted) → Keeps p object before l → touches p object n ≡ true → is_proper p n ≡ true → lead p object before n ≡ Some after
    → GroupLed p (group_at p object) after l n
object_led p object before after l n keeps touching proper leads =
    group_leads p (group_at p object) before after l n keeps.group (touched_given p object n.entry.actor n.event n.entry.deed keeps.alone touching) proper leads

pub leads_follow : (p : Plan) (object : ℕ) → LeadsFollow p object (Keeps p object) (lead p object)
leads_follow p object before after l n stands touching proper leads =
    let led = object_led p object before after l n stands.kept touching proper leads in
    record { touching = touching; proper = proper; answers = led.answers; matching = led.matching }

pub leads_keep : (p : Plan) (object : ℕ) → LeadsKeep p object (Keeps p object) (lead p object)
leads_keep p object before after l n stands touching proper leads = record { alone = stands.kept.alone; group = (object_led p object before after l n stands.kept touching proper leads).keeps }
