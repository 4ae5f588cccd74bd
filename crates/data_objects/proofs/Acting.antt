-- What the calls of a group answer is what the lead gives.
use Rattle.std.proofs.Common.{◌≡◌, ◌<◌, ℕ, Bool, true, false, ◌&&◌, refl, sym, ◌∙◌, ap, subst, arith, List, [], length, Option, Some, None}
use Rattle.std.specs.Prelude.{is_none, unwrap_or, option_map}
use Rattle.bus_semantics.specs.Common.{Contains, list_all, slice_get, eq-eqb, false≢true, same_Some, Value, words_of, same_words, empty_value, same_words-Decides, Plan, kind_of, Wanted}
use Rattle.bus_semantics.specs.Common.{to_start, to_read, to_fetch, to_see_updated, object_of, answer_fits, start_fits, same_bool, event_of}
use Rattle.bus_semantics.specs.declared.plan.EventKind.{EventKind}
use Rattle.bus_semantics.specs.declared.plan.EventKind.TheVariants.{DataReceived}
use Rattle.bus_semantics.specs.declared.entries.Actor.{Actor}
use Rattle.bus_semantics.specs.declared.entries.Deed.{Deed}
use Rattle.bus_semantics.specs.declared.entries.Deed.TheVariants as deed
use Rattle.data_objects.specs.KeptValues as data_kept
use Rattle.object_kinds.specs.declared.acted.Acted.{Acted}
use Rattle.object_kinds.specs.declared.acted.Acted.TheVariants.{Done, NotYet}
use Rattle.object_kinds.specs.declared.acted.Shown.{Shown}
use Rattle.object_kinds.specs.Common.{IsAnswerOf, place, group_at, IsAlone, members_of, waits_for_data, given, is_set, is_pending}
use Rattle.object_kinds.proofs.Events.{Waiting, waiting_for, events_all}
use Rattle.object_kinds.proofs.Flags.{pending_cleared}
use Rattle.object_kinds.proofs.Lists.{all_at, set_same}
use Rattle.object_kinds.proofs.Options.{then_some}
use Rattle.object_kinds.proofs.Placing.{place_at, place_within}
use Rattle.object_kinds.proofs.Touching.{group_itself}
use Rattle.data_objects.specs.Acting.{is_bare, Leads, Holds, IsActed, group_seen, IsWishIn, started_at, IsTaken}
use Rattle.data_objects.specs.Kept.{Kept, GroupState, may_start}
use Rattle.data_objects.specs.Leading.{read_code_in, has_value, lead_of_group, group_lead, why_held}
use Rattle.data_objects.specs.Plans.{IsGroupOfPlan}
use Rattle.data_objects.proofs.Keeping.{leading}
use Rattle.data_objects.proofs.Starting.{starts_by, not_pending}
use Rattle.data_objects.proofs.Staying.{stays, stays_planned}
use Rattle.data_objects.proofs.Telling.{state, none_tells}

-- a receiver is within the initial values
pub receiver_within : (p : Plan) (g x r count : ℕ) → place x (members_of p g) ≡ Some r → count ≡ length (members_of p g) → r < count
receiver_within p g x r count there same = let within : r < length (members_of p g) = place_within x (members_of p g) r there in omega arith

-- ---- starts

pub start_taken : (events : List ℕ) (k new : data_kept.Kept) (woken : List ℕ) (at : Option ℕ) (i : ℕ) (pending : Bool) → at ≡ Some i → Some pending ≡ slice_get k.due i → new ≡ data_kept.after_start i k
    → IsTaken pending (state events k woken) (state events new woken) (started_at k at)
start_taken events k new woken at i true there due next = (rw (there, ← due) (ap (λ z. Some z) (sym next)), refl, refl)
start_taken events k new woken at i false there due next = (
  rw (there, ← due) refl,
  ap (λ z. state events z woken) (next ∙ (λ j. record {
    inits = k.inits;
    events = k.events;
    stored = k.stored;
    invalid = k.invalid;
    updated = k.updated;
    due = set_same k.due i false (sym due) j;
  })),
)

-- a start that was taken clears its flag alone
start_off : (old new : GroupState) (e : ℕ) → started_at old.kept.unqueued (place e old.kept.events) ≡ Some new.kept.unqueued → new.kept.events ≡ old.kept.events → (event : ℕ) → may_start old.kept event ≡ false → may_start new.kept event ≡ false
start_off old new e leads events event off = by_place (place e old.kept.events) leads
  where
    by_place : (at : Option ℕ) → started_at old.kept.unqueued at ≡ Some new.kept.unqueued → may_start new.kept event ≡ false
    by_place None gives = absurd (cc gives)
    by_place (Some i) gives = by_flag (is_set old.kept.unqueued.due i) gives
      where
        by_flag : (b : Bool) → given b (data_kept.after_start i old.kept.unqueued) ≡ Some new.kept.unqueued → may_start new.kept event ≡ false
        by_flag false gives = absurd (cc gives)
        by_flag true gives =
            let same : data_kept.after_start i old.kept.unqueued ≡ new.kept.unqueued = cc in
            (λ j. is_pending (sym same j).due (place event (events j))) ∙ pending_cleared old.kept.unqueued.due i (place event old.kept.events) off

pub start_leads : (p : Plan) (g : ℕ) (a : Actor) (e : ℕ) (value : Value) (old new : GroupState) → words_of value ≡ [] → IsTaken true old new (started_at old.kept.unqueued (place e old.kept.events))
    → Leads p g a (to_start e) old new (record { actor = a; deed = deed.Start e None value })
start_leads p g a e value old new empty taken = record {
  actor = refl;
  wish = λ event. refl;
  bare = (same_words-Decides (words_of value) []).1 empty;
  leads = taken.0;
  events = taken.1;
  told = none_tells old new (deed.Start e None value) refl taken.2 (start_off old new e taken.0 taken.1);
}

pub start_holds : (p : Plan) (g e : ℕ) (old new : GroupState) (shown : Shown) → shown ≡ why_held old.kept (to_start e) → IsTaken false old new (started_at old.kept.unqueued (place e old.kept.events)) → Holds p g (to_start e) old new shown
start_holds p g e old new shown why taken = record { why = why; same = taken.1; none = λ d event same. starts_by p g old.kept.events old.kept.unqueued d event e same ∙ taken.0 }

-- ---- reads, fetches and looks at a flag

has_itself : (k : data_kept.Kept) (r : ℕ) (v : Value) → Some v ≡ data_kept.value_for r k → has_value v r k ≡ true
has_itself k r v e = rw (← e) ((same_words-Decides (words_of v) (words_of v)).1 refl)

flag_itself : (b : Bool) → same_bool b b ≡ true
flag_itself true = refl
flag_itself false = refl

module _ (p : Plan) (g : ℕ) (a : Actor) (x r : ℕ) (events woken : List ℕ) (k : data_kept.Kept) (there : place x (members_of p g) ≡ Some r) where
  pub read_leads : (new : data_kept.Kept) (code : ℕ) (v : Value) → Some v ≡ data_kept.value_for r k → code ≡ read_code_in p x k → new ≡ data_kept.after_read r k
      → Leads p g a (to_read x) (state events k woken) (state events new woken) (record { actor = a; deed = deed.Read x code v })
  read_leads new code v value is next = record {
    actor = refl;
    wish = λ event. refl;
    bare = refl;
    leads = rw there (ap (λ b. given b (data_kept.after_read r k)) (λ i. eq-eqb code (read_code_in p x k) is i && has_itself k r v value i) ∙ ap (λ z. Some z) (sym next));
    events = refl;
    told = none_tells (state events k woken) (state events new woken) (deed.Read x code v) refl refl (λ event off. ap (λ (z : data_kept.Kept). is_pending z.due (place event events)) next ∙ off);
  }

  pub fetch_leads : (v : Value) → Some v ≡ data_kept.value_for r k → Leads p g a (to_fetch x) (state events k woken) (state events k woken) (record { actor = a; deed = deed.Fetch x v })
  fetch_leads v value = record {
    actor = refl;
    wish = λ event. refl;
    bare = refl;
    leads = rw there (ap (λ b. given b k) (has_itself k r v value));
    events = refl;
    told = none_tells (state events k woken) (state events k woken) (deed.Fetch x v) refl refl (λ event off. off);
  }

  pub look_leads : (b : Bool) → Some b ≡ slice_get k.updated r → Leads p g a (to_see_updated x) (state events k woken) (state events k woken) (record { actor = a; deed = deed.IsUpdated x b })
  look_leads b flag = record {
    actor = refl;
    wish = λ event. refl;
    bare = refl;
    leads = rw (there, ← flag) (ap (λ c. given c k) (flag_itself b));
    events = refl;
    told = none_tells (state events k woken) (state events k woken) (deed.IsUpdated x b) refl refl (λ event off. off);
  }

-- ---- the whole

answers_fit : (p : Plan) (g : ℕ) (a : Actor) (k : Kept) (after : data_kept.Kept) (d : Deed) → IsGroupOfPlan p g k → lead_of_group p g k.events k.unqueued d ≡ Some after → is_bare d ≡ true → answer_fits p a d ≡ true
answers_fit p g a k after (deed.Start e point value) planned leads bare = by_kind (kind_of p e) point w.kind bare
  where
    w : Waiting p g (kind_of p e)
    w =
        let at = then_some (λ i. given (is_set k.unqueued.due i) (data_kept.after_start i k.unqueued)) (place e k.events) after leads in
        waiting_for p g (kind_of p e)
        (all_at (λ f. waits_for_data p g (kind_of p f)) k.events at.item e (subst (λ es. list_all (λ f. waits_for_data p g (kind_of p f)) es ≡ true) (sym planned.waiting) (events_all p (waits_for_data p g))) (place_at e k.events at.item at.is))

    by_kind : (kind : EventKind) (point : Option ℕ) → kind ≡ DataReceived w.element → (is_none point && same_words (words_of value) []) ≡ true → start_fits p kind point (words_of value) ≡ true
    by_kind kind None is bare = rw is bare
    by_kind kind (Some q) is bare = absurd (false≢true bare)
answers_fit p g a k after (deed.Fetch x value) planned leads bare = refl
answers_fit p g a k after (deed.Write x value) planned leads bare = refl
answers_fit p g a k after (deed.Read x code value) planned leads bare = refl
answers_fit p g a k after (deed.Invalidate x) planned leads bare = refl
answers_fit p g a k after (deed.IsUpdated x updated) planned leads bare = refl
answers_fit p g a k after (deed.Publish x value) planned leads bare = refl
answers_fit p g a k after d planned leads bare = absurd (cc leads)

-- as many events wait as before
pub acted_long : (p : Plan) (g : ℕ) (a : Actor) (w : Wanted) (old new : GroupState) (r : Acted) → IsActed p g a w old new r → length new.kept.unqueued.due ≡ length old.kept.unqueued.due
acted_long p g a w old new (Done e) made = (stays p g old.kept.events old.kept.unqueued new.kept.unqueued e.deed made.leads).due
acted_long p g a w old new (NotYet shown) held = ap (λ (s : GroupState). length s.kept.unqueued.due) held.same

module _ (p : Plan) (g : ℕ) (a : Actor) (w : Wanted) (old new : GroupState) where
  pub acted_answers : (r : Acted) → IsGroupOfPlan p g old.kept → IsActed p g a w old new r → IsAnswerOf p (group_lead p g) may_start why_held a w old.kept new.kept r
  acted_answers (Done e) planned made = record {
    actor = made.actor;
    wish = made.wish (unwrap_or (event_of w) 0);
    answer = answers_fit p g a old.kept new.kept.unqueued e.deed planned made.leads made.bare;
    leads = ap (option_map (λ d. leading old.kept d)) made.leads ∙ ap (λ es. Some (record { events = es; unqueued = new.kept.unqueued })) (sym made.events);
  }
  acted_answers (NotYet shown) planned held = (
    held.why,
    ap (λ (s : GroupState). s.kept) held.same,
    record {
      none = λ n actor wish. ap (option_map (λ d. leading old.kept d)) (held.none n.entry.deed (unwrap_or n.event 0) wish);
      flag = λ runnable event by is. not_pending old.kept.unqueued (place event old.kept.events) (held.none (deed.Start event None empty_value) 0 (sym is));
    },
  )

  pub acted_planned : (r : Acted) → IsGroupOfPlan p g old.kept → IsActed p g a w old new r → IsGroupOfPlan p g new.kept
  acted_planned (Done e) planned made = stays_planned p g old.kept new.kept e.deed planned made.leads made.events
  acted_planned (NotYet shown) planned held = subst (λ (s : GroupState). IsGroupOfPlan p g s.kept) (sym held.same) planned

  pub acted_same : (r : Acted) (shown : Shown) → r ≡ NotYet shown → IsActed p g a w old new r → new ≡ old
  acted_same r shown is acted = (subst (IsActed p g a w old new) is acted).same

  pub acted_tells : (r : Acted) → IsActed p g a w old new r → (event : ℕ) → may_start old.kept event ≡ false → may_start new.kept event ≡ true → Contains new.woken event
  acted_tells (Done e) made event off on = made.told.came event off on
  acted_tells (NotYet shown) held event off on = absurd (false≢true (sym off ∙ sym (ap (λ (s : GroupState). may_start s.kept event) held.same) ∙ on))

-- ---- a wish on a group that is the object

module _ (p : Plan) (object : ℕ) (a : Actor) (alone : IsAlone p object) where
  -- what it reads or looks at is of the group
  pub wish_inside : (w : Wanted) → object_of p a w ≡ Some object → IsWishIn p (group_at p object) w
  wish_inside (to_read x) touching = group_itself p object x alone touching
  wish_inside (to_fetch x) touching = group_itself p object x alone touching
  wish_inside (to_see_updated x) touching = group_itself p object x alone touching
  wish_inside w touching = tt

  pub seen_itself : (w : Wanted) (g : ℕ) → object_of p a w ≡ Some object → group_seen p w ≡ Some g → group_at p object ≡ g
  seen_itself (to_read x) g touching seen = same_Some (group_at p object) g (sym (group_itself p object x alone touching) ∙ seen)
  seen_itself (to_fetch x) g touching seen = same_Some (group_at p object) g (sym (group_itself p object x alone touching) ∙ seen)
  seen_itself (to_see_updated x) g touching seen = same_Some (group_at p object) g (sym (group_itself p object x alone touching) ∙ seen)
  seen_itself w g touching seen = absurd (cc seen)
