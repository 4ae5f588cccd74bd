-- What the calls of a group answer is what the lead gives.
use Rattle.std.proofs.Common.{◌≡◌, ℕ, ℤ, Bool, true, false, ◌&&◌, ◌==◌, if◌then◌else◌, refl, sym, ◌∙◌, ap, subst, List, [], length, Option, Some, None}
use Rattle.std.specs.Prelude.{is_none, unwrap_or, option_map}
use Rattle.bus_semantics.specs.Common.{Contains, list_all, slice_get, option_map_or, and_parts, eq-eqb, eqb-true, false≢true, Value, words_of, same_words, empty_value, same_words-Decides}
use Rattle.bus_semantics.specs.Common.{Plan, look, kind_of, bundle_of, Wanted, to_start, to_send, to_receive, is_queued, holds, wish_fits, answer_fits, start_fits, is_in_group, event_of}
use Rattle.bus_laws.specs.Common.{ElemPlan, EventKind, DataReceived, Actor, Deed}
use Rattle.bus_semantics.specs.declared.entries.Deed.TheVariants as deed
use Rattle.queued_ports.specs.declared.received.Received.{Received}
use Rattle.queued_ports.specs.Kept as ports
use Rattle.object_kinds.specs.declared.acted.Acted.{Acted}
use Rattle.object_kinds.specs.declared.acted.Acted.TheVariants.{Done, NotYet}
use Rattle.object_kinds.specs.declared.acted.Shown.{Shown}
use Rattle.object_kinds.specs.Common.{IsAnswerOf, group_at, place, members_of, given, is_set, is_pending, is_rising}
use Rattle.object_kinds.proofs.Events.{events_all}
use Rattle.object_kinds.proofs.Flags.{pending_cleared}
use Rattle.object_kinds.proofs.Lists.{all_at, set_same}
use Rattle.object_kinds.proofs.Members.{member_of, member_placed}
use Rattle.object_kinds.proofs.Options.{then_some}
use Rattle.object_kinds.proofs.Placing.{place_at}
use Rattle.object_kinds.proofs.Proper.{by_actor}
use Rattle.object_kinds.proofs.Touching.{bundled_inside}
use Rattle.queue_objects.specs.Acting.{is_bare, Leads, Holds, IsActed, IsTaken}
use Rattle.queue_objects.specs.Kept.{Kept, GroupState, may_start}
use Rattle.queue_objects.specs.Layout.{is_joined_at, waits_for_receiver, words_at, words_in}
use Rattle.queue_objects.specs.Leading.{is_received, received_at_place, is_unconnected, started_at, lead_of_queues, with_queues, lead, why_held}
use Rattle.queue_objects.specs.Plans.{IsGroupOfPlan, IsOfPlan}
use Rattle.queue_objects.proofs.Keeping.{Waiting, waiting_for}
use Rattle.queue_objects.proofs.Silent.{said_by}
use Rattle.queue_objects.proofs.Starting.{starts_by, not_pending}
use Rattle.queue_objects.proofs.Staying.{stays_planned}
use Rattle.queue_objects.proofs.Telling.{state, send_tells, none_tells}

-- ---- starts

pub start_taken : (receivers events : List ℕ) (k new : ports.Kept) (woken : List ℕ) (at : Option ℕ) (i : ℕ) (pending : Bool) → at ≡ Some i → Some pending ≡ slice_get k.due i → new ≡ ports.after_start i k
    → IsTaken pending (state receivers events k woken) (state receivers events new woken) (started_at k at)
start_taken receivers events k new woken at i true there due next = (rw (there, ← due) (ap (λ z. Some z) (sym next)), refl, refl)
start_taken receivers events k new woken at i false there due next = (
  rw (there, ← due) refl,
  ap (λ z. state receivers events z woken) (next ∙ (λ j. record { words = k.words; queues = k.queues; events = k.events; due = set_same k.due i false (sym due) j })),
)

-- a start that was taken clears its flag alone
start_off : (old new : GroupState) (e : ℕ) → started_at old.kept.queued (place e old.kept.events) ≡ Some new.kept.queued → new.kept ≡ with_queues old.kept new.kept.queued → (event : ℕ) → may_start old.kept event ≡ false → may_start new.kept event ≡ false
start_off old new e leads kept event off = by_place (place e old.kept.events) leads
  where
    by_place : (at : Option ℕ) → started_at old.kept.queued at ≡ Some new.kept.queued → may_start new.kept event ≡ false
    by_place None gives = absurd (cc gives)
    by_place (Some i) gives = by_flag (is_set old.kept.queued.due i) gives
      where
        by_flag : (b : Bool) → given b (ports.after_start i old.kept.queued) ≡ Some new.kept.queued → may_start new.kept event ≡ false
        by_flag false gives = absurd (cc gives)
        by_flag true gives =
            let same : ports.after_start i old.kept.queued ≡ new.kept.queued = cc in
            ap (λ z. may_start z event) kept ∙ ap (λ (d : ports.Kept). is_pending d.due (place event old.kept.events)) (sym same) ∙ pending_cleared old.kept.queued.due i (place event old.kept.events) off

pub start_leads : (p : Plan) (a : Actor) (e : ℕ) (value : Value) (old new : GroupState) → words_of value ≡ [] → IsTaken true old new (started_at old.kept.queued (place e old.kept.events))
    → Leads p a (to_start e) old new (record { actor = a; deed = deed.Start e None value })
start_leads p a e value old new empty taken = record {
  actor = refl;
  wish = λ event. refl;
  bare = (same_words-Decides (words_of value) []).1 empty;
  leads = taken.0;
  kept = taken.1;
  told = none_tells old new (deed.Start e None value) refl taken.2 (start_off old new e taken.0 taken.1);
}

pub start_holds : (p : Plan) (e : ℕ) (old new : GroupState) (shown : Shown) → shown ≡ why_held old.kept (to_start e) → IsTaken false old new (started_at old.kept.queued (place e old.kept.events)) → Holds p (to_start e) old new shown
start_holds p e old new shown why taken = record { why = why; same = taken.1; none = λ d event same. starts_by p old.kept.receivers old.kept.events old.kept.queued d event e same ∙ taken.0 }

-- ---- sends and receives

received_itself : (o : Option Received) (code : ℕ) (v : Value) → Some (record { code = code; value = v }) ≡ o → is_received code v o ≡ true
received_itself o code v is = rw (← is) (λ i. eq-eqb code code refl i && (same_words-Decides (words_of v) (words_of v)).1 refl i)

module _ (p : Plan) (a : Actor) (x : ℕ) (receivers events woken : List ℕ) (k : ports.Kept) where
  pub send_leads : (names told : List ℕ) (new : ports.Kept) (code : ℕ) (v : Value) → is_rising events ≡ true → names ≡ events → code ≡ ports.answer_to_send k → new ≡ ports.after_send v k
      → ((i name : ℕ) → slice_get k.due i ≡ Some false → slice_get new.due i ≡ Some true → slice_get names i ≡ Some name → Contains told name) → ((name : ℕ) → Contains told name → ports.IsWoken names k new name)
      → Leads p a (to_send x (words_of v)) (state receivers events k woken) (state receivers events new told) (record { actor = a; deed = deed.Send x v code })
  send_leads names told new code v up named is next came only = record {
    actor = refl;
    wish = λ event. refl;
    bare = refl;
    leads = ap (λ b. given b (ports.after_send v k)) (eq-eqb code (ports.answer_to_send k) is) ∙ ap (λ z. Some z) (sym next);
    kept = refl;
    told = send_tells receivers events names k new v woken told up named next came only (deed.Send x v code) refl;
  }

  pub receive_leads : (r : ℕ) (new : ports.Kept) (code : ℕ) (v : Value) → is_joined_at p x ≡ true → place x receivers ≡ Some r → Some (record { code = code; value = v }) ≡ ports.answer_to_receive r k → new ≡ ports.after_receive r k
      → Leads p a (to_receive x) (state receivers events k woken) (state receivers events new woken) (record { actor = a; deed = deed.Receive x code v })
  receive_leads r new code v joined there is next = record {
    actor = refl;
    wish = λ event. refl;
    bare = refl;
    leads = ap (λ b. if b then received_at_place code v k (place x receivers) else given (is_unconnected code v) k) joined
        ∙ ap (received_at_place code v k) there
        ∙ ap (λ b. given b (ports.after_receive r k)) (received_itself (ports.answer_to_receive r k) code v is)
        ∙ ap (λ z. Some z) (sym next);
    kept = refl;
    told = none_tells (state receivers events k woken) (state receivers events new woken) (deed.Receive x code v) refl refl (λ event off. ap (λ (z : ports.Kept). is_pending z.due (place event events)) next ∙ off);
  }

-- the words of a send that fits are as many as a value of the group has
pub sent_words : (p : Plan) (a : Actor) (object x : ℕ) (ws : List ℤ) (k : Kept) → wish_fits p a (to_send x ws) ≡ true → bundle_of p x ≡ Some object → IsOfPlan p object k → length ws ≡ k.queued.words
sent_words p a object x ws k fit there planned =
    let g = group_at p object in
    let held : (e : ElemPlan) → ((is_queued e && e.provided) && holds ws e) ≡ true → holds ws e ≡ true = λ e is. (and_parts (is_queued e && e.provided) (holds ws e) is).1 in
    let holding : look p.elements x (holds ws) false ≡ true =
    by_actor p a (to_send x ws) fit
    (λ fits. said_by p _ (λ e. (is_queued e && e.provided) && holds ws e) (holds ws) x held fits)
    (λ key fits. said_by p _ (λ e. (is_queued e && e.provided) && holds ws e) (holds ws) x held fits)
    (λ n less fits. absurd (false≢true fits)) in
    let inside : is_in_group p g x ≡ true = bundled_inside p object x planned.alone there in
    let m = member_of p g x inside in
    let at = member_placed p g x inside in
    let long : length ws ≡ m.elem.words = eqb-true (length ws) m.elem.words (sym (ap (λ o. option_map_or (holds ws) o false) m.found) ∙ holding) in
    let alike : words_at p x ≡ words_in p g =
    eqb-true (words_at p x) (words_in p g) (all_at (λ y. words_at p y == words_in p g) (members_of p g) at.at x planned.group.is_group.alike (place_at x (members_of p g) at.at at.is)) in
    long ∙ sym (ap (λ o. option_map_or (λ (e : ElemPlan). e.words) o 0) m.found) ∙ alike ∙ sym planned.group.words

-- ---- the whole

answers_fit : (p : Plan) (g : ℕ) (a : Actor) (k : Kept) (after : ports.Kept) (d : Deed) → IsGroupOfPlan p g k → lead_of_queues p k.receivers k.events k.queued d ≡ Some after → is_bare d ≡ true → answer_fits p a d ≡ true
answers_fit p g a k after (deed.Start e point value) planned leads bare = by_kind (kind_of p e) point w.kind bare
  where
    w : Waiting p g (kind_of p e)
    w =
        let at = then_some (λ i. given (is_set k.queued.due i) (ports.after_start i k.queued)) (place e k.events) after leads in
        waiting_for p g (kind_of p e)
        (all_at (λ f. waits_for_receiver p g (kind_of p f)) k.events at.item e (subst (λ es. list_all (λ f. waits_for_receiver p g (kind_of p f)) es ≡ true) (sym planned.waiting) (events_all p (waits_for_receiver p g)))
        (place_at e k.events at.item at.is))

    by_kind : (kind : EventKind) (point : Option ℕ) → kind ≡ DataReceived w.element → (is_none point && same_words (words_of value) []) ≡ true → start_fits p kind point (words_of value) ≡ true
    by_kind kind None is bare = rw is bare
    by_kind kind (Some q) is bare = absurd (false≢true bare)
answers_fit p g a k after (deed.Send x value code) planned leads bare = refl
answers_fit p g a k after (deed.Receive x code value) planned leads bare = refl
answers_fit p g a k after d planned leads bare = absurd (cc leads)

module _ (p : Plan) (g : ℕ) (a : Actor) (w : Wanted) (old new : GroupState) where
  pub acted_answers : (r : Acted) → IsGroupOfPlan p g old.kept → IsActed p a w old new r → IsAnswerOf p (lead p) may_start why_held a w old.kept new.kept r
  acted_answers (Done e) planned made = record {
    actor = made.actor;
    wish = made.wish (unwrap_or (event_of w) 0);
    answer = answers_fit p g a old.kept new.kept.queued e.deed planned made.leads made.bare;
    leads = ap (option_map (with_queues old.kept)) made.leads ∙ ap (λ k. Some k) (sym made.kept);
  }
  acted_answers (NotYet shown) planned held = (
    held.why,
    ap (λ (s : GroupState). s.kept) held.same,
    record {
      none = λ n actor wish. ap (option_map (with_queues old.kept)) (held.none n.entry.deed (unwrap_or n.event 0) wish);
      flag = λ runnable event by is. not_pending old.kept.queued (place event old.kept.events) (held.none (deed.Start event None empty_value) 0 (sym is));
    },
  )

  pub acted_planned : (r : Acted) → IsGroupOfPlan p g old.kept → IsActed p a w old new r → IsGroupOfPlan p g new.kept
  acted_planned (Done e) planned made = stays_planned p g old.kept new.kept e.deed planned made.leads made.kept
  acted_planned (NotYet shown) planned held = subst (λ (s : GroupState). IsGroupOfPlan p g s.kept) (sym held.same) planned

  pub acted_tells : (r : Acted) → IsActed p a w old new r → (event : ℕ) → may_start old.kept event ≡ false → may_start new.kept event ≡ true → Contains new.woken event
  acted_tells (Done e) made event off on = made.told.came event off on
  acted_tells (NotYet shown) held event off on = absurd (false≢true (sym off ∙ sym (ap (λ (s : GroupState). may_start s.kept event) held.same) ∙ on))
