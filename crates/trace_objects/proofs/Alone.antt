-- An entry that touches no object: an end, or an answer at a point that is not joined.
use Rattle.std.proofs.Common.{◌≡◌, ℕ, zero, ℤ, Bool, true, false, ◌&&◌, ◌||◌, not, refl, sym, ◌∙◌, ap, subst, List, [], ◌∷◌, Option, Some, None}
use Rattle.std.specs.Prelude.{◌==◌, ◌+◌, length, nat_lt, unwrap_or, option_map}
use Rattle.bus_semantics.specs.Common.{option_map_or, slice_get, and_parts, eqb-true, false≢true, same_Some, ActKey, same_number, Plan, Runnable, instance_of, kind_of, server_of, Wanted}
use Rattle.bus_semantics.specs.Common.{to_tick, to_write, to_read, to_send, to_receive, to_ask, to_hear, to_take_result, to_switch, to_see_mode, to_move_on, to_end, wanted_by, History}
use Rattle.bus_semantics.specs.Common.{Noted, Past, note, noted, runs, first_machine, object_of, object_of_kind, wish_fits, is_unqueued, is_queued, holds, next_of_activity, next_wish}
use Rattle.bus_semantics.specs.Common.{is_outstanding, is_request_at, takes_reply_at, ask_code, is_due, Answers, IsLegal, IsSound, bundles_fit, groups_fit, kind_sound}
use Rattle.bus_laws.specs.Common.{Actor, Env, Machine, Act, Deed, Entry, ElemPlan, EventPlan, EventKind, Timing, Init, DataReceived, Invoked, Returns, ModeSwitch, Ack, ModePortPlan, Mapping}
use Rattle.bus_semantics.specs.declared.entries.Deed.TheVariants as deed
use Rattle.bus_laws.proofs.Bundling.{no_bundle}
use Rattle.bus_laws.proofs.LocalCalls.{no_server}
use Rattle.bus_laws.proofs.OneEvent.{kind_part}
use Rattle.history_laws.specs.Followed.{IsActivation}
use Rattle.history_laws.specs.LookUps.{sought, looked}
use Rattle.history_laws.specs.Wishes.{is_of_a_call, is_the_end}
use Rattle.history_laws.specs.Running.{GoesOn}
use Rattle.history_laws.proofs.Keys.{wish_runs}
use Rattle.port_objects.specs.declared.object.Object.{Object}
use Rattle.port_objects.specs.Common.{is_free, IsFree, kept_of, Stands}
use Rattle.trace_objects.specs.Standing.{IsTried, IsOther, ObjectsStand}
use Rattle.trace_objects.proofs.Tried.{Facts, IsAsked, wished, plain}
use Rattle.trace_objects.proofs.Parted.{parted}

-- ---- what is answered

pub with_event : (p : Plan) (h : Past) (a : Actor) (d : Deed) (by : ℕ) (event : Option ℕ) → is_free (wanted_by by d) ≡ true
    → Answers p h (record { entry = record { actor = a; deed = d }; event = None }) → Answers p h (record { entry = record { actor = a; deed = d }; event = event })
with_event p h a d by None free r = r
with_event p h a (deed.Admit admitted) by (Some n) free r = absurd (false≢true free)
with_event p h a d by (Some n) free r = record { unqueued = r.unqueued; queued = r.queued; calls = r.calls; areas = r.areas; modes = r.modes; admission = refl; due = r.due }

-- ---- what has no object and is not answered at once

looked_up : {X Y : Type 0} (o : Option X) (test : X → Bool) (give : X → Y) → option_map_or test o false ≡ true → option_map_or (λ x. Some (give x)) o None ≡ None → ⊥
looked_up None test give held none = false≢true held
looked_up (Some x) test give held none = absurd (cc none)

-- the environment asks, or takes a result
outside : (p : Plan) → bundles_fit p ≡ true → groups_fit p ≡ true → (w : Wanted) → wish_fits p Env w ≡ true → object_of p Env w ≡ None → is_free w ≡ true
outside p fit groups to_tick may_want none = absurd (cc none)
outside p fit groups (to_write x ws) may_want none =
    absurd (looked_up (slice_get p.elements x) (λ (e : ElemPlan). same_number e.instance None && ((is_unqueued e && e.provided) && holds ws e)) (λ (e : ElemPlan). e.group) may_want (no_bundle p fit groups x none))
outside p fit groups (to_read x) may_want none =
    absurd (looked_up (slice_get p.elements x) (λ (e : ElemPlan). same_number e.instance None && (is_unqueued e && not e.provided)) (λ (e : ElemPlan). e.group) may_want (no_bundle p fit groups x none))
outside p fit groups (to_send x ws) may_want none =
    absurd (looked_up (slice_get p.elements x) (λ (e : ElemPlan). same_number e.instance None && ((is_queued e && e.provided) && holds ws e)) (λ (e : ElemPlan). e.group) may_want (no_bundle p fit groups x none))
outside p fit groups (to_receive x) may_want none =
    absurd (looked_up (slice_get p.elements x) (λ (e : ElemPlan). same_number e.instance None && (is_queued e && not e.provided)) (λ (e : ElemPlan). e.group) may_want (no_bundle p fit groups x none))
outside p fit groups (to_switch m mode) may_want none = absurd (cc none)
outside p fit groups (to_see_mode port) may_want none = absurd (machine_found (slice_get p.mode_ports port) may_want none)
  where
    machine_found : (o : Option ModePortPlan) → option_map_or (λ (t : ModePortPlan). same_number t.instance None) o false ≡ true
        → option_map (λ n. first_machine p + n) (option_map_or (λ (v : ModePortPlan). Some v.machine) o None) ≡ None → ⊥
    machine_found None held none = false≢true held
    machine_found (Some t) held none = absurd (cc none)
outside p fit groups (to_ask q ws) may_want none = refl
outside p fit groups (to_take_result q) may_want none = refl
outside p fit groups w may_want none = absurd (false≢true may_want)

-- a machine has its object
pub machine_has : (p : Plan) (n : ℕ) (w : Wanted) → wish_fits p (Machine n) w ≡ true → object_of p (Machine n) w ≡ None → ⊥
machine_has p n to_move_on may_want none = absurd (cc none)
machine_has p n w may_want none = false≢true (and_parts (nat_lt n (length p.machines)) false may_want).1

-- a start touches no object only where its event returns at a point without a server
pub record IsUnjoined (p : Plan) (e : ℕ) : Type 0 where
  pub point : ℕ
  pub kind : kind_of p e ≡ Returns point
  pub unjoined : server_of p point ≡ None

module _ (p : Plan) (m : Mapping) (whole : IsSound p m) where
  pub returned_alone : (e : ℕ) → object_of_kind p (kind_of p e) ≡ None → IsUnjoined p e
  returned_alone e none = by_event (slice_get p.events e) refl
    where
      by_kind : (v : EventPlan) (k : EventKind) → kind_of p e ≡ k → object_of_kind p k ≡ None → kind_sound p e v.runnable (instance_of p v.runnable) k ≡ true → IsUnjoined p e
      by_kind v (DataReceived x) is touch sound =
          let at = sought p.elements x (λ (w : ElemPlan). same_number w.instance (instance_of p v.runnable) && _) sound in
          absurd (cc (sym (no_bundle p whole.bundles whole.groups x touch) ∙ looked p.elements x at.item (λ (w : ElemPlan). Some w.group) None at.found))
      by_kind v (Returns q) is touch sound = record { point = q; kind = is; unjoined = no_server p (server_of p q) touch }
      by_kind v (Timing period) is touch sound = absurd (cc touch)
      by_kind v Init is touch sound = absurd (cc touch)
      by_kind v (Invoked s) is touch sound = absurd (cc touch)
      by_kind v (ModeSwitch n moment) is touch sound = absurd (cc touch)
      by_kind v (Ack n) is touch sound = absurd (cc touch)

      by_event : (o : Option EventPlan) → slice_get p.events e ≡ o → IsUnjoined p e
      by_event None there =
          let is : kind_of p e ≡ Init = ap (λ (o : Option EventPlan). option_map_or (λ (v : EventPlan). v.kind) o Init) there in
          absurd (cc (sym none ∙ ap (object_of_kind p) is))
      by_event (Some v) there =
          let kind = looked p.events e v (λ (w : EventPlan). w.kind) Init there in
          by_kind v v.kind kind (ap (object_of_kind p) (sym kind) ∙ none) (kind_part p m whole e v there)

-- no request of a point without a server is accepted
unasked : (p : Plan) (q : ℕ) → server_of p q ≡ None → (h : Past) (a : Actor) (d : Deed) (event : Option ℕ) → Answers p h (record { entry = record { actor = a; deed = d }; event = event }) → is_request_at q d ≡ false
unasked p q unjoined h a (deed.Ask r value zero) event answers = by_test (q == r) refl
  where
    by_test : (b : Bool) → (q == r) ≡ b → b ≡ false
    by_test false is = refl
    by_test true is =
        let code : ask_code p q h ≡ 134 = rw unjoined refl in
        let same : (0 == ask_code p q h) ≡ true = subst (λ n. (0 == ask_code p n h) ≡ true) (sym (eqb-true q r is)) answers.calls in
        absurd (false≢true (subst (λ n. (0 == n) ≡ true) code same))
unasked p q unjoined h a d event answers = refl

never_outstanding : (p : Plan) (q : ℕ) → server_of p q ≡ None → (h : History) → IsLegal p h → is_outstanding q (noted h) ≡ false
never_outstanding p q unjoined [] legal = refl
never_outstanding p q unjoined (e ∷ h) legal =
    let none = unasked p q unjoined (noted h) e.actor e.deed (note h e).event legal.1.answers in
    let before = never_outstanding p q unjoined h legal.0 in
    (λ i. none i || (not (takes_reply_at q e.deed) && before i)) ∙ by_test (not (takes_reply_at q e.deed))
  where
    by_test : (b : Bool) → (b && false) ≡ false
    by_test true = refl
    by_test false = refl

-- ---- an entry that touches none

-- the laws that are used
pub record FreeLaws (p : Plan) (m : Mapping) (h : History) : Type 0 where
  pub goes : (k : ActKey) → runs k h ≡ true → GoesOn p h k
  pub answers : (a : Actor) (w : Wanted) (d : Deed) (l : Past) → wish_fits p a w ≡ true → object_of p a w ≡ None → IsFree w d → is_free w ≡ true → Answers p l (record { entry = record { actor = a; deed = d }; event = None })
  pub only : (a : Actor) (w : Wanted) (d : Deed) (l : Past) (n : Noted) → wish_fits p a w ≡ true → object_of p a w ≡ None → IsFree w d → is_free w ≡ true
      → n.entry.actor ≡ a → wanted_by (unwrap_or n.event 0) n.entry.deed ≡ w → Answers p l n → n.entry ≡ record { actor = a; deed = d }
  pub unjoined : (a : Actor) (event point : ℕ) → kind_of p event ≡ Returns point → server_of p point ≡ None → is_due p a event (noted h) ≡ false
  pub outstanding : (k : ActKey) (point : ℕ) → next_wish p h k ≡ Some (to_hear point) → is_outstanding point (noted h) ≡ true
  pub nothing : (k : ActKey) (r : Runnable) (event : ℕ) (start : List ℤ) (answers : List Deed) (w : Wanted) → IsActivation p m k r event → next_of_activity p r event start answers ≡ Some w → object_of p (Act k) w ≡ None → (is_of_a_call w || is_the_end w) ≡ true

module _ (p : Plan) (m : Mapping) (h : History) (e : Entry) (event : Option ℕ) (tried : IsTried p m h e event) (laws : FreeLaws p m h) (none : object_of p e.actor (wanted_by (unwrap_or event 0) e.deed) ≡ None) where
  abbrev w : Wanted
  w = wanted_by (unwrap_or event 0) e.deed

  module _ (f : Facts p h e event w) where
    noted_so : record { entry = e; event = event } ≡ note h e
    noted_so = λ i. record { entry = e; event = tried.by i }

    pub answered : is_free w ≡ true → IsFree w e.deed → Answers p (noted h) (note h e)
    answered free is = subst (Answers p (noted h)) noted_so (with_event p (noted h) e.actor e.deed (unwrap_or event 0) event free (laws.answers e.actor w e.deed (noted h) f.fit none is free))

    pub stand_then : (objects : List Object) → ObjectsStand p h objects → ObjectsStand p (e ∷ h) objects
    stand_then objects stand i o is = subst (Stands p i (kept_of o)) (sym (parted p h e i false (ap (λ v. same_number v (Some i)) (f.touch ∙ none)))) (stand i o is)

    -- what is not answered at once never comes
    pub unfree : is_free w ≡ false → IsAsked p h event e.actor e.deed → Answers p (noted h) (note h e) → ⊥
    unfree bound (wished k who next free needs) answers =
        let g = laws.goes k (wish_runs p k h w next) in
        let same : g.wish ≡ w = same_Some _ _ (sym g.next ∙ next) in
        let none_k : object_of p (Act k) w ≡ None = ap (λ a. object_of p a w) (sym who) ∙ none in
        let kinds = laws.nothing k g.runnable g.activation.event g.activation.start g.activation.deeds w (record { sound = tried.sound; key = g.key; runnable = g.found; starts = g.own }) (g.asks.next ∙ ap (λ x. Some x) same) none_k in
        hears w bound kinds none_k next
      where
        hears : (v : Wanted) → is_free v ≡ false → (is_of_a_call v || is_the_end v) ≡ true → object_of p (Act k) v ≡ None → next_wish p h k ≡ Some v → ⊥
        hears (to_hear q) bound kinds none next =
            false≢true (sym (never_outstanding p q (no_server p (server_of p q) none) h tried.legal) ∙ laws.outstanding k q next)
        hears (to_ask q ws) bound kinds none next = false≢true (sym bound)
        hears (to_take_result q) bound kinds none next = false≢true (sym bound)
        hears (to_end n) bound kinds none next = false≢true (sym bound)
        hears v bound kinds none next = false≢true kinds
    unfree bound (plain free fit own starts) answers = by_actor e.actor refl
      where
        by_actor : (a : Actor) → e.actor ≡ a → ⊥
        by_actor Env who = false≢true (sym bound ∙ outside p tried.sound.bundles tried.sound.groups w (ap (λ a. wish_fits p a w) (sym who) ∙ fit) (ap (λ a. object_of p a w) (sym who) ∙ none))
        by_actor (Machine n) who = machine_has p n w (ap (λ a. wish_fits p a w) (sym who) ∙ fit) (ap (λ a. object_of p a w) (sym who) ∙ none)
        by_actor (Act k) who =
            let s = starts k who in
            let u = returned_alone p m tried.sound s.event (subst (λ d. object_of p e.actor (wanted_by (unwrap_or event 0) d) ≡ None) s.is none) in
            let due : is_due p e.actor s.event (noted h) ≡ true = (subst (λ d. Answers p (noted h) (record { entry = record { actor = e.actor; deed = d }; event = (note h e).event })) s.is answers).due in
            false≢true (sym (laws.unjoined e.actor s.event u.point u.kind u.unjoined) ∙ due)

    -- another deed is answered
    pub others : IsOther w e → Answers p (noted h) (note h e) → ⊥
    others other answers =
        other.other (sym (laws.only e.actor w other.deed (noted h) (note h e) f.fit none other.answer other.free refl (ap (λ o. wanted_by (unwrap_or o 0) e.deed) (sym tried.by)) answers))
