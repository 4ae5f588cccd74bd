-- In a sound plan nothing is sent to a required element without a join, so an event that waits for it is never due.
use Rattle.std.proofs.Common.{◌≡◌, ◌<◌, ◌≤◌, ◌+◌, ℕ, zero, suc, Bool, true, false, ◌&&◌, ◌||◌, ◌==◌, not, if◌then◌else◌, refl, sym, ◌∙◌, ap, subst, arith, List, [], ◌∷◌, length, Option}
use Rattle.std.proofs.Common.{Some, None, is_some}
use Rattle.std.specs.Prelude.{filter}
use Rattle.bus_semantics.specs.Common.{list_all, slice_get, option_map_or, and_parts, eq-eqb, eqb-true, false≢true, slice_get_within, Value, words_of, same_number, Plan, look, group_of}
use Rattle.bus_semantics.specs.Common.{kind_of, instance_of, Noted, Past, to_send, to_receive, elem_fits, is_queued, holds, is_in_group, stored_in, sent_in, sent_to, accepts_next}
use Rattle.bus_semantics.specs.Common.{has_room_at, is_receiver_in, is_start_by, follows_last, brings_data, is_proper, IsPastOf, is_variable, agrees, has_side, count_side, kind_sound}
use Rattle.bus_semantics.specs.Common.{IsSound}
use Rattle.bus_laws.specs.Common.{ElemPlan, EventPlan, Init, DataReceived, Mapping, Actor, Deed}
use Rattle.bus_semantics.specs.declared.entries.Deed.TheVariants as deed
use Rattle.bus_laws.proofs.ObjectLists.{IsUnnamed, unnamed_stores_none}
use Rattle.object_kinds.proofs.Lists.{all_at}
use Rattle.object_kinds.proofs.Members.{member_of, member_placed}
use Rattle.object_kinds.proofs.Options.{clash, is_number}
use Rattle.object_kinds.proofs.Placing.{place_at}
use Rattle.object_kinds.proofs.Proper.{noting, wish_part, by_actor}
use Rattle.object_kinds.proofs.Ranges.{sought, kind_fits}
use Rattle.object_kinds.proofs.Touching.{write_unqueued, publish_unqueued, listed_not_queued}
use Rattle.object_kinds.specs.Layout.{members_of}
use Rattle.queue_objects.specs.Layout.{is_queued_at, is_receiver_at, IsQueuedGroup}

-- ---- what an entry that fits says of its element

pub said_by : (p : Plan) (home : Option ℕ) (test said : ElemPlan → Bool) (x : ℕ) → ((e : ElemPlan) → test e ≡ true → said e ≡ true) → elem_fits p home test x ≡ true → look p.elements x said false ≡ true
said_by p home test said x each fit =
    let at = sought p.elements x (λ (e : ElemPlan). same_number e.instance home && test e) fit in
    ap (λ o. option_map_or said o false) at.found ∙ each at.item (and_parts (same_number at.item.instance home) (test at.item) at.holds).1

pub send_provided : (p : Plan) (a : Actor) (event : Option ℕ) (x code : ℕ) (value : Value) → is_proper p (noting a (deed.Send x value code) event) ≡ true → look p.elements x (λ (e : ElemPlan). e.provided) false ≡ true
send_provided p a event x code value proper =
    let ws = words_of value in
    let provided : (e : ElemPlan) → ((is_queued e && e.provided) && holds ws e) ≡ true → e.provided ≡ true =
    λ e is. (and_parts (is_queued e) e.provided (and_parts (is_queued e && e.provided) (holds ws e) is).0).1 in
    by_actor p a (to_send x ws) (wish_part p a (deed.Send x value code) event refl proper)
    (λ fit. said_by p _ (λ e. (is_queued e && e.provided) && holds ws e) (λ e. e.provided) x provided fit)
    (λ k fit. said_by p _ (λ e. (is_queued e && e.provided) && holds ws e) (λ e. e.provided) x provided fit)
    (λ n less fit. absurd (false≢true fit))

pub receive_required : (p : Plan) (a : Actor) (event : Option ℕ) (x code : ℕ) (value : Value) → is_proper p (noting a (deed.Receive x code value) event) ≡ true → look p.elements x (λ (e : ElemPlan). not e.provided) false ≡ true
receive_required p a event x code value proper =
    let required : (e : ElemPlan) → (is_queued e && not e.provided) ≡ true → not e.provided ≡ true = λ e is. (and_parts (is_queued e) (not e.provided) is).1 in
    by_actor p a (to_receive x) (wish_part p a (deed.Receive x code value) event refl proper)
    (λ fit. said_by p _ (λ e. is_queued e && not e.provided) (λ e. not e.provided) x required fit)
    (λ k fit. said_by p _ (λ e. is_queued e && not e.provided) (λ e. not e.provided) x required fit)
    (λ n less fit. absurd (false≢true fit))

-- each element of the group is queued
pub none_unqueued : {X : Type 0} (p : Plan) (g x : ℕ) → IsQueuedGroup p g → is_in_group p g x ≡ true → is_queued_at p x ≡ false → X
none_unqueued p g x is_group inside off =
    let there = member_placed p g x inside in
    clash (is_queued_at p x) (all_at (is_queued_at p) (members_of p g) there.at x is_group.queued (place_at x (members_of p g) there.at there.is)) off

-- ---- a required element without a join is alone in its group

some_picked : {X : Type 0} (t : X → Bool) (xs : List X) (i : ℕ) (x : X) → slice_get xs i ≡ Some x → t x ≡ true → 1 ≤ length (filter t xs)
some_picked t [] i x there on = absurd (cc there)
some_picked t (y ∷ xs) i x there on = by_test (t y) refl i there (λ j below. some_picked t xs j x below on)
  where
    by_test : (b : Bool) → t y ≡ b → (i : ℕ) → slice_get (y ∷ xs) i ≡ Some x → ((j : ℕ) → slice_get xs j ≡ Some x → 1 ≤ length (filter t xs)) → 1 ≤ length (filter t (y ∷ xs))
    by_test true is i there deeper = rw is (omega arith)
    by_test false is zero there deeper = let same : y ≡ x = cc in absurd (false≢true (sym is ∙ ap t same ∙ on))
    by_test false is (suc i) there deeper = rw is (deeper i there)

-- what waits for data is an event of the plan
pub awaited_within : (p : Plan) (e x : ℕ) → kind_of p e ≡ DataReceived x → e < length p.events
awaited_within p e x is = by_event (slice_get p.events e) refl
  where
    by_event : (o : Option EventPlan) → slice_get p.events e ≡ o → e < length p.events
    by_event None there = let gone : Init ≡ DataReceived x = sym (ap (λ o. option_map_or (λ (v : EventPlan). v.kind) o Init) there) ∙ is in absurd (cc gone)
    by_event (Some v) there = slice_get_within p.events e v there

module _ (p : Plan) (m : Mapping) (sound : IsSound p m) where
  pub alone : {X : Type 0} (g x y : ℕ) (e f : ElemPlan) → slice_get p.elements x ≡ Some e → e.group ≡ g → e.joined ≡ false → not e.provided ≡ true → slice_get p.elements y ≡ Some f → f.group ≡ g → f.provided ≡ true → X
  alone g x y e f at_x in_x apart required at_y in_y provided =
      let one : ElemPlan → Bool = λ v. if v.joined then has_side p v.group true && has_side p v.group false else (count_side p v.group true + count_side p v.group false == 1) in
      let joins = and_parts (list_all (λ a. list_all (agrees a) p.elements) p.elements) _ sound.joins in
      let each : list_all one p.elements ≡ true = (and_parts (list_all one p.elements) _ joins.1).0 in
      let here : one e ≡ true = all_at one p.elements x e each at_x in
      let counted : (count_side p g true + count_side p g false == 1) ≡ true = sym (λ i. if apart i then has_side p (in_x i) true && has_side p (in_x i) false else (count_side p (in_x i) true + count_side p (in_x i) false == 1)) ∙ here in
      let is_one : count_side p g true + count_side p g false ≡ 1 = eqb-true (count_side p g true + count_side p g false) 1 counted in
      let sends : 1 ≤ count_side p g true = some_picked (λ (v : ElemPlan). (v.group == g) && v.provided) p.elements y f at_y (λ i. eq-eqb f.group g in_y i && provided i) in
      let receives : 1 ≤ count_side p g false = some_picked (λ (v : ElemPlan). (v.group == g) && not v.provided) p.elements x e at_x (λ i. eq-eqb e.group g in_x i && required i) in
      absurd (omega arith)

  -- no list names an element of a queued group
  pub queued_unnamed : (g : ℕ) → IsQueuedGroup p g → IsUnnamed p g
  queued_unnamed g is_group l x there group = none_unqueued p g x is_group (is_number (group_of p x) g group) (listed_not_queued p m sound l x there)

  -- ---- an event that waits for it

  pub awaited_required : (e x : ℕ) → kind_of p e ≡ DataReceived x → look p.elements x (λ (v : ElemPlan). not v.provided) false ≡ true
  awaited_required e x is = by_event (slice_get p.events e) refl
    where
      by_event : (o : Option EventPlan) → slice_get p.events e ≡ o → look p.elements x (λ (v : ElemPlan). not v.provided) false ≡ true
      by_event None there = let gone : Init ≡ DataReceived x = sym (ap (λ o. option_map_or (λ (v : EventPlan). v.kind) o Init) there) ∙ is in absurd (cc gone)
      by_event (Some v) there =
          let kind : v.kind ≡ DataReceived x = sym (ap (λ o. option_map_or (λ (w : EventPlan). w.kind) o Init) there) ∙ is in
          let fit : kind_sound p e v.runnable (instance_of p v.runnable) (DataReceived x) ≡ true = subst (λ k. kind_sound p e v.runnable (instance_of p v.runnable) k ≡ true) kind (kind_fits p m sound e v there) in
          said_by p (instance_of p v.runnable) (λ w. not (is_variable w) && not w.provided) (λ w. not w.provided) x (λ w passes. (and_parts (not (is_variable w)) (not w.provided) passes).1) fit

  module _ (g x : ℕ) (is_group : IsQueuedGroup p g) (inside : is_in_group p g x ≡ true) (none : is_receiver_at p g x ≡ false) (required : look p.elements x (λ (v : ElemPlan). not v.provided) false ≡ true) where
    module _ (a : Actor) (event : Option ℕ) where
      stores_none : (d : Deed) → is_proper p (noting a d event) ≡ true → is_some (stored_in p g d) ≡ false
      stores_none (deed.Write y value) proper = by_group (is_in_group p g y) refl
        where
          by_group : (b : Bool) → is_in_group p g y ≡ b → is_some (if b then Some (words_of value) else None) ≡ false
          by_group true there = none_unqueued p g y is_group there (write_unqueued p a event y value proper)
          by_group false there = refl
      stores_none (deed.Publish y value) proper = by_group (is_in_group p g y) refl
        where
          by_group : (b : Bool) → is_in_group p g y ≡ b → is_some (if b then Some (words_of value) else None) ≡ false
          by_group true there = none_unqueued p g y is_group there (publish_unqueued p a event y value proper)
          by_group false there = refl
      stores_none (deed.PublishAll list written value) proper = ap is_some (unnamed_stores_none p g (queued_unnamed g is_group) list written (words_of value))
      stores_none d proper = refl

      sends_none : (d : Deed) → is_proper p (noting a d event) ≡ true → is_some (sent_in p g d) ≡ false
      sends_none (deed.Send y value code) proper = by_group (is_in_group p g y) refl
        where
          by_group : (b : Bool) → is_in_group p g y ≡ b → is_some (if b then Some (words_of value) else None) ≡ false
          by_group true there =
              let at_x = member_of p g x inside in
              let at_y = member_of p g y there in
              let needs : not at_x.elem.provided ≡ true = sym (ap (λ o. option_map_or (λ (v : ElemPlan). not v.provided) o false) at_x.found) ∙ required in
              let off : ((at_x.elem.joined && not at_x.elem.provided) && (at_x.elem.group == g)) ≡ false = sym (ap (λ o. option_map_or (is_receiver_in g) o false) at_x.found) ∙ none in
              let gives : at_y.elem.provided ≡ true = sym (ap (λ o. option_map_or (λ (v : ElemPlan). v.provided) o false) at_y.found) ∙ send_provided p a event y code value proper in
              alone g x y at_x.elem at_y.elem at_x.found at_x.group (apart at_x.elem.joined refl needs (eq-eqb at_x.elem.group g at_x.group) off) needs at_y.found at_y.group gives
            where
              apart : {required same : Bool} (joined : Bool) {b : Bool} → b ≡ joined → required ≡ true → same ≡ true → ((b && required) && same) ≡ false → b ≡ false
              apart false is needs here off = is
              apart true is needs here off = absurd (false≢true (sym off ∙ (λ i. (is i && needs i) && here i)))
          by_group false there = refl
      sends_none d proper = refl

    brings_none : (n : Noted) (l : Past) → is_proper p n ≡ true → brings_data p x n l ≡ false
    brings_none n l proper =
        let at = member_of p g x inside in
        let stored : is_some (stored_in p at.elem.group n.entry.deed) ≡ false = subst (λ h. is_some (stored_in p h n.entry.deed) ≡ false) (sym at.group) (stores_none n.entry.actor n.event n.entry.deed proper) in
        let sent : is_some (sent_to p x n.entry.deed) ≡ false =
        ap (λ o. is_some (option_map_or (λ (e : ElemPlan). sent_in p e.group n.entry.deed) o None)) at.found
        ∙ subst (λ h. is_some (sent_in p h n.entry.deed) ≡ false) (sym at.group) (sends_none n.entry.actor n.event n.entry.deed proper) in
        ap (λ o. option_map_or (λ (e : ElemPlan). is_some (stored_in p e.group n.entry.deed) || accepts_next p x l n.entry.deed) o false) at.found
        ∙ (λ i. stored i || (sent i && has_room_at p x l))

    pub never_due : (object e : ℕ) (l : Past) → IsPastOf p object l → follows_last (is_start_by e) (brings_data p x) l ≡ false
    never_due object e [] past = refl
    never_due object e (n ∷ l) past =
        (λ i. not (is_start_by e n) && (brings_none n l past.1.proper i || never_due object e l past.0 i)) ∙ neither (not (is_start_by e n))
      where
        neither : (b : Bool) → (b && false) ≡ false
        neither true = refl
        neither false = refl
