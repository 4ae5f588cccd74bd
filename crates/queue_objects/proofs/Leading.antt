-- The law of leads: an entry by which a group leads on follows its past, and what is kept then is what the definitions give.
use Rattle.std.proofs.Common.{◌≡◌, ℕ, ℤ, zero, suc, Bool, true, false, ◌&&◌, ◌==◌, not, if◌then◌else◌, refl, sym, ◌∙◌, ap, subst, List, [], ◌∷◌, length, map, drop, Option, Some, None}
use Rattle.std.specs.Prelude.{option_map}
use Rattle.bus_semantics.specs.Common.{list_any, slice_get, option_map_or, false≢true, Value, words_of, Plan, look, kind_of, positions, Noted, Past, start_fits, touches, accepted_at}
use Rattle.bus_semantics.specs.Common.{taken_at, has_lost, has_room_at, is_receiver_in, is_full_in, send_code, received_at, starts_request, is_due, is_due_kind, is_outcome, start_matches}
use Rattle.bus_semantics.specs.Common.{is_proper, Follows}
use Rattle.bus_laws.specs.Common.{ElemPlan, EventKind, DataReceived, Actor, Deed}
use Rattle.bus_semantics.specs.declared.entries.Deed.TheVariants as deed
use Rattle.queued_ports.specs.Kept as ports
use Rattle.object_kinds.specs.Common.{LeadsFollow, LeadsKeep, group_at, IsAlone, place, given, is_set}
use Rattle.object_kinds.proofs.Flags.{flag_set}
use Rattle.object_kinds.proofs.Lists.{mapped_at, all_at}
use Rattle.object_kinds.proofs.Members.{member_of}
use Rattle.object_kinds.proofs.Options.{given_some, then_some, mapped_some}
use Rattle.object_kinds.proofs.Placing.{place_at}
use Rattle.object_kinds.proofs.Proper.{noting, answer_part, admitted}
use Rattle.object_kinds.proofs.Touching.{touched_inside}
use Rattle.queue_objects.specs.Kept.{Kept}
use Rattle.queue_objects.specs.Layout.{is_receiver_at, is_joined_at, waits_for_receiver}
use Rattle.queue_objects.specs.Leading.{is_received, received_at_place, is_unconnected, lead_of_queues, with_queues, lead}
use Rattle.queue_objects.specs.Standing.{Contents, contents_of, contents_after, due_after, GroupKeeps, Keeps}
use Rattle.queue_objects.proofs.Contents.{receiver_at, room_same}
use Rattle.queue_objects.proofs.Keeping.{waiting_for, queue_at, due_kind, events_wait, all_receive, send_keeps, receive_keeps, no_receive_keeps, start_keeps}
use Rattle.queue_objects.proofs.Lists.{both_any, any_picked}
use Rattle.queue_objects.proofs.Order.{InOrder, past_in_order}

-- ---- the answer to a Send

full_at : (p : Plan) (g : ℕ) (l : Past) (y : ℕ) → (is_receiver_at p g y && not (has_room_at p y l)) ≡ look p.elements y (λ (e : ElemPlan). is_receiver_in g e && not (has_room_at p y l)) false
full_at p g l y = by_elem (slice_get p.elements y)
  where
    by_elem : (o : Option ElemPlan) → (option_map_or (is_receiver_in g) o false && not (has_room_at p y l)) ≡ option_map_or (λ (e : ElemPlan). is_receiver_in g e && not (has_room_at p y l)) o false
    by_elem None = refl
    by_elem (Some e) = refl

module _ (p : Plan) (g : ℕ) (k : Kept) (l : Past) (keeps : GroupKeeps p g k l) (order : (x : ℕ) → InOrder p x l) where
  full_same : list_any (λ q. not (ports.has_room q)) k.queued.queues ≡ is_full_in p g l
  full_same =
      both_any contents_of (contents_after p l) (is_receiver_at p g) (λ q. not (ports.has_room q)) (λ y. not (has_room_at p y l)) k.queued.queues k.receivers keeps.queues (all_receive p g k l keeps)
      (λ q y is same. ap not (room_same p l q y (order y) same))
      ∙ ap (list_any (λ y. not (has_room_at p y l))) keeps.receiving
      ∙ any_picked (is_receiver_at p g) (λ y. not (has_room_at p y l)) (positions (length p.elements))
      ∙ (λ i. list_any (λ y. full_at p g l y i) (positions (length p.elements)))

  pub send_code_same : (x : ℕ) (e : ElemPlan) → slice_get p.elements x ≡ Some e → e.group ≡ g → ports.answer_to_send k.queued ≡ send_code p x l
  send_code_same x e found group =
      ap (λ b. if b then 130 else 0) full_same
      ∙ ap (λ h. if is_full_in p h l then 130 else 0) (sym group)
      ∙ sym (ap (λ o. option_map_or (λ (v : ElemPlan). if is_full_in p v.group l then 130 else 0) o 0) found)

-- ---- the answer to a Receive

-- what stands first of what is left
left_at : {X : Type 0} (t : ℕ) (xs : List X) → slice_get (drop t xs) 0 ≡ slice_get xs t
left_at zero xs = refl
left_at (suc t) [] = refl
left_at (suc t) (x ∷ xs) = left_at t xs

pub received_same : (p : Plan) (l : Past) (x : ℕ) (e : ElemPlan) (q : ports.Queue) (code : ℕ) (value : Value) → slice_get p.elements x ≡ Some e → e.joined ≡ true → contents_of q ≡ contents_after p l x
    → is_received code value (Some (ports.received_of q)) ≡ is_outcome code (words_of value) (received_at p x l)
received_same p l x e q code value found joined same = by_held q.held refl
  where
    lost : q.lost ≡ has_lost p x l
    lost = ap (λ (c : Contents). c.lost) same

    left : slice_get (accepted_at p x l) (taken_at x l) ≡ slice_get (map words_of q.held) 0
    left = sym (left_at (taken_at x l) (accepted_at p x l)) ∙ ap (λ (c : Contents). slice_get c.values 0) (sym same)

    by_held : (held : List Value) → q.held ≡ held → is_received code value (Some (ports.received_of q)) ≡ is_outcome code (words_of value) (received_at p x l)
    by_held [] held =
        let none : slice_get (accepted_at p x l) (taken_at x l) ≡ None = left ∙ ap (λ vs. slice_get (map words_of vs) 0) held in
        rw (held, found, joined, none) refl
    by_held (v ∷ more) held =
        let some : slice_get (accepted_at p x l) (taken_at x l) ≡ Some (words_of v) = left ∙ ap (λ vs. slice_get (map words_of vs) 0) held in
        rw (held, found, joined, some, lost) refl

-- an element without a join answers 134 and no words
pub unconnected_same : (p : Plan) (l : Past) (x code : ℕ) (value : Value) → is_joined_at p x ≡ false → is_unconnected code value ≡ is_outcome code (words_of value) (received_at p x l)
unconnected_same p l x code value none = by_elem (slice_get p.elements x) refl
  where
    by_elem : (o : Option ElemPlan) → slice_get p.elements x ≡ o → is_unconnected code value ≡ is_outcome code (words_of value) (received_at p x l)
    by_elem None there = rw there refl
    by_elem (Some e) there =
        let off : e.joined ≡ false = sym (ap (λ o. option_map_or (λ (v : ElemPlan). v.joined) o false) there) ∙ none in
        rw (there, off) refl

-- and receives nothing
pub not_receiving : (p : Plan) (g x : ℕ) → is_joined_at p x ≡ false → is_receiver_at p g x ≡ false
not_receiving p g x none = by_elem (slice_get p.elements x) refl
  where
    by_elem : (o : Option ElemPlan) → slice_get p.elements x ≡ o → is_receiver_at p g x ≡ false
    by_elem None there = rw there refl
    by_elem (Some e) there =
        let off : e.joined ≡ false = sym (ap (λ o. option_map_or (λ (v : ElemPlan). v.joined) o false) there) ∙ none in
        rw (there, off) refl

-- ---- starts

-- a start for data names no point
pub unnamed : (p : Plan) (a : Actor) (k : EventKind) (x : ℕ) (point : Option ℕ) (ws : List ℤ) (l : Past) → k ≡ DataReceived x → start_fits p k point ws ≡ true → starts_request p a point ws l ≡ true
unnamed p a k x None ws l is fit = refl
unnamed p a k x (Some q) ws l is fit = let no = rw is at fit in absurd (false≢true no)

-- ---- what the lead gives

pub record Led (p : Plan) (object : ℕ) (after : Kept) (l : Past) (n : Noted) : Type 0 where
  pub follows : Follows p object l n
  pub keeps : GroupKeeps p (group_at p object) after (n ∷ l)

module _ (p : Plan) (object : ℕ) (alone : IsAlone p object) (k : Kept) (after : ports.Kept) (l : Past) (keeps : GroupKeeps p (group_at p object) k l) (order : (x : ℕ) → InOrder p x l) (a : Actor) (event : Option ℕ) where
  abbrev g : ℕ
  g = group_at p object

  send_led : (x code : ℕ) (value : Value) → touches p object (noting a (deed.Send x value code) event) ≡ true → is_proper p (noting a (deed.Send x value code) event) ≡ true
      → lead_of_queues p k.receivers k.events k.queued (deed.Send x value code) ≡ Some after → Led p object (with_queues k after) l (noting a (deed.Send x value code) event)
  send_led x code value touching proper leads =
      let gives = given_some (code == ports.answer_to_send k.queued) (ports.after_send value k.queued) after leads in
      let inside = touched_inside p object x alone touching in
      let m = member_of p g x inside in
      record {
        follows = record {
          touching = touching;
          proper = proper;
          answers = record {
            unqueued = refl;
            queued = subst (λ c. (code == c) ≡ true) (send_code_same p g k l keeps order x m.elem m.found m.group) gives.holds;
            calls = refl;
            areas = refl;
            modes = refl;
            admission = admitted p l event (deed.Send x value code) refl;
            due = refl;
          };
          matching = refl;
        };
        keeps = subst (λ z. GroupKeeps p g (with_queues k z) (noting a (deed.Send x value code) event ∷ l)) gives.same (send_keeps p g k l keeps order a event x code value inside);
      }

  receive_follows : (x code : ℕ) (value : Value) → touches p object (noting a (deed.Receive x code value) event) ≡ true → is_proper p (noting a (deed.Receive x code value) event) ≡ true
      → is_outcome code (words_of value) (received_at p x l) ≡ true → Follows p object l (noting a (deed.Receive x code value) event)
  receive_follows x code value touching proper outcome = record {
    touching = touching;
    proper = proper;
    answers = record { unqueued = refl; queued = outcome; calls = refl; areas = refl; modes = refl; admission = admitted p l event (deed.Receive x code value) refl; due = refl };
    matching = refl;
  }

  receive_led : (x code : ℕ) (value : Value) → touches p object (noting a (deed.Receive x code value) event) ≡ true → is_proper p (noting a (deed.Receive x code value) event) ≡ true
      → lead_of_queues p k.receivers k.events k.queued (deed.Receive x code value) ≡ Some after → Led p object (with_queues k after) l (noting a (deed.Receive x code value) event)
  receive_led x code value touching proper leads = by_join (is_joined_at p x) refl leads
    where
      by_join : (b : Bool) → is_joined_at p x ≡ b → (if b then received_at_place code value k.queued (place x k.receivers) else given (is_unconnected code value) k.queued) ≡ Some after
          → Led p object (with_queues k after) l (noting a (deed.Receive x code value) event)
      by_join false off gives =
          let of = given_some (is_unconnected code value) k.queued after gives in
          record {
            follows = receive_follows x code value touching proper (sym (unconnected_same p l x code value off) ∙ of.holds);
            keeps = subst (λ z. GroupKeeps p g (with_queues k z) (noting a (deed.Receive x code value) event ∷ l)) of.same (no_receive_keeps p g k l keeps order a event x code value (not_receiving p g x off));
          }
      by_join true on gives =
          let at_place = then_some (λ r. given (is_received code value (ports.answer_to_receive r k.queued)) (ports.after_receive r k.queued)) (place x k.receivers) after gives in
          let r = at_place.item in
          let of = given_some (is_received code value (ports.answer_to_receive r k.queued)) (ports.after_receive r k.queued) after at_place.gives in
          let at = queue_at p l k.queued.queues k.receivers x r keeps.queues at_place.is in
          let y = receiver_at p g x (all_at (is_receiver_at p g) k.receivers r x (all_receive p g k l keeps) (place_at x k.receivers r at_place.is)) in
          let received : is_received code value (Some (ports.received_of at.queue)) ≡ true = subst (λ o. is_received code value (option_map ports.received_of o) ≡ true) at.found of.holds in
          record {
            follows = receive_follows x code value touching proper (sym (received_same p l x y.elem at.queue code value y.found y.joined at.contents) ∙ received);
            keeps = subst (λ z. GroupKeeps p g (with_queues k z) (noting a (deed.Receive x code value) event ∷ l)) of.same (receive_keeps p g k l keeps order a event x r code value at_place.is of.holds);
          }

  start_led : (e : ℕ) (point : Option ℕ) (value : Value) → touches p object (noting a (deed.Start e point value) event) ≡ true → is_proper p (noting a (deed.Start e point value) event) ≡ true
      → lead_of_queues p k.receivers k.events k.queued (deed.Start e point value) ≡ Some after → Led p object (with_queues k after) l (noting a (deed.Start e point value) event)
  start_led e point value touching proper leads =
      let at_place = then_some (λ i. given (is_set k.queued.due i) (ports.after_start i k.queued)) (place e k.events) after leads in
      let gives = given_some (is_set k.queued.due at_place.item) (ports.after_start at_place.item k.queued) after at_place.gives in
      let is_at = place_at e k.events at_place.item at_place.is in
      let flag : slice_get k.queued.due at_place.item ≡ Some (due_after p l e) = ap (λ fs. slice_get fs at_place.item) keeps.due ∙ mapped_at (due_after p l) k.events at_place.item e is_at in
      let w = waiting_for p g (kind_of p e) (all_at (λ f. waits_for_receiver p g (kind_of p f)) k.events at_place.item e (events_wait p g k l keeps) is_at) in
      let due : is_due p a e l ≡ true =
      ap (λ c. is_due_kind p a e c l) w.kind ∙ sym (due_kind p e w.element l w.kind) ∙ flag_set k.queued.due at_place.item (due_after p l e) flag gives.holds in record {
        follows = record {
          touching = touching;
          proper = proper;
          answers = record {
            unqueued = refl;
            queued = refl;
            calls = unnamed p a (kind_of p e) w.element point (words_of value) l w.kind (answer_part p (noting a (deed.Start e point value) event) proper);
            areas = refl;
            modes = refl;
            admission = admitted p l event (deed.Start e point value) refl;
            due = due;
          };
          matching = ap (λ c. start_matches p l e c) w.kind;
        };
        keeps = subst (λ z. GroupKeeps p g (with_queues k z) (noting a (deed.Start e point value) event ∷ l)) gives.same (start_keeps p g k l keeps order a event e at_place.item point value at_place.is);
      }

  group_led : (d : Deed) → touches p object (noting a d event) ≡ true → is_proper p (noting a d event) ≡ true → lead_of_queues p k.receivers k.events k.queued d ≡ Some after → Led p object (with_queues k after) l (noting a d event)
  group_led (deed.Send x value code) touching proper leads = send_led x code value touching proper leads
  group_led (deed.Receive x code value) touching proper leads = receive_led x code value touching proper leads
  group_led (deed.Start e point value) touching proper leads = start_led e point value touching proper leads
  group_led d touching proper leads = absurd (cc leads)

-- ---- the laws

led : (p : Plan) (object : ℕ) (before after : Kept) (l : Past) (n : Noted) → Keeps p object before l → ((x : ℕ) → InOrder p x l) → touches p object n ≡ true → is_proper p n ≡ true → lead p before n ≡ Some after → Led p object after l n
led p object before after l n keeps order touching proper leads =
    let of = mapped_some (with_queues before) (lead_of_queues p before.receivers before.events before.queued n.entry.deed) after leads in
    subst (λ z. Led p object z l n) of.gives (group_led p object keeps.alone before of.item l keeps.group order n.entry.actor n.event n.entry.deed touching proper of.is)

pub leads_follow : (p : Plan) (object : ℕ) → LeadsFollow p object (Keeps p object) (lead p)
leads_follow p object before after l n stands touching proper leads = (led p object before after l n stands.kept (λ x. past_in_order p object x l stands.past) touching proper leads).follows

pub leads_keep : (p : Plan) (object : ℕ) → LeadsKeep p object (Keeps p object) (lead p)
leads_keep p object before after l n stands touching proper leads =
    record { alone = stands.kept.alone; group = (led p object before after l n stands.kept (λ x. past_in_order p object x l stands.past) touching proper leads).keeps }
