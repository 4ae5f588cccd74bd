-- What a group keeps after each of its entries is what the definitions give from its past and the entry.
use Rattle.std.proofs.Common.{◌≡◌, ℕ, Bool, true, false, ◌&&◌, ◌||◌, ◌==◌, not, refl, sym, ◌∙◌, ap, subst, List, [], ◌∷◌, length, map, Option, Some, None, is_some}
use Rattle.std.specs.Prelude.{set, unwrap_or, option_map}
use Rattle.bus_semantics.specs.Common.{list_all, slice_get, option_map_or, and_parts, eq-eqb, eqb-true, false≢true, map-set, slice_get-map, slice_get_within, Value, words_of, Plan, kind_of}
use Rattle.bus_semantics.specs.Common.{positions, Noted, Past, is_in_group, stored_in, sent_in, sent_to, has_room_at, accepts_next, is_start_by, follows_last, brings_data, is_due_kind}
use Rattle.bus_semantics.specs.Common.{is_distinct}
use Rattle.bus_laws.specs.Common.{ElemPlan, EventKind, DataReceived, Actor, Env, Deed}
use Rattle.bus_semantics.specs.declared.entries.Deed.TheVariants as deed
use Rattle.queued_ports.specs.Kept as ports
use Rattle.object_kinds.specs.Layout.{place, element_in}
use Rattle.object_kinds.proofs.Events.{events_all, events_once}
use Rattle.object_kinds.proofs.Lists.{map_all, mapped_at, all_at, all_filter}
use Rattle.object_kinds.proofs.Options.{mapped_some}
use Rattle.object_kinds.proofs.Placing.{Placed, placed, place_at, set_all, other_way}
use Rattle.object_kinds.proofs.Positions.{distinct_positions}
use Rattle.object_kinds.proofs.Proper.{noting}
use Rattle.queue_objects.specs.Kept.{Kept}
use Rattle.queue_objects.specs.Layout.{is_receiver_at, receivers_of, waits_for_receiver, receiver_of}
use Rattle.queue_objects.specs.Leading.{is_received, with_queues}
use Rattle.queue_objects.specs.Standing.{contents_of, contents_after, due_after, GroupKeeps}
use Rattle.queue_objects.proofs.Contents.{receiver_at, room_same, sent_is, arrives, unmoved, receives}
use Rattle.queue_objects.proofs.Lists.{both_mapped}
use Rattle.queue_objects.proofs.Order.{InOrder, receive_sends_none}

-- ---- the receivers and the events that wait for them

pub receivers_all : (p : Plan) (g : ℕ) → list_all (is_receiver_at p g) (receivers_of p g) ≡ true
receivers_all p g = all_filter (is_receiver_at p g) (positions (length p.elements))

pub receivers_once : (p : Plan) (g : ℕ) → is_distinct (receivers_of p g) ≡ true
receivers_once p g = distinct_positions (is_receiver_at p g) (length p.elements)

pub receiver_placed : (p : Plan) (g y : ℕ) → is_receiver_at p g y ≡ true → Placed y (receivers_of p g)
receiver_placed p g y is = let r = receiver_at p g y is in placed (is_receiver_at p g) (length p.elements) y (slice_get_within p.elements y r.elem r.found) is

pub record Waiting (p : Plan) (g : ℕ) (k : EventKind) : Type 0 where
  pub element : ℕ
  pub kind : k ≡ DataReceived element
  pub receives : is_receiver_at p g element ≡ true

pub waiting_for : (p : Plan) (g : ℕ) (k : EventKind) → waits_for_receiver p g k ≡ true → Waiting p g k
waiting_for p g (DataReceived x) e = record { element = x; kind = refl; receives = e }
waiting_for p g k e = absurd (false≢true e)

pub due_kind : (p : Plan) (e x : ℕ) (l : Past) → kind_of p e ≡ DataReceived x → due_after p l e ≡ follows_last (is_start_by e) (brings_data p x) l
due_kind p e x l kind = ap (λ k. is_due_kind p Env e k l) kind

-- ---- the queue at a place

pub record QueueAt (p : Plan) (l : Past) (queues : List ports.Queue) (y r : ℕ) : Type 0 where
  pub queue : ports.Queue
  pub found : slice_get queues r ≡ Some queue
  pub contents : contents_of queue ≡ contents_after p l y

pub queue_at : (p : Plan) (l : Past) (queues : List ports.Queue) (receivers : List ℕ) (y r : ℕ) → map contents_of queues ≡ map (contents_after p l) receivers → place y receivers ≡ Some r → QueueAt p l queues y r
queue_at p l queues receivers y r same there =
    let at : option_map contents_of (slice_get queues r) ≡ Some (contents_after p l y) =
    sym (slice_get-map contents_of queues r) ∙ ap (λ cs. slice_get cs r) same ∙ mapped_at (contents_after p l) receivers r y (place_at y receivers r there) in
    let of = mapped_some contents_of (slice_get queues r) (contents_after p l y) at in
    record { queue = of.item; found = of.is; contents = of.gives }

-- ---- what is due

-- an entry that starts nothing by the event: it is due if it brings data or was due
due_next : (p : Plan) (g e : ℕ) (n : Noted) (l : Past) (w : Waiting p g (kind_of p e)) (brings : Bool) → is_start_by e n ≡ false → brings_data p w.element n l ≡ brings → due_after p (n ∷ l) e ≡ (brings || due_after p l e)
due_next p g e n l w brings other gives =
    due_kind p e w.element (n ∷ l) w.kind
    ∙ (λ i. not (other i) && (gives i || follows_last (is_start_by e) (brings_data p w.element) l))
    ∙ ap (λ b. brings || b) (sym (due_kind p e w.element l w.kind))

due_started : (p : Plan) (g e : ℕ) (n : Noted) (l : Past) → waits_for_receiver p g (kind_of p e) ≡ true → is_start_by e n ≡ true → due_after p (n ∷ l) e ≡ false
due_started p g e n l waits it = let w = waiting_for p g (kind_of p e) waits in
    due_kind p e w.element (n ∷ l) w.kind ∙ ap (λ b. not b && (brings_data p w.element n l || follows_last (is_start_by e) (brings_data p w.element) l)) it

-- an entry that stores nothing brings data to a receiver where its queue accepts what is sent
brings_sent : (p : Plan) (g y : ℕ) (n : Noted) (l : Past) → is_receiver_at p g y ≡ true → ((h : ℕ) → stored_in p h n.entry.deed ≡ None) → brings_data p y n l ≡ accepts_next p y l n.entry.deed
brings_sent p g y n l is stores =
    let r = receiver_at p g y is in
    let found = r.found in
    let none = stores r.elem.group in
    ap (λ o. option_map_or (λ (e : ElemPlan). is_some (stored_in p e.group n.entry.deed) || accepts_next p y l n.entry.deed) o false) found
    ∙ ap (λ o. is_some o || accepts_next p y l n.entry.deed) none

due_same : (p : Plan) (g e : ℕ) (n : Noted) (l : Past) → waits_for_receiver p g (kind_of p e) ≡ true → is_start_by e n ≡ false
    → ((h : ℕ) → stored_in p h n.entry.deed ≡ None) → ((y : ℕ) → sent_to p y n.entry.deed ≡ None) → due_after p (n ∷ l) e ≡ due_after p l e
due_same p g e n l waits other stores sends =
    let w = waiting_for p g (kind_of p e) waits in
    due_next p g e n l w false other (brings_sent p g w.element n l w.receives stores ∙ ap (λ o. is_some o && has_room_at p w.element l) (sends w.element))

-- each event of a receiver that takes the value becomes due
all_lit : (queues : List ports.Queue) (f : ℕ → ℕ) (g h : ℕ → Bool) (ok : ℕ → Bool) (es : List ℕ) → list_all ok es ≡ true → ((e : ℕ) → ok e ≡ true → (ports.takes queues (f e) || g e) ≡ h e) → ports.due_after queues (map f es) (map g es) ≡ map h es
all_lit queues f g h ok [] all each = refl
all_lit queues f g h ok (e ∷ es) all each = let parts = and_parts (ok e) (list_all ok es) all in
    λ i. each e parts.0 i ∷ all_lit queues f g h ok es parts.1 each i

-- ---- deeds that send nothing

sends_none : (p : Plan) (y : ℕ) (d : Deed) → ((h : ℕ) → sent_in p h d ≡ None) → sent_to p y d ≡ None
sends_none p y d none = by_elem (slice_get p.elements y)
  where
    by_elem : (o : Option ElemPlan) → option_map_or (λ (e : ElemPlan). sent_in p e.group d) o None ≡ None
    by_elem None = refl
    by_elem (Some e) = none e.group

-- ---- each entry

module _ (p : Plan) (g : ℕ) (k : Kept) (l : Past) (keeps : GroupKeeps p g k l) where
  pub events_wait : list_all (λ e. waits_for_receiver p g (kind_of p e)) k.events ≡ true
  events_wait = subst (λ es. list_all (λ e. waits_for_receiver p g (kind_of p e)) es ≡ true) (sym keeps.waiting) (events_all p (waits_for_receiver p g))

  pub all_receive : list_all (is_receiver_at p g) k.receivers ≡ true
  all_receive = subst (λ ys. list_all (is_receiver_at p g) ys ≡ true) (sym keeps.receiving) (receivers_all p g)

  pub placed_in : (y : ℕ) → is_receiver_at p g y ≡ true → Placed y k.receivers
  placed_in y is = subst (Placed y) (sym keeps.receiving) (receiver_placed p g y is)

module _ (p : Plan) (g : ℕ) (k : Kept) (l : Past) (keeps : GroupKeeps p g k l) (order : (x : ℕ) → InOrder p x l) where
  -- the queue of the receiver that an event waits for takes a value where the definitions give it room
  takes_same : (e : ℕ) (w : Waiting p g (kind_of p e)) → ports.takes k.queued.queues (receiver_of p g e) ≡ has_room_at p w.element l
  takes_same e w =
      let there = receiver_placed p g w.element w.receives in
      let named : receiver_of p g e ≡ there.at = ap (λ kind. unwrap_or (place (element_in kind) (receivers_of p g)) 0) w.kind ∙ ap (λ o. unwrap_or o 0) there.is in
      let at = queue_at p l k.queued.queues k.receivers w.element there.at keeps.queues (ap (place w.element) keeps.receiving ∙ there.is) in
      ap (ports.takes k.queued.queues) named
      ∙ ap (λ o. unwrap_or (option_map ports.has_room o) false) at.found
      ∙ room_same p l at.queue w.element (order w.element) at.contents

module _ (p : Plan) (g : ℕ) (k : Kept) (l : Past) (keeps : GroupKeeps p g k l) (order : (x : ℕ) → InOrder p x l) (a : Actor) (event : Option ℕ) where
  -- an entry that sends nothing and starts nothing
  due_kept : (d : Deed) → ((e : ℕ) → is_start_by e (noting a d event) ≡ false) → ((h : ℕ) → stored_in p h d ≡ None) → ((h : ℕ) → sent_in p h d ≡ None)
      → k.queued.due ≡ map (due_after p (noting a d event ∷ l)) k.events
  due_kept d starts_none stores sends = keeps.due
      ∙ map_all (λ e. waits_for_receiver p g (kind_of p e)) (due_after p l) (due_after p (noting a d event ∷ l)) k.events (events_wait p g k l keeps)
      (λ e waits. sym (due_same p g e (noting a d event) l waits (starts_none e) stores (λ y. sends_none p y d sends)))

  pub send_keeps : (x code : ℕ) (value : Value) → is_in_group p g x ≡ true → GroupKeeps p g (with_queues k (ports.after_send value k.queued)) (noting a (deed.Send x value code) event ∷ l)
  send_keeps x code value inside =
      let n = noting a (deed.Send x value code) event in
      let sends : (y : ℕ) → is_receiver_at p g y ≡ true → sent_to p y (deed.Send x value code) ≡ Some (words_of value) =
      λ y is. let r = receiver_at p g y is in sent_is p g x y code value inside r.elem r.found r.group in record {
        is_group = keeps.is_group;
        receiving = keeps.receiving;
        waiting = keeps.waiting;
        awaited = keeps.awaited;
        words = keeps.words;
        queues = mapped_again k.queued.queues
            ∙ both_mapped contents_of (contents_after p l) (is_receiver_at p g) (λ q. contents_of (ports.after_arrival value q)) (contents_after p (n ∷ l)) k.queued.queues k.receivers keeps.queues (all_receive p g k l keeps)
            (λ q y is same. arrives p y l q (order y) same n value (sends y is) refl refl);
        due = (λ i. ports.due_after k.queued.queues (keeps.awaited i) (keeps.due i))
            ∙ all_lit k.queued.queues (receiver_of p g) (due_after p l) (due_after p (n ∷ l)) (λ e. waits_for_receiver p g (kind_of p e)) k.events (events_wait p g k l keeps)
            (λ e waits. let w = waiting_for p g (kind_of p e) waits in
            sym (due_next p g e n l w (ports.takes k.queued.queues (receiver_of p g e)) refl
            (brings_sent p g w.element n l w.receives (λ h. refl) ∙ ap (λ o. is_some o && has_room_at p w.element l) (sends w.element w.receives) ∙ sym (takes_same p g k l keeps order e w))));
      }
    where
      mapped_again : (qs : List ports.Queue) → map contents_of (map (ports.after_arrival value) qs) ≡ map (λ q. contents_of (ports.after_arrival value q)) qs
      mapped_again [] = refl
      mapped_again (q ∷ qs) = ap (λ cs. contents_of (ports.after_arrival value q) ∷ cs) (mapped_again qs)

  -- a Receive by the element at this place
  pub receive_keeps : (x r code : ℕ) (value : Value) → place x k.receivers ≡ Some r → is_received code value (ports.answer_to_receive r k.queued) ≡ true
      → GroupKeeps p g (with_queues k (ports.after_receive r k.queued)) (noting a (deed.Receive x code value) event ∷ l)
  receive_keeps x r code value there received =
      let n = noting a (deed.Receive x code value) event in
      let at = queue_at p l k.queued.queues k.receivers x r keeps.queues there in
      let found = at.found in
      let got : is_received code value (Some (ports.received_of at.queue)) ≡ true = subst (λ o. is_received code value (option_map ports.received_of o) ≡ true) found received in
      let once : is_distinct k.receivers ≡ true = subst (λ ys. is_distinct ys ≡ true) (sym keeps.receiving) (receivers_once p g) in record {
        is_group = keeps.is_group;
        receiving = keeps.receiving;
        waiting = keeps.waiting;
        awaited = keeps.awaited;
        words = keeps.words;
        queues = ap (λ o. map contents_of (unwrap_or (option_map (λ q. set k.queued.queues r (ports.after_taking q)) o) k.queued.queues)) found
            ∙ map-set contents_of k.queued.queues r (ports.after_taking at.queue)
            ∙ ap (λ cs. set cs r (contents_of (ports.after_taking at.queue))) keeps.queues
            ∙ set_all (is_receiver_at p g) (contents_after p l) (contents_after p (n ∷ l)) (contents_of (ports.after_taking at.queue)) x k.receivers r (all_receive p g k l keeps) once there
            (sym (receives p x l at.queue at.contents n code value refl got))
            (λ y is other. let off = other_way x y other in
            unmoved p y l n (receive_sends_none p y x code value) (ap (λ b. b && ((code == 0) || (code == 64))) off) off);
        due = due_kept (deed.Receive x code value) (λ e. refl) (λ h. refl) (λ h. refl);
      }

  -- a Receive by an element that is no receiver
  pub no_receive_keeps : (x code : ℕ) (value : Value) → is_receiver_at p g x ≡ false → GroupKeeps p g (with_queues k k.queued) (noting a (deed.Receive x code value) event ∷ l)
  no_receive_keeps x code value none =
      let n = noting a (deed.Receive x code value) event in record {
        is_group = keeps.is_group;
        receiving = keeps.receiving;
        waiting = keeps.waiting;
        awaited = keeps.awaited;
        words = keeps.words;
        queues = keeps.queues ∙ map_all (is_receiver_at p g) (contents_after p l) (contents_after p (n ∷ l)) k.receivers (all_receive p g k l keeps)
            (λ y is. let off = apart y is (y == x) refl in
            unmoved p y l n (receive_sends_none p y x code value) (ap (λ b. b && ((code == 0) || (code == 64))) off) off);
        due = due_kept (deed.Receive x code value) (λ e. refl) (λ h. refl) (λ h. refl);
      }
    where
      apart : (y : ℕ) → is_receiver_at p g y ≡ true → (b : Bool) → (y == x) ≡ b → (y == x) ≡ false
      apart y is true same = absurd (false≢true (sym none ∙ ap (is_receiver_at p g) (sym (eqb-true y x same)) ∙ is))
      apart y is false other = other

  pub start_keeps : (e i : ℕ) (point : Option ℕ) (value : Value) → place e k.events ≡ Some i → GroupKeeps p g (with_queues k (ports.after_start i k.queued)) (noting a (deed.Start e point value) event ∷ l)
  start_keeps e i point value there =
      let n = noting a (deed.Start e point value) event in
      let none : (y : ℕ) → sent_to p y (deed.Start e point value) ≡ None = λ y. sends_none p y (deed.Start e point value) (λ h. refl) in record {
        is_group = keeps.is_group;
        receiving = keeps.receiving;
        waiting = keeps.waiting;
        awaited = keeps.awaited;
        words = keeps.words;
        queues = keeps.queues ∙ map_all (is_receiver_at p g) (contents_after p l) (contents_after p (n ∷ l)) k.receivers (all_receive p g k l keeps) (λ y is. unmoved p y l n (none y) refl refl);
        due = ap (λ fs. set fs i false) keeps.due ∙ set_all (λ f. waits_for_receiver p g (kind_of p f)) (due_after p l) (due_after p (n ∷ l)) false e k.events i
            (events_wait p g k l keeps) (subst (λ es. is_distinct es ≡ true) (sym keeps.waiting) (events_once p (waits_for_receiver p g))) there
            (due_started p g e n l (all_at (λ f. waits_for_receiver p g (kind_of p f)) k.events i e (events_wait p g k l keeps) (place_at e k.events i there)) (eq-eqb e e refl))
            (λ f wait other. sym (due_same p g f n l wait (other_way e f other) (λ h. refl) none));
      }
