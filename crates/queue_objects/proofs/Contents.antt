-- What is in a queue after each entry is what the definitions give.
use Rattle.std.proofs.Common.{◌≡◌, ◌≤◌, ◌+◌, ◌-◌, ℕ, zero, suc, Bool, true, false, ◌&&◌, ◌||◌, ◌==◌, not, if◌then◌else◌, refl, sym, ◌∙◌, ap, arith, List, [], ◌∷◌, ◌++◌, length, map, drop}
use Rattle.std.proofs.Common.{Some, None, is_some}
use Rattle.std.specs.Prelude.{nat_lt}
use Rattle.bus_semantics.specs.Common.{slice_get, and_parts, eq-eqb, eqb-true, nat_tests, length-drop, length-map, Value, words_of, Plan, Noted, Past, accepted_at, taken_at, takes_at}
use Rattle.bus_semantics.specs.Common.{sent_to, with_sent, is_room, places_at, has_room_at, has_lost, discards_next, is_receive_of, is_receiver_in, is_in_group}
use Rattle.std.proofs.lemmas.List.{drop-append-le, drop-map, map_push}
use Rattle.bus_semantics.specs.declared.plan.ElemPlan.{ElemPlan}
use Rattle.bus_semantics.specs.declared.entries.Deed.TheVariants as deed
use Rattle.queued_ports.specs.Kept as ports
use Rattle.object_kinds.proofs.Ranges.{sought}
use Rattle.queue_objects.specs.Layout.{is_receiver_at}
use Rattle.queue_objects.specs.Leading.{is_received}
use Rattle.queue_objects.specs.Standing.{Contents, contents_of, contents_after}
use Rattle.queue_objects.proofs.Order.{InOrder, receive_sends_none}

-- ---- a receiver of the group

pub record Receiver (p : Plan) (g y : ℕ) : Type 0 where
  pub elem : ElemPlan
  pub found : slice_get p.elements y ≡ Some elem
  pub joined : elem.joined ≡ true
  pub required : not elem.provided ≡ true
  pub group : elem.group ≡ g

pub receiver_at : (p : Plan) (g y : ℕ) → is_receiver_at p g y ≡ true → Receiver p g y
receiver_at p g y is =
    let at = sought p.elements y (is_receiver_in g) is in
    let e = at.item in
    let parts = and_parts (e.joined && not e.provided) (e.group == g) at.holds in
    let sides = and_parts e.joined (not e.provided) parts.0 in
    record { elem = e; found = at.found; joined = sides.0; required = sides.1; group = eqb-true e.group g parts.1 }

-- ---- whether there is room

less_left : (a t m : ℕ) → t ≤ a → nat_lt (a - t) m ≡ nat_lt a (t + m)
less_left a t m fewer = by_test (nat_lt a (t + m)) refl
  where
    by_test : (b : Bool) → nat_lt a (t + m) ≡ b → nat_lt (a - t) m ≡ b
    by_test true is = grind (arith, nat_tests)
    by_test false is = grind (arith, nat_tests)

pub room_same : (p : Plan) (l : Past) (q : ports.Queue) (y : ℕ) → InOrder p y l → contents_of q ≡ contents_after p l y → ports.has_room q ≡ has_room_at p y l
room_same p l q y order same =
    let t = taken_at y l in
    let acc = accepted_at p y l in
    let places : q.queue_length ≡ places_at p y = ap (λ (c : Contents). c.places) same in
    let many : length q.held ≡ length acc - t = sym (length-map q.held words_of) ∙ ap (λ (c : Contents). length c.values) same ∙ length-drop t acc in
    (λ i. nat_lt (many i) (places i)) ∙ less_left (length acc) t (places_at p y) order.fewer

-- ---- a Send in the group

pub sent_is : (p : Plan) (g x y code : ℕ) (value : Value) → is_in_group p g x ≡ true → (e : ElemPlan) → slice_get p.elements y ≡ Some e → e.group ≡ g → sent_to p y (deed.Send x value code) ≡ Some (words_of value)
sent_is p g x y code value inside e found group = rw (found, group, inside) refl

module _ (p : Plan) (y : ℕ) (l : Past) (q : ports.Queue) (order : InOrder p y l) (same : contents_of q ≡ contents_after p l y) (n : Noted) (value : Value)
    (sends : sent_to p y n.entry.deed ≡ Some (words_of value)) (takes_none : takes_at y n.entry.deed ≡ false) (receives_none : is_receive_of y n.entry.deed ≡ false) where
  with_room : has_room_at p y l ≡ true → contents_of (ports.after_arrival value q) ≡ contents_after p (n ∷ l) y
  with_room room =
      let t = taken_at y l in
      let acc = accepted_at p y l in
      let ws = words_of value in
      let has : ports.has_room q ≡ true = room_same p l q y order same ∙ room in
      let taken : taken_at y (n ∷ l) ≡ t = ap (λ b. if b then suc t else t) takes_none in
      let accepted : accepted_at p y (n ∷ l) ≡ acc ++ ws ∷ [] = λ i. with_sent (sends i) (room i) acc in
      let values : map words_of (q.held ++ value ∷ []) ≡ drop (taken_at y (n ∷ l)) (accepted_at p y (n ∷ l)) =
      map_push words_of q.held value
      ∙ ap (λ (c : Contents). c.values ++ ws ∷ []) same
      ∙ sym (drop-append-le t acc (ws ∷ []) order.fewer)
      ∙ (λ i. drop (sym taken i) (sym accepted i)) in
      let lost : q.lost ≡ has_lost p y (n ∷ l) =
      ap (λ (c : Contents). c.lost) same ∙ (λ i. if sym receives_none i then false else ((is_some (sym sends i) && not (sym room i)) || has_lost p y l)) in
      ap (λ b. contents_of (if b then ports.with_value value q else ports.with_loss q)) has
      ∙ (λ i. record { places = (ap (λ (c : Contents). c.places) same) i; values = values i; lost = lost i })

  without_room : has_room_at p y l ≡ false → contents_of (ports.after_arrival value q) ≡ contents_after p (n ∷ l) y
  without_room room =
      let t = taken_at y l in
      let acc = accepted_at p y l in
      let has : ports.has_room q ≡ false = room_same p l q y order same ∙ room in
      let taken : taken_at y (n ∷ l) ≡ t = ap (λ b. if b then suc t else t) takes_none in
      let accepted : accepted_at p y (n ∷ l) ≡ acc = λ i. with_sent (sends i) (room i) acc in
      let values : map words_of q.held ≡ drop (taken_at y (n ∷ l)) (accepted_at p y (n ∷ l)) =
      ap (λ (c : Contents). c.values) same ∙ (λ i. drop (sym taken i) (sym accepted i)) in
      let lost : true ≡ has_lost p y (n ∷ l) = λ i. if sym receives_none i then false else ((is_some (sym sends i) && not (sym room i)) || has_lost p y l) in
      ap (λ b. contents_of (if b then ports.with_value value q else ports.with_loss q)) has
      ∙ (λ i. record { places = (ap (λ (c : Contents). c.places) same) i; values = values i; lost = lost i })

  pub arrives : contents_of (ports.after_arrival value q) ≡ contents_after p (n ∷ l) y
  arrives = by_room (has_room_at p y l) refl
    where
      by_room : (b : Bool) → has_room_at p y l ≡ b → contents_of (ports.after_arrival value q) ≡ contents_after p (n ∷ l) y
      by_room true room = with_room room
      by_room false room = without_room room

-- ---- an entry that is neither a Send in the group nor a Receive of the element

pub unmoved : (p : Plan) (y : ℕ) (l : Past) (n : Noted) → sent_to p y n.entry.deed ≡ None → takes_at y n.entry.deed ≡ false → is_receive_of y n.entry.deed ≡ false → contents_after p l y ≡ contents_after p (n ∷ l) y
unmoved p y l n sends takes receives =
    let t = taken_at y l in
    let acc = accepted_at p y l in
    let taken : taken_at y (n ∷ l) ≡ t = ap (λ b. if b then suc t else t) takes in
    let accepted : accepted_at p y (n ∷ l) ≡ acc = ap (λ o. with_sent o (is_room (length acc) t (places_at p y)) acc) sends in
    let lost : has_lost p y l ≡ has_lost p y (n ∷ l) = λ i. if sym receives i then false else ((is_some (sym sends i) && not (has_room_at p y l)) || has_lost p y l) in
    λ i. record { places = places_at p y; values = drop (sym taken i) (sym accepted i); lost = lost i }

-- ---- a Receive of the element

drop_one : {X : Type 0} (n : ℕ) (xs : List X) → drop 1 (drop n xs) ≡ drop (suc n) xs
drop_one zero xs = refl
drop_one (suc n) [] = refl
drop_one (suc n) (x ∷ xs) = drop_one n xs

module _ (p : Plan) (x : ℕ) (l : Past) (q : ports.Queue) (same : contents_of q ≡ contents_after p l x) (n : Noted) (code : ℕ) (value : Value) (is : n.entry.deed ≡ deed.Receive x code value) where
  accepts_same : accepted_at p x (n ∷ l) ≡ accepted_at p x l
  accepts_same = ap (λ o. with_sent o (is_room (length (accepted_at p x l)) (taken_at x l) (places_at p x)) (accepted_at p x l)) (ap (sent_to p x) is ∙ receive_sends_none p x x code value)

  forgets : false ≡ has_lost p x (n ∷ l)
  forgets = sym (ap (λ b. if b then false else (discards_next p x l n.entry.deed || has_lost p x l)) (ap (is_receive_of x) is ∙ eq-eqb x x refl))

  takes_is : takes_at x n.entry.deed ≡ ((code == 0) || (code == 64))
  takes_is = ap (takes_at x) is ∙ ap (λ b. b && ((code == 0) || (code == 64))) (eq-eqb x x refl)

  pub receives : is_received code value (Some (ports.received_of q)) ≡ true → contents_of (ports.after_taking q) ≡ contents_after p (n ∷ l) x
  receives received = by_held q.held refl
    where
      places : q.queue_length ≡ places_at p x
      places = ap (λ (c : Contents). c.places) same

      by_held : (held : List Value) → q.held ≡ held → contents_of (ports.after_taking q) ≡ contents_after p (n ∷ l) x
      by_held [] held =
          let e = rw held at received in
          let none : code ≡ 131 = eqb-true code 131 (and_parts (code == 131) _ e).0 in
          let takes : takes_at x n.entry.deed ≡ false = takes_is ∙ ap (λ c. (c == 0) || (c == 64)) none in
          let taken : taken_at x (n ∷ l) ≡ taken_at x l = ap (λ b. if b then suc (taken_at x l) else taken_at x l) takes in
          let values : map words_of (drop 1 q.held) ≡ drop (taken_at x (n ∷ l)) (accepted_at p x (n ∷ l)) =
          ap (λ vs. map words_of (drop 1 vs)) held
          ∙ sym (ap (map words_of) held)
          ∙ ap (λ (c : Contents). c.values) same
          ∙ (λ i. drop (sym taken i) (sym accepts_same i)) in
          λ i. record { places = places i; values = values i; lost = forgets i }
      by_held (v ∷ more) held =
          let e = rw held at received in
          let some : code ≡ (if q.lost then 64 else 0) = eqb-true code (if q.lost then 64 else 0) (and_parts (code == (if q.lost then 64 else 0)) _ e).0 in
          let takes : takes_at x n.entry.deed ≡ true = takes_is ∙ ap (λ c. (c == 0) || (c == 64)) some ∙ taking q.lost in
          let taken : taken_at x (n ∷ l) ≡ suc (taken_at x l) = ap (λ b. if b then suc (taken_at x l) else taken_at x l) takes in
          let values : map words_of (drop 1 q.held) ≡ drop (taken_at x (n ∷ l)) (accepted_at p x (n ∷ l)) =
          sym (drop-map words_of 1 q.held)
          ∙ ap (λ (c : Contents). drop 1 c.values) same
          ∙ drop_one (taken_at x l) (accepted_at p x l)
          ∙ (λ i. drop (sym taken i) (sym accepts_same i)) in
          λ i. record { places = places i; values = values i; lost = forgets i }
        where
          taking : (lost : Bool) → (((if lost then 64 else 0) == 0) || ((if lost then 64 else 0) == 64)) ≡ true
          taking true = refl
          taking false = refl
