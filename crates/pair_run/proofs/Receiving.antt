-- One call at a link: a Receive on one, a Send on two.
use Rattle.std.proofs.Common.{◌≡◌, ◌⊎◌, ◌≤◌, ℕ, zero, suc, ◌+◌, ℤ, Bool, true, false, ◌&&◌, ◌||◌, ◌==◌, cond, List, [], ◌∷◌, ◌++◌, length, Option, Some, None, inl, inr, refl, sym, ap, ◌∙◌}
use Rattle.std.proofs.Common.{subst, append_assoc, append-nil, arith}
use Rattle.bus_semantics.specs.Common.{and_from, eq-eqb, eqb-true, or_left, or_right, same_Some, Value, Value-by_words, words_of, noted, IsLegal, Plan, takes_at, IsSound, Ordered, Session}
use Rattle.bus_semantics.specs.Common.{made, a_call, history_of, orders_of, orders_of_entry, Wanted, to_tick, to_receive, to_send, wanted_by}
use Rattle.std.proofs.lemmas.List.{append_cancel_left}
use Rattle.rte_text.specs.declared.sink.Put.{Put}
use Rattle.rte_text.specs.declared.sink.Put.TheVariants as putting
use Rattle.rte_text.specs.Sinks.{ToldAfter}
use Rattle.bus_laws.specs.Common.{Actor, Env, Machine, Act, Deed, Entry, Mapping}
use Rattle.bus_semantics.specs.declared.entries.Deed.TheVariants as deed
use Rattle.pair_run.specs.Common.{IsReceived, a_value, nothing, takes, waiting_at, Finished, Failed, Then, Takes, Sends, Passes, Passed, FindsNone, Drains, held_in, Joint, one, two, side_of}
use Rattle.pair_run.specs.Common.{joint_lines, StandBoth, CutsBoth, CarryBoth, Writes}
use Rattle.pair_run.proofs.Waiting.{held, oldest, places}
use Rattle.pair_run.proofs.Within.{received}
use Rattle.core_runtime.specs.Nodes.{NodeState}
use Rattle.script_run.specs.declared.writing.Writing.{Writing}
use Rattle.script_run.specs.Standing.{Calls, outside}
use Rattle.signal_link.specs.declared.link_elem.LinkElem.{LinkElem}
use Rattle.pair_run.proofs.Carrying.{legal_now, one_legal, two_legal, stands_on_one, stands_on_two}
use Rattle.pair_run.proofs.Completing.{none_may, sends_may}
use Rattle.pair_run.proofs.Joints.{lines-all, then_both, then_onto}
use Rattle.pair_run.proofs.Limits.{orders_keep, session_keeps}

-- ---- whose entry a call is

record IsCallOf (c : Wanted) (e : Entry) : Type 0 where
  by : e.actor ≡ Env
  wanted : wanted_by 0 e.deed ≡ c

abbrev first_call : List Ordered → Wanted
first_call (a_call c ∷ os) = c
first_call os = to_tick

entry_is : (a : Actor) (d : Deed) (c : Wanted) → orders_of_entry (record { actor = a; deed = d }) ≡ a_call c ∷ [] → IsCallOf c (record { actor = a; deed = d })
entry_is Env d c h = record { by = refl; wanted = first h }
  where
    first : a_call (wanted_by 0 d) ∷ [] ≡ a_call c ∷ [] → wanted_by 0 d ≡ c
    first h = ap first_call h
entry_is (Machine m) d c h = absurd (cc h)
entry_is (Act k) d c h = absurd (cc h)

order_is : (c : Wanted) (e : Entry) (orders : List Ordered) (s : Session) → orders_of s ≡ orders → orders_of (made e ∷ s) ≡ orders ++ a_call c ∷ [] → orders_of_entry e ≡ a_call c ∷ []
order_is c e orders s before after = append_cancel_left orders (orders_of_entry e) (a_call c ∷ []) (ap (λ (os : List Ordered). os ++ orders_of_entry e) (sym before) ∙ after)

record IsReceive (x : ℕ) (d : Deed) : Type 0 where
  code : ℕ
  value : Value
  is : d ≡ deed.Receive x code value

abbrev elem_received : Wanted → ℕ
elem_received (to_receive x) = x
elem_received c = 0

receive_is : (d : Deed) (x : ℕ) → wanted_by 0 d ≡ to_receive x → IsReceive x d
receive_is (deed.Receive y code value) x h = record { code = code; value = value; is = ap (λ (n : ℕ). deed.Receive n code value) (ap elem_received h) }
receive_is d x h = absurd (cc h)

record IsSend (x : ℕ) (ws : List ℤ) (d : Deed) : Type 0 where
  value : Value
  code : ℕ
  is : d ≡ deed.Send x value code
  words : words_of value ≡ ws

abbrev elem_sent : Wanted → ℕ
elem_sent (to_send x ws) = x
elem_sent c = 0

abbrev words_sent : Wanted → List ℤ
words_sent (to_send x ws) = ws
words_sent c = []

send_is : (d : Deed) (x : ℕ) (ws : List ℤ) → wanted_by 0 d ≡ to_send x ws → IsSend x ws d
send_is (deed.Send y value code) x ws h = record { value = value; code = code; is = ap (λ (n : ℕ). deed.Send n value code) (ap elem_sent h); words = ap words_sent h }
send_is d x ws h = absurd (cc h)

-- ---- a Receive on one

record Receipt (p : Plan) (m : Mapping) (q : Plan) (n : Mapping) (l : LinkElem) (e : Entry) (new other : NodeState) (j : Joint) : Type 0 where
  by_one : e.actor ≡ Env
  code : ℕ
  value : Value
  is : e.deed ≡ deed.Receive l.out_elem code value
  found : IsReceived p l.out_elem code (words_of value)
  stand : StandBoth p m q n new other ((one, made e) ∷ j)

module _ (w : Writing) (writes : Writes one w) (l : LinkElem) (e : Entry) (put : Put) (old new other : NodeState) (before now : Option (List ℕ))
    (calls : Calls w put (to_receive l.out_elem) e old new before now)
    (p : Plan) (m : Mapping) (q : Plan) (n : Mapping) (j : Joint) (stands : StandBoth p m q n old other j) where
  receipt : Receipt p m q n l e new other j
  receipt =
      let here = stands.on_one.1 in
      let did = calls p m [] stands.on_one.0 (side_of one j) here in
      let order = order_is (to_receive l.out_elem) e stands.on_one.0 (side_of one j) here.did did.0.did in
      let call = entry_is e.actor e.deed (to_receive l.out_elem) order in
      let r = receive_is e.deed l.out_elem call.wanted in
      let legal = legal_now p m (stands.on_one.0 ++ a_call (to_receive l.out_elem) ∷ []) outside new (made e ∷ side_of one j) did.0 in
      let keeps : orders_keep p (orders_of_entry e) ≡ true = ap (orders_keep p) order in
      record {
        by_one = call.by;
        code = r.code;
        value = r.value;
        is = r.is;
        found = received p m stands.sound_one (history_of (side_of one j)) e l.out_elem r.code r.value legal stands.limits r.is;
        stand = stands_on_one p m q n old new other j (made e ∷ []) (stands.on_one.0 ++ a_call (to_receive l.out_elem) ∷ []) stands did.0 (session_keeps p (made e ∷ []) keeps);
      }

  receipt_told : ToldAfter put before now (joint_lines p q ((one, made e) ∷ []))
  receipt_told = subst (ToldAfter put before now) (sym (lines-all one w p q (made e ∷ []) writes)) (calls p m [] stands.on_one.0 (side_of one j) stands.on_one.1).1

-- what a Receive took, or that it found none
record IsTaken (l : LinkElem) (code : ℕ) (value v : Value) : Type 0 where
  taking : (code ≡ 0) ⊎ (code ≡ 64)
  same : value ≡ v

code_takes : (code : ℕ) → ((code == 0) || (code == 64)) ≡ true → (code ≡ 0) ⊎ (code ≡ 64)
code_takes code h = step (code == 0) refl h
  where
    step : (b : Bool) → (code == 0) ≡ b → (b || (code == 64)) ≡ true → (code ≡ 0) ⊎ (code ≡ 64)
    step true is h = inl (eqb-true code 0 is)
    step false is h = inr (eqb-true code 64 h)

takes_code : (code : ℕ) → (code ≡ 0) ⊎ (code ≡ 64) → ((code == 0) || (code == 64)) ≡ true
takes_code code (inl ok) = or_left (code == 0) (code == 64) (eq-eqb code 0 ok)
takes_code code (inr lost) = or_right (code == 0) (code == 64) (eq-eqb code 64 lost)

held_some : (l : LinkElem) (code : ℕ) (value v : Value) → held_in (deed.Receive l.out_elem code value) ≡ Some v → IsTaken l code value v
held_some l code value v h = step ((code == 0) || (code == 64)) refl h
  where
    step : (b : Bool) → ((code == 0) || (code == 64)) ≡ b → cond b (Some value) None ≡ Some v → IsTaken l code value v
    step true is h = record { taking = code_takes code is; same = same_Some value v h }
    step false is h = absurd (cc h)

held_none : (p : Plan) (x code : ℕ) (value : Value) → held_in (deed.Receive x code value) ≡ None → IsReceived p x code (words_of value) → (code ≡ 131) ⊎ (code ≡ 134)
held_none p x code value h (nothing none empty) = none
held_none p x code value h (a_value taking value_is) = absurd (cc (sym (ap (λ (b : Bool). cond b (Some value) None) (takes_code code taking)) ∙ h))

-- ---- what passed, and more

-- one pass, and then none is held
pub drains_one : (l : LinkElem) (pass last : Joint) → Passes l pass → FindsNone l last → Drains l (last ++ pass)
drains_one l pass last passes none =
    let one_pass : Passed l 1 pass = record { first = []; rest = pass; is = sym (append-nil pass); before = refl; after = passes } in
    (1, then_both (Passed l 1) (FindsNone l) pass last one_pass none)

passed_on : (l : LinkElem) (i k : ℕ) (j : Joint) → Then (Passed l i) (Passed l k) j → (n : ℕ) × Passed l n j
passed_on l i zero j t =
    let all : j ≡ t.first = t.is ∙ ap (λ (r : Joint). r ++ t.first) t.after in
    (i, subst (Passed l i) (sym all) t.before)
passed_on l i (suc k) j t =
    let u = then_onto (Passed l i) (Passed l k) (Passes l) j t in
    let more = passed_on l i k u.first u.before in
    (suc more.0, record { first = u.first; rest = u.rest; is = u.is; before = more.1; after = u.after })

-- what passed, and what passes until none is held
pub drains_on : (l : LinkElem) (i : ℕ) (j : Joint) → Then (Passed l i) (Drains l) j → Drains l j
drains_on l i j t =
    let inner : Then (Passed l t.after.0) (FindsNone l) t.rest = t.after.1 in
    let u = then_onto (Passed l i) (Passed l t.after.0) (FindsNone l) j (record { first = t.first; rest = t.rest; is = t.is; before = t.before; after = inner }) in
    let passed = passed_on l i t.after.0 u.first u.before in
    (passed.0, record { first = u.first; rest = u.rest; is = u.is; before = passed.1; after = u.after })

pub drains_more : (l : LinkElem) (j : Joint) → Then (Passes l) (FindsNone l) j → Drains l j
drains_more l j t = subst (Drains l) (sym t.is) (drains_one l t.first t.rest t.before t.after)

module _ (w : Writing) (writes : Writes one w) (l : LinkElem) (e : Entry) (old new other : NodeState) (before now : Option (List ℕ)) where
  -- a value that was received is one of the element
  pub taken_is_within : (p : Plan) (m : Mapping) (q : Plan) (n : Mapping) (j : Joint) (put : Put) (v : Value) → Calls w put (to_receive l.out_elem) e old new before now
      → StandBoth p m q n old other j → held_in e.deed ≡ Some v → takes p l.out_elem (words_of v) ≡ true
  taken_is_within p m q n j put v calls stands held =
      let r = receipt w writes l e put old new other before now calls p m q n j stands in
      let t = held_some l r.code r.value v (sym (ap held_in r.is) ∙ held) in
      by_found r.code r.value t.taking t.same r.found
    where
      by_found : (code : ℕ) (value : Value) → (code ≡ 0) ⊎ (code ≡ 64) → value ≡ v → IsReceived p l.out_elem code (words_of value) → takes p l.out_elem (words_of v) ≡ true
      by_found code value taking same (a_value again is) = subst (λ (u : Value). takes p l.out_elem (words_of u) ≡ true) same is
      by_found code value (inl ok) same (nothing (inl none) empty) = absurd (omega (arith, ok, none))
      by_found code value (inl ok) same (nothing (inr none) empty) = absurd (omega (arith, ok, none))
      by_found code value (inr lost) same (nothing (inl none) empty) = absurd (omega (arith, lost, none))
      by_found code value (inr lost) same (nothing (inr none) empty) = absurd (omega (arith, lost, none))

  pub take_carries : (v : Value) → Calls w putting.Done (to_receive l.out_elem) e old new before now → held_in e.deed ≡ Some v → CarryBoth (Takes l v) Finished old new other other before now
  take_carries v calls held p m q n j stands =
      let r = receipt w writes l e putting.Done old new other before now calls p m q n j stands in
      let t = held_some l r.code r.value v (sym (ap held_in r.is) ∙ held) in
      record {
        items = (one, made e) ∷ [];
        is = record {
          entry = e;
          code = r.code;
          is = refl;
          by_one = r.by_one;
          received = subst (λ (u : Value). e.deed ≡ deed.Receive l.out_elem r.code u) t.same r.is;
          taking = t.taking;
        };
        stand = r.stand;
        put = receipt_told w writes l e putting.Done old new other before now calls p m q n j stands;
      }

  pub none_carries : Calls w putting.Done (to_receive l.out_elem) e old new before now → held_in e.deed ≡ None → CarryBoth (Drains l) Finished old new other other before now
  none_carries calls held p m q n j stands =
      let r = receipt w writes l e putting.Done old new other before now calls p m q n j stands in
      let last : FindsNone l ((one, made e) ∷ []) = record {
        entry = e;
        code = r.code;
        value = r.value;
        is = refl;
        by_one = r.by_one;
        received = r.is;
        none = held_none p l.out_elem r.code r.value (sym (ap held_in r.is) ∙ held) r.found;
      } in
      record {
        items = (one, made e) ∷ [];
        is = (0, record { first = []; rest = (one, made e) ∷ []; is = refl; before = refl; after = last });
        stand = r.stand;
        put = receipt_told w writes l e putting.Done old new other before now calls p m q n j stands;
      }

  -- where its line was not put, the value would pass, and then none would be held
  pub receive_cut : Calls w putting.Failed (to_receive l.out_elem) e old new before now → CarryBoth (Drains l) Failed old new other other before now
  receive_cut calls p m q n j stands =
      let r = receipt w writes l e putting.Failed old new other before now calls p m q n j stands in
      by_found r r.found
    where
      all : Receipt p m q n l e new other j → (later : Joint) → Drains l (later ++ (one, made e) ∷ []) → CutsBoth (Drains l) p m q n j before now
      all r later is = record {
        items = (one, made e) ∷ [];
        later = later;
        is = is;
        legal_one = one_legal p m q n new other ((one, made e) ∷ j) r.stand;
        legal_two = two_legal p m q n new other ((one, made e) ∷ j) r.stand;
        put = receipt_told w writes l e putting.Failed old new other before now calls p m q n j stands;
      }

      by_found : (r : Receipt p m q n l e new other j) → IsReceived p l.out_elem r.code (words_of r.value) → CutsBoth (Drains l) p m q n j before now
      by_found r (nothing none empty) =
          let last : FindsNone l ((one, made e) ∷ []) = record { entry = e; code = r.code; value = r.value; is = refl; by_one = r.by_one; received = r.is; none = none } in
          all r [] (0, record { first = []; rest = (one, made e) ∷ []; is = refl; before = refl; after = last })
      by_found r (a_value taking value_is) =
          let sent = sends_may l r.value in
          let last = none_may l in
          let take : Takes l r.value ((one, made e) ∷ []) = record { entry = e; code = r.code; is = refl; by_one = r.by_one; received = r.is; taking = taking } in
          let pass : Passes l (sent.0 ++ (one, made e) ∷ []) = (r.value, then_both (Takes l r.value) (Sends l r.value) ((one, made e) ∷ []) sent.0 take sent.1) in
          let whole : Drains l (last.0 ++ (sent.0 ++ (one, made e) ∷ [])) = drains_one l (sent.0 ++ (one, made e) ∷ []) last.0 pass last.1 in
          all r (last.0 ++ sent.0) (subst (Drains l) (sym (append_assoc last.0 sent.0 ((one, made e) ∷ []))) whole)

-- ---- a Send on two

module _ (w : Writing) (writes : Writes two w) (l : LinkElem) (v : Value) (ws : List ℤ) (same : ws ≡ words_of v) (e : Entry) (old new other : NodeState) (before now : Option (List ℕ)) where
  record Sending (p : Plan) (m : Mapping) (q : Plan) (n : Mapping) (j : Joint) : Type 0 where
    is : Sends l v ((two, made e) ∷ [])
    stand : StandBoth p m q n other new ((two, made e) ∷ j)

  sending : (put : Put) → Calls w put (to_send l.in_elem ws) e old new before now → (p : Plan) (m : Mapping) (q : Plan) (n : Mapping) (j : Joint) → StandBoth p m q n other old j → Sending p m q n j
  sending put calls p m q n j stands =
      let here = stands.on_two.1 in
      let did = calls q n [] stands.on_two.0 (side_of two j) here in
      let call = entry_is e.actor e.deed (to_send l.in_elem ws) (order_is (to_send l.in_elem ws) e stands.on_two.0 (side_of two j) here.did did.0.did) in
      let s = send_is e.deed l.in_elem ws call.wanted in
      record {
        is = record {
          entry = e;
          answer = s.code;
          is = refl;
          by_two = call.by;
          sent = subst (λ (u : Value). e.deed ≡ deed.Send l.in_elem u s.code) (Value-by_words s.value v (s.words ∙ same)) s.is;
        };
        stand = stands_on_two p m q n old new other j (made e ∷ []) (stands.on_two.0 ++ a_call (to_send l.in_elem ws) ∷ []) stands did.0;
      }

  sending_told : (put : Put) → Calls w put (to_send l.in_elem ws) e old new before now → (p : Plan) (m : Mapping) (q : Plan) (n : Mapping) (j : Joint) → StandBoth p m q n other old j
      → ToldAfter put before now (joint_lines p q ((two, made e) ∷ []))
  sending_told put calls p m q n j stands =
      subst (ToldAfter put before now) (sym (lines-all two w p q (made e ∷ []) writes)) (calls q n [] stands.on_two.0 (side_of two j) stands.on_two.1).1

  pub send_carries : Calls w putting.Done (to_send l.in_elem ws) e old new before now → CarryBoth (Sends l v) Finished other other old new before now
  send_carries calls p m q n j stands =
      let s = sending putting.Done calls p m q n j stands in
      record { items = (two, made e) ∷ []; is = s.is; stand = s.stand; put = sending_told putting.Done calls p m q n j stands }

  pub send_cut : Calls w putting.Failed (to_send l.in_elem ws) e old new before now → CarryBoth (Sends l v) Failed other other old new before now
  send_cut calls p m q n j stands =
      let s = sending putting.Failed calls p m q n j stands in
      record {
        items = (two, made e) ∷ [];
        later = [];
        is = s.is;
        legal_one = one_legal p m q n other new ((two, made e) ∷ j) s.stand;
        legal_two = two_legal p m q n other new ((two, made e) ∷ j) s.stand;
        put = sending_told putting.Failed calls p m q n j stands;
      }

-- ---- no queue holds more than 1,024 values

module _ (p : Plan) (l : LinkElem) (j : Joint) where
  abbrev left : Joint → ℕ
  left items = length (waiting_at p l.out_elem (noted (history_of (side_of one (items ++ j)))))

  -- what one did of a pass
  record OneTook (pass before : Joint) : Type 0 where
    entry : Entry
    code : ℕ
    value : Value
    is : side_of one (pass ++ before) ≡ made entry ∷ side_of one before
    received : entry.deed ≡ deed.Receive l.out_elem code value
    taking : (code ≡ 0) ⊎ (code ≡ 64)

  one_took : (pass before : Joint) → Passes l pass → OneTook pass before
  one_took pass before passes =
      let t = passes.1.before in
      let all : pass ≡ (two, made passes.1.after.entry) ∷ (one, made t.entry) ∷ [] =
      passes.1.is ∙ ap (λ (r : Joint). r ++ passes.1.first) passes.1.after.is ∙ ap (λ (f : Joint). (two, made passes.1.after.entry) ∷ f) t.is in
      record { entry = t.entry; code = t.code; value = passes.0; is = ap (λ (k : Joint). side_of one (k ++ before)) all; received = t.received; taking = t.taking }

  count_left : (k : ℕ) (items : Joint) → Passed l k items → IsLegal p (history_of (side_of one (items ++ j))) → left items + k ≡ left []
  count_left zero items none legal =
      let same : left items ≡ left [] = ap left none in
      omega (arith, same)
  count_left (suc k) items t legal =
      let took = one_took t.rest (t.first ++ j) t.after in
      let all : side_of one (items ++ j) ≡ made took.entry ∷ side_of one (t.first ++ j) =
      ap (λ (i : Joint). side_of one (i ++ j)) t.is ∙ ap (side_of one) (append_assoc t.rest t.first j) ∙ took.is in
      let now : IsLegal p (took.entry ∷ history_of (side_of one (t.first ++ j))) = subst (λ (s : Session). IsLegal p (history_of s)) all legal in
      let takes : takes_at l.out_elem took.entry.deed ≡ true = ap (takes_at l.out_elem) took.received ∙ taking_here took.code took.taking in
      let one_less = ap length (oldest p (history_of (side_of one (t.first ++ j))) took.entry l.out_elem took.code took.value now took.received takes) in
      let here : left items ≡ length (waiting_at p l.out_elem (noted (took.entry ∷ history_of (side_of one (t.first ++ j))))) =
      ap (λ (s : Session). length (waiting_at p l.out_elem (noted (history_of s)))) all in
      let rest = count_left k t.first t.before now.0 in
      omega (arith, one_less, here, rest)
    where
      taking_here : (code : ℕ) → (code ≡ 0) ⊎ (code ≡ 64) → ((l.out_elem == l.out_elem) && ((code == 0) || (code == 64))) ≡ true
      taking_here code taking = and_from (l.out_elem == l.out_elem) ((code == 0) || (code == 64)) (eq-eqb l.out_elem l.out_elem refl) (takes_code code taking)

  pub few_pass : (m : Mapping) (k : ℕ) (items : Joint) → IsSound p m → Passed l k items → IsLegal p (history_of (side_of one (items ++ j))) → k ≤ 1024
  few_pass m k items sound passed legal =
      let all = count_left k items passed legal in
      let most = held p l.out_elem (noted (history_of (side_of one j))) in
      let places_are = places p m l.out_elem sound in
      omega (arith, all, most, places_are)
