-- What queues accept are values of their elements.
use Rattle.std.proofs.Common.{◌≡◌, ℕ, zero, suc, ℤ, Bool, true, false, ◌&&◌, ◌||◌, not, ◌==◌, if◌then◌else◌, int_le, refl, sym, ◌∙◌, ap, subst, arith, inl, inr, List, [], ◌∷◌, length}
use Rattle.std.proofs.Common.{replicate, Option, Some, None}
use Rattle.bus_semantics.specs.Common.{and_from, and_parts, eqb-true, eq-eqb, false≢true, same_Some, list_all, slice_get, option_map_or, Limits, Value, words_of, same_words-Decides, Plan}
use Rattle.bus_semantics.specs.Common.{group_of, to_send, History, noted, is_in_group, sent_in, sent_to, taken_at, is_room, places_at, accepted_at, has_lost, received_at, queued_allows}
use Rattle.bus_semantics.specs.Common.{is_outcome, MayFollow, IsLegal, is_within, agrees, IsSound}
use Rattle.std.proofs.lemmas.Int.{ints}
use Rattle.std.specs.Prelude.{nat_lt}
use Rattle.bus_laws.specs.Common.{ElemPlan, Mapping, Actor, Env, Machine, Act, Deed, Entry}
use Rattle.bus_semantics.specs.declared.entries.Deed.TheVariants as deed
use Rattle.history_laws.specs.Given.{are_within, elem_takes}
use Rattle.history_laws.specs.LookUps.{all_at}
use Rattle.history_laws.proofs.Asking.{given}
use Rattle.bus_laws.proofs.Thinning.{option_same, found_where}
use Rattle.history_laws.proofs.Keys.{mine, itself, IsTo, others, starts, goes_on, alive, is_to}
use Rattle.history_laws.proofs.GoingOn.{acting}
use Rattle.history_laws.proofs.Lists.{AtEnd, earlier, last, at_end}
use Rattle.pair_run.specs.Sent.{is_value_of, takes, keeps_limits, EnvironmentKeepsLimits, IsReceived, a_value, nothing}

-- ---- words within limits

le_then : (a b c : ℤ) → int_le a b ≡ true → int_le b c ≡ true → int_le a c ≡ true
le_then a b c x y = grind (arith, ints)

each_within : (l : Limits) (n : ℕ) (ws : List ℤ) → are_within (replicate n l) ws ≡ true → (length ws ≡ n) × (list_all (is_within l) ws ≡ true)
each_within l zero [] is = (refl, refl)
each_within l zero (w ∷ ws) is = absurd (false≢true is)
each_within l (suc n) [] is = absurd (false≢true is)
each_within l (suc n) (w ∷ ws) is =
    let parts = and_parts (is_within l w) (are_within (replicate n l) ws) is in
    let rest = each_within l n ws parts.1 in
    (ap suc rest.0, and_from (is_within l w) (list_all (is_within l) ws) parts.0 rest.1)

-- what an element takes is a value of it
taken_is : (p : Plan) (x : ℕ) (ws : List ℤ) → elem_takes p x ws ≡ true → takes p x ws ≡ true
taken_is p x ws is =
    let at = found_where p.elements x (λ (e : ElemPlan). are_within (replicate e.words e.limits) ws) is in
    let e = at.item in
    let both = each_within e.limits e.words ws at.holds in
    ap (λ (o : Option ElemPlan). option_map_or (λ (v : ElemPlan). is_value_of v ws) o false) at.found
    ∙ and_from (length ws == e.words) (list_all (is_within e.limits) ws) (eq-eqb (length ws) e.words both.0) both.1

-- ---- elements of one group take the same values

module _ (l k : Limits) (low : int_le k.low l.low ≡ true) (high : int_le l.high k.high ≡ true) where
  wider : (ws : List ℤ) → list_all (is_within l) ws ≡ true → list_all (is_within k) ws ≡ true
  wider [] all = refl
  wider (w ∷ ws) all =
      let parts = and_parts (is_within l w) (list_all (is_within l) ws) all in
      let own = and_parts (int_le l.low w) (int_le w l.high) parts.0 in
      and_from (is_within k w) (list_all (is_within k) ws)
      (and_from (int_le k.low w) (int_le w k.high) (le_then k.low l.low w low own.0) (le_then w l.high k.high own.1 high)) (wider ws parts.1)

-- the second, where the first holds
second : (b c : Bool) → b ≡ true → (not b || c) ≡ true → c ≡ true
second true c is one = one
second false c is one = absurd (false≢true is)

module _ (p : Plan) (m : Mapping) (sound : IsSound p m) where
  joined_takes : (x y : ℕ) (e : ElemPlan) (ws : List ℤ) → slice_get p.elements x ≡ Some e → is_in_group p e.group y ≡ true → takes p y ws ≡ true → takes p x ws ≡ true
  joined_takes x y e ws there within is =
      let at = found_where p.elements y (λ (v : ElemPlan). is_value_of v ws) is in
      let f = at.item in
      let own : f.group ≡ e.group =
      same_Some f.group e.group (sym (ap (λ (o : Option ElemPlan). option_map_or (λ (v : ElemPlan). Some v.group) o None) at.found) ∙ option_same (group_of p y) (Some e.group) within) in
      let all = (and_parts (list_all (λ a. list_all (agrees a) p.elements) p.elements) _ sound.joins).0 in
      let one : agrees f e ≡ true = all_at (agrees f) p.elements x e (all_at (λ a. list_all (agrees a) p.elements) p.elements y f all at.found) there in
      let same = (and_parts _ _ (second (f.group == e.group) _ (eq-eqb f.group e.group own) one)).1 in
      let words = and_parts (f.words == e.words) _ same in
      let lows = and_parts (int_le f.limits.low e.limits.low) _ words.1 in
      let highs = and_parts (int_le e.limits.low f.limits.low) _ lows.1 in
      let most = and_parts (int_le f.limits.high e.limits.high) (int_le e.limits.high f.limits.high) highs.1 in
      let value = and_parts (length ws == f.words) (list_all (is_within f.limits) ws) at.holds in
      ap (λ (o : Option ElemPlan). option_map_or (λ (v : ElemPlan). is_value_of v ws) o false) there
      ∙ and_from (length ws == e.words) (list_all (is_within e.limits) ws)
      (eq-eqb (length ws) e.words (eqb-true (length ws) f.words value.0 ∙ eqb-true f.words e.words words.0)) (wider f.limits e.limits highs.0 most.0 ws value.1)

  -- ---- who sends

  -- a Send in the group of an element
  record SentTo (x : ℕ) (d : Deed) (ws : List ℤ) : Type 0 where
    own : ElemPlan
    there : slice_get p.elements x ≡ Some own
    elem : ℕ
    value : Value
    code : ℕ
    is : d ≡ deed.Send elem value code
    words : words_of value ≡ ws
    within : is_in_group p own.group elem ≡ true

  sent_parts : (x : ℕ) (d : Deed) (ws : List ℤ) → sent_to p x d ≡ Some ws → SentTo x d ws
  sent_parts x d ws is = by_element (slice_get p.elements x) refl is
    where
      by_group : (e : ElemPlan) → slice_get p.elements x ≡ Some e → (y : ℕ) (value : Value) (code : ℕ) → d ≡ deed.Send y value code → (b : Bool) → is_in_group p e.group y ≡ b → (if b then Some (words_of value) else None) ≡ Some ws → SentTo x d ws
      by_group e there y value code at true within is = record {
        own = e;
        there = there;
        elem = y;
        value = value;
        code = code;
        is = at;
        words = same_Some (words_of value) ws is;
        within = within;
      }
      by_group e there y value code at false within is = absurd (cc is)

      by_deed : (e : ElemPlan) → slice_get p.elements x ≡ Some e → (c : Deed) → d ≡ c → sent_in p e.group c ≡ Some ws → SentTo x d ws
      by_deed e there (deed.Send y value code) at is = by_group e there y value code at (is_in_group p e.group y) refl is
      by_deed e there c at is = absurd (cc is)

      by_element : (o : Option ElemPlan) → slice_get p.elements x ≡ o → option_map_or (λ (e : ElemPlan). sent_in p e.group d) o None ≡ Some ws → SentTo x d ws
      by_element None there is = absurd (cc is)
      by_element (Some e) there is = by_deed e there d refl is

  abbrev is_a_send : Deed → Bool
  is_a_send (deed.Send x value code) = true
  is_a_send d = false

  sent_by : (a : Actor) (h : History) (y : ℕ) (value : Value) (code : ℕ) → IsLegal p h → MayFollow p h (record { actor = a; deed = deed.Send y value code }) → keeps_limits p a (deed.Send y value code) ≡ true
      → takes p y (words_of value) ≡ true
  sent_by Env h y value code legal may keeps = keeps
  sent_by (Machine n) h y value code legal may keeps = absurd (false≢true (and_parts (nat_lt n (length p.machines)) false (and_parts (nat_lt n (length p.machines) && false) true may.fit).0).1)
  sent_by (Act k) h y value code legal may keeps = by_kind (is_to p k h (mine k (deed.Send y value code)) may (alive p k h legal))
    where
      by_kind : IsTo p k h (mine k (deed.Send y value code)) → takes p y (words_of value) ≡ true
      by_kind (others other) = absurd (false≢true (sym other ∙ itself k))
      by_kind (starts event point start is own idle runnable asked) = absurd (false≢true (sym (ap (λ (e : Entry). is_a_send e.deed) is)))
      by_kind (goes_on is own other running a next) =
          taken_is p y (words_of value) (given p m k a.runnable a.activation.event (acting p m k h sound a) a.activation.start a.activation.deeds (to_send y (words_of value)) next)

  -- ---- what is accepted

  pub accepted : (x : ℕ) (h : History) → IsLegal p h → EnvironmentKeepsLimits p h → (k : ℕ) (ws : List ℤ) → slice_get (accepted_at p x (noted h)) k ≡ Some ws → takes p x ws ≡ true
  accepted x [] legal keeps k ws at = absurd (cc at)
  accepted x (e ∷ h) legal keeps k ws at =
      let parts = and_parts (keeps_limits p e.actor e.deed) (list_all (λ (e : Entry). keeps_limits p e.actor e.deed) h) keeps in
      by_sent parts.0 (accepted x h legal.0 parts.1 k ws) (sent_to p x e.deed) refl (is_room (length (accepted_at p x (noted h))) (taken_at x (noted h)) (places_at p x)) refl
    where
      newest_takes : keeps_limits p e.actor e.deed ≡ true → SentTo x e.deed ws → takes p x ws ≡ true
      newest_takes keeps s =
          let may : MayFollow p h (record { actor = e.actor; deed = deed.Send s.elem s.value s.code }) = subst (λ (d : Deed). MayFollow p h (record { actor = e.actor; deed = d })) s.is legal.1 in
          let own = sent_by e.actor h s.elem s.value s.code legal.0 may (subst (λ (d : Deed). keeps_limits p e.actor d ≡ true) s.is keeps) in
          joined_takes x s.elem s.own ws s.there s.within (subst (λ (us : List ℤ). takes p s.elem us ≡ true) s.words own)

      by_place : (sent : List ℤ) → sent_to p x e.deed ≡ Some sent → keeps_limits p e.actor e.deed ≡ true → (slice_get (accepted_at p x (noted h)) k ≡ Some ws → takes p x ws ≡ true)
          → AtEnd (accepted_at p x (noted h)) sent k ws → takes p x ws ≡ true
      by_place sent is keeps before (earlier there) = before there
      by_place sent is keeps before (last same) = newest_takes keeps (sent_parts x e.deed ws (is ∙ ap (λ (us : List ℤ). Some us) same))

      by_sent : keeps_limits p e.actor e.deed ≡ true → (slice_get (accepted_at p x (noted h)) k ≡ Some ws → takes p x ws ≡ true) → (o : Option (List ℤ)) → sent_to p x e.deed ≡ o
          → (b : Bool) → is_room (length (accepted_at p x (noted h))) (taken_at x (noted h)) (places_at p x) ≡ b → takes p x ws ≡ true
      by_sent keeps before None is b room = before (rw is at at)
      by_sent keeps before (Some sent) is false room = before (rw (is, room) at at)
      by_sent keeps before (Some sent) is true room = by_place sent is keeps before (at_end (accepted_at p x (noted h)) sent k ws (rw (is, room) at at))

  -- ---- what is received

  outcome_received : (x : ℕ) (h : History) → IsLegal p h → EnvironmentKeepsLimits p h → (code : ℕ) (ws : List ℤ) → is_outcome code ws (received_at p x (noted h)) ≡ true → IsReceived p x code ws
  outcome_received x h legal keeps code ws is = by_element (slice_get p.elements x) refl
    where
      unconnected : is_outcome code ws (134, []) ≡ true → IsReceived p x code ws
      unconnected is = let both = and_parts (code == 134) _ is in nothing (inr (eqb-true code 134 both.0)) ((same_words-Decides ws []).0 both.1)

      by_lost : (us : List ℤ) → takes p x us ≡ true → (b : Bool) → is_outcome code ws (if b then 64 else 0, us) ≡ true → IsReceived p x code ws
      by_lost us value true is = let both = and_parts (code == 64) _ is in a_value (inr (eqb-true code 64 both.0)) (subst (λ (vs : List ℤ). takes p x vs ≡ true) (sym ((same_words-Decides ws us).0 both.1)) value)
      by_lost us value false is = let both = and_parts (code == 0) _ is in a_value (inl (eqb-true code 0 both.0)) (subst (λ (vs : List ℤ). takes p x vs ≡ true) (sym ((same_words-Decides ws us).0 both.1)) value)

      by_oldest : (e : ElemPlan) → slice_get p.elements x ≡ Some e → e.joined ≡ true → (o : Option (List ℤ)) → slice_get (accepted_at p x (noted h)) (taken_at x (noted h)) ≡ o → IsReceived p x code ws
      by_oldest e there joined None left =
          let gives : is_outcome code ws (131, []) ≡ true = rw (there, joined, left) at is in
          let both = and_parts (code == 131) _ gives in nothing (inl (eqb-true code 131 both.0)) ((same_words-Decides ws []).0 both.1)
      by_oldest e there joined (Some us) left = by_lost us (accepted x h legal keeps (taken_at x (noted h)) us left) (has_lost p x (noted h)) (rw (there, joined, left) at is)

      by_join : (e : ElemPlan) → slice_get p.elements x ≡ Some e → (b : Bool) → e.joined ≡ b → IsReceived p x code ws
      by_join e there false joined = unconnected (rw (there, joined) at is)
      by_join e there true joined = by_oldest e there joined (slice_get (accepted_at p x (noted h)) (taken_at x (noted h))) refl

      by_element : (o : Option ElemPlan) → slice_get p.elements x ≡ o → IsReceived p x code ws
      by_element None there = unconnected (rw there at is)
      by_element (Some e) there = by_join e there e.joined refl

  pub received : (h : History) (e : Entry) (x code : ℕ) (value : Value) → IsLegal p (e ∷ h) → EnvironmentKeepsLimits p h → e.deed ≡ deed.Receive x code value → IsReceived p x code (words_of value)
  received h e x code value legal keeps is = outcome_received x h legal.0 keeps code (words_of value) (subst (λ (d : Deed). queued_allows p (noted h) d ≡ true) is legal.1.answers.queued)
