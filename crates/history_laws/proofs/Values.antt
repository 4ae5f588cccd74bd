-- What the bus answers gives values: its words are those of a value that an entry has, or of none.
use Rattle.std.proofs.Common.{◌≡◌, ℕ, ◌+◌, ◌≤◌, ℤ, Bool, true, false, if◌then◌else◌, refl, sym, ◌∙◌, ap, arith, List, [], ◌∷◌, length, take, drop, Option, Some, None}
use Rattle.bus_semantics.specs.Common.{le-leb, length-append, take-append-drop, same_Some, option_or, option_map_or, slice_get, Value, words_of, empty_value, length-words_of, Plan}
use Rattle.bus_semantics.specs.Common.{server_of, elems_of, words_at, marked, split, Noted, Past, newest, is_in_group, last_in, stored_in, last_stored, value_at, sent_in, sent_to, is_room}
use Rattle.bus_semantics.specs.Common.{taken_at, places_at, accepted_at, received_at, is_request_at, serves, returned_by, returned_to, is_outstanding, answer_to, result_of}
use Rattle.std.specs.Prelude.{unwrap_or}
use Rattle.bus_laws.specs.Common.{ElemPlan, Actor, Act, Deed}
use Rattle.bus_semantics.specs.declared.entries.Deed.TheVariants as deed
use Rattle.history_laws.specs.ValuesOfWords.{value_of}
use Rattle.bus_laws.proofs.LocalReturns.{newer_returned}
use Rattle.history_laws.proofs.Lists.{AtEnd, earlier, last, at_end}

-- the words are those of a value
pub record Words (ws : List ℤ) : Type 0 where
  pub value : Value
  pub is : words_of value ≡ ws

pub no_words : Words []
no_words = record { value = empty_value; is = refl }

of_words : (v : Value) (ws : List ℤ) → words_of v ≡ ws → Words ws
of_words v ws is = record { value = v; is = is }

-- at most 16 words are those of a value
pub few_words : (ws : List ℤ) → length ws ≤ 16 → Words ws
few_words ws few = let v = value_of ws (le-leb (length ws) 16 few) in of_words v.0 ws v.1

where_given : (b : Bool) (v : Value) (ws : List ℤ) → (if b then Some (words_of v) else None) ≡ Some ws → Words ws
where_given true v ws e = of_words v ws (same_Some (words_of v) ws e)
where_given false v ws e = absurd (cc e)

-- what the newest entry that gives something gives
pub newest_gives : {B : Type 0} (P : B → Type 0) (f : Noted → Option B) → ((n : Noted) (b : B) → f n ≡ Some b → P b) → (l : Past) (b : B) → newest f l ≡ Some b → P b
newest_gives P f each [] b e = absurd (cc e)
newest_gives {B} P f each (n ∷ l) b e = by_first (newest_gives P f each l b) (f n) refl e
  where
    by_first : (newest f l ≡ Some b → P b) → (o : Option B) → f n ≡ o → option_or o (newest f l) ≡ Some b → P b
    by_first before None is e = before e
    by_first before (Some c) is e = each n b (is ∙ e)

-- ---- unqueued data

-- what some words give to a group is a part of them
part_short : (p : Plan) (g : ℕ) (xs : List ℕ) (us ws : List ℤ) → last_in p g (split p xs us) ≡ Some ws → length ws ≤ length us
part_short p g [] us ws e = absurd (cc e)
part_short p g (x ∷ xs) us ws e =
    let whole : length (take (words_at p x) us) + length (drop (words_at p x) us) ≡ length us = sym (length-append (take (words_at p x) us) (drop (words_at p x) us)) ∙ ap length (take-append-drop (words_at p x) us) in
    by_rest whole (part_short p g xs (drop (words_at p x) us) ws) (last_in p g (split p xs (drop (words_at p x) us))) refl e
  where
    by_group : length (take (words_at p x) us) + length (drop (words_at p x) us) ≡ length us → (b : Bool) → (if b then Some (take (words_at p x) us) else None) ≡ Some ws → length ws ≤ length us
    by_group whole true e = let same : length (take (words_at p x) us) ≡ length ws = ap length (same_Some (take (words_at p x) us) ws e) in omega arith
    by_group whole false e = absurd (cc e)

    by_rest : length (take (words_at p x) us) + length (drop (words_at p x) us) ≡ length us
        → (last_in p g (split p xs (drop (words_at p x) us)) ≡ Some ws → length ws ≤ length (drop (words_at p x) us))
        → (o : Option (List ℤ)) → last_in p g (split p xs (drop (words_at p x) us)) ≡ o → option_or o (if is_in_group p g x then Some (take (words_at p x) us) else None) ≡ Some ws → length ws ≤ length us
    by_rest whole before None is e = by_group whole (is_in_group p g x) e
    by_rest whole before (Some vs) is e = let less = before (is ∙ e) in omega arith

stored_words : (p : Plan) (g : ℕ) (d : Deed) (ws : List ℤ) → stored_in p g d ≡ Some ws → Words ws
stored_words p g (deed.Write x value) ws e = where_given (is_in_group p g x) value ws e
stored_words p g (deed.Publish x value) ws e = where_given (is_in_group p g x) value ws e
stored_words p g (deed.PublishAll l written value) ws e =
    let less = part_short p g (marked written (elems_of p l)) (words_of value) ws e in
    let count = length-words_of value in
    let short = value.short in
    few_words ws (omega arith)
stored_words p g d ws e = absurd (cc e)

pub element_words : (p : Plan) (x : ℕ) (l : Past) → Words (value_at p x l)
element_words p x l = by_element (slice_get p.elements x) refl
  where
    by_stored : (e : ElemPlan) (o : Option (List ℤ)) → last_stored p e.group l ≡ o → Words (unwrap_or o (words_of e.init))
    by_stored e None is = of_words e.init (words_of e.init) refl
    by_stored e (Some ws) is = newest_gives Words (λ n. stored_in p e.group n.entry.deed) (λ n w at. stored_words p e.group n.entry.deed w at) l ws is

    by_element : (o : Option ElemPlan) → slice_get p.elements x ≡ o → Words (option_map_or (λ (e : ElemPlan). unwrap_or (last_stored p e.group l) (words_of e.init)) o [])
    by_element None there = no_words
    by_element (Some e) there = by_stored e (last_stored p e.group l) refl

-- ---- queued data

sent_words : (p : Plan) (g : ℕ) (d : Deed) (ws : List ℤ) → sent_in p g d ≡ Some ws → Words ws
sent_words p g (deed.Send x value code) ws e = where_given (is_in_group p g x) value ws e
sent_words p g d ws e = absurd (cc e)

sent_at : (p : Plan) (x : ℕ) (d : Deed) (ws : List ℤ) → sent_to p x d ≡ Some ws → Words ws
sent_at p x d ws e = by_element (slice_get p.elements x) e
  where
    by_element : (o : Option ElemPlan) → option_map_or (λ (v : ElemPlan). sent_in p v.group d) o None ≡ Some ws → Words ws
    by_element None e = absurd (cc e)
    by_element (Some v) e = sent_words p v.group d ws e

accepted_words : (p : Plan) (x : ℕ) (l : Past) (i : ℕ) (ws : List ℤ) → slice_get (accepted_at p x l) i ≡ Some ws → Words ws
accepted_words p x [] i ws e = absurd (cc e)
accepted_words p x (n ∷ l) i ws e = by_sent (accepted_words p x l i ws) (sent_to p x n.entry.deed) refl (is_room (length (accepted_at p x l)) (taken_at x l) (places_at p x)) refl
  where
    by_place : (sent : List ℤ) → sent_to p x n.entry.deed ≡ Some sent → (slice_get (accepted_at p x l) i ≡ Some ws → Words ws) → AtEnd (accepted_at p x l) sent i ws → Words ws
    by_place sent is before (earlier there) = before there
    by_place sent is before (last there) = sent_at p x n.entry.deed ws (is ∙ ap (λ w. Some w) there)

    by_sent : (slice_get (accepted_at p x l) i ≡ Some ws → Words ws) → (o : Option (List ℤ)) → sent_to p x n.entry.deed ≡ o
        → (b : Bool) → is_room (length (accepted_at p x l)) (taken_at x l) (places_at p x) ≡ b → Words ws
    by_sent before None is b room = before (rw is at e)
    by_sent before (Some sent) is false room = before (rw (is, room) at e)
    by_sent before (Some sent) is true room = by_place sent is before (at_end (accepted_at p x l) sent i ws (rw (is, room) at e))

pub received_words : (p : Plan) (x : ℕ) (l : Past) → Words (received_at p x l).1
received_words p x l = by_element (slice_get p.elements x) refl
  where
    by_oldest : (e : ElemPlan) → slice_get p.elements x ≡ Some e → e.joined ≡ true → (o : Option (List ℤ)) → slice_get (accepted_at p x l) (taken_at x l) ≡ o → Words (received_at p x l).1
    by_oldest e there joined None is = rw (there, joined, is) no_words
    by_oldest e there joined (Some ws) is = rw (there, joined, is) (accepted_words p x l (taken_at x l) ws is)

    by_join : (e : ElemPlan) → slice_get p.elements x ≡ Some e → (b : Bool) → e.joined ≡ b → Words (received_at p x l).1
    by_join e there false joined = rw (there, joined) no_words
    by_join e there true joined = by_oldest e there joined (slice_get (accepted_at p x l) (taken_at x l)) refl

    by_element : (o : Option ElemPlan) → slice_get p.elements x ≡ o → Words (received_at p x l).1
    by_element None there = rw there no_words
    by_element (Some e) there = by_join e there e.joined refl

-- ---- calls

given_back : (q : ℕ) (a : Actor) (d : Deed) (l : Past) (r : ℕ × List ℤ) → returned_by q a d l ≡ Some r → Words r.1
given_back q (Act k) (deed.Return code value) l r e = by_test (serves q k l) e
  where
    by_test : (b : Bool) → (if b then Some (code, words_of value) else None) ≡ Some r → Words r.1
    by_test true e = of_words value r.1 (ap (λ (x : ℕ × List ℤ). x.1) (same_Some (code, words_of value) r e))
    by_test false e = absurd (cc e)
given_back q a d l r e = absurd (cc e)

returned_words : (q : ℕ) (l : Past) (r : ℕ × List ℤ) → returned_to q l ≡ Some r → Words r.1
returned_words q [] r e = absurd (cc e)
returned_words q (n ∷ l) r e = by_request (returned_words q l r) (returned_by q n.entry.actor n.entry.deed l) refl (is_request_at q n.entry.deed) (sym (newer_returned q n l (returned_by q n.entry.actor n.entry.deed l) refl) ∙ e)
  where
    by_request : (returned_to q l ≡ Some r → Words r.1) → (o : Option (ℕ × List ℤ)) → returned_by q n.entry.actor n.entry.deed l ≡ o → (b : Bool) → (if b then None else option_or o (returned_to q l)) ≡ Some r → Words r.1
    by_request before o is true e = absurd (cc e)
    by_request before None is false e = before e
    by_request before (Some x) is false e = given_back q n.entry.actor n.entry.deed l r (is ∙ e)

pub answer_words : (q : ℕ) (l : Past) (r : ℕ × List ℤ) → answer_to q l ≡ Some r → Words r.1
answer_words q l r e = by_test (is_outstanding q l) e
  where
    by_test : (b : Bool) → (if b then returned_to q l else None) ≡ Some r → Words r.1
    by_test true e = returned_words q l r e
    by_test false e = absurd (cc e)

pub result_words : (p : Plan) (q : ℕ) (l : Past) → Words (result_of p q l).1
result_words p q l = by_server (server_of p q) refl
  where
    by_answer : (s : ℕ) → server_of p q ≡ Some s → (o : Option (ℕ × List ℤ)) → answer_to q l ≡ o → Words (result_of p q l).1
    by_answer s joined None is = rw (joined, is) no_words
    by_answer s joined (Some r) is = rw (joined, is) (answer_words q l r is)

    by_server : (o : Option ℕ) → server_of p q ≡ o → Words (result_of p q l).1
    by_server None is = rw is no_words
    by_server (Some s) is = by_answer s is (answer_to q l) refl
