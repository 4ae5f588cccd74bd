-- What the recursions on calls compute of a point is the return of the activation that serves its request, as `IsAnswered` says it.
use Rattle.std.proofs.Common.{◌≡◌, ◌<◌, ℕ, ℤ, Bool, true, false, ◌&&◌, ◌||◌, not, if◌then◌else◌, refl, sym, ◌∙◌, ap, subst, arith, List, [], ◌∷◌, ◌++◌, append_assoc, Option, Some, None, is_some}
use Rattle.std.specs.Prelude.{unwrap_or}
use Rattle.bus_semantics.specs.Common.{list_all, list_any, option_or, and_parts, and_right, or_parts, or_from, or_left, false≢true, ltb-true, none-some, list_all-append, list_any-append}
use Rattle.bus_semantics.specs.Common.{ActKey, Value, words_of, Plan, server_of, instance_of, to_return, History, Past, Noted, noted, made_by, event_started, is_request_at, takes_reply_at}
use Rattle.bus_semantics.specs.Common.{is_outstanding, start_names, serves, returned_by, returned_to, answer_to, result_of, key_fits, activation_may_want, wish_fits, fits, IsLegal}
use Rattle.bus_semantics.specs.Common.{starts_its_own, is_proper}
use Rattle.std.proofs.lemmas.Option.{some_pair_parts}
use Rattle.bus_laws.specs.Common.{Actor, Act, Deed, IsAnswered}
use Rattle.bus_semantics.specs.declared.entries.Deed.TheVariants as deed
use Rattle.bus_laws.proofs.Thinning.{clash}
use Rattle.bus_laws.proofs.LocalReturns.{newer_returned}
use Rattle.bus_laws.proofs.Local.{proper_legal}

-- an entry that asks at the point, or takes its reply; a start by a key
abbrev asks_or_takes : ℕ → Noted → Bool
asks_or_takes q n = is_request_at q n.entry.deed || takes_reply_at q n.entry.deed

abbrev is_start_of : ActKey → Noted → Bool
is_start_of k n = made_by k n.entry.actor && is_some (event_started n.entry.deed)

-- the parts of a past, put together in two ways
regrouped : (later : Past) (returned : Noted) (between : Past) (started : Noted) (waiting rest : Past)
    → (later ++ returned ∷ (between ++ started ∷ waiting)) ++ rest ≡ later ++ returned ∷ (between ++ started ∷ (waiting ++ rest))
regrouped later returned between started waiting rest =
    append_assoc later (returned ∷ (between ++ started ∷ waiting)) rest
    ∙ ap (λ (l : Past). later ++ returned ∷ l) (append_assoc between (started ∷ waiting) rest)

-- ---- one entry more

started_same : (q : ℕ) (d : Deed) → is_some (event_started d) ≡ is_some (start_names q d)
started_same q (deed.Start e point value) = refl
started_same q d = refl

serves_named : (q : ℕ) (k : ActKey) (n : Noted) (h : Past) (o : Option Bool) → is_request_at q n.entry.deed ≡ false → made_by k n.entry.actor ≡ true → start_names q n.entry.deed ≡ o
    → serves q k (n ∷ h) ≡ unwrap_or o (serves q k h)
serves_named q k n h None request made named = rw (request, made, named) refl
serves_named q k n h (Some b) request made named = rw (request, made, named) refl

serves_other : (q : ℕ) (k : ActKey) (n : Noted) (h : Past) → is_request_at q n.entry.deed ≡ false → made_by k n.entry.actor ≡ false → serves q k (n ∷ h) ≡ serves q k h
serves_other q k n h request made = rw (request, made) refl

serves_not : (q : ℕ) (k : ActKey) (n : Noted) (h : Past) → is_request_at q n.entry.deed ≡ true → serves q k (n ∷ h) ≡ false
serves_not q k n h request = rw request refl

-- what was returned so far, after an entry that asks nothing
returned_more : (q : ℕ) (n : Noted) (h : Past) (r : Option (ℕ × List ℤ)) → is_request_at q n.entry.deed ≡ false → returned_by q n.entry.actor n.entry.deed h ≡ r
    → returned_to q (n ∷ h) ≡ option_or r (returned_to q h)
returned_more q n h r request is = newer_returned q n h r is ∙ ap (λ b. if b then None else option_or r (returned_to q h)) request

-- ---- from the recursions to the entries

-- the last request of the point: after it nothing asks again or takes
record Waits (q : ℕ) (h : Past) : Type 0 where
  since : Past
  ask : Noted
  before : Past
  whole : h ≡ since ++ ask ∷ before
  asks : is_request_at q ask.entry.deed ≡ true
  is_last : list_any (asks_or_takes q) since ≡ false

waits_more : (q : ℕ) (n : Noted) (h : Past) (b c : Bool) → is_request_at q n.entry.deed ≡ b → takes_reply_at q n.entry.deed ≡ c
    → (is_outstanding q h ≡ true → Waits q h) → (b || (not c && is_outstanding q h)) ≡ true → Waits q (n ∷ h)
waits_more q n h true c request taking rest e = record { since = []; ask = n; before = h; whole = refl; asks = request; is_last = refl }
waits_more q n h false true request taking rest e = absurd (false≢true e)
waits_more q n h false false request taking rest e = let w = rest e in record {
  since = n ∷ w.since;
  ask = w.ask;
  before = w.before;
  whole = ap (λ (l : Past). n ∷ l) w.whole;
  asks = w.asks;
  is_last = or_from (asks_or_takes q n) (list_any (asks_or_takes q) w.since) (or_from (is_request_at q n.entry.deed) (takes_reply_at q n.entry.deed) request taking) w.is_last;
}

waits : (q : ℕ) (h : Past) → is_outstanding q h ≡ true → Waits q h
waits q [] e = absurd (false≢true e)
waits q (n ∷ h) e = waits_more q n h (is_request_at q n.entry.deed) (takes_reply_at q n.entry.deed) refl refl (waits q h) e

-- a start by the key that names the point, and none by it after that one
record Serves (q : ℕ) (k : ActKey) (h : Past) : Type 0 where
  between : Past
  started : Noted
  waiting : Past
  is : h ≡ between ++ started ∷ waiting
  starts : made_by k started.entry.actor ≡ true
  names : start_names q started.entry.deed ≡ Some true
  same_activation : list_any (is_start_of k) between ≡ false

serves_more : (q : ℕ) (k : ActKey) (n : Noted) (h : Past) → is_start_of k n ≡ false → Serves q k h → Serves q k (n ∷ h)
serves_more q k n h other s = record {
  between = n ∷ s.between;
  started = s.started;
  waiting = s.waiting;
  is = ap (λ (l : Past). n ∷ l) s.is;
  starts = s.starts;
  names = s.names;
  same_activation = or_from (is_start_of k n) (list_any (is_start_of k) s.between) other s.same_activation;
}

module _ (q : ℕ) (k : ActKey) (ask : Noted) (before : Past) (asks : is_request_at q ask.entry.deed ≡ true) where
  serves_step : (n : Noted) (h : Past) → is_request_at q n.entry.deed ≡ false → (serves q k (h ++ ask ∷ before) ≡ true → Serves q k h) → serves q k (n ∷ (h ++ ask ∷ before)) ≡ true → Serves q k (n ∷ h)
  serves_step n h request rest e = by_key (made_by k n.entry.actor) refl
    where
      by_start : (o : Option Bool) → made_by k n.entry.actor ≡ true → start_names q n.entry.deed ≡ o → Serves q k (n ∷ h)
      by_start (Some true) made named = record { between = []; started = n; waiting = h; is = refl; starts = made; names = named; same_activation = refl }
      by_start (Some false) made named = absurd (false≢true (sym (serves_named q k n (h ++ ask ∷ before) (Some false) request made named) ∙ e))
      by_start None made named =
          serves_more q k n h (and_right (made_by k n.entry.actor) (is_some (event_started n.entry.deed)) (started_same q n.entry.deed ∙ ap is_some named))
          (rest (sym (serves_named q k n (h ++ ask ∷ before) None request made named) ∙ e))

      by_key : (b : Bool) → made_by k n.entry.actor ≡ b → Serves q k (n ∷ h)
      by_key true made = by_start (start_names q n.entry.deed) made refl
      by_key false made =
          serves_more q k n h (ap (λ b. b && is_some (event_started n.entry.deed)) made) (rest (sym (serves_other q k n (h ++ ask ∷ before) request made) ∙ e))

  serves_where : (h : Past) → list_any (asks_or_takes q) h ≡ false → serves q k (h ++ ask ∷ before) ≡ true → Serves q k h
  serves_where [] none e = clash (serves q k (ask ∷ before)) e (serves_not q k ask before asks)
  serves_where (n ∷ h) none e =
      let parts = or_parts (asks_or_takes q n) (list_any (asks_or_takes q) h) none in
      serves_step n h (or_parts (is_request_at q n.entry.deed) (takes_reply_at q n.entry.deed) parts.0).0 (serves_where h parts.1) e

-- a return by an activation that serves the point
record ReturnedBy (q : ℕ) (a : Actor) (d : Deed) (h : Past) (code : ℕ) (words : List ℤ) : Type 0 where
  key : ActKey
  value : Value
  by : a ≡ Act key
  returns : d ≡ deed.Return code value
  gives : words_of value ≡ words
  serving : serves q key h ≡ true

returned_by_where : (q : ℕ) (a : Actor) (d : Deed) (h : Past) (code : ℕ) (words : List ℤ) → returned_by q a d h ≡ Some (code, words) → ReturnedBy q a d h code words
returned_by_where q (Act k) (deed.Return c value) h code words e = by_serving (serves q k h) refl e
  where
    outcome : ℕ × List ℤ
    outcome = (c, words_of value)

    by_serving : (b : Bool) → serves q k h ≡ b → (if b then Some outcome else None) ≡ Some (code, words) → ReturnedBy q (Act k) (deed.Return c value) h code words
    by_serving true serving is =
        let parts = some_pair_parts c code (words_of value) words is in
        record { key = k; value = value; by = refl; returns = ap (λ b. deed.Return b value) parts.0; gives = parts.1; serving = serving }
    by_serving false serving is = absurd (none-some (code, words) is)
returned_by_where q a d h code words e = absurd (none-some (code, words) e)

record Returns (q code : ℕ) (words : List ℤ) (rest h : Past) : Type 0 where
  later : Past
  returned : Noted
  inside : Past
  is : h ≡ later ++ returned ∷ inside
  made : ReturnedBy q returned.entry.actor returned.entry.deed (inside ++ rest) code words

module _ (q code : ℕ) (words : List ℤ) (ask : Noted) (before : Past) (asks : is_request_at q ask.entry.deed ≡ true) where
  returned_step : (n : Noted) (h : Past) → is_request_at q n.entry.deed ≡ false → (returned_to q (h ++ ask ∷ before) ≡ Some (code, words) → Returns q code words (ask ∷ before) h)
      → returned_to q (n ∷ (h ++ ask ∷ before)) ≡ Some (code, words) → Returns q code words (ask ∷ before) (n ∷ h)
  returned_step n h request rest e = by_return (returned_by q n.entry.actor n.entry.deed (h ++ ask ∷ before)) refl
    where
      by_return : (r : Option (ℕ × List ℤ)) → returned_by q n.entry.actor n.entry.deed (h ++ ask ∷ before) ≡ r → Returns q code words (ask ∷ before) (n ∷ h)
      by_return None is = let r = rest (sym (returned_more q n (h ++ ask ∷ before) None request is) ∙ e) in
          record { later = n ∷ r.later; returned = r.returned; inside = r.inside; is = ap (λ (l : Past). n ∷ l) r.is; made = r.made }
      by_return (Some r) is =
          let same : Some r ≡ Some (code, words) = sym (returned_more q n (h ++ ask ∷ before) (Some r) request is) ∙ e in
          record { later = []; returned = n; inside = h; is = refl; made = returned_by_where q n.entry.actor n.entry.deed (h ++ ask ∷ before) code words (is ∙ same) }

  returned_where : (h : Past) → list_any (asks_or_takes q) h ≡ false → returned_to q (h ++ ask ∷ before) ≡ Some (code, words) → Returns q code words (ask ∷ before) h
  returned_where [] none e = absurd (none-some (code, words) (sym (nothing_yet asks) ∙ e))
    where
      nothing_yet : is_request_at q ask.entry.deed ≡ true → returned_to q (ask ∷ before) ≡ None
      nothing_yet request = rw request refl
  returned_where (n ∷ h) none e =
      let parts = or_parts (asks_or_takes q n) (list_any (asks_or_takes q) h) none in
      returned_step n h (or_parts (is_request_at q n.entry.deed) (takes_reply_at q n.entry.deed) parts.0).0 (returned_where h parts.1) e

-- what follows a part of a past
behind : (test : Noted → Bool) (later : Past) (n : Noted) (rest : Past) → list_any test (later ++ n ∷ rest) ≡ false → (list_any test later ≡ false) × (test n ≡ false) × (list_any test rest ≡ false)
behind test later n rest none =
    let two = or_parts (list_any test later) (list_any test (n ∷ rest)) (sym (list_any-append test later (n ∷ rest)) ∙ none) in
    let last = or_parts (test n) (list_any test rest) two.1 in (two.0, last.0, last.1)

pub answered : (q code : ℕ) (words : List ℤ) (h : Past) → answer_to q h ≡ Some (code, words) → IsAnswered q code words h
answered q code words h e = by_waiting (is_outstanding q h) refl e
  where
    by_waiting : (b : Bool) → is_outstanding q h ≡ b → (if b then returned_to q h else None) ≡ Some (code, words) → IsAnswered q code words h
    by_waiting false waiting is = absurd (none-some (code, words) is)
    by_waiting true waiting is =
        let w = waits q h waiting in
        let r = returned_where q code words w.ask w.before w.asks w.since w.is_last (subst (λ (l : Past). returned_to q l ≡ Some (code, words)) w.whole is) in
        let quiet = behind (asks_or_takes q) r.later r.returned r.inside (sym (ap (list_any (asks_or_takes q)) r.is) ∙ w.is_last) in
        let s = serves_where q r.made.key w.ask w.before w.asks r.inside quiet.2 r.made.serving in
        let since : w.since ≡ r.later ++ r.returned ∷ (s.between ++ s.started ∷ s.waiting) = r.is ∙ ap (λ (l : Past). r.later ++ r.returned ∷ l) s.is in
        record {
          later = r.later;
          returned = r.returned;
          between = s.between;
          started = s.started;
          waiting = s.waiting;
          ask = w.ask;
          before = w.before;
          whole = w.whole ∙ ap (λ (l : Past). l ++ w.ask ∷ w.before) since ∙ regrouped r.later r.returned s.between s.started s.waiting (w.ask ∷ w.before);
          asks = w.asks;
          is_last = sym (ap (list_any (asks_or_takes q)) since) ∙ w.is_last;
          key = r.made.key;
          starts = s.starts;
          names = s.names;
          same_activation = s.same_activation;
          value = r.made.value;
          by = r.made.by;
          returns = r.made.returns;
          gives = r.made.gives;
        }

-- ---- from the entries to the recursions

outstanding_since : (q : ℕ) (since : Past) (ask : Noted) (before : Past) → is_request_at q ask.entry.deed ≡ true → list_any (asks_or_takes q) since ≡ false → is_outstanding q (since ++ ask ∷ before) ≡ true
outstanding_since q [] ask before asks none = or_left (is_request_at q ask.entry.deed) (not (takes_reply_at q ask.entry.deed) && is_outstanding q before) asks
outstanding_since q (n ∷ since) ask before asks none =
    let parts = or_parts (asks_or_takes q n) (list_any (asks_or_takes q) since) none in
    let both = or_parts (is_request_at q n.entry.deed) (takes_reply_at q n.entry.deed) parts.0 in
    let rest : is_outstanding q (since ++ ask ∷ before) ≡ true = outstanding_since q since ask before asks parts.1 in
    λ i. both.0 i || (not (both.1 i) && rest i)

serves_since : (q : ℕ) (k : ActKey) (between h : Past) → list_any (asks_or_takes q) between ≡ false → list_any (is_start_of k) between ≡ false → serves q k h ≡ true → serves q k (between ++ h) ≡ true
serves_since q k [] h none alone e = e
serves_since q k (n ∷ between) h none alone e = by_key (made_by k n.entry.actor) refl (serves_since q k between h quiet.1 apart.1 e)
  where
    quiet : (asks_or_takes q n ≡ false) × (list_any (asks_or_takes q) between ≡ false)
    quiet = or_parts (asks_or_takes q n) (list_any (asks_or_takes q) between) none

    apart : (is_start_of k n ≡ false) × (list_any (is_start_of k) between ≡ false)
    apart = or_parts (is_start_of k n) (list_any (is_start_of k) between) alone

    request : is_request_at q n.entry.deed ≡ false
    request = (or_parts (is_request_at q n.entry.deed) (takes_reply_at q n.entry.deed) quiet.0).0

    by_start : (o : Option Bool) → made_by k n.entry.actor ≡ true → start_names q n.entry.deed ≡ o → serves q k (between ++ h) ≡ true → serves q k (n ∷ (between ++ h)) ≡ true
    by_start None made named rest = serves_named q k n (between ++ h) None request made named ∙ rest
    by_start (Some b) made named rest =
        absurd (false≢true (sym apart.0 ∙ ap (λ (c : Bool). c && is_some (event_started n.entry.deed)) made ∙ started_same q n.entry.deed ∙ ap is_some named))

    by_key : (b : Bool) → made_by k n.entry.actor ≡ b → serves q k (between ++ h) ≡ true → serves q k (n ∷ (between ++ h)) ≡ true
    by_key false made rest = serves_other q k n (between ++ h) request made ∙ rest
    by_key true made rest = by_start (start_names q n.entry.deed) made refl rest

returned_since : (q : ℕ) (later h : Past) → list_any (asks_or_takes q) later ≡ false → is_some (returned_to q h) ≡ true → is_some (returned_to q (later ++ h)) ≡ true
returned_since q [] h none e = e
returned_since q (n ∷ later) h none e = by_return (returned_by q n.entry.actor n.entry.deed (later ++ h)) refl (returned_since q later h quiet.1 e)
  where
    quiet : (asks_or_takes q n ≡ false) × (list_any (asks_or_takes q) later ≡ false)
    quiet = or_parts (asks_or_takes q n) (list_any (asks_or_takes q) later) none

    request : is_request_at q n.entry.deed ≡ false
    request = (or_parts (is_request_at q n.entry.deed) (takes_reply_at q n.entry.deed) quiet.0).0

    by_return : (r : Option (ℕ × List ℤ)) → returned_by q n.entry.actor n.entry.deed (later ++ h) ≡ r → is_some (returned_to q (later ++ h)) ≡ true → is_some (returned_to q (n ∷ (later ++ h))) ≡ true
    by_return None is rest = ap is_some (returned_more q n (later ++ h) None request is) ∙ rest
    by_return (Some r) is rest = ap is_some (returned_more q n (later ++ h) (Some r) request is)

returned_now : (q : ℕ) (k : ActKey) (code : ℕ) (value : Value) (n : Noted) (h : Past) → n.entry.actor ≡ Act k → n.entry.deed ≡ deed.Return code value → serves q k h ≡ true → is_some (returned_to q (n ∷ h)) ≡ true
returned_now q k code value n h by returns serving =
    let is : returned_by q n.entry.actor n.entry.deed h ≡ Some (code, words_of value) =
    (λ i. returned_by q (by i) (returns i) h) ∙ ap (λ b. if b then Some (code, words_of value) else None) serving in
    let request : is_request_at q n.entry.deed ≡ false = ap (is_request_at q) returns in
    ap is_some (returned_more q n h (Some (code, words_of value)) request is)

pub some_answer : (q code : ℕ) (words : List ℤ) (h : Past) → IsAnswered q code words h → is_some (answer_to q h) ≡ true
some_answer q code words h a =
    let rest = a.waiting ++ a.ask ∷ a.before in
    let quiet = behind (asks_or_takes q) a.later a.returned (a.between ++ a.started ∷ a.waiting) a.is_last in
    let within = behind (asks_or_takes q) a.between a.started a.waiting quiet.2 in
    let request = (or_parts (is_request_at q a.started.entry.deed) (takes_reply_at q a.started.entry.deed) within.1).0 in
    let serving : serves q a.key (a.between ++ a.started ∷ rest) ≡ true =
    serves_since q a.key a.between (a.started ∷ rest) within.0 a.same_activation (serves_named q a.key a.started rest (Some true) request a.starts a.names) in
    let returned : is_some (returned_to q (a.later ++ a.returned ∷ (a.between ++ a.started ∷ rest))) ≡ true =
    returned_since q a.later (a.returned ∷ (a.between ++ a.started ∷ rest)) quiet.0 (returned_now q a.key code a.value a.returned (a.between ++ a.started ∷ rest) a.by a.returns serving) in
    let outstanding : is_outstanding q (a.later ++ a.returned ∷ (a.between ++ a.started ∷ rest)) ≡ true =
    subst (λ (l : Past). is_outstanding q l ≡ true) (regrouped a.later a.returned a.between a.started a.waiting (a.ask ∷ a.before))
    (outstanding_since q (a.later ++ a.returned ∷ (a.between ++ a.started ∷ a.waiting)) a.ask a.before a.asks a.is_last) in
    subst (λ (l : Past). is_some (answer_to q l) ≡ true) (sym a.whole)
    (ap (λ b. is_some (if b then returned_to q (a.later ++ a.returned ∷ (a.between ++ a.started ∷ rest)) else None)) outstanding ∙ returned)

pub unanswered : (q code : ℕ) (words : List ℤ) (h : Past) → answer_to q h ≡ None → IsAnswered q code words h → ⊥
unanswered q code words h none a = clash (is_some (answer_to q h)) (some_answer q code words h a) (ap is_some none)

-- ---- results

result_unjoined : (p : Plan) (q : ℕ) (h : Past) → server_of p q ≡ None → result_of p q h ≡ (134, [])
result_unjoined p q h unjoined = rw unjoined refl

result_missing : (p : Plan) (q s : ℕ) (h : Past) → server_of p q ≡ Some s → answer_to q h ≡ None → result_of p q h ≡ (131, [])
result_missing p q s h joined none = rw (joined, none) refl

result_there : (p : Plan) (q s : ℕ) (h : Past) (r : ℕ × List ℤ) → server_of p q ≡ Some s → answer_to q h ≡ Some r → result_of p q h ≡ r
result_there p q s h r joined some = rw (joined, some) refl

pub no_data : (p : Plan) (q s : ℕ) (h : Past) → server_of p q ≡ Some s → ((code : ℕ) (words : List ℤ) → IsAnswered q code words h → ⊥) → result_of p q h ≡ (131, [])
no_data p q s h joined never = by_answer (answer_to q h) refl
  where
    by_answer : (r : Option (ℕ × List ℤ)) → answer_to q h ≡ r → result_of p q h ≡ (131, [])
    by_answer None is = result_missing p q s h joined is
    by_answer (Some r) is = absurd (never r.0 r.1 (answered q r.0 r.1 h is))

-- a code that fits is below 64
returned_below : (p : Plan) (n : Noted) (k : ActKey) (code : ℕ) (value : Value) → n.entry.actor ≡ Act k → n.entry.deed ≡ deed.Return code value → is_proper p n ≡ true → code < 64
returned_below p n k code value by returns proper =
    let fit : fits p n.entry ≡ true = (and_parts (fits p n.entry) (starts_its_own p n.entry.actor n.entry.deed) proper).0 in
    let here : fits p (record { actor = Act k; deed = deed.Return code value }) ≡ true = sym (λ i. fits p (record { actor = by i; deed = returns i })) ∙ fit in
    let wish : wish_fits p (Act k) (to_return code (words_of value)) ≡ true = (and_parts (wish_fits p (Act k) (to_return code (words_of value))) true here).0 in
    ltb-true code 64 (and_parts (key_fits p k) (activation_may_want p k (instance_of p k.runnable) (to_return code (words_of value))) wish).1

pub only_then : (p : Plan) (q code : ℕ) (words : List ℤ) (h : History) → IsLegal p h → (result_of p q (noted h)).0 ≡ 131 → IsAnswered q code words (noted h) → ⊥
only_then p q code words h legal is a = by_server (server_of p q) refl
  where
    -- the answer is that of a return, whose code is not 131
    other : (r : ℕ × List ℤ) → answer_to q (noted h) ≡ Some r → r.0 ≡ 131 → ⊥
    other r some same =
        let b = answered q r.0 r.1 (noted h) some in
        let fine : list_all (is_proper p) (b.later ++ b.returned ∷ (b.between ++ b.started ∷ (b.waiting ++ b.ask ∷ b.before))) ≡ true =
        subst (λ (l : Past). list_all (is_proper p) l ≡ true) b.whole (proper_legal p h legal) in
        let back = (and_parts (list_all (is_proper p) b.later) _ (sym (list_all-append (is_proper p) b.later (b.returned ∷ (b.between ++ b.started ∷ (b.waiting ++ b.ask ∷ b.before)))) ∙ fine)).1 in
        let proper : is_proper p b.returned ≡ true = (and_parts (is_proper p b.returned) _ back).0 in
        omega (arith, same, returned_below p b.returned b.key r.0 b.value b.by b.returns proper)

    by_answer : (s : ℕ) → server_of p q ≡ Some s → (r : Option (ℕ × List ℤ)) → answer_to q (noted h) ≡ r → ⊥
    by_answer s joined None none = unanswered q code words (noted h) none a
    by_answer s joined (Some r) some = other r some (ap (λ (o : ℕ × List ℤ). o.0) (sym (result_there p q s (noted h) r joined some)) ∙ is)

    by_server : (o : Option ℕ) → server_of p q ≡ o → ⊥
    by_server None unjoined = absurd (omega (arith, ap (λ (o : ℕ × List ℤ). o.0) (result_unjoined p q (noted h) unjoined), is))
    by_server (Some s) joined = by_answer s joined (answer_to q (noted h)) refl
