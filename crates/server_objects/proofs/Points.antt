-- A point: what each entry makes of it.
use Rattle.std.proofs.Common.{◌≡◌, ℕ, ℤ, zero, Bool, true, false, ◌&&◌, ◌||◌, ◌==◌, not, if◌then◌else◌, refl, sym, ◌∙◌, ap, List, ◌∷◌, Option, Some, None, is_some}
use Rattle.std.specs.Prelude.{option_map, nat_lt}
use Rattle.bus_semantics.specs.Common.{option_or, eq-eqb, false≢true, same_Some, ActKey, Value, words_of, Plan, Noted, Past, is_request_at, takes_reply_at, is_outstanding, returned_by}
use Rattle.bus_semantics.specs.Common.{returned_to, serves, follows_last, returns_to, is_start_by_return_of}
use Rattle.bus_semantics.specs.declared.entries.Actor.{Actor}
use Rattle.bus_semantics.specs.declared.entries.Actor.TheVariants.{Env, Machine, Act}
use Rattle.bus_semantics.specs.declared.entries.Deed.{Deed}
use Rattle.bus_semantics.specs.declared.entries.Deed.TheVariants as deed
use Rattle.client_server.specs.declared.point.Outcome.{Outcome}
use Rattle.client_server.specs.declared.point.Point.{Point}
use Rattle.client_server.specs.declared.point.Stage.{Stage}
use Rattle.client_server.specs.declared.point.Stage.TheVariants.{Idle, Asked, Started, Returned}
use Rattle.client_server.specs.Points.{is_idle, is_started, outcome_in, value_asked}
use Rattle.object_kinds.proofs.Proper.{noting}
use Rattle.server_objects.specs.Standing.{words_asked, last_asked, told, is_returnable, PointStands}

-- ---- stages

pub idle_is : (s : Stage) → is_idle s ≡ true → s ≡ Idle
idle_is Idle e = refl
idle_is (Asked v) e = absurd (false≢true e)
idle_is Started e = absurd (false≢true e)
idle_is (Returned o) e = absurd (false≢true e)

pub started_is : (s : Stage) → is_started s ≡ true → s ≡ Started
started_is Idle e = absurd (false≢true e)
started_is (Asked v) e = absurd (false≢true e)
started_is Started e = refl
started_is (Returned o) e = absurd (false≢true e)

pub asked_is : (s : Stage) (v : Value) → value_asked s ≡ Some v → s ≡ Asked v
asked_is Idle v e = absurd (cc e)
asked_is (Asked w) v e = ap Asked (same_Some w v e)
asked_is Started v e = absurd (cc e)
asked_is (Returned o) v e = absurd (cc e)

pub returned_is : (s : Stage) (o : Outcome) → outcome_in s ≡ Some o → s ≡ Returned o
returned_is Idle o e = absurd (cc e)
returned_is (Asked v) o e = absurd (cc e)
returned_is Started o e = absurd (cc e)
returned_is (Returned r) o e = ap Returned (same_Some r o e)

-- ---- who returns

abbrev pub is_return : Deed → Bool
is_return (deed.Return code value) = true
is_return _ = false

pub returns_none : (q : ℕ) (a : Actor) (d : Deed) (l : Past) → is_return d ≡ false → returned_by q a d l ≡ None
returns_none q Env d l other = refl
returns_none q (Machine m) d l other = refl
returns_none q (Act k) (deed.Return code value) l other = absurd (false≢true (sym other))
returns_none q (Act k) d l other = refl

module _ (p : Plan) (q : ℕ) (t : Point) (l : Past) (before : PointStands p q t l) where
  -- an entry that neither asks nor takes nor returns nor starts for the point
  pub unmoved : (n : Noted) → is_request_at q n.entry.deed ≡ false → takes_reply_at q n.entry.deed ≡ false → words_asked q n.entry.deed ≡ None → returned_by q n.entry.actor n.entry.deed l ≡ None → is_start_by_return_of p q n ≡ false
      → PointStands p q t (n ∷ l)
  unmoved n asks takes words returns starts =
      let same : is_outstanding q (n ∷ l) ≡ is_outstanding q l = λ i. asks i || (not (takes i) && is_outstanding q l) in
      let back : returned_to q (n ∷ l) ≡ returned_to q l = rw (asks, returns) refl in
      record {
        outstanding = same ∙ before.outstanding;
        request = λ v is. (λ i. option_or (words i) (last_asked q l)) ∙ before.request v is;
        answer = (λ i. if same i then back i else None) ∙ before.answer;
        code = before.code;
        due = (λ i. not (starts i) && (is_some (returns i) || follows_last (is_start_by_return_of p q) (returns_to q) l)) ∙ before.due;
      }

  -- its stage goes on without a request and without an outcome
  pub restaged : (s : Stage) → is_idle s ≡ is_idle t.stage → value_asked s ≡ None → outcome_in s ≡ outcome_in t.stage → PointStands p q (record { stage = s; due = t.due }) l
  restaged s idle asked outcome = record {
    outstanding = before.outstanding ∙ ap not (sym idle);
    request = λ v is. absurd (cc (sym asked ∙ is));
    answer = before.answer ∙ ap (option_map told) (sym outcome);
    code = ap is_returnable outcome ∙ before.code;
    due = before.due;
  }

  -- a request of its own
  pub requested : (a : Actor) (event : Option ℕ) (value : Value) → PointStands p q (record { stage = Asked value; due = t.due }) (noting a (deed.Ask q value zero) event ∷ l)
  requested a event value =
      let own : (q == q) ≡ true = eq-eqb q q refl in
      let none : returned_by q a (deed.Ask q value zero) l ≡ None = returns_none q a (deed.Ask q value zero) l refl in
      record {
        outstanding = λ i. own i || (not false && is_outstanding q l);
        request = λ v is. (λ i. option_or (if own i then Some (words_of value) else None) (last_asked q l)) ∙ ap (λ w. Some (words_of w)) (same_Some value v is);
        answer = rw own refl;
        code = refl;
        due = (λ i. is_some (none i) || follows_last (is_start_by_return_of p q) (returns_to q) l) ∙ before.due;
      }

  -- an answer is taken
  pub answered : (n : Noted) → is_request_at q n.entry.deed ≡ false → takes_reply_at q n.entry.deed ≡ true → is_return n.entry.deed ≡ false → is_start_by_return_of p q n ≡ false → PointStands p q (record { stage = Idle; due = t.due }) (n ∷ l)
  answered n asks takes other starts =
      let gone : is_outstanding q (n ∷ l) ≡ false = λ i. asks i || (not (takes i) && is_outstanding q l) in
      let none : returned_by q n.entry.actor n.entry.deed l ≡ None = returns_none q n.entry.actor n.entry.deed l other in
      record {
        outstanding = gone;
        request = λ v is. absurd (cc is);
        answer = λ i. if gone i then returned_to q (n ∷ l) else None;
        code = refl;
        due = (λ i. not (starts i) && (is_some (none i) || follows_last (is_start_by_return_of p q) (returns_to q) l)) ∙ before.due;
      }

  -- the Return of its own request
  pub returned : (key : ActKey) (event : Option ℕ) (code : ℕ) (value : Value) → is_started t.stage ≡ true → serves q key l ≡ true → nat_lt code 64 ≡ true
      → PointStands p q (record { stage = Returned (record { code = code; value = value }); due = true }) (noting (Act key) (deed.Return code value) event ∷ l)
  returned key event code value started own few =
      let busy : is_idle t.stage ≡ false = ap is_idle (started_is t.stage started) in
      let still : is_outstanding q l ≡ true = before.outstanding ∙ ap not busy in
      record {
        outstanding = still;
        request = λ v is. absurd (cc is);
        answer = rw (still, own) refl;
        code = few;
        due = λ i. is_some {T = ℕ × List ℤ} (if own i then Some (code, words_of value) else None) || follows_last (is_start_by_return_of p q) (returns_to q) l;
      }

  -- a start by one of its return events
  pub return_started : (a : Actor) (event : Option ℕ) (e : ℕ) (point : Option ℕ) (value : Value) → is_start_by_return_of p q (noting a (deed.Start e point value) event) ≡ true
      → PointStands p q (record { stage = t.stage; due = false }) (noting a (deed.Start e point value) event ∷ l)
  return_started a event e point value own =
      let none : returned_by q a (deed.Start e point value) l ≡ None = returns_none q a (deed.Start e point value) l refl in
      let back : returned_to q (noting a (deed.Start e point value) event ∷ l) ≡ returned_to q l = rw none refl in
      record {
        outstanding = before.outstanding;
        request = before.request;
        answer = (λ i. if is_outstanding q l then back i else None) ∙ before.answer;
        code = before.code;
        due = λ i. not (own i) && (returns_to q (noting a (deed.Start e point value) event) l || follows_last (is_start_by_return_of p q) (returns_to q) l);
      }
