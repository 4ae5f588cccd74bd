-- What a server answers by what it keeps is what the definitions say of its past.
use Rattle.std.proofs.Common.{◌≡◌, ◌+◌, ℕ, ℤ, Bool, true, false, ◌&&◌, ◌||◌, ◌==◌, not, if◌then◌else◌, refl, sym, ◌∙◌, ap, subst, arith, List, ◌∷◌, length, Option, Some, None}
use Rattle.std.specs.Prelude.{option_map, nat_lt, nat_le}
use Rattle.bus_semantics.specs.Common.{slice_get, eq-eqb, nat_tests, length-map, ActKey, Value, words_of, same_words, same_words-Decides, Plan, server_of, queue_of, Past, is_outstanding}
use Rattle.bus_semantics.specs.Common.{answer_to, result_of, counts_with, requests_of, starts_of, is_queue_full, ask_code, next_request, is_request, is_key_point, starts_request}
use Rattle.bus_semantics.specs.Common.{has_unstarted}
use Rattle.bus_semantics.specs.declared.entries.Actor.{Actor}
use Rattle.bus_semantics.specs.declared.entries.Actor.TheVariants.{Act}
use Rattle.bus_semantics.specs.Legal as legal
use Rattle.client_server.specs.declared.point.Outcome.{Outcome}
use Rattle.client_server.specs.Kept as calls
use Rattle.client_server.specs.Points.{is_idle, outcome_in}
use Rattle.server_objects.specs.Kept.{Kept}
use Rattle.server_objects.specs.Layout.{server_in, is_joined_to}
use Rattle.server_objects.specs.Leading.{is_outcome, is_result}
use Rattle.server_objects.specs.Standing.{told, RequestsStand, QueueStands, CallsStand, Keeps, request_at}
use Rattle.server_objects.proofs.Keeping as keeping
use Rattle.server_objects.proofs.Requests.{left_first}

-- ---- which requests count with those of a point

pub counts_queued : (p : Plan) (q s most : ℕ) → server_of p q ≡ Some s → queue_of p s ≡ Some most → counts_with p q ≡ is_joined_to p s
counts_queued p q s most joined queue = λ i. λ r. each r i
  where
    each : (r : ℕ) → counts_with p q r ≡ is_joined_to p s r
    each r = rw (joined, queue) refl

pub counts_direct : (p : Plan) (q s : ℕ) → server_of p q ≡ Some s → queue_of p s ≡ None → counts_with p q ≡ (λ r. q == r)
counts_direct p q s joined queue = λ i. λ r. each r i
  where
    each : (r : ℕ) → counts_with p q r ≡ (q == r)
    each r = rw (joined, queue) refl

-- ---- the answer to an Ask

full_is : (n w most : ℕ) → nat_le (n + most) (n + w) ≡ not (nat_lt w most)
full_is n w most = by_test (nat_lt w most) refl
  where
    by_test : (b : Bool) → nat_lt w most ≡ b → nat_le (n + most) (n + w) ≡ not b
    by_test true less = grind (arith, nat_tests)
    by_test false less = grind (arith, nat_tests)

abbrev limit_where : Bool → ℕ
limit_where b = if b then 130 else 0

code_is : (idle place : Bool) → limit_where (not idle || not place) ≡ limit_where (not (idle && place))
code_is true true = refl
code_is true false = refl
code_is false true = refl
code_is false false = refl

other_code : (b : Bool) → limit_where (not b) ≡ (if b then 0 else 130)
other_code true = refl
other_code false = refl

module _ (p : Plan) (object : ℕ) (k : Kept) (l : Past) (keeps : Keeps p object k l) where
  abbrev s : ℕ
  s = server_in p object

  full_same : (q : ℕ) → server_of p q ≡ Some s → is_queue_full p q s l ≡ not (calls.has_place k.served)
  full_same q joined = by_queue k.served.queue refl
    where
      by_queue : (o : Option ℕ) → k.served.queue ≡ o → is_queue_full p q s l ≡ not (calls.has_place k.served)
      by_queue None is =
          let none : queue_of p s ≡ None = sym keeps.queue ∙ is in
          let at : is_queue_full p q s l ≡ false = rw none refl in
          at ∙ sym (rw is refl)
      by_queue (Some most) is =
          let long : queue_of p s ≡ Some most = sym keeps.queue ∙ is in
          let stands : QueueStands p s k.points k.served l = subst (λ o. CallsStand o p s k.points k.served l) is keeps.calls_stand in
          let at : is_queue_full p q s l ≡ nat_le (starts_of (counts_with p q) l + most) (length (requests_of (counts_with p q) l)) = rw long refl in
          let many : length (requests_of (is_joined_to p s) l) ≡ starts_of (is_joined_to p s) l + length k.served.waiting =
          stands.requests.many ∙ ap (λ n. starts_of (is_joined_to p s) l + n) (length-map k.served.waiting (request_at k.points k.served)) in
          at
          ∙ ap (λ c. nat_le (starts_of c l + most) (length (requests_of c l))) (counts_queued p q s most joined long)
          ∙ ap (λ n. nat_le (starts_of (is_joined_to p s) l + most) n) many
          ∙ full_is (starts_of (is_joined_to p s) l) (length k.served.waiting) most
          ∙ sym (rw is refl)

  pub ask_same : (i q : ℕ) → slice_get k.points i ≡ Some q → ask_code p q l ≡ calls.answer_to_ask i k.served
  ask_same i q there =
      let joined = keeping.joined p object k l keeps i q there in
      let at : ask_code p q l ≡ limit_where (is_outstanding q l || is_queue_full p q s l) = rw joined refl in
      at
      ∙ (λ t. limit_where ((keeps.each i q there).outstanding t || full_same q joined t))
      ∙ code_is (is_idle (calls.point_at i k.served).stage) (calls.has_place k.served)
      ∙ other_code (calls.accepts i k.served)

  -- ---- what is heard

  outcome_is : (code : ℕ) (value : Value) (o : Option Outcome) → is_outcome code value o ≡ legal.is_some_outcome code (words_of value) (option_map told o)
  outcome_is code value None = refl
  outcome_is code value (Some o) = refl

  pub hear_same : (i q code : ℕ) (value : Value) → slice_get k.points i ≡ Some q → is_outcome code value (outcome_in (calls.point_at i k.served).stage) ≡ legal.is_some_outcome code (words_of value) (answer_to q l)
  hear_same i q code value there =
      outcome_is code value (outcome_in (calls.point_at i k.served).stage) ∙ ap (legal.is_some_outcome code (words_of value)) (sym (keeps.each i q there).answer)

  result_is : (q code : ℕ) (value : Value) (o : Option Outcome) → server_of p q ≡ Some s → answer_to q l ≡ option_map told o → is_result code value o ≡ legal.is_outcome code (words_of value) (result_of p q l)
  result_is q code value None joined answer = rw (joined, answer) refl
  result_is q code value (Some o) joined answer = rw (joined, answer) refl

  pub result_same : (i q code : ℕ) (value : Value) → slice_get k.points i ≡ Some q → is_result code value (outcome_in (calls.point_at i k.served).stage) ≡ legal.is_outcome code (words_of value) (result_of p q l)
  result_same i q code value there = result_is q code value (outcome_in (calls.point_at i k.served).stage) (keeping.joined p object k l keeps i q there) (keeps.each i q there).answer

-- ---- a start of a server

pub plain_point : (key : ActKey) (q : ℕ) → key.point ≡ None → is_key_point (Act key) q ≡ true
plain_point key q none = rw none refl

pub other_words : (v w : Value) → same_words (words_of v) (words_of w) ≡ true → same_words (words_of w) (words_of v) ≡ true
other_words v w same = (same_words-Decides (words_of w) (words_of v)).1 (sym ((same_words-Decides (words_of v) (words_of w)).0 same))

module _ (counts : ℕ → Bool) (key : ActKey) (q : ℕ) (v : Value) (more : List (ℕ × List ℤ)) (served : Option ℕ) (l : Past) (stands : RequestsStand counts key ((q, words_of v) ∷ more) served l) where
  pub next_is : slice_get (requests_of counts l) (starts_of counts l) ≡ Some (q, words_of v)
  next_is = left_first (starts_of counts l) (requests_of counts l) (q, words_of v) more stands.rest

  pub there_is : has_unstarted counts l ≡ true
  there_is = let many = stands.many in grind (arith, nat_tests)

  pub request_allowed : (p : Plan) (a : Actor) (value : Value) → counts_with p q ≡ counts → is_key_point a q ≡ true → same_words (words_of value) (words_of v) ≡ true → starts_request p a (Some q) (words_of value) l ≡ true
  request_allowed p a value same own words =
      let next : next_request p q l ≡ Some (q, words_of v) = ap (λ c. slice_get (requests_of c l) (starts_of c l)) same ∙ next_is in
      let request : is_request q (words_of value) (next_request p q l) ≡ true = ap (is_request q (words_of value)) next ∙ (λ t. eq-eqb q q refl t && other_words value v words t) in
      λ t. own t && request t
