-- Of a wish that touches no object one entry alone may come.
use Rattle.std.proofs.Common.{◌≡◌, ℕ, ℤ, true, ◌==◌, refl, sym, ◌∙◌, ap, subst, List, [], Option, Some, None}
use Rattle.std.specs.Prelude.{◌+◌, option_map}
use Rattle.bus_semantics.specs.Common.{and_from, and_parts, eq-eqb, eqb-true, false≢true, Value, words_of, same_words, Value-by_words, same_words-Decides, Plan, server_of, Wanted, to_ask}
use Rattle.bus_semantics.specs.Common.{to_take_result, to_end, wanted_by, Past, object_of, first_server, ask_code, result_of, is_outcome, calls_allow, Answers}
use Rattle.bus_laws.specs.Common.{Actor, Deed}
use Rattle.bus_semantics.specs.declared.entries.Deed.TheVariants as deed
use Rattle.port_objects.specs.Freed.{is_free, IsUnconnected}

-- ---- the deeds of such wishes

an_end : (by e : ℕ) (d : Deed) → wanted_by by d ≡ to_end e → d ≡ deed.End
an_end by e deed.End same = refl
an_end by e d same = absurd (cc same)

record AnAsk (q : ℕ) (ws : List ℤ) (d : Deed) : Type 0 where
  value : Value
  code : ℕ
  is : d ≡ deed.Ask q value code
  words : words_of value ≡ ws

an_ask : (by q : ℕ) (ws : List ℤ) (d : Deed) → wanted_by by d ≡ to_ask q ws → AnAsk q ws d
an_ask by q ws (deed.Ask r value code) same = let at : r ≡ q = cc in record { value = value; code = code; is = ap (λ z. deed.Ask z value code) at; words = cc }
an_ask by q ws d same = absurd (cc same)

record ATaking (q : ℕ) (d : Deed) : Type 0 where
  code : ℕ
  value : Value
  is : d ≡ deed.TakeResult q code value

a_taking : (by q : ℕ) (d : Deed) → wanted_by by d ≡ to_take_result q → ATaking q d
a_taking by q (deed.TakeResult r code value) same = let at : r ≡ q = cc in record { code = code; value = value; is = ap (λ z. deed.TakeResult z code value) at }
a_taking by q d same = absurd (cc same)

-- ---- what is answered at a point that is not joined

unjoined : (p : Plan) (o : Option ℕ) → option_map (λ n. first_server p + n) o ≡ None → o ≡ None
unjoined p None none = refl
unjoined p (Some s) none = absurd (cc none)

code_there : (p : Plan) (q : ℕ) (h : Past) → server_of p q ≡ None → ask_code p q h ≡ 134
code_there p q h none = rw none refl

result_there : (p : Plan) (q : ℕ) (h : Past) → server_of p q ≡ None → result_of p q h ≡ (134, [])
result_there p q h none = rw none refl

module _ (p : Plan) (a : Actor) (h : Past) (d c : Deed) (allowed : calls_allow p h a c ≡ true) where
  pub one_free : (w : Wanted) (first by : ℕ) → object_of p a w ≡ None → is_free w ≡ true → wanted_by first d ≡ w → IsUnconnected d → wanted_by by c ≡ w → c ≡ d
  one_free (to_end e) first by alone free wish codes other = an_end by e c other ∙ sym (an_end first e d wish)
  one_free (to_ask q ws) first by alone free wish codes other =
      let here = an_ask first q ws d wish in
      let there = an_ask by q ws c other in
      let none : server_of p q ≡ None = unjoined p (server_of p q) alone in
      let code : here.code ≡ 134 = subst IsUnconnected here.is codes in
      let same : there.code ≡ ask_code p q h = eqb-true there.code (ask_code p q h) (subst (λ z. calls_allow p h a z ≡ true) there.is allowed) in
      let as_code : there.code ≡ here.code = same ∙ code_there p q h none ∙ sym code in
      let value : there.value ≡ here.value = Value-by_words there.value here.value (there.words ∙ sym here.words) in
      there.is ∙ (λ i. deed.Ask q (value i) (as_code i)) ∙ sym here.is
  one_free (to_take_result q) first by alone free wish codes other =
      let here = a_taking first q d wish in
      let there = a_taking by q c other in
      let none : server_of p q ≡ None = unjoined p (server_of p q) alone in
      let given : (here.code ≡ 134) × (words_of here.value ≡ []) = subst IsUnconnected here.is codes in
      let outcome : is_outcome there.code (words_of there.value) (134, []) ≡ true =
      subst (λ o. is_outcome there.code (words_of there.value) o ≡ true) (result_there p q h none) (subst (λ z. calls_allow p h a z ≡ true) there.is allowed) in
      let parts = and_parts (there.code == 134) (same_words (words_of there.value) []) outcome in
      let as_code : there.code ≡ here.code = eqb-true there.code 134 parts.0 ∙ sym given.0 in
      let value : there.value ≡ here.value = Value-by_words there.value here.value ((same_words-Decides (words_of there.value) []).0 parts.1 ∙ sym given.1) in
      there.is ∙ (λ i. deed.TakeResult q (as_code i) (value i)) ∙ sym here.is
  one_free w first by alone free wish codes other = absurd (false≢true free)

-- ---- it may come

module _ (p : Plan) (a : Actor) (h : Past) where
  pub free_answers : (d : Deed) (by : ℕ) → is_free (wanted_by by d) ≡ true → object_of p a (wanted_by by d) ≡ None → IsUnconnected d
      → Answers p h (record { entry = record { actor = a; deed = d }; event = None })
  free_answers deed.End by free alone codes = record { unqueued = refl; queued = refl; calls = refl; areas = refl; modes = refl; admission = refl; due = refl }
  free_answers (deed.Ask q value code) by free alone codes =
      let none : server_of p q ≡ None = unjoined p (server_of p q) alone in
      let answer : (code == ask_code p q h) ≡ true = eq-eqb code (ask_code p q h) (codes ∙ sym (code_there p q h none)) in
      record { unqueued = refl; queued = refl; calls = answer; areas = refl; modes = refl; admission = refl; due = refl }
  free_answers (deed.TakeResult q code value) by free alone codes =
      let none : server_of p q ≡ None = unjoined p (server_of p q) alone in
      let outcome : is_outcome code (words_of value) (134, []) ≡ true =
      and_from (code == 134) (same_words (words_of value) []) (eq-eqb code 134 codes.0) ((same_words-Decides (words_of value) []).1 codes.1) in
      let answer : is_outcome code (words_of value) (result_of p q h) ≡ true = subst (λ o. is_outcome code (words_of value) o ≡ true) (sym (result_there p q h none)) outcome in
      record { unqueued = refl; queued = refl; calls = answer; areas = refl; modes = refl; admission = refl; due = refl }
  free_answers d by free alone codes = absurd (false≢true free)
