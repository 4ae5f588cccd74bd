-- Which clause a start breaks: calls, if another start by the event may come or it names another point than its key's; else it is not due.
use Rattle.std.proofs.Common.{◌≡◌, ℕ, ◌≤◌, Bool, true, false, ◌&&◌, not, if◌then◌else◌, refl, sym, ◌∙◌, ap, subst, arith, [], ◌∷◌, length, Option, Some, None}
use Rattle.bus_semantics.specs.Common.{nat_tests, slice_get, eqb-true, false≢true, same_Some, slice_get_past, ActKey, Value, words_of, same_number, Plan, kind_of, server_of}
use Rattle.bus_semantics.specs.Common.{runnable_of_event, Past, Noted, key_fits, start_fits, requests_of, starts_of, counts_with, next_request, is_request, is_key_point, starts_request}
use Rattle.bus_semantics.specs.Common.{has_unstarted, counts_for, is_due_kind, is_due, Answers, broken_answer, first_false, IsSound}
use Rattle.bus_laws.specs.Common.{EventKind, Timing, Init, DataReceived, Invoked, Returns, ModeSwitch, Ack, Act, Mapping}
use Rattle.bus_semantics.specs.declared.entries.Deed.TheVariants as deed
use Rattle.history_laws.proofs.Requests.{serving, counts_same}
use Rattle.trace_objects.specs.Clauses.{names_foreign}

module _ (p : Plan) (h : Past) (k : ActKey) (e : ℕ) (point : Option ℕ) (value : Value) where
  abbrev pub start : Noted
  start = record { entry = record { actor = Act k; deed = deed.Start e point value }; event = None }

  broken : (calls due : Bool) → starts_request p (Act k) point (words_of value) h ≡ calls → is_due p (Act k) e h ≡ due → broken_answer p h start ≡ (if calls then (if due then None else Some 13) else Some 9)
  broken calls due asked is = λ i. first_false ((7, true) ∷ (8, true) ∷ (9, asked i) ∷ (10, true) ∷ (11, true) ∷ (12, true) ∷ (13, is i) ∷ [])

  -- where it is due, it names another request
  pub breaks_calls : is_due p (Act k) e h ≡ true → (Answers p h start → ⊥) → broken_answer p h start ≡ Some 9
  breaks_calls due denied = of_test (starts_request p (Act k) point (words_of value) h) refl
    where
      of_test : (b : Bool) → starts_request p (Act k) point (words_of value) h ≡ b → broken_answer p h start ≡ Some 9
      of_test true is = absurd (denied (record { unqueued = refl; queued = refl; calls = is; areas = refl; modes = refl; admission = refl; due = due }))
      of_test false is = broken false true is due

  -- ---- where it is not

  module _ (m : Mapping) (sound : IsSound p m) (fit : key_fits p k ≡ true) (runs : runnable_of_event p e ≡ Some k.runnable) (late : is_due p (Act k) e h ≡ false) where
    -- no request has still to start
    none_left : (counts : ℕ → Bool) → has_unstarted counts h ≡ false → slice_get (requests_of counts h) (starts_of counts h) ≡ None
    none_left counts none =
        let all : length (requests_of counts h) ≤ starts_of counts h = grind (arith, nat_tests, none) in
        slice_get_past (requests_of counts h) (starts_of counts h) all

    own_point : (o : Option ℕ) (q : ℕ) → k.point ≡ o → is_key_point (Act k) q ≡ true → (r : ℕ) → o ≡ Some r → r ≡ q
    own_point None q at own r is = absurd (cc is)
    own_point (Some x) q at own r is =
        let same : x ≡ r = same_Some x r is in
        let test : (x ≡ q) = eqb-true x q (subst (λ o. is_key_point (Act (record { runnable = k.runnable; point = o })) q ≡ true) at own) in
        sym same ∙ test

    none_next : (q : ℕ) → start_fits p (kind_of p e) (Some q) (words_of value) ≡ true → is_key_point (Act k) q ≡ true → next_request p q h ≡ None
    none_next q fits own = by_kind (kind_of p e) refl fits
      where
        by_kind : (kind : EventKind) → kind_of p e ≡ kind → start_fits p kind (Some q) (words_of value) ≡ true → next_request p q h ≡ None
        by_kind (Invoked s) is fits =
            let joined : server_of p q ≡ Some s = number_is (server_of p q) s fits in
            let same = counts_same p s q k.point (serving p m sound k e s is runs fit) joined (λ r at. own_point k.point q refl own r at) in
            let none : has_unstarted (counts_for p s k.point) h ≡ false = sym (ap (λ x. is_due_kind p (Act k) e x h) is) ∙ late in
            none_left (counts_with p q) (ap (λ c. has_unstarted c h) same ∙ none)
          where
            number_is : (o : Option ℕ) (s : ℕ) → same_number o (Some s) ≡ true → o ≡ Some s
            number_is None s test = absurd (false≢true test)
            number_is (Some x) s test = ap (λ n. Some n) (eqb-true x s test)
        by_kind (Timing period) is fits = absurd (false≢true fits)
        by_kind Init is fits = absurd (false≢true fits)
        by_kind (DataReceived x) is fits = absurd (false≢true fits)
        by_kind (Returns r) is fits = absurd (false≢true fits)
        by_kind (ModeSwitch n moment) is fits = absurd (false≢true fits)
        by_kind (Ack n) is fits = absurd (false≢true fits)

    pub breaks_either : start_fits p (kind_of p e) point (words_of value) ≡ true → broken_answer p h start ≡ Some (if names_foreign (Act k) point then 9 else 13)
    breaks_either fits = by_point point refl
      where
        by_own : (q : ℕ) → point ≡ Some q → (own : Bool) → is_key_point (Act k) q ≡ own → broken_answer p h start ≡ Some (if not own then 9 else 13)
        by_own q at true own =
            let none = none_next q (subst (λ o. start_fits p (kind_of p e) o (words_of value) ≡ true) at fits) own in
            let calls : starts_request p (Act k) point (words_of value) h ≡ true =
            ap (λ o. starts_request p (Act k) o (words_of value) h) at ∙ (λ i. own i && is_request q (words_of value) (none i)) in
            broken true false calls late
        by_own q at false own =
            let calls : starts_request p (Act k) point (words_of value) h ≡ false =
            ap (λ o. starts_request p (Act k) o (words_of value) h) at ∙ (λ i. own i && is_request q (words_of value) (next_request p q h)) in
            broken false false calls late

        by_point : (o : Option ℕ) → point ≡ o → broken_answer p h start ≡ Some (if names_foreign (Act k) o then 9 else 13)
        by_point None at = broken true false (ap (λ o. starts_request p (Act k) o (words_of value) h) at) late
        by_point (Some q) at = by_own q at (is_key_point (Act k) q) refl
