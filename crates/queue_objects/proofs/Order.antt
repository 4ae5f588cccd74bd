-- After any past the values that were taken at an element are the first of those that its queue accepted.
use Rattle.std.proofs.Common.{◌≡◌, ◌≤◌, ◌<◌, ◌+◌, ℕ, ℤ, zero, suc, Bool, true, false, ◌||◌, ◌==◌, if◌then◌else◌, refl, sym, ◌∙◌, ap, subst, arith, List, [], ◌∷◌, ◌++◌, length, take}
use Rattle.std.proofs.Common.{length-append, Option, Some, None}
use Rattle.bus_semantics.specs.Common.{slice_get, option_map_or, and_parts, eqb-true, false≢true, ltb-true, append-nil, take_more, slice_get_within, get_or_from_slice_get, Value, words_of}
use Rattle.bus_semantics.specs.Common.{same_words-Decides, Plan, History, Noted, Past, noted, accepted_at, taken_at, takes_at, sent_in, sent_to, with_sent, is_room, places_at, received_at}
use Rattle.bus_semantics.specs.Common.{has_lost, queued_allows, is_outcome, IsLegal, IsPastOf}
use Rattle.std.proofs.lemmas.List.{take-append-le}
use Rattle.bus_laws.specs.Common.{ElemPlan, Deed}
use Rattle.bus_semantics.specs.declared.entries.Deed.TheVariants as deed
use Rattle.queue_objects.specs.Order.{value_taken, values_taken}
pub use Rattle.bus_laws.proofs.QueueLaws.{receive_sends_none, takes_oldest, bounded}

pub record InOrder (p : Plan) (x : ℕ) (l : Past) : Type 0 where
  pub order : values_taken x l ≡ take (taken_at x l) (accepted_at p x l)
  pub fewer : taken_at x l ≤ length (accepted_at p x l)

-- ---- what an entry accepts leaves the first values as they are

record Grown (t : ℕ) (before after : List (List ℤ)) : Type 0 where
  first : take t after ≡ take t before
  fewer : t ≤ length after

grown : (t : ℕ) (sent : Option (List ℤ)) (room : Bool) (before : List (List ℤ)) → t ≤ length before → Grown t before (with_sent sent room before)
grown t None room before fewer = record { first = refl; fewer = fewer }
grown t (Some ws) false before fewer = record { first = refl; fewer = fewer }
grown t (Some ws) true before fewer = record {
  first = take-append-le t before (ws ∷ []) fewer;
  fewer = let longer : length (before ++ ws ∷ []) ≡ length before + 1 = length-append before (ws ∷ []) in omega arith;
}

-- ---- each entry

module _ (p : Plan) (x : ℕ) (n : Noted) (l : Past) (before : InOrder p x l) where
  pub others_keep : takes_at x n.entry.deed ≡ false → value_taken x n.entry.deed ≡ [] → InOrder p x (n ∷ l)
  others_keep none nothing =
      let g = grown (taken_at x l) (sent_to p x n.entry.deed) (is_room (length (accepted_at p x l)) (taken_at x l) (places_at p x)) (accepted_at p x l) before.fewer in
      let same : taken_at x (n ∷ l) ≡ taken_at x l = ap (λ b. if b then suc (taken_at x l) else taken_at x l) none in record {
        order = (ap (λ vs. values_taken x l ++ vs) nothing ∙ append-nil (values_taken x l))
            ∙ before.order ∙ sym g.first ∙ ap (λ t. take t (accepted_at p x (n ∷ l))) (sym same);
        fewer = subst (λ t. t ≤ length (accepted_at p x (n ∷ l))) (sym same) g.fewer;
      }

  pub taking_keeps : (ws : List ℤ) → takes_at x n.entry.deed ≡ true → value_taken x n.entry.deed ≡ ws ∷ [] → sent_to p x n.entry.deed ≡ None → slice_get (accepted_at p x l) (taken_at x l) ≡ Some ws → InOrder p x (n ∷ l)
  taking_keeps ws takes value none left =
      let t = taken_at x l in
      let acc = accepted_at p x l in
      let within : t < length acc = slice_get_within acc t ws left in
      let more : taken_at x (n ∷ l) ≡ t + 1 = ap (λ b. if b then suc t else t) takes ∙ (let next : suc t ≡ t + 1 = omega arith in next) in
      let same : accepted_at p x (n ∷ l) ≡ acc = ap (λ o. with_sent o (is_room (length acc) t (places_at p x)) acc) none in record {
        order = ap (λ vs. values_taken x l ++ vs) value
            ∙ ap (λ vs. vs ++ ws ∷ []) before.order
            ∙ ap (λ v. take t acc ++ v ∷ []) (sym (get_or_from_slice_get acc t ws [] left))
            ∙ sym (take_more acc t [] within)
            ∙ (λ i. take (sym more i) (sym same i));
        fewer = subst (λ u. u ≤ length (accepted_at p x (n ∷ l))) (sym more) (subst (λ vs. t + 1 ≤ length vs) (sym same) (omega arith));
      }

receive_keeps : (p : Plan) (x : ℕ) (n : Noted) (l : Past) (y code : ℕ) (value : Value) → n.entry.deed ≡ deed.Receive y code value → queued_allows p l n.entry.deed ≡ true → InOrder p x l → InOrder p x (n ∷ l)
receive_keeps p x n l y code value is allowed before = by_test (takes_at x (deed.Receive y code value)) refl
  where
    by_test : (b : Bool) → takes_at x (deed.Receive y code value) ≡ b → InOrder p x (n ∷ l)
    by_test false none = others_keep p x n l before (ap (takes_at x) is ∙ none) (ap (value_taken x) is ∙ ap (λ b. if b then words_of value ∷ [] else []) none)
    by_test true takes =
        let parts = and_parts (x == y) ((code == 0) || (code == 64)) takes in
        let same : x ≡ y = eqb-true x y parts.0 in
        let outcome : is_outcome code (words_of value) (received_at p x l) ≡ true = subst (λ z. is_outcome code (words_of value) (received_at p z l) ≡ true) (sym same) (subst (λ d. queued_allows p l d ≡ true) is allowed) in
        taking_keeps p x n l before (words_of value) (ap (takes_at x) is ∙ takes) (ap (value_taken x) is ∙ ap (λ b. if b then words_of value ∷ [] else []) takes)
        (ap (sent_to p x) is ∙ receive_sends_none p x y code value)
        (takes_oldest p x l code (words_of value) parts.1 outcome)

pub order_keeps : (p : Plan) (x : ℕ) (n : Noted) (l : Past) → queued_allows p l n.entry.deed ≡ true → InOrder p x l → InOrder p x (n ∷ l)
order_keeps p x n l allowed before = by_deed n.entry.deed refl
  where
    by_deed : (d : Deed) → n.entry.deed ≡ d → InOrder p x (n ∷ l)
    by_deed (deed.Receive y code value) is = receive_keeps p x n l y code value is allowed before
    by_deed d is = others_keep p x n l before (ap (takes_at x) is) (ap (value_taken x) is)

-- ---- all entries

pub past_in_order : (p : Plan) (object x : ℕ) (l : Past) → IsPastOf p object l → InOrder p x l
past_in_order p object x [] past = record { order = refl; fewer = omega arith }
past_in_order p object x (n ∷ l) past = order_keeps p x n l past.1.answers.queued (past_in_order p object x l past.0)

pub legal_in_order : (p : Plan) (x : ℕ) (h : History) → IsLegal p h → InOrder p x (noted h)
legal_in_order p x [] legal = record { order = refl; fewer = omega arith }
legal_in_order p x (e ∷ h) legal = order_keeps p x _ (noted h) legal.1.answers.queued (legal_in_order p x h legal.0)

-- ---- by number

at_start : {X : Type 0} (t : ℕ) (xs : List X) (k : ℕ) (x : X) → slice_get (take t xs) k ≡ Some x → slice_get xs k ≡ Some x
at_start zero xs k x is = absurd (cc is)
at_start (suc t) [] k x is = is
at_start (suc t) (y ∷ xs) zero x is = is
at_start (suc t) (y ∷ xs) (suc k) x is = at_start t xs k x is

pub kth_is_kth : (p : Plan) (x : ℕ) (l : Past) → InOrder p x l → (k : ℕ) (ws : List ℤ) → slice_get (values_taken x l) k ≡ Some ws → slice_get (accepted_at p x l) k ≡ Some ws
kth_is_kth p x l is k ws taken = at_start (taken_at x l) (accepted_at p x l) k ws (subst (λ vs. slice_get vs k ≡ Some ws) is.order taken)

-- ---- how many

-- no more values are accepted than were taken and have a place
pub accepted_few : (p : Plan) (x : ℕ) (l : Past) → length (accepted_at p x l) ≤ taken_at x l + places_at p x
accepted_few = bounded
