-- What waits in a queue.
use Rattle.std.proofs.Common.{◌≡◌, ◌⊎◌, ◌<◌, ◌≤◌, ℕ, suc, ◌+◌, ℤ, Bool, true, false, ◌||◌, ◌==◌, if◌then◌else◌, refl, sym, ◌∙◌, ap, subst, arith, inl, inr, List, [], ◌∷◌, length, drop}
use Rattle.std.proofs.Common.{length-drop, Option, Some, None}
use Rattle.bus_semantics.specs.Common.{and_parts, leb-true, false≢true, cases_lt, drop_more, drop_all, slice_get_within, get_or_from_slice_get, slice_get, option_map_or, Value, words_of}
use Rattle.bus_semantics.specs.Common.{Plan, History, Past, noted, takes_at, taken_at, sent_to, with_sent, is_room, places_at, accepted_at, has_lost, received_at, queued_allows, is_outcome}
use Rattle.bus_semantics.specs.Common.{IsLegal, is_in, elem_sound, IsSound}
use Rattle.std.specs.Prelude.{nat_le}
use Rattle.bus_laws.specs.Common.{ElemPlan, Mapping, Deed, Entry}
use Rattle.bus_semantics.specs.declared.entries.Deed.TheVariants as deed
use Rattle.history_laws.specs.LookUps.{all_at}
use Rattle.bus_laws.proofs.QueueLaws.{receive_sends_none, takes_oldest, bounded}
use Rattle.history_laws.proofs.Lists.{there_is}
use Rattle.pair_run.specs.Sent.{waiting_at}

pub held : (p : Plan) (x : ℕ) (l : Past) → length (waiting_at p x l) ≤ places_at p x
held p x l = omega (arith, length-drop (taken_at x l) (accepted_at p x l), bounded p x l)

pub places : (p : Plan) (m : Mapping) (x : ℕ) → IsSound p m → places_at p x ≤ 1024
places p m x sound = by_element (slice_get p.elements x) refl
  where
    by_element : (o : Option ElemPlan) → slice_get p.elements x ≡ o → option_map_or (λ (e : ElemPlan). e.queue_length) o 0 ≤ 1024
    by_element None there = omega arith
    by_element (Some e) there =
        let whole : elem_sound e ≡ true = all_at elem_sound p.elements x e sound.elements there in
        let a = (and_parts (is_in 1 16 e.words) _ whole).1 in
        let b = (and_parts _ _ a).1 in
        let c = (and_parts (length (words_of e.init) == e.words) _ b).1 in
        let d = (and_parts _ _ c).1 in
        let bounds = (and_parts (is_in 1 1024 e.queue_length) _ d).0 in
        leb-true e.queue_length 1024 (and_parts (nat_le 1 e.queue_length) (nat_le e.queue_length 1024) bounds).1

-- ---- a Receive

module _ (p : Plan) (h : History) (e : Entry) (x code : ℕ) (value : Value) (legal : IsLegal p (e ∷ h)) (is : e.deed ≡ deed.Receive x code value) where
  abbrev accepted : List (List ℤ)
  accepted = accepted_at p x (noted h)

  abbrev taken : ℕ
  taken = taken_at x (noted h)

  outcome : is_outcome code (words_of value) (received_at p x (noted h)) ≡ true
  outcome = subst (λ (d : Deed). queued_allows p (noted h) d ≡ true) is legal.1.answers.queued

  pub oldest : takes_at x e.deed ≡ true → waiting_at p x (noted h) ≡ words_of value ∷ waiting_at p x (noted (e ∷ h))
  oldest takes =
      let code_takes = (and_parts (x == x) ((code == 0) || (code == 64)) (sym (ap (takes_at x) is) ∙ takes)).1 in
      let left : slice_get accepted taken ≡ Some (words_of value) = takes_oldest p x (noted h) code (words_of value) code_takes outcome in
      let none : sent_to p x e.deed ≡ None = ap (sent_to p x) is ∙ receive_sends_none p x x code value in
      let same : accepted_at p x (noted (e ∷ h)) ≡ accepted = ap (λ (o : Option (List ℤ)). with_sent o (is_room (length accepted) taken (places_at p x)) accepted) none in
      let more : taken_at x (noted (e ∷ h)) ≡ taken + 1 = ap (λ (b : Bool). if b then suc taken else taken) takes ∙ next taken in
      drop_more accepted taken [] (slice_get_within accepted taken (words_of value) left)
      ∙ ap (λ (ws : List ℤ). ws ∷ drop (taken + 1) accepted) (get_or_from_slice_get accepted taken (words_of value) [] left)
      ∙ ap (λ (rest : List (List ℤ)). words_of value ∷ rest) (sym (ap (λ (n : ℕ). drop n (accepted_at p x (noted (e ∷ h)))) more ∙ ap (drop (taken + 1)) same))
    where
      next : (n : ℕ) → suc n ≡ n + 1
      next n = omega arith

past_end : {X : Type 0} (xs : List X) (n : ℕ) → slice_get xs n ≡ None → length xs ≤ n
past_end xs n none = by_order (cases_lt n (length xs))
  where
    by_order : (n < length xs) ⊎ (length xs ≤ n) → length xs ≤ n
    by_order (inl less) = absurd (cc (sym none ∙ (there_is xs n less).1))
    by_order (inr past) = past

pub none_left : (p : Plan) (h : History) (e : Entry) (x : ℕ) (value : Value) → IsLegal p (e ∷ h) → e.deed ≡ deed.Receive x 131 value → waiting_at p x (noted h) ≡ []
none_left p h e x value legal is = by_element (slice_get p.elements x) refl
  where
    allowed : is_outcome 131 (words_of value) (received_at p x (noted h)) ≡ true
    allowed = subst (λ (d : Deed). queued_allows p (noted h) d ≡ true) is legal.1.answers.queued

    by_lost : (us : List ℤ) (b : Bool) → is_outcome 131 (words_of value) (if b then 64 else 0, us) ≡ true → waiting_at p x (noted h) ≡ []
    by_lost us true is = absurd (false≢true is)
    by_lost us false is = absurd (false≢true is)

    by_oldest : (v : ElemPlan) → slice_get p.elements x ≡ Some v → v.joined ≡ true → (o : Option (List ℤ)) → slice_get (accepted_at p x (noted h)) (taken_at x (noted h)) ≡ o → waiting_at p x (noted h) ≡ []
    by_oldest v there joined None left = drop_all (taken_at x (noted h)) (accepted_at p x (noted h)) (past_end (accepted_at p x (noted h)) (taken_at x (noted h)) left)
    by_oldest v there joined (Some us) left = by_lost us (has_lost p x (noted h)) (rw (there, joined, left) at allowed)

    by_join : (v : ElemPlan) → slice_get p.elements x ≡ Some v → (b : Bool) → v.joined ≡ b → waiting_at p x (noted h) ≡ []
    by_join v there false joined = absurd (false≢true (rw (there, joined) at allowed))
    by_join v there true joined = by_oldest v there joined (slice_get (accepted_at p x (noted h)) (taken_at x (noted h))) refl

    by_element : (o : Option ElemPlan) → slice_get p.elements x ≡ o → waiting_at p x (noted h) ≡ []
    by_element None there = absurd (false≢true (rw there at allowed))
    by_element (Some v) there = by_join v there v.joined refl
