-- Requests that start one after the other: what each entry makes of them.
use Rattle.std.proofs.Common.{◌≡◌, ◌≤◌, ◌+◌, ℕ, ℤ, zero, suc, Bool, true, false, ◌==◌, if◌then◌else◌, refl, sym, ◌∙◌, ap, arith, List, [], ◌∷◌, ◌++◌, length, drop, length-append, Option, Some, None}
use Rattle.std.specs.Prelude.{unwrap_or}
use Rattle.bus_semantics.specs.Common.{slice_get, option_or, eqb-true, same_Some, ActKey, Value, words_of, same_number, Noted, Past, newest, made_by, requests_of, starts_of, is_start_of}
use Rattle.bus_semantics.specs.Common.{serves, is_open, serves_by}
use Rattle.std.proofs.lemmas.List.{drop-append-le}
use Rattle.bus_semantics.specs.declared.entries.Actor.{Actor}
use Rattle.bus_semantics.specs.declared.entries.Actor.TheVariants.{Act}
use Rattle.bus_semantics.specs.declared.entries.Deed.TheVariants as deed
use Rattle.object_kinds.proofs.Proper.{noting}
use Rattle.server_objects.specs.Standing.{RequestsStand}
use Rattle.server_objects.proofs.Facts.{if_same}

-- the first that is left, and what is left then
pub left_first : {X : Type 0} (n : ℕ) (xs : List X) (x : X) (more : List X) → drop n xs ≡ x ∷ more → slice_get xs n ≡ Some x
left_first zero [] x more e = absurd (cc e)
left_first zero (y ∷ xs) x more e = let same : y ≡ x = cc in ap (λ z. Some z) same
left_first (suc n) [] x more e = absurd (cc e)
left_first (suc n) (y ∷ xs) x more e = left_first n xs x more e

pub left_more : {X : Type 0} (n : ℕ) (xs : List X) (x : X) (more : List X) → drop n xs ≡ x ∷ more → drop (suc n) xs ≡ more
left_more zero [] x more e = absurd (cc e)
left_more zero (y ∷ xs) x more e = cc
left_more (suc n) [] x more e = absurd (cc e)
left_more (suc n) (y ∷ xs) x more e = left_more n xs x more e

module _ (counts : ℕ → Bool) (key : ActKey) (unstarted : List (ℕ × List ℤ)) (served : Option ℕ) (l : Past) (before : RequestsStand counts key unstarted served l) where
  abbrev Stand : List (ℕ × List ℤ) → Option ℕ → Noted → Type 0
  Stand us o n = RequestsStand counts key us o (n ∷ l)

  -- an entry that asks and starts nothing that counts
  quiet : (n : Noted) → requests_of counts (n ∷ l) ≡ requests_of counts l → starts_of counts (n ∷ l) ≡ starts_of counts l → is_open (serves_by (Act key)) (n ∷ l) ≡ is_open (serves_by (Act key)) l
      → ((r : ℕ) → serves r key (n ∷ l) ≡ serves r key l) → Stand unstarted served n
  quiet n requests starts opened names = record {
    rest = (λ i. drop (starts i) (requests i)) ∙ before.rest;
    many = ap length requests ∙ before.many ∙ ap (λ m. m + length unstarted) (sym starts);
    opened = opened ∙ before.opened;
    named = λ q is r. names r ∙ before.named q is r;
  }

  none_open : (b : Bool) → unwrap_or (option_or (if b then None else None) (newest (serves_by (Act key)) l)) false ≡ is_open (serves_by (Act key)) l
  none_open true = refl
  none_open false = refl

  pub after_answer : (a : Actor) (event : Option ℕ) (q code : ℕ) (value : Value) → Stand unstarted served (noting a (deed.Answer q code value) event)
  after_answer a event q code value = quiet (noting a (deed.Answer q code value) event) refl refl (none_open (made_by key a)) (λ r. if_same (made_by key a) (serves r key l))

  pub after_result : (a : Actor) (event : Option ℕ) (q code : ℕ) (value : Value) → Stand unstarted served (noting a (deed.TakeResult q code value) event)
  after_result a event q code value = quiet (noting a (deed.TakeResult q code value) event) refl refl (none_open (made_by key a)) (λ r. if_same (made_by key a) (serves r key l))

  pub after_refusal : (a : Actor) (event : Option ℕ) (q code : ℕ) (value : Value) → Stand unstarted served (noting a (deed.Ask q value (suc code)) event)
  after_refusal a event q code value = quiet (noting a (deed.Ask q value (suc code)) event) refl refl (none_open (made_by key a)) (λ r. if_same (made_by key a) (serves r key l))

  -- ---- a request

  named_after : (a : Actor) (event : Option ℕ) (q : ℕ) (value : Value) → (served ≡ Some q → ⊥) → (q' : ℕ) → served ≡ Some q' → (r : ℕ) → serves r key (noting a (deed.Ask q value zero) event ∷ l) ≡ (q' == r)
  named_after a event q value free q' is r = by_point (r == q) refl
    where
      by_point : (b : Bool) → (r == q) ≡ b → (if b then false else if made_by key a then serves r key l else serves r key l) ≡ (q' == r)
      by_point false apart = if_same (made_by key a) (serves r key l) ∙ before.named q' is r
      by_point true same = by_served (q' == r) refl
        where
          by_served : (b : Bool) → (q' == r) ≡ b → false ≡ b
          by_served false other = refl
          by_served true this = absurd (free (is ∙ ap (λ n. Some n) (eqb-true q' r this ∙ eqb-true r q same)))

  pub after_request : (a : Actor) (event : Option ℕ) (q : ℕ) (value : Value) → counts q ≡ true → (served ≡ Some q → ⊥) → Stand (unstarted ++ (q, words_of value) ∷ []) served (noting a (deed.Ask q value zero) event)
  after_request a event q value counted free =
      let many = before.many in
      let within : starts_of counts l ≤ length (requests_of counts l) = omega arith in
      let longer : length (requests_of counts l ++ (q, words_of value) ∷ []) ≡ length (requests_of counts l) + 1 = length-append (requests_of counts l) ((q, words_of value) ∷ []) in
      let more : length (unstarted ++ (q, words_of value) ∷ []) ≡ length unstarted + 1 = length-append unstarted ((q, words_of value) ∷ []) in
      record {
        rest = (λ i. drop (starts_of counts l) (if counted i then requests_of counts l ++ (q, words_of value) ∷ [] else requests_of counts l))
            ∙ drop-append-le (starts_of counts l) (requests_of counts l) ((q, words_of value) ∷ []) within
            ∙ ap (λ us. us ++ (q, words_of value) ∷ []) before.rest;
        many = (λ i. length (if counted i then requests_of counts l ++ (q, words_of value) ∷ [] else requests_of counts l)) ∙ omega arith;
        opened = none_open (made_by key a) ∙ before.opened;
        named = named_after a event q value free;
      }

  pub after_other_request : (a : Actor) (event : Option ℕ) (q : ℕ) (value : Value) → counts q ≡ false → (served ≡ Some q → ⊥) → Stand unstarted served (noting a (deed.Ask q value zero) event)
  after_other_request a event q value other free = record {
    rest = (λ i. drop (starts_of counts l) (if other i then requests_of counts l ++ (q, words_of value) ∷ [] else requests_of counts l)) ∙ before.rest;
    many = (λ i. length (if other i then requests_of counts l ++ (q, words_of value) ∷ [] else requests_of counts l)) ∙ before.many;
    opened = none_open (made_by key a) ∙ before.opened;
    named = named_after a event q value free;
  }

  -- ---- a Return

  pub after_return : (a : Actor) (event : Option ℕ) (code : ℕ) (value : Value) → made_by key a ≡ true → Stand unstarted None (noting a (deed.Return code value) event)
  after_return a event code value own = record {
    rest = before.rest;
    many = before.many;
    opened = λ i. unwrap_or (option_or (if own i then Some false else None) (newest (serves_by (Act key)) l)) false;
    named = λ q is. absurd (cc is);
  }

  pub after_other_return : (a : Actor) (event : Option ℕ) (code : ℕ) (value : Value) → made_by key a ≡ false → Stand unstarted served (noting a (deed.Return code value) event)
  after_other_return a event code value other = quiet (noting a (deed.Return code value) event) refl refl
      (λ i. unwrap_or (option_or (if other i then Some false else None) (newest (serves_by (Act key)) l)) false) (λ r. if_same (made_by key a) (serves r key l))

  -- ---- a start

  pub after_start : (a : Actor) (event : Option ℕ) (e q : ℕ) (value : Value) (x : ℕ × List ℤ) (more : List (ℕ × List ℤ)) → unstarted ≡ x ∷ more → counts q ≡ true → made_by key a ≡ true
      → Stand more (Some q) (noting a (deed.Start e (Some q) value) event)
  after_start a event e q value x more first counted own =
      let many = before.many in
      let long : length unstarted ≡ suc (length more) = ap length first in
      record {
        rest = (λ i. drop (if counted i then suc (starts_of counts l) else starts_of counts l) (requests_of counts l)) ∙ left_more (starts_of counts l) (requests_of counts l) x more (before.rest ∙ first);
        many = let next : (if counts q then suc (starts_of counts l) else starts_of counts l) ≡ suc (starts_of counts l) = λ i. if counted i then suc (starts_of counts l) else starts_of counts l in omega arith;
        opened = λ i. unwrap_or (option_or (if own i then Some true else None) (newest (serves_by (Act key)) l)) false;
        named = λ q' is r. (λ i. if own i then q == r else serves r key l) ∙ ap (λ n. n == r) (same_Some q q' is);
      }

  pub after_other_start : (a : Actor) (event : Option ℕ) (e : ℕ) (point : Option ℕ) (value : Value) → is_start_of counts (deed.Start e point value) ≡ false → made_by key a ≡ false
      → Stand unstarted served (noting a (deed.Start e point value) event)
  after_other_start a event e point value uncounted other = quiet (noting a (deed.Start e point value) event) refl
      (λ i. if uncounted i then suc (starts_of counts l) else starts_of counts l)
      (λ i. unwrap_or (option_or (if other i then Some true else None) (newest (serves_by (Act key)) l)) false)
      (λ r. λ i. if other i then same_number point (Some r) else serves r key l)
