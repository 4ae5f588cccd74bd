-- What is said of the first element and of the others is said of all.
use Rattle.std.proofs.Common.{◌≡◌, ◌+◌, ◌-◌, ◌<◌, ◌≤◌, ℕ, List, ◌++◌, length, slice_index_or, length-append, sym, ◌∙◌, ap, subst, arith}
use mathlib.Core.Logic.{⊎_elim}
use Rattle.std.proofs.lemmas.List.{get_or_append_left, get_or-append-add}
use Rattle.std.proofs.lemmas.Bool.{cases_lt}
use Rattle.thread_starts.specs.Starting.{AreAccepted, AreChanged}

module _ {X : Type 0} (P : ℕ → X → Type 0) (from : ℕ) where
  pub accepts_first : (all xs ys : List X) → all ≡ xs ++ ys → length xs ≡ 1 → AreAccepted P from all → AreAccepted P from xs
  accepts_first all xs ys e one a =
      let long = ap (λ (z : List X). length z) e ∙ length-append xs ys in
      record {
        some = omega (arith, one);
        room = omega (arith, a.room, long);
        each = λ k d l. subst (P (from + k)) (ap (λ (z : List X). slice_index_or z k d) e ∙ get_or_append_left xs ys d k l) (a.each k d (omega (arith, l, long)));
      }

  pub accepts_rest : (next : ℕ) (all xs ys : List X) → next ≡ from + 1 → all ≡ xs ++ ys → length xs ≡ 1 → 0 < length ys → AreAccepted P from all → AreAccepted P next ys
  accepts_rest next all xs ys n e one some a =
      let long = ap (λ (z : List X). length z) e ∙ length-append xs ys in
      record {
        some = some;
        room = omega (arith, a.room, long, one, n);
        each = λ k d l.
            let place : from + (length xs + k) ≡ next + k = omega (arith, one, n) in
            subst (λ i. P i (slice_index_or ys k d)) place
            (subst (P (from + (length xs + k))) (ap (λ (z : List X). slice_index_or z (length xs + k) d) e ∙ get_or-append-add xs ys k d) (a.each (length xs + k) d (omega (arith, l, long))));
      }

module _ {X : Type 0} (R : ℕ → X → X → Type 0) (from : ℕ) where
  moved : (i j : ℕ) (x x' y y' : X) → i ≡ j → x ≡ x' → y ≡ y' → R i x y → R j x' y'
  moved i j x x' y y' a b c r = subst (λ k. R k x' y') a (subst (λ u. R i u y') b (subst (R i x) c r))

  pub changes_both : (next : ℕ) (all xs ys xs' ys' : List X) → next ≡ from + 1 → all ≡ xs ++ ys → length xs ≡ 1 → AreChanged R from xs xs' → AreChanged R next ys ys' → AreChanged R from all (xs' ++ ys')
  changes_both next all xs ys xs' ys' n e one a b =
      let long = ap (λ (z : List X). length z) e ∙ length-append xs ys in
      let long' = length-append xs' ys' in
      record {
        count = omega (arith, long, long', a.count, b.count);
        each = λ k d l. ⊎_elim
            (λ p. moved (from + k) (from + k) _ _ _ _ (omega arith) (sym (ap (λ (z : List X). slice_index_or z k d) e ∙ get_or_append_left xs ys d k p))
            (sym (get_or_append_left xs' ys' d k (omega (arith, p, a.count)))) (a.each k d p))
            (λ p.
            let m = k - length xs in
            let is : length xs + m ≡ k = omega (arith, p) in
            let is' : length xs' + m ≡ k = omega (arith, p, a.count) in
            moved (next + m) (from + k) _ _ _ _ (omega (arith, n, one, is))
            (sym (ap (λ (z : List X). slice_index_or z k d) e ∙ (ap (λ i. slice_index_or (xs ++ ys) i d) (sym is) ∙ get_or-append-add xs ys m d)))
            (sym (ap (λ i. slice_index_or (xs' ++ ys') i d) (sym is') ∙ get_or-append-add xs' ys' m d))
            (b.each m d (omega (arith, l, long, is))))
            (cases_lt k (length xs));
      }

  pub changes_only : (xs ys : List X) → length xs ≡ 1 → length ys ≡ 1 → ((d : X) → R from (slice_index_or xs 0 d) (slice_index_or ys 0 d)) → AreChanged R from xs ys
  changes_only xs ys one one' r = record {
    count = omega (arith, one, one');
    each = λ k d l.
        let first : 0 ≡ k = omega (arith, l, one) in
        subst (λ i. R (from + i) (slice_index_or xs i d) (slice_index_or ys i d)) first (subst (λ i. R i (slice_index_or xs 0 d) (slice_index_or ys 0 d)) (let z : from ≡ from + 0 = omega arith in z) (r d));
  }
