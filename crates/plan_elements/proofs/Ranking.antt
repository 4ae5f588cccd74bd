-- The number of the group that an element leads, found at its own number.
use Rattle.std.proofs.Common.{◌≡◌, ℕ, zero, suc, ◌+◌, ◌<◌, ◌≤◌, List, [], ◌∷◌, ◌++◌, map, length, drop, get_or, Bool, true, false, cond, nat_eq, Some, None, unwrap_or, refl, sym, ap, ◌∙◌, arith}
use Rattle.bus_semantics.specs.Common.{eq-eqb, ne_eqb, append-nil, position_from}
use Rattle.std.proofs.lemmas.List.{at_drop_more, at_drop_all, append_assoc}
use Rattle.plan_definitions.specs.Common.{head_at, heads, number_among, from}
use Rattle.plan_elements.specs.Lists.{ranks}
use Rattle.plan_elements.specs.Spreads.{number_at}

-- those that stand later are greater
later : (l n k : ℕ) (ls : List ℕ) → l < n → position_from (nat_eq l) k (from n head_at ls) ≡ None
later l n k [] below = refl
later l n k (x ∷ ls) below = by (nat_eq x n) (λ j. later l (n + 1) j ls (omega (arith, below)))
  where
    by : (b : Bool) → ((j : ℕ) → position_from (nat_eq l) j (from (n + 1) head_at ls) ≡ None) → position_from (nat_eq l) k (cond b (n ∷ []) [] ++ from (n + 1) head_at ls) ≡ None
    by true rest = ap (λ b. cond b (Some k) (position_from (nat_eq l) (k + 1) (from (n + 1) head_at ls))) (ne_eqb l n (λ e. absurd (omega (arith, e, below)))) ∙ rest (k + 1)
    by false rest = rest k

ranked : (l n m k : ℕ) (ls : List ℕ) → l ≡ n + m → number_at (ranks n k ls) m ≡ unwrap_or (position_from (nat_eq l) k (from n head_at ls)) 0
ranked l n m k [] is = refl
ranked l n zero k (x ∷ ls) is = by (nat_eq x n)
  where
    by : (b : Bool) → number_at (cond b (k ∷ ranks (n + 1) (k + 1) ls) (0 ∷ ranks (n + 1) k ls)) 0 ≡ unwrap_or (position_from (nat_eq l) k (cond b (n ∷ []) [] ++ from (n + 1) head_at ls)) 0
    by true = ap (λ b. unwrap_or (cond b (Some k) (position_from (nat_eq l) (k + 1) (from (n + 1) head_at ls))) 0) (sym (eq-eqb l n (omega (arith, is))))
    by false = ap (λ o. unwrap_or o 0) (sym (later l (n + 1) k ls (omega (arith, is))))
ranked l n (suc m) k (x ∷ ls) is = by (nat_eq x n) (λ j. ranked l (n + 1) m j ls (omega (arith, is)))
  where
    by : (b : Bool) → ((j : ℕ) → number_at (ranks (n + 1) j ls) m ≡ unwrap_or (position_from (nat_eq l) j (from (n + 1) head_at ls)) 0)
        → number_at (cond b (k ∷ ranks (n + 1) (k + 1) ls) (0 ∷ ranks (n + 1) k ls)) (suc m) ≡ unwrap_or (position_from (nat_eq l) k (cond b (n ∷ []) [] ++ from (n + 1) head_at ls)) 0
    by true rest = rest (k + 1) ∙ ap (λ b. unwrap_or (cond b (Some k) (position_from (nat_eq l) (k + 1) (from (n + 1) head_at ls))) 0) (sym (ne_eqb l n (λ e. absurd (omega (arith, e, is)))))
    by false rest = rest k

rank_is : (leaders : List ℕ) (l : ℕ) → number_at (ranks 0 0 leaders) l ≡ number_among (heads leaders) l
rank_is leaders l = ranked l 0 l 0 leaders (omega arith)

pub ranks_are : (leaders some : List ℕ) → map (number_at (ranks 0 0 leaders)) some ≡ map (number_among (heads leaders)) some
ranks_are leaders [] = refl
ranks_are leaders (l ∷ some) = λ j. rank_is leaders l j ∷ ranks_are leaders some j

-- ---- the loop that ranks

module _ (leaders : List ℕ) (i l : ℕ) (within : i < length leaders) (is : l ≡ get_or leaders i l) where
  pub ranks_more : (whole old new : List ℕ) (k next : ℕ) → new ≡ old ++ cond (nat_eq l i) k 0 ∷ [] → next ≡ cond (nat_eq l i) (k + 1) k
      → whole ≡ old ++ ranks i k (drop i leaders) → whole ≡ new ++ ranks (i + 1) next (drop (i + 1) leaders)
  ranks_more whole old new k next pushed counted so_far = so_far ∙ ap (λ r. old ++ r) (at_drop_more (ranks i k) leaders i l within)
      ∙ (λ j. old ++ cond (nat_eq (sym is j) i) (k ∷ ranks (i + 1) (k + 1) rest) (0 ∷ ranks (i + 1) k rest)) ∙ ap (λ r. old ++ r) (by (nat_eq l i))
      ∙ sym (append_assoc old (cond (nat_eq l i) k 0 ∷ []) (ranks (i + 1) (cond (nat_eq l i) (k + 1) k) rest)) ∙ (λ j. sym pushed j ++ ranks (i + 1) (sym counted j) rest)
    where
      rest : List ℕ
      rest = drop (i + 1) leaders

      by : (b : Bool) → cond b (k ∷ ranks (i + 1) (k + 1) rest) (0 ∷ ranks (i + 1) k rest) ≡ cond b k 0 ∷ ranks (i + 1) (cond b (k + 1) k) rest
      by true = refl
      by false = refl

  pub count_more : (whole k next : ℕ) → next ≡ cond (nat_eq l i) (k + 1) k → whole ≡ k + length (from i head_at (drop i leaders)) → whole ≡ next + length (from (i + 1) head_at (drop (i + 1) leaders))
  count_more whole k next counted so_far = so_far ∙ ap (λ n. k + n) (at_drop_more (λ ls. length (from i head_at ls)) leaders i l within)
      ∙ (λ j. k + length (cond (nat_eq (sym is j) i) (i ∷ []) [] ++ from (i + 1) head_at rest)) ∙ by (nat_eq l i) ∙ ap (λ n. n + length (from (i + 1) head_at rest)) (sym counted)
    where
      rest : List ℕ
      rest = drop (i + 1) leaders

      by : (b : Bool) → k + length (cond b (i ∷ []) [] ++ from (i + 1) head_at rest) ≡ cond b (k + 1) k + length (from (i + 1) head_at rest)
      by true = omega arith
      by false = refl

pub ranks_all : (leaders whole old : List ℕ) (k i : ℕ) → length leaders ≤ i → whole ≡ old ++ ranks i k (drop i leaders) → old ≡ whole
ranks_all leaders whole old k i past so_far = sym (so_far ∙ ap (λ r. old ++ r) (at_drop_all (ranks i k) leaders i past) ∙ append-nil old)

pub count_all : (leaders : List ℕ) (whole k i : ℕ) → length leaders ≤ i → whole ≡ k + length (from i head_at (drop i leaders)) → k ≡ whole
count_all leaders whole k i past so_far = sym (so_far ∙ ap (λ n. k + n) (at_drop_all (λ ls. length (from i head_at ls)) leaders i past) ∙ none)
  where
    none : k + 0 ≡ k
    none = omega arith

pub few_more : (b : Bool) (k next i : ℕ) → next ≡ cond b (k + 1) k → k ≤ i → next ≤ i + 1
few_more true k next i counted few = omega (arith, counted, few)
few_more false k next i counted few = omega (arith, counted, few)
