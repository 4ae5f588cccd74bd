-- The loop that looks up the ends of each join, and marks them.
use Rattle.std.proofs.Common.{◌≡◌, ℕ, zero, suc, ◌+◌, ◌<◌, ◌≤◌, List, [], ◌∷◌, ◌++◌, length, drop, get_or, replicate, subst, take, Bool, true, false, ◌||◌, refl, sym, ap, ◌∙◌}
use Rattle.std.proofs.lemmas.List.{at_drop_more}
use Rattle.std.specs.List.{list_any}
use Rattle.plan_definitions.specs.Common.{Join, own_number, Key}
use Rattle.plan_elements.proofs.Mapped.{mapped_all, mapped_more}
use Rattle.plan_elements.specs.Ends.{has_at, mark_at, pairs_of}

-- no end is marked yet
pub none_marked : (count n : ℕ) → mark_at (replicate count false) n ≡ false
none_marked zero n = refl
none_marked (suc count) zero = refl
none_marked (suc count) (suc n) = none_marked count n

or_first : (mark here rest : Bool) → (mark || (here || rest)) ≡ ((here || mark) || rest)
or_first true true rest = refl
or_first true false rest = refl
or_first false true rest = refl
or_first false false rest = refl

abbrev pair_of : List Key → Join → ℕ × ℕ
pair_of keys j = (own_number keys j.provided, own_number keys j.required)

module _ (keys : List Key) (joins : List Join) (i : ℕ) where
  module _ (js : List Join) (are : js ≡ joins) (d : Join) (within : i < length js) where
    pub pairs_more : (old new : List (ℕ × ℕ)) (pair : ℕ × ℕ) → new ≡ old ++ pair ∷ [] → pair ≡ (own_number keys (get_or js i d).provided, own_number keys (get_or js i d).required)
        → old ≡ pairs_of keys (take i joins) → new ≡ pairs_of keys (take (i + 1) joins)
    pairs_more old new pair pushed is so_far =
        mapped_more (pair_of keys) joins i d old new pair (subst (λ l. i < length l) are within) pushed (is ∙ ap (λ l. pair_of keys (get_or l i d)) are) so_far

    pub marks_more : (count : ℕ) (old new : List Bool) → length old ≡ count → ((n : ℕ) → n < length old → mark_at new n ≡ (has_at keys n (get_or js i d) || mark_at old n))
        → ((n : ℕ) → n < count → list_any (has_at keys n) joins ≡ (mark_at old n || list_any (has_at keys n) (drop i joins)))
        → (n : ℕ) → n < count → list_any (has_at keys n) joins ≡ (mark_at new n || list_any (has_at keys n) (drop (i + 1) joins))
    marks_more count old new long marked so_far n below =
        let rest : Bool = list_any (has_at keys n) (drop (i + 1) joins) in
        so_far n below
        ∙ ap (λ b. mark_at old n || b) (at_drop_more (list_any (has_at keys n)) joins i d (subst (λ l. i < length l) are within) ∙ ap (λ l. has_at keys n (get_or l i d) || rest) (sym are))
        ∙ or_first (mark_at old n) (has_at keys n (get_or js i d)) rest
        ∙ ap (λ b. b || rest) (sym (marked n (subst (λ k. n < k) (sym long) below)))

  pub pairs_all : (pairs : List (ℕ × ℕ)) → length joins ≤ i → pairs ≡ pairs_of keys (take i joins) → pairs ≡ pairs_of keys joins
  pairs_all pairs past so_far = mapped_all (pair_of keys) joins i pairs past so_far
