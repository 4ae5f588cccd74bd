-- In rising numbers, what stands somewhere stands there first, and no place is greater than its number.
use Rattle.std.proofs.Common.{◌≡◌, ℕ, zero, suc, ◌<◌, ◌≤◌, Bool, true, false, ◌&&◌, ◌==◌, refl, sym, ◌∙◌, ap, subst, arith, List, [], ◌∷◌, ◌++◌, length, get_or, Some, None, if◌then◌else◌}
use Rattle.std.specs.Prelude.{option_map, nat_lt}
use Rattle.bus_semantics.specs.Common.{nat_tests, list_all, slice_get, filter-append, and_parts, append-nil, slice_get_within, get_or_from_slice_get, positions}
use Rattle.object_kinds.specs.Common.{place, is_rising}
use Rattle.std.specs.Prelude.{filter}
use Rattle.object_kinds.proofs.Lists.{all_end, all_kept}
use Rattle.object_kinds.proofs.Positions.{below_positions}

-- the same of each two places
abbrev pub IsRising : List ℕ → Type 0
IsRising xs = (i j : ℕ) → i < j → j < length xs → get_or xs i 0 < get_or xs j 0

above_at : (x : ℕ) (xs : List ℕ) (j : ℕ) → list_all (nat_lt x) xs ≡ true → j < length xs → x < get_or xs j 0
above_at x [] j all within = absurd (omega arith)
above_at x (y ∷ ys) zero all within = let first : nat_lt x y ≡ true = (and_parts (nat_lt x y) (list_all (nat_lt x) ys) all).0 in grind (arith, nat_tests)
above_at x (y ∷ ys) (suc j) all within = above_at x ys j (and_parts (nat_lt x y) (list_all (nat_lt x) ys) all).1 (omega arith)

pub rising_pairs : (xs : List ℕ) → is_rising xs ≡ true → IsRising xs
rising_pairs [] e i j less within = absurd (omega arith)
rising_pairs (x ∷ xs) e i zero less within = absurd (omega arith)
rising_pairs (x ∷ xs) e zero (suc j) less within = above_at x xs j (and_parts (list_all (nat_lt x) xs) (is_rising xs) e).0 (omega arith)
rising_pairs (x ∷ xs) e (suc i) (suc j) less within = rising_pairs xs (and_parts (list_all (nat_lt x) xs) (is_rising xs) e).1 i j (omega arith) (omega arith)

rising_end : (xs : List ℕ) (n : ℕ) → list_all (λ m. nat_lt m n) xs ≡ true → is_rising xs ≡ true → is_rising (xs ++ n ∷ []) ≡ true
rising_end [] n all up = refl
rising_end (x ∷ xs) n all up =
    let parts = and_parts (nat_lt x n) (list_all (λ m. nat_lt m n) xs) all in
    let rest = and_parts (list_all (nat_lt x) xs) (is_rising xs) up in
    ap (λ b. b && is_rising (xs ++ n ∷ [])) (all_end (nat_lt x) xs n rest.0 parts.0) ∙ rising_end xs n parts.1 rest.1

-- what is picked of the positions rises
pub rising_positions : (t : ℕ → Bool) (n : ℕ) → is_rising (filter t (positions n)) ≡ true
rising_positions t zero = refl
rising_positions t (suc n) = rw (filter-append t (positions n) (n ∷ [])) (by_test (t n) (rising_positions t n))
  where
    by_test : (b : Bool) → is_rising (filter t (positions n)) ≡ true → is_rising (filter t (positions n) ++ (if b then n ∷ [] else [])) ≡ true
    by_test true before = rising_end (filter t (positions n)) n (all_kept (λ m. nat_lt m n) t (positions n) (below_positions n)) before
    by_test false before = subst (λ xs. is_rising xs ≡ true) (sym (append-nil (filter t (positions n)))) before

pub rising_tail : (x : ℕ) (xs : List ℕ) → IsRising (x ∷ xs) → IsRising xs
rising_tail x xs rising i j less within = rising (suc i) (suc j) (omega arith) (omega arith)

pub place_below : (xs : List ℕ) (i : ℕ) → IsRising xs → i < length xs → i ≤ get_or xs i 0
place_below xs zero rising within = omega arith
place_below xs (suc i) rising within =
    let before : i ≤ get_or xs i 0 = place_below xs i rising (omega arith) in
    let step : get_or xs i 0 < get_or xs (suc i) 0 = rising i (suc i) (omega arith) within in
    omega arith

pub place_found : (xs : List ℕ) (i x : ℕ) → IsRising xs → i < length xs → get_or xs i 0 ≡ x → place x xs ≡ Some i
place_found [] i x rising within is = absurd (omega arith)
place_found (y ∷ ys) zero x rising within is = let same : (x == y) ≡ true = grind (arith, nat_tests) in rw same refl
place_found (y ∷ ys) (suc i) x rising within is =
    let less : y < get_or ys i 0 = rising zero (suc i) (omega arith) within in
    let other : (x == y) ≡ false = grind (arith, nat_tests) in
    rw other (ap (option_map (λ j. suc j)) (place_found ys i x (rising_tail y ys rising) (omega arith) is))

pub place_absent : (xs : List ℕ) (x : ℕ) → ((k : ℕ) → k < length xs → get_or xs k 0 ≡ x → ⊥) → place x xs ≡ None
place_absent [] x absent = refl
place_absent (y ∷ ys) x absent =
    let other : (x == y) ≡ false = differ (x == y) refl in
    rw other (ap (option_map (λ j. suc j)) (place_absent ys x (λ k within is. absent (suc k) (omega arith) is)))
  where
    differ : (b : Bool) → (x == y) ≡ b → (x == y) ≡ false
    differ true t = let same : y ≡ x = grind (arith, nat_tests) in absurd (absent zero (omega arith) same)
    differ false t = t

pub rising_below : (xs : List ℕ) → IsRising xs → (i j : ℕ) → i ≤ j → j < length xs → get_or xs i 0 ≤ get_or xs j 0
rising_below xs rising i j at_most within = by_test (i == j) refl
  where
    by_test : (b : Bool) → (i == j) ≡ b → get_or xs i 0 ≤ get_or xs j 0
    by_test true t = let same : i ≡ j = grind (arith, nat_tests) in subst (λ k. get_or xs i 0 ≤ get_or xs k 0) same (omega arith)
    by_test false t =
        let less : i < j = grind (arith, nat_tests) in
        let below : get_or xs i 0 < get_or xs j 0 = rising i j less within in
        omega arith

-- a search that found nothing: all before its place are below, and all from it on above
pub nowhere : (xs : List ℕ) (x i : ℕ) → ((k : ℕ) → k < i → get_or xs k 0 < x) → ((k : ℕ) → i ≤ k → k < length xs → x < get_or xs k 0) → place x xs ≡ None
nowhere xs x i below above = place_absent xs x (λ k within is. by_test k within is (nat_lt k i) refl)
  where
    by_test : (k : ℕ) → k < length xs → get_or xs k 0 ≡ x → (b : Bool) → nat_lt k i ≡ b → ⊥
    by_test k within is true t = let less : k < i = grind (arith, nat_tests) in let under = below k less in omega arith
    by_test k within is false t = let after : i ≤ k = grind (arith, nat_tests) in let over = above k after within in omega arith

-- what stands somewhere has its place there
pub place_here : (xs : List ℕ) (i x : ℕ) → is_rising xs ≡ true → slice_get xs i ≡ Some x → place x xs ≡ Some i
place_here xs i x up at = place_found xs i x (rising_pairs xs up) (slice_get_within xs i x at) (get_or_from_slice_get xs i x 0 at)
