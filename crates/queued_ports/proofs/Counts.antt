-- How often a block stands in a list of blocks.
use Rattle.std.proofs.Common.{◌≡◌, ◌<◌, ◌≤◌, ◌+◌, ◌==◌, ◌||◌, ℕ, zero, suc, refl, sym, ◌∙◌, ap, arith, Bool, true, false, cond, List, [], ◌∷◌, length}
use Rattle.std.specs.List.{count_by, list_any, range_with_len}
use Rattle.std.proofs.lemmas.Bool.{eqb-true, ne_eqb}
use Rattle.std.proofs.lemmas.List.Sums.{sum_by-cons}

abbrev pub one_if : Bool → ℕ
one_if b = cond b 1 0

pub count_cons : {X : Type 0} (p : X → Bool) (x : X) (xs : List X) → count_by p (x ∷ xs) ≡ one_if (p x) + count_by p xs
count_cons p x xs = sum_by-cons (λ y. one_if (p y)) x xs

pub count_all : {X : Type 0} (xs : List X) → count_by (λ _. true) xs ≡ length xs
count_all [] = refl
count_all (x ∷ xs) = omega (arith, count_cons (λ _. true) x xs, count_all xs)

pub none_counted : {X : Type 0} (p : X → Bool) (xs : List X) → count_by p xs ≡ 0 → list_any p xs ≡ false
none_counted p [] none = refl
none_counted p (x ∷ xs) none = by_first (p x) (sym (count_cons p x xs) ∙ none) (none_counted p xs)
  where
    by_first : (b : Bool) → one_if b + count_by p xs ≡ 0 → (count_by p xs ≡ 0 → list_any p xs ≡ false) → (b || list_any p xs) ≡ false
    by_first true e rest = absurd (omega arith)
    by_first false e rest = rest (omega arith)

-- ---- a number stands in a range once, or not at all

range_past : (a n b : ℕ) → b < a → count_by (λ f. b == f) (range_with_len a n) ≡ 0
range_past a zero b less = refl
range_past a (suc n) b less = omega (arith, count_cons (λ f. b == f) a (range_with_len (a + 1) n), ap one_if (ne_eqb b a (λ same. absurd (omega arith))), range_past (a + 1) n b (omega arith))

pub range_once : (a n b : ℕ) → count_by (λ f. b == f) (range_with_len a n) ≤ 1
range_once a zero b = omega arith
range_once a (suc n) b = by_first (b == a) refl (range_once (a + 1) n b)
  where
    by_first : (c : Bool) → (b == a) ≡ c → count_by (λ f. b == f) (range_with_len (a + 1) n) ≤ 1 → count_by (λ f. b == f) (range_with_len a (suc n)) ≤ 1
    by_first true same once =
        let is = eqb-true b a same in
        let past = range_past (a + 1) n b (omega arith) in
        omega (arith, count_cons (λ f. b == f) a (range_with_len (a + 1) n), ap one_if same, past)
    by_first false same once = omega (arith, count_cons (λ f. b == f) a (range_with_len (a + 1) n), ap one_if same)

pub range_within : (a n b : ℕ) → 0 < count_by (λ f. b == f) (range_with_len a n) → b < a + n
range_within a zero b some = absurd (omega arith)
range_within a (suc n) b some = by_first (b == a) refl (range_within (a + 1) n b)
  where
    by_first : (c : Bool) → (b == a) ≡ c → (0 < count_by (λ f. b == f) (range_with_len (a + 1) n) → b < (a + 1) + n) → b < a + suc n
    by_first true same later = let is = eqb-true b a same in omega arith
    by_first false same later =
        let rest : 0 < count_by (λ f. b == f) (range_with_len (a + 1) n) = omega (arith, count_cons (λ f. b == f) a (range_with_len (a + 1) n), ap one_if same) in
        let less = later rest in
        omega arith
