-- The positions below a number, and those of them that pass a test: each once, and one after the other.
use Rattle.std.proofs.Common.{◌≡◌, ◌≤◌, ℕ, zero, suc, Bool, true, false, ◌&&◌, ◌||◌, not, ◌==◌, if◌then◌else◌, refl, sym, ◌∙◌, ap, subst, arith, List, [], ◌∷◌, ◌++◌, length, map, length-append}
use Rattle.std.specs.Prelude.{filter, nat_lt}
use Rattle.bus_semantics.specs.Common.{list_all, list_any, and_parts, not-true, or_parts, nat_tests, append-nil, filter-append, positions, is_distinct}
use Rattle.std.specs.List.{count_by}
use Rattle.std.proofs.lemmas.List.{map_push}
use Rattle.std.proofs.lemmas.List.Sums.{length-filter, count_by-le-length}
use Rattle.object_kinds.proofs.Lists.{all_end, all_kept}

-- ---- below, and how many

below_more : (xs : List ℕ) (n : ℕ) → list_all (λ m. nat_lt m n) xs ≡ true → list_all (λ m. nat_lt m (suc n)) xs ≡ true
below_more [] n all = refl
below_more (x ∷ xs) n all =
    let parts = and_parts (nat_lt x n) (list_all (λ m. nat_lt m n) xs) all in
    let less : nat_lt x n ≡ true = parts.0 in
    let more : nat_lt x (suc n) ≡ true = grind (arith, nat_tests) in
    ap (λ b. b && list_all (λ m. nat_lt m (suc n)) xs) more ∙ below_more xs n parts.1

pub below_positions : (n : ℕ) → list_all (λ m. nat_lt m n) (positions n) ≡ true
below_positions zero = refl
below_positions (suc n) = let last : nat_lt n (suc n) ≡ true = grind (arith, nat_tests) in all_end (λ m. nat_lt m (suc n)) (positions n) n (below_more (positions n) n (below_positions n)) last

pub length_positions : (n : ℕ) → length (positions n) ≡ n
length_positions zero = refl
length_positions (suc n) = let before : length (positions n) ≡ n = length_positions n in length-append (positions n) (n ∷ []) ∙ omega arith

pub few_positions : (t : ℕ → Bool) (n : ℕ) → length (filter t (positions n)) ≤ n
few_positions t n =
    let as_many : length (filter t (positions n)) ≡ count_by t (positions n) = length-filter t (positions n) in
    let fewer : count_by t (positions n) ≤ length (positions n) = count_by-le-length t (positions n) in
    let all : length (positions n) ≡ n = length_positions n in
    omega arith

-- ---- one after the other

one_position : (t : ℕ → Bool) (n : ℕ) → (if t n then filter t (positions n) ++ n ∷ [] else filter t (positions n)) ≡ filter t (positions (suc n))
one_position t n = rw (filter-append t (positions n) (n ∷ [])) (by_test (t n))
  where
    by_test : (b : Bool) → (if b then filter t (positions n) ++ n ∷ [] else filter t (positions n)) ≡ filter t (positions n) ++ (if b then n ∷ [] else [])
    by_test true = refl
    by_test false = sym (append-nil (filter t (positions n)))

-- a loop that appends the position where it passes
pub one_more : (t : ℕ → Bool) (n m : ℕ) (xs new : List ℕ) (passes : Bool) → m ≡ suc n → xs ≡ filter t (positions n) → passes ≡ t n → new ≡ (if passes then xs ++ n ∷ [] else xs) → new ≡ filter t (positions m)
one_more t n m xs new passes next before is made = subst (λ k. new ≡ filter t (positions k)) (sym next)
    (made ∙ (λ i. if is i then before i ++ n ∷ [] else before i) ∙ one_position t n)

-- a loop that appends what a function gives of it
pub mapped_more : {B : Type 0} (f : ℕ → B) (n m : ℕ) → m ≡ suc n → map f (positions n) ++ f n ∷ [] ≡ map f (positions m)
mapped_more f n m next = subst (λ k. map f (positions n) ++ f n ∷ [] ≡ map f (positions k)) (sym next) (sym (map_push f (positions n) n))

-- ---- each once

any_end : (xs : List ℕ) (x n : ℕ) → list_any (λ m. m == x) xs ≡ false → (n == x) ≡ false → list_any (λ m. m == x) (xs ++ n ∷ []) ≡ false
any_end [] x n none last = ap (λ b. b || false) last
any_end (y ∷ xs) x n none last = let parts = or_parts (y == x) (list_any (λ m. m == x) xs) none in
    ap (λ b. b || list_any (λ m. m == x) (xs ++ n ∷ [])) parts.0 ∙ any_end xs x n parts.1 last

distinct_end : (xs : List ℕ) (n : ℕ) → list_all (λ m. nat_lt m n) xs ≡ true → is_distinct xs ≡ true → is_distinct (xs ++ n ∷ []) ≡ true
distinct_end [] n all once = refl
distinct_end (x ∷ xs) n all once =
    let parts = and_parts (nat_lt x n) (list_all (λ m. nat_lt m n) xs) all in
    let less : nat_lt x n ≡ true = parts.0 in
    let differ : (n == x) ≡ false = grind (arith, nat_tests) in
    let alone = and_parts (not (list_any (λ m. m == x) xs)) (is_distinct xs) once in
    ap (λ b. not b && is_distinct (xs ++ n ∷ [])) (any_end xs x n (not-true (list_any (λ m. m == x) xs) alone.0) differ) ∙ distinct_end xs n parts.1 alone.1

pub distinct_positions : (t : ℕ → Bool) (n : ℕ) → is_distinct (filter t (positions n)) ≡ true
distinct_positions t zero = refl
distinct_positions t (suc n) = rw (filter-append t (positions n) (n ∷ [])) (by_test (t n) (distinct_positions t n))
  where
    by_test : (b : Bool) → is_distinct (filter t (positions n)) ≡ true → is_distinct (filter t (positions n) ++ (if b then n ∷ [] else [])) ≡ true
    by_test true before = distinct_end (filter t (positions n)) n (all_kept (λ m. nat_lt m n) t (positions n) (below_positions n)) before
    by_test false before = subst (λ xs. is_distinct xs ≡ true) (sym (append-nil (filter t (positions n)))) before

-- what passes among one position more
pub picked_more : (t : ℕ → Bool) (n next : ℕ) (xs : List ℕ) → next ≡ suc n → xs ≡ filter t (positions n) → (if t n then xs ++ n ∷ [] else xs) ≡ filter t (positions next)
picked_more t n next xs after is = by_test (t n) ∙ sym (filter-append t (positions n) (n ∷ [])) ∙ ap (λ k. filter t (positions k)) (sym after)
  where
    by_test : (b : Bool) → (if b then xs ++ n ∷ [] else xs) ≡ filter t (positions n) ++ (if b then n ∷ [] else [])
    by_test true = ap (λ ys. ys ++ n ∷ []) is
    by_test false = is ∙ sym (append-nil (filter t (positions n)))
