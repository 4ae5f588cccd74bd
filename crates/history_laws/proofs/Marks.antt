-- Masks of elements, and the words of those that are marked.
use Rattle.std.proofs.Common.{◌≡◌, ℕ, suc, ◌+◌, ◌*◌, ◌<◌, ◌≤◌, ℤ, Bool, true, false, ◌==◌, if◌then◌else◌, refl, ◌∙◌, ap, arith, List, [], ◌∷◌, ◌++◌, length, replicate, Option, Some, None}
use Rattle.std.proofs.Common.{length-append}
use Rattle.std.specs.Prelude.{◌/◌, ◌%◌, ◌^◌, nat_lt, flat_map, filter}
use Rattle.bus_semantics.specs.Common.{option_map_or, slice_get, and_from, and_parts, false≢true, ltb-true, nat_tests, length-replicate, Limits, Plan, words_at, words_of_all, marked}
use Rattle.bus_semantics.specs.Common.{marks_fit, mask_of, is_within}
use Rattle.std.proofs.Math.Nat.{zero-add, zero-lt-suc, pow-succ', add-mul-mod_self_left, add-mul-div_left}
use Rattle.bus_semantics.specs.declared.plan.ElemPlan.{ElemPlan}
use Rattle.history_laws.specs.Given.{are_within, elem_takes, limits_at, elems_take}

-- ---- masks

-- the mask of the elements that pass marks them
pub marks_those : (test : ℕ → Bool) (xs : List ℕ) → marked (mask_of test xs) xs ≡ filter test xs
marks_those test [] = refl
marks_those test (x ∷ xs) = by_test (test x) (marks_those test xs)
  where
    by_test : (b : Bool) → marked (mask_of test xs) xs ≡ filter test xs → marked ((if b then 1 else 0) + 2 * mask_of test xs) (x ∷ xs) ≡ (if b then x ∷ filter test xs else filter test xs)
    by_test true rest =
        let bit : (1 + 2 * mask_of test xs) % 2 ≡ 1 = add-mul-mod_self_left 1 2 (mask_of test xs) in
        let half : (1 + 2 * mask_of test xs) / 2 ≡ mask_of test xs = add-mul-div_left 1 (mask_of test xs) (zero-lt-suc 1) ∙ zero-add (mask_of test xs) in
        ap (λ n. if n == 1 then x ∷ marked ((1 + 2 * mask_of test xs) / 2) xs else marked ((1 + 2 * mask_of test xs) / 2) xs) bit ∙ ap (λ n. x ∷ marked n xs) half ∙ ap (λ ys. x ∷ ys) rest
    by_test false rest =
        let bit : (0 + 2 * mask_of test xs) % 2 ≡ 0 = add-mul-mod_self_left 0 2 (mask_of test xs) in
        let half : (0 + 2 * mask_of test xs) / 2 ≡ mask_of test xs = add-mul-div_left 0 (mask_of test xs) (zero-lt-suc 1) ∙ zero-add (mask_of test xs) in
        ap (λ n. if n == 1 then x ∷ marked ((0 + 2 * mask_of test xs) / 2) xs else marked ((0 + 2 * mask_of test xs) / 2) xs) bit ∙ ap (λ n. marked n xs) half ∙ rest

-- and no bit beyond
pub mask_fits : (test : ℕ → Bool) (xs : List ℕ) → marks_fit (mask_of test xs) xs ≡ true
mask_fits test [] = refl
mask_fits test (x ∷ xs) = by_test (test x) (ltb-true (mask_of test xs) (2 ^ length xs) (mask_fits test xs))
  where
    below : (m n most : ℕ) → m < n → most ≡ 2 * n → nat_lt (1 + 2 * m) most ≡ true
    below m n most less double = grind (arith, nat_tests)

    below_even : (m n most : ℕ) → m < n → most ≡ 2 * n → nat_lt (0 + 2 * m) most ≡ true
    below_even m n most less double = grind (arith, nat_tests)

    by_test : (b : Bool) → mask_of test xs < 2 ^ length xs → nat_lt ((if b then 1 else 0) + 2 * mask_of test xs) (2 ^ suc (length xs)) ≡ true
    by_test true less = below (mask_of test xs) (2 ^ length xs) (2 ^ suc (length xs)) less (pow-succ' 2 (length xs))
    by_test false less = below_even (mask_of test xs) (2 ^ length xs) (2 ^ suc (length xs)) less (pow-succ' 2 (length xs))

-- ---- words

-- some elements have as many limits as words
pub limits_count : (p : Plan) (xs : List ℕ) → length (flat_map (limits_at p) xs) ≡ words_of_all p xs
limits_count p [] = refl
limits_count p (x ∷ xs) = length-append (limits_at p x) (flat_map (limits_at p) xs) ∙ ap (λ n. n + length (flat_map (limits_at p) xs)) (at_one (slice_get p.elements x)) ∙ ap (λ n. words_at p x + n) (limits_count p xs)
  where
    at_one : (o : Option ElemPlan) → length (option_map_or (λ (e : ElemPlan). replicate e.words e.limits) o []) ≡ option_map_or (λ (e : ElemPlan). e.words) o 0
    at_one None = refl
    at_one (Some e) = length-replicate e.words e.limits

-- those that are marked have no more than all
pub marked_fewer : (p : Plan) (w : ℕ) (xs : List ℕ) → words_of_all p (marked w xs) ≤ words_of_all p xs
marked_fewer p w [] = omega arith
marked_fewer p w (x ∷ xs) = by_bit (w % 2 == 1) (marked_fewer p (w / 2) xs)
  where
    by_bit : (b : Bool) → words_of_all p (marked (w / 2) xs) ≤ words_of_all p xs → words_of_all p (if b then x ∷ marked (w / 2) xs else marked (w / 2) xs) ≤ words_at p x + words_of_all p xs
    by_bit true less = omega arith
    by_bit false less = omega arith

within_both : (ls ks : List Limits) (us vs : List ℤ) → are_within ls us ≡ true → are_within ks vs ≡ true → are_within (ls ++ ks) (us ++ vs) ≡ true
within_both [] ks [] vs one two = two
within_both [] ks (u ∷ us) vs one two = absurd (false≢true one)
within_both (l ∷ ls) ks [] vs one two = absurd (false≢true one)
within_both (l ∷ ls) ks (u ∷ us) vs one two =
    let parts = and_parts (is_within l u) (are_within ls us) one in
    and_from (is_within l u) (are_within (ls ++ ks) (us ++ vs)) parts.0 (within_both ls ks us vs parts.1 two)

-- what an element takes is within its limits
takes_within : (p : Plan) (x : ℕ) (ws : List ℤ) → elem_takes p x ws ≡ true → are_within (limits_at p x) ws ≡ true
takes_within p x ws takes = at_one (slice_get p.elements x) takes
  where
    at_one : (o : Option ElemPlan) → option_map_or (λ (e : ElemPlan). are_within (replicate e.words e.limits) ws) o false ≡ true → are_within (option_map_or (λ (e : ElemPlan). replicate e.words e.limits) o []) ws ≡ true
    at_one None takes = absurd (false≢true takes)
    at_one (Some e) takes = takes

-- the words of one element, and those of others
pub take_more : (p : Plan) (x : ℕ) (xs : List ℕ) (ws us : List ℤ) → elem_takes p x ws ≡ true → elems_take p xs us ≡ true → elems_take p (x ∷ xs) (ws ++ us) ≡ true
take_more p x xs ws us one rest = within_both (limits_at p x) (flat_map (limits_at p) xs) ws us (takes_within p x ws one) rest
