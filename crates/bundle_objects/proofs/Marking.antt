-- The words of the marked elements of a list, element by element.
use Rattle.std.proofs.Common.{◌≡◌, ◌⊎◌, ◌<◌, ◌≤◌, ◌+◌, ◌/◌, ◌%◌, ◌==◌, ℕ, ℤ, zero, suc, true, false, if◌then◌else◌, refl, sym, ◌∙◌, ap, subst, arith, inl, inr, List, [], ◌∷◌, ◌++◌, length}
use Rattle.std.proofs.Common.{length-append, take, drop, get_or, min, Some}
use Rattle.std.specs.Prelude.{flat_map}
use Rattle.bus_semantics.specs.Common.{option_map_or, cases_lt, take_all, drop_more, words_of, Plan, words_at, marked, split}
use Rattle.std.proofs.lemmas.List.{length-take}
use Rattle.bundle_objects.specs.Kept.{Kept}
use Rattle.bundle_objects.specs.Leading.{value_kept, moment_in, store, publish}
use Rattle.bundle_objects.specs.Words.{value_of}

-- ---- the first of some words

pub take_least : (n m : ℕ) (ws : List ℤ) → m ≡ min n (length ws) → take m ws ≡ take n ws
take_least n m ws is = by_order (cases_lt n (length ws))
  where
    by_order : (n < length ws) ⊎ (length ws ≤ n) → take m ws ≡ take n ws
    by_order (inl less) = let same : m ≡ n = omega (arith, is, less) in ap (λ k. take k ws) same
    by_order (inr past) = let all : length ws ≤ m = omega (arith, is, past) in take_all m ws all ∙ sym (take_all n ws past)

pub take_short : (n : ℕ) (ws : List ℤ) → length ws ≤ 16 → length (take n ws) ≤ 16
take_short n ws short = omega (arith, short, length-take n ws)

-- ---- one element more

module _ (p : Plan) (k : Kept) (marks i : ℕ) (elems : List ℕ) (rest : List ℤ) (within : i < length elems) where
  front : drop i elems ≡ get_or elems i 0 ∷ drop (i + 1) elems
  front = drop_more elems i 0 within

  pub marked_more : (marks % 2 == 1) ≡ true
      → publish p (store p k (get_or elems i 0) (value_of (take (words_at p (get_or elems i 0)) rest))) (split p (marked (marks / 2) (drop (i + 1) elems)) (drop (words_at p (get_or elems i 0)) rest))
      ≡ publish p k (split p (marked marks (drop i elems)) rest)
  marked_more is =
      let x = get_or elems i 0 in
      let more = marked (marks / 2) (drop (i + 1) elems) in
      sym (ap (λ xs. publish p k (split p (marked marks xs) rest)) front ∙ ap (λ b. publish p k (split p (if b then x ∷ more else more) rest)) is)

  pub passed_more : (marks % 2 == 1) ≡ false → publish p k (split p (marked (marks / 2) (drop (i + 1) elems)) rest) ≡ publish p k (split p (marked marks (drop i elems)) rest)
  passed_more off =
      let x = get_or elems i 0 in
      let more = marked (marks / 2) (drop (i + 1) elems) in
      sym (ap (λ xs. publish p k (split p (marked marks xs) rest)) front ∙ ap (λ b. publish p k (split p (if b then x ∷ more else more) rest)) off)

-- ---- the words of some elements are among those of all

pub moment_more : (p : Plan) (k : Kept) (xs : List ℕ) (i : ℕ) → i < length xs → length (moment_in p k (take i xs)) + length (option_map_or words_of (value_kept p k (get_or xs i 0)) []) ≤ length (moment_in p k xs)
moment_more p k [] i within = absurd (omega arith)
moment_more p k (x ∷ xs) zero within = omega (arith, length-append (option_map_or words_of (value_kept p k x) []) (moment_in p k xs))
moment_more p k (x ∷ xs) (suc i) within =
    let rest = moment_more p k xs i (omega arith) in
    omega (arith, rest, length-append (option_map_or words_of (value_kept p k x) []) (moment_in p k (take i xs)), length-append (option_map_or words_of (value_kept p k x) []) (moment_in p k xs))
