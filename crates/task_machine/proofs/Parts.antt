-- The item at a place of a list that stands around another.
use Rattle.std.proofs.Common.{◌≡◌, ℕ, zero, suc, ◌+◌, ◌-◌, ◌<◌, ◌≤◌, List, [], ◌∷◌, ◌++◌, length, take, drop, refl, sym, ap, ◌∙◌, arith}
use Rattle.std.specs.Prelude.{slice_get}

module _ {X : Type 0} where
  -- in the second of two lists
  back : (xs ys : List X) (i : ℕ) → length xs ≤ i → slice_get (xs ++ ys) i ≡ slice_get ys (i - length xs)
  back [] ys i past = let e : i ≡ i - 0 = omega arith in ap (slice_get ys) e
  back (x ∷ xs) ys zero past = absurd (omega (arith, past))
  back (x ∷ xs) ys (suc i) past = let e : i - length xs ≡ suc i - length (x ∷ xs) = omega arith in back xs ys i (omega (arith, past)) ∙ ap (slice_get ys) e

  -- in the first
  front : (xs ys : List X) (i : ℕ) → i < length xs → slice_get (xs ++ ys) i ≡ slice_get xs i
  front [] ys i within = absurd (omega (arith, within))
  front (x ∷ xs) ys zero within = refl
  front (x ∷ xs) ys (suc i) within = front xs ys i (omega (arith, within))

  dropped : (xs : List X) (n i : ℕ) → slice_get (drop n xs) i ≡ slice_get xs (n + i)
  dropped xs zero i = let e : i ≡ 0 + i = omega arith in ap (slice_get xs) e
  dropped [] (suc n) i = refl
  dropped (x ∷ xs) (suc n) i = let e : suc (n + i) ≡ suc n + i = omega arith in dropped xs n i ∙ ap (slice_get (x ∷ xs)) e

  long : (xs : List X) (n : ℕ) → n ≤ length xs → length (take n xs) ≡ n
  long xs zero within = refl
  long [] (suc n) within = absurd (omega (arith, within))
  long (x ∷ xs) (suc n) within = ap (λ k. suc k) (long xs n (omega (arith, within)))

  taken : (xs ys : List X) (n i : ℕ) → i < n → n ≤ length xs → slice_get (take n xs ++ ys) i ≡ slice_get xs i
  taken xs ys zero i before within = absurd (omega (arith, before))
  taken [] ys (suc n) i before within = absurd (omega (arith, within))
  taken (x ∷ xs) ys (suc n) zero before within = refl
  taken (x ∷ xs) ys (suc n) (suc i) before within = taken xs ys n i (omega (arith, before)) (omega (arith, within))

  module _ (around program : List X) (before i : ℕ) (within : before ≤ length around) where
    pub in_front : i < before → slice_get around i ≡ slice_get (take before around ++ (program ++ drop before around)) i
    in_front here = sym (taken around (program ++ drop before around) before i here within)

    behind : before ≤ i → slice_get (take before around ++ (program ++ drop before around)) i ≡ slice_get (program ++ drop before around) (i - before)
    behind past =
        let n = long around before within in
        back (take before around) (program ++ drop before around) i (omega (arith, n, past)) ∙ ap (λ k. slice_get (program ++ drop before around) (i - k)) n

    pub in_program : before ≤ i → i - before < length program → slice_get program (i - before) ≡ slice_get (take before around ++ (program ++ drop before around)) i
    in_program past here = sym (behind past ∙ front program (drop before around) (i - before) here)

    pub behind_it : before ≤ i → length program ≤ i - before → slice_get around (i - length program) ≡ slice_get (take before around ++ (program ++ drop before around)) i
    behind_it past over =
        let e : before + (i - before - length program) ≡ i - length program = omega (arith, past, over) in
        sym (behind past ∙ back program (drop before around) (i - before) over ∙ dropped around before (i - before - length program) ∙ ap (slice_get around) e)
