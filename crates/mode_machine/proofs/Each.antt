-- What is done to each item of a list, one after the other.
use Rattle.std.proofs.Common.{◌≡◌, ◌<◌, ◌≤◌, ◌+◌, ◌-◌, ℕ, zero, suc, refl, sym, ◌∙◌, ap, arith, Bool, true, List, [], ◌∷◌, ◌++◌, length, get_or, map, set, take, drop, replicate}

module _ {X : Type 0} (f : X → X) where
  -- the first items are done
  abbrev pub so_far : (at : ℕ) → List X → List X
  so_far at xs = map f (take at xs) ++ drop at xs

  pub next_done : (at : ℕ) (xs : List X) (d : X) → at < length xs → set (so_far at xs) at (f (get_or (so_far at xs) at d)) ≡ so_far (suc at) xs
  next_done at [] d within = absurd (omega arith)
  next_done zero (x ∷ xs) d within = refl
  next_done (suc at) (x ∷ xs) d within = ap (λ ys. f x ∷ ys) (next_done at xs d (omega arith))

  pub all_done : (at : ℕ) (xs : List X) → length xs ≤ at → so_far at xs ≡ map f xs
  all_done zero [] past = refl
  all_done zero (x ∷ xs) past = absurd (omega arith)
  all_done (suc at) [] past = refl
  all_done (suc at) (x ∷ xs) past = ap (λ ys. f x ∷ ys) (all_done at xs (omega arith))

  pub not_yet : (at : ℕ) (xs : List X) (d : X) → get_or (so_far at xs) at d ≡ get_or xs at d
  not_yet zero [] d = refl
  not_yet (suc at) [] d = refl
  not_yet zero (x ∷ xs) d = refl
  not_yet (suc at) (x ∷ xs) d = not_yet at xs d

  pub as_many_so_far : (at : ℕ) (xs : List X) → length (so_far at xs) ≡ length xs
  as_many_so_far zero [] = refl
  as_many_so_far (suc at) [] = refl
  as_many_so_far zero (x ∷ xs) = refl
  as_many_so_far (suc at) (x ∷ xs) = ap suc (as_many_so_far at xs)

  -- an item that is done already
  one_same : (at : ℕ) (xs : List X) (d : X) → at < length xs → f (get_or xs at d) ≡ get_or xs at d → so_far at xs ≡ so_far (suc at) xs
  one_same at [] d within same = absurd (omega arith)
  one_same zero (x ∷ xs) d within same = ap (λ y. y ∷ xs) (sym same)
  one_same (suc at) (x ∷ xs) d within same = ap (λ ys. f x ∷ ys) (one_same at xs d (omega arith) same)

  many_same : (count at : ℕ) (xs : List X) (d : X) → at + count ≤ length xs → ((k : ℕ) → at ≤ k → k < at + count → f (get_or xs k d) ≡ get_or xs k d) → so_far at xs ≡ so_far (at + count) xs
  many_same zero at xs d within same = let now : at ≡ at + 0 = omega arith in ap (λ n. so_far n xs) now
  many_same (suc count) at xs d within same =
      let next : suc at + count ≡ at + suc count = omega arith in
      one_same at xs d (omega arith) (same at (omega arith) (omega arith)) ∙ many_same count (suc at) xs d (omega (arith, within)) (λ k behind before. same k (omega (arith, behind)) (omega (arith, before)))
      ∙ ap (λ n. so_far n xs) next

  pub skipped : (at to : ℕ) (xs : List X) (d : X) → at ≤ to → to ≤ length xs → ((k : ℕ) → at ≤ k → k < to → f (get_or xs k d) ≡ get_or xs k d) → so_far at xs ≡ so_far to xs
  skipped at to xs d less within same =
      let whole : at + (to - at) ≡ to = omega arith in
      many_same (to - at) at xs d (omega (arith, less, within)) (λ k behind before. same k behind (omega (arith, before, less))) ∙ ap (λ n. so_far n xs) whole

pub done_twice : {X : Type 0} (f g h : X → X) (xs : List X) (d : X) → ((k : ℕ) → k < length xs → g (f (get_or xs k d)) ≡ h (get_or xs k d)) → map g (map f xs) ≡ map h xs
done_twice f g h [] d same = refl
done_twice f g h (x ∷ xs) d same = λ i. same 0 (omega arith) i ∷ done_twice f g h xs d (λ k within. same (suc k) (omega (arith, within))) i

pub map_after : {X Y : Type 0} (v : X → Y) (f : X → X) (xs : List X) → ((x : X) → v (f x) ≡ v x) → map v (map f xs) ≡ map v xs
map_after v f [] same = refl
map_after v f (x ∷ xs) same = λ i. same x i ∷ map_after v f xs same i

pub all_true : (xs : List Bool) → map (λ _. true) xs ≡ replicate (length xs) true
all_true [] = refl
all_true (x ∷ xs) = ap (λ ys. true ∷ ys) (all_true xs)
