-- Sums over what is seen of a list.
use Rattle.std.proofs.Common.{◌≡◌, ℕ, ◌+◌, List, [], ◌∷◌, map, fold, refl, sym}
use Rattle.std.specs.List.{sum_by}

module _ {X Y : Type 0} (g : X → Y) (f : Y → ℕ) where
  fold_seen : (a : ℕ) (xs : List X) → fold (λ s y. s + f y) a (map g xs) ≡ fold (λ s x. s + f (g x)) a xs
  fold_seen a [] = refl
  fold_seen a (x ∷ xs) = fold_seen (a + f (g x)) xs

  pub sum_seen : (xs : List X) → sum_by (λ x. f (g x)) xs ≡ sum_by f (map g xs)
  sum_seen xs = sym (fold_seen 0 xs)
