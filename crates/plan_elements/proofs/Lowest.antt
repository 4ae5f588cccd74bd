-- The least of some labels.
use Rattle.std.proofs.Common.{◌≡◌, ℕ, ◌+◌, ◌<◌, ◌≤◌, List, [], ◌∷◌, min, length, drop, get_or, sym, ap, ◌∙◌, arith}
use Rattle.std.proofs.lemmas.List.{at_drop_more, at_drop_all}
use Rattle.bus_semantics.specs.Bundles.{least}

least_min : (a m : ℕ) (ms : List ℕ) → min m (least a ms) ≡ least (min a m) ms
least_min a m [] = omega arith
least_min a m (n ∷ ms) = swap m n (least a ms) ∙ ap (λ k. min n k) (least_min a m ms)
  where
    swap : (a b c : ℕ) → min a (min b c) ≡ min b (min a c)
    swap a b c = omega arith

-- the loop that takes the least
pub least_more : (whole low new d : ℕ) (ms : List ℕ) (i : ℕ) → i < length ms → new ≡ min low (get_or ms i d) → whole ≡ least low (drop i ms) → whole ≡ least new (drop (i + 1) ms)
least_more whole low new d ms i within next so_far = so_far ∙ (at_drop_more (least low) ms i d within
    ∙ (least_min low (get_or ms i d) (drop (i + 1) ms) ∙ ap (λ k. least k (drop (i + 1) ms)) (sym next)))

pub least_all : (whole low : ℕ) (ms : List ℕ) (i : ℕ) → length ms ≤ i → whole ≡ least low (drop i ms) → low ≡ whole
least_all whole low ms i past so_far = sym (so_far ∙ at_drop_all (least low) ms i past)
