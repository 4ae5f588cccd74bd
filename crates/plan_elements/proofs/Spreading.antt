-- Numbers that spread over pairs of positions, turn by turn.
use Rattle.std.proofs.Common.{◌≡◌, ℕ, ◌+◌, ◌<◌, List, [], ◌∷◌, ◌++◌, map, length, get_or, drop, min, refl, sym, ap, ◌∙◌, arith}
use Rattle.std.specs.List.{flat_map}
use Rattle.std.proofs.lemmas.List.{at_drop_more, map-append}
use Rattle.plan_definitions.specs.ElementGroups.{least}
use Rattle.plan_elements.specs.Spreads.{across_pair}

least_min : (m n : ℕ) (ms : List ℕ) → min m (least n ms) ≡ least (min m n) ms
least_min m n [] = refl
least_min m n (k ∷ ms) = swap m k (least n ms) ∙ ap (min k) (least_min m n ms)
  where
    swap : (a b c : ℕ) → min a (min b c) ≡ min b (min a c)
    swap a b c = omega arith

least_append : (n : ℕ) (xs ys : List ℕ) → least n (xs ++ ys) ≡ least (least n xs) ys
least_append n [] ys = refl
least_append n (x ∷ xs) ys = ap (min x) (least_append n xs ys) ∙ least_min x (least n xs) ys

-- ---- a turn of the loop over pairs

pub spread_more : (pairs : List (ℕ × ℕ)) (f : ℕ → ℕ) (n i : ℕ) (d : ℕ × ℕ) (old new whole : ℕ) → i < length pairs → new ≡ least old (map f (across_pair n (get_or pairs i d)))
    → whole ≡ least old (map f (flat_map (across_pair n) (drop i pairs))) → whole ≡ least new (map f (flat_map (across_pair n) (drop (i + 1) pairs)))
spread_more pairs f n i d old new whole within is so_far = so_far ∙ at_drop_more (λ ps. least old (map f (flat_map (across_pair n) ps))) pairs i d within
    ∙ ap (least old) (map-append f here rest) ∙ least_append old (map f here) (map f rest) ∙ ap (λ m. least m (map f rest)) (sym is)
  where
    here : List ℕ
    here = across_pair n (get_or pairs i d)

    rest : List ℕ
    rest = flat_map (across_pair n) (drop (i + 1) pairs)
