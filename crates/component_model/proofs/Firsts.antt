-- The first of what holds at places of a list, one item on.
use Rattle.std.proofs.Common.{◌≡◌, ℕ, ◌+◌, ◌<◌, List, [], ◌∷◌, ◌++◌, map, drop, length, get_or, refl, ◌∙◌}
use Rattle.std.proofs.lemmas.List.{at_drop_more}
use Rattle.std.specs.Option.{option_or}
use Rattle.description_types.specs.Lists.{from, first}

pub first_joined : {Y : Type 0} (xs ys : List Y) → first (xs ++ ys) ≡ option_or (first xs) (first ys)
first_joined [] ys = refl
first_joined (x ∷ xs) ys = refl

pub first_turn : {X Y : Type 0} (f : ℕ → X → List Y) (xs : List X) (i : ℕ) (d : X) → i < length xs
    → first (from i f (drop i xs)) ≡ option_or (first (f i (get_or xs i d))) (first (from (i + 1) f (drop (i + 1) xs)))
first_turn f xs i d h = at_drop_more (λ ys. first (from i f ys)) xs i d h ∙ first_joined (f i (get_or xs i d)) (from (i + 1) f (drop (i + 1) xs))

pub first_turn_seen : {X Y Z : Type 0} (f : ℕ → X → List Y) (seen : Z → X) (zs : List Z) (i : ℕ) (d : Z) → i < length zs
    → first (from i f (map seen (drop i zs))) ≡ option_or (first (f i (seen (get_or zs i d)))) (first (from (i + 1) f (map seen (drop (i + 1) zs))))
first_turn_seen f seen zs i d h =
    at_drop_more (λ ys. first (from i f (map seen ys))) zs i d h ∙ first_joined (f i (seen (get_or zs i d))) (from (i + 1) f (map seen (drop (i + 1) zs)))
