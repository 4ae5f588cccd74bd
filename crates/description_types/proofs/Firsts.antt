-- The first of what holds at places of a list, one item on.
use Rattle.std.proofs.Common.{◌≡◌, ℕ, ◌+◌, ◌<◌, List, [], ◌∷◌, ◌++◌, drop, length, get_or, refl, ◌∙◌}
use Rattle.std.proofs.lemmas.List.{at_drop_more}
use Rattle.std.specs.Option.{option_or}
use Rattle.description_types.specs.Lists.{from, first}

first_joined : {Y : Type 0} (xs ys : List Y) → first (xs ++ ys) ≡ option_or (first xs) (first ys)
first_joined [] ys = refl
first_joined (x ∷ xs) ys = refl

pub first_turn : {X Y : Type 0} (f : ℕ → X → List Y) (xs : List X) (i : ℕ) (d : X) → i < length xs
    → first (from i f (drop i xs)) ≡ option_or (first (f i (get_or xs i d))) (first (from (i + 1) f (drop (i + 1) xs)))
first_turn f xs i d h = at_drop_more (λ ys. first (from i f ys)) xs i d h ∙ first_joined (f i (get_or xs i d)) (from (i + 1) f (drop (i + 1) xs))
