-- A list that is built from another, one at a time.
use Rattle.std.proofs.Common.{◌≡◌, ℕ, ◌+◌, ◌<◌, ◌≤◌, List, [], ◌∷◌, ◌++◌, map, length, get_or, take, sym, ap, ◌∙◌}
use Rattle.std.proofs.lemmas.List.{get_or-map, map_more, take_all}

module _ {X Y : Type 0} (f : X → Y) (xs : List X) (i : ℕ) where
  pub mapped_more : (d : X) (old new : List Y) (y : Y) → i < length xs → new ≡ old ++ y ∷ [] → y ≡ f (get_or xs i d) → old ≡ map f (take i xs) → new ≡ map f (take (i + 1) xs)
  mapped_more d old new y within pushed is so_far = pushed ∙ (λ j. so_far j ++ is j ∷ []) ∙ sym (map_more f xs i d within)

  pub mapped_all : (all : List Y) → length xs ≤ i → all ≡ map f (take i xs) → all ≡ map f xs
  mapped_all all past so_far = so_far ∙ ap (map f) (take_all i xs past)

  pub mapped_at : (d : X) (e : Y) (ys : List Y) → i < length xs → ys ≡ map f xs → get_or ys i e ≡ f (get_or xs i d)
  mapped_at d e ys within are = ap (λ l. get_or l i e) are ∙ get_or-map f xs i d e within
