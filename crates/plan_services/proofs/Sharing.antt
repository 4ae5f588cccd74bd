-- What is shared, found at the place of that to which it belongs.
use Rattle.std.proofs.Common.{◌≡◌, ℕ, ◌<◌, List, map, length, get_or, sym, ap, subst, ◌∙◌}
use Rattle.std.proofs.lemmas.List.{get_or-map, length-map}

module _ {X Y Z : Type 0} (seen : X → Z) (read : Y → Z) (xs : List X) (ys : List Y) (same : map seen xs ≡ map read ys) where
  pub within : (i : ℕ) → i < length ys → i < length xs
  within i small = subst (λ n. i < n) (sym (length-map ys read) ∙ (ap length (sym same) ∙ length-map xs seen)) small

  pub at_place : (i : ℕ) (x : X) (y : Y) → i < length ys → x ≡ get_or xs i x → y ≡ get_or ys i y → seen x ≡ read y
  at_place i x y small here there =
      ap seen here ∙ (sym (get_or-map seen xs i x (seen x) (within i small))
      ∙ (ap (λ zs. get_or zs i (seen x)) same ∙ (get_or-map read ys i y (seen x) small ∙ ap read (sym there))))
