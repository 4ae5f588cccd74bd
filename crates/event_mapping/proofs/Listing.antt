-- The turns of the loops that list.
use Rattle.std.proofs.Common.{◌≡◌, ℕ, ◌+◌, ◌<◌, ◌≤◌, List, ◌++◌, length, get_or, drop, sym, ap, subst, ◌∙◌}
use Rattle.std.proofs.lemmas.List.{append-nil}
use Rattle.plan_definitions.specs.Lists.{from}
use Rattle.plan_definitions.proofs.Turns.{from_more, from_none}

module _ {X Y : Type 0} (f : ℕ → X → List Y) where
  -- the turn and the end of a loop over the same list
  pub from_pushed : (xs js : List X) → js ≡ xs → (whole old new : List Y) (i : ℕ) (x : X) → i < length js → x ≡ get_or js i x → new ≡ old ++ f i x
      → whole ≡ old ++ from i f (drop i xs) → whole ≡ new ++ from (i + 1) f (drop (i + 1) xs)
  from_pushed xs js are whole old new i x within is pushed so_far =
      from_more f xs whole old i x (subst (λ l. i < length l) are within) (is ∙ ap (λ l. get_or l i x) are) so_far
      ∙ (λ j. sym pushed j ++ from (i + 1) f (drop (i + 1) xs))

  pub from_all : (xs js : List X) → js ≡ xs → (whole old : List Y) (i : ℕ) → length js ≤ i → whole ≡ old ++ from i f (drop i xs) → old ≡ whole
  from_all xs js are whole old i past so_far = sym (so_far ∙ ap (λ l. old ++ l) (from_none f xs i i (subst (λ l. length l ≤ i) are past)) ∙ append-nil old)
