-- Where as many events are listed as are mapped, each of them is named.
use Rattle.std.proofs.Common.{◌≡◌, ℕ, suc, ◌+◌, ◌≤◌, List, [], ◌∷◌, ◌++◌, length, is_some, Option, Some, None, refl, arith}
use Rattle.bus_semantics.specs.Common.{flat_map, option_map_or, option_or}
use Rattle.plan_definitions.specs.Common.{Description, MappedEvent, Flat, first_of, unless, named_by, unnamed}
use Rattle.mapping_rules.specs.Listed.{task_of}

module _ (d : Description) (f : Flat) where
  one_at_most : (o : Option (ℕ × ℕ)) (x : MappedEvent) (es : List ((ℕ × ℕ) × ℕ)) (n : ℕ) → length es ≤ n → length (option_map_or (λ e. (e, x.task) ∷ []) o [] ++ es) ≤ suc n
  one_at_most None x es n h = omega (arith, h)
  one_at_most (Some e) x es n h = omega (arith, h)

  listed_at_most : (xs : List MappedEvent) → length (flat_map (task_of d f) xs) ≤ length xs
  listed_at_most [] = omega arith
  listed_at_most (x ∷ xs) = one_at_most (named_by d f x) x (flat_map (task_of d f) xs) (length xs) (listed_at_most xs)

  one_named : (o : Option (ℕ × ℕ)) (x : MappedEvent) (es : List ((ℕ × ℕ) × ℕ)) (n k : ℕ) (rest : Option ℕ) → length es ≤ n → length (option_map_or (λ e. (e, x.task) ∷ []) o [] ++ es) ≡ suc n
      → (length es ≡ n → rest ≡ None) → option_or (unless (is_some o) k) rest ≡ None
  one_named None x es n k rest most same others = absurd (omega (arith, most, same))
  one_named (Some e) x es n k rest most same others = others (omega (arith, same))

  none_unnamed : (xs : List MappedEvent) (k : ℕ) → length (flat_map (task_of d f) xs) ≡ length xs → first_of (λ k x. unless (is_some (named_by d f x)) k) k xs ≡ None
  none_unnamed [] k same = refl
  none_unnamed (x ∷ xs) k same = one_named (named_by d f x) x (flat_map (task_of d f) xs) (length xs) k (first_of (λ k x. unless (is_some (named_by d f x)) k) (k + 1) xs)
      (listed_at_most xs) same (λ rest. none_unnamed xs (k + 1) rest)

  pub all_named : length (flat_map (task_of d f) d.mapping.events) ≡ length d.mapping.events → unnamed d f ≡ None
  all_named same = none_unnamed d.mapping.events 0 same
