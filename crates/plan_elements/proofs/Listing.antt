-- Instances that 32 bits number.
use Rattle.std.proofs.Common.{◌≡◌, ℕ, ◌+◌, ◌<◌, ◌^◌, List, length, get_or, ap, subst, arith}
use Rattle.std.proofs.lemmas.Option.{slice_get-get_or, slice_get_within}
use Rattle.plan_definitions.specs.Common.{Description, Flat, Instance, Among, positions, counted_at, numbered, runnables_of, HasFewThings}
use Rattle.plan_definitions.specs.declared.part.Part.TheVariants.{Runnables}
use Rattle.plan_definitions.proofs.Lists.{at, out_from, unmapped}

module _ (d : Description) (f : Flat) (xs : List (ℕ × ℕ)) (are : xs ≡ runnables_of d f) (few : HasFewThings d f) where
  -- a pair has the number of an instance
  pub few_instances : (n : ℕ) (z : ℕ × ℕ) → n < length xs → (get_or xs n z).0 < 2 ^ 32
  few_instances n z lt =
      let x = get_or xs n z in
      let there : Among x (runnables_of d f) = subst (λ ys. Among x ys) are (at xs n x (slice_get-get_or xs n z lt)) in
      let p = out_from (λ i (y : Instance). numbered i (counted_at Runnables d y)) 0 f.instances x there in
      let q = unmapped (λ (k : ℕ). (0 + p.0, k)) (positions 0 (counted_at Runnables d p.1)) x p.3 in
      let same : x.0 ≡ 0 + p.0 = ap (λ (y : ℕ × ℕ). y.0) q.2 in
      omega (arith, same, slice_get_within f.instances p.0 p.1 p.2, few.instances)
