use Rattle.std.proofs.Common.{ℕ, ◌<◌}
use Rattle.description_types.specs.Paths.{ContainsItself}
use Rattle.composition_tables.proofs.containing.first_in_itself.Given as goal

abbrev pub invariant-loop-composition : goal.invariant-loop-composition
invariant-loop-composition l = (n : ℕ) → n < l.composition → ¬ ContainsItself l.d n
