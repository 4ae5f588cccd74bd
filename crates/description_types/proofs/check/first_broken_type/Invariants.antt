use Rattle.std.proofs.Common.{◌≡◌, drop}
use Rattle.description_types.specs.Lists.{from, unless, first}
use Rattle.description_types.specs.Ranges.{keeps_range}
use Rattle.description_types.specs.Refusals.{broken_types}
use Rattle.description_types.proofs.check.first_broken_type.Given as goal

abbrev pub invariant-loop-position : goal.invariant-loop-position
invariant-loop-position l = first (from l.position (λ i t. unless (keeps_range t) i) (drop l.position l.types)) ≡ first (broken_types l.types)
