use Rattle.std.proofs.Common.{◌≡◌, drop}
use Rattle.description_types.specs.Lists.{from, first}
use Rattle.description_types.specs.Refusals.{broken_among, operations_in, broken_operations}
use Rattle.description_types.proofs.check.first_broken_operation.Given as goal

abbrev pub invariant-loop-position : goal.invariant-loop-position
invariant-loop-position l =
    first (from l.position (λ i x. broken_among l.types i (operations_in x.kind)) (drop l.position l.interfaces)) ≡ first (broken_operations l.types l.interfaces)
