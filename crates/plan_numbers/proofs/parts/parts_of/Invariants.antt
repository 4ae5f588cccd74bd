use Rattle.std.proofs.Common.{◌≡◌, ◌++◌, drop}
use Rattle.plan_definitions.specs.Common.{from, counted_at, numbered}
use Rattle.plan_numbers.proofs.parts.parts_of.Given as goal

abbrev pub invariant-loop-number : goal.invariant-loop-number
invariant-loop-number l = from 0 (λ i x. numbered i (counted_at l.part l.d x)) l.instances
    ≡ l.list.items ++ from l.number (λ i x. numbered i (counted_at l.part l.d x)) (drop l.number l.instances)
