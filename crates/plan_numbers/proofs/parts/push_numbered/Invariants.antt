use Rattle.std.proofs.Common.{◌≡◌, ◌++◌, ◌-◌, ℕ, map}
use Rattle.plan_definitions.specs.Lists.{positions}
use Rattle.plan_numbers.proofs.parts.push_numbered.Given as goal

abbrev pub invariant-loop-number : goal.invariant-loop-number
invariant-loop-number l = l.initial.list.items ++ map {B = ℕ × ℕ} (λ n. (l.instance, n)) (positions 0 l.count)
    ≡ l.list.items ++ map {B = ℕ × ℕ} (λ n. (l.instance, n)) (positions l.number (l.count - l.number))
