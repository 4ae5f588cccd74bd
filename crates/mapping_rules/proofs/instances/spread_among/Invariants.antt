use Rattle.std.proofs.Common.{◌≡◌, ℕ, drop, nat_eq}
use Rattle.plan_definitions.specs.Common.{first_of, unless, are_same}
use Rattle.mapping_rules.specs.Groups.{values_at}
use Rattle.mapping_rules.proofs.instances.spread_among.Given as goal

abbrev pub invariant-loop-number : goal.invariant-loop-number
invariant-loop-number l = first_of {Y = ℕ × ℕ} (λ m r. unless (are_same (values_at (nat_eq m) l.tasks.entries.items)) (l.instance, m)) 0 l.runnables
    ≡ first_of {Y = ℕ × ℕ} (λ m r. unless (are_same (values_at (nat_eq m) l.tasks.entries.items)) (l.instance, m)) l.number (drop l.number l.runnables)
