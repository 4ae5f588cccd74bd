use Rattle.std.proofs.Common.{◌≡◌, ℕ, drop, is_some}
use Rattle.plan_definitions.specs.Common.{first_of, unless, named_by}
use Rattle.mapping_rules.proofs.check.unnamed.Given as goal

abbrev pub invariant-loop-number : goal.invariant-loop-number
invariant-loop-number l = first_of {Y = ℕ} (λ k x. unless (is_some (named_by l.names.d.now l.names.f.now x)) k) 0 l.events
    ≡ first_of {Y = ℕ} (λ k x. unless (is_some (named_by l.names.d.now l.names.f.now x)) k) l.number (drop l.number l.events)
