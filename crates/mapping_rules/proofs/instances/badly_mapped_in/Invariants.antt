use Rattle.std.proofs.Common.{◌≡◌, ℕ, drop, length}
use Rattle.plan_definitions.specs.Common.{first_of, unless, mapped_as, is_mapped_well}
use Rattle.mapping_rules.proofs.instances.badly_mapped_in.Given as goal

abbrev pub invariant-loop-number : goal.invariant-loop-number
invariant-loop-number l = first_of {Y = ℕ × ℕ} (λ m e. unless (is_mapped_well e.kind (length (mapped_as l.servers.mapped.now.names.d.now l.servers.mapped.now.names.f.now (l.instance, m)))) (l.instance, m)) 0 l.component.behavior.events
    ≡ first_of {Y = ℕ × ℕ} (λ m e. unless (is_mapped_well e.kind (length (mapped_as l.servers.mapped.now.names.d.now l.servers.mapped.now.names.f.now (l.instance, m)))) (l.instance, m)) l.number (drop l.number l.component.behavior.events)
