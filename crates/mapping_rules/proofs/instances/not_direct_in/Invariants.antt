use Rattle.std.proofs.Common.{◌≡◌, ℕ, drop}
use Rattle.plan_definitions.specs.Common.{first_of, unless, keeps_direct}
use Rattle.mapping_rules.proofs.instances.not_direct_in.Given as goal

abbrev pub invariant-loop-number : goal.invariant-loop-number
invariant-loop-number l = first_of {Y = ℕ × ℕ} (λ m e. unless (keeps_direct l.servers.mapped.now.names.d.now l.servers.mapped.now.names.f.now l.instance l.component m e) (l.instance, m)) 0 l.component.behavior.events
    ≡ first_of {Y = ℕ × ℕ} (λ m e. unless (keeps_direct l.servers.mapped.now.names.d.now l.servers.mapped.now.names.f.now l.instance l.component m e) (l.instance, m)) l.number (drop l.number l.component.behavior.events)
