use Rattle.std.proofs.Common.{◌≡◌, ℕ, drop, option_and_then, slice_get}
use Rattle.plan_definitions.specs.Firsts.{first_of}
use Rattle.mapping_rules.specs.InstanceRules.{broken_in}
use Rattle.mapping_rules.proofs.instances.first_broken.Given as goal

abbrev pub invariant-loop-instance : goal.invariant-loop-instance
invariant-loop-instance l = first_of {Y = ℕ × ℕ} (λ i x. option_and_then (broken_in l.rule l.servers.mapped.now.names.d.now l.servers.mapped.now.names.f.now i) (slice_get l.servers.mapped.now.names.d.now.components x.component)) 0 l.servers.mapped.now.names.f.now.instances
    ≡ first_of {Y = ℕ × ℕ} (λ i x. option_and_then (broken_in l.rule l.servers.mapped.now.names.d.now l.servers.mapped.now.names.f.now i) (slice_get l.servers.mapped.now.names.d.now.components x.component)) l.instance (drop l.instance l.servers.mapped.now.names.f.now.instances)
