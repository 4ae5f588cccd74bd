use Rattle.std.proofs.Common.{◌≡◌, ℕ, ◌||◌, drop}
use Rattle.indexmap.specs.IndexSet.{contains}
use Rattle.plan_definitions.specs.Common.{same_pair, waits_by}
use Rattle.mapping_rules.specs.Waiting.{any_at, pairs}
use Rattle.mapping_rules.proofs.waits.add_of_runnable.Given as goal

abbrev pub invariant-loop-access : goal.invariant-loop-access
invariant-loop-access l = (e : ℕ × ℕ) → (contains same_pair l.edges e || any_at (λ k a. pairs e l.tasks (waits_by l.servers.mapped.now.names.d.now l.servers.mapped.now.names.f.now l.instance a)) 0 (drop l.access-index l.accesses))
    ≡ (contains same_pair l.initial.edges e || any_at (λ k a. pairs e l.tasks (waits_by l.servers.mapped.now.names.d.now l.servers.mapped.now.names.f.now l.instance a)) 0 l.accesses)
