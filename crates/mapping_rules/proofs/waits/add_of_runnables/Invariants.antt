use Rattle.std.proofs.Common.{◌≡◌, ℕ, ◌||◌, drop, nat_eq}
use Rattle.indexmap.specs.IndexSet.{contains}
use Rattle.plan_definitions.specs.Common.{same_pair, waits_by}
use Rattle.mapping_rules.specs.Groups.{values_at}
use Rattle.mapping_rules.specs.Waiting.{any_at, pairs}
use Rattle.mapping_rules.proofs.waits.add_of_runnables.Given as goal

abbrev pub invariant-loop-number : goal.invariant-loop-number
invariant-loop-number l = (e : ℕ × ℕ) → (contains same_pair l.edges e
    || any_at (λ m r. any_at (λ k a. pairs e (values_at (nat_eq m) l.tasks.entries.items) (waits_by l.servers.mapped.now.names.d.now l.servers.mapped.now.names.f.now l.instance a)) 0 r.accesses) l.number (drop l.number l.runnables))
    ≡ (contains same_pair l.initial.edges e
    || any_at (λ m r. any_at (λ k a. pairs e (values_at (nat_eq m) l.tasks.entries.items) (waits_by l.servers.mapped.now.names.d.now l.servers.mapped.now.names.f.now l.instance a)) 0 r.accesses) 0 l.runnables)
