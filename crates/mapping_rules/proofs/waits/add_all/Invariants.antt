use Rattle.std.proofs.Common.{◌≡◌, ℕ, ◌||◌, drop, false, slice_get}
use Rattle.std.specs.Option.{option_map_or}
use Rattle.indexmap.specs.IndexSet.{contains}
use Rattle.plan_definitions.specs.Keys.{same_pair}
use Rattle.mapping_rules.specs.Waiting.{any_at, has_wait, waits_in}
use Rattle.mapping_rules.proofs.waits.add_all.Given as goal

abbrev pub invariant-loop-instance : goal.invariant-loop-instance
invariant-loop-instance l = (e : ℕ × ℕ) → (contains same_pair l.edges e
    || any_at (λ i x. option_map_or (waits_in l.servers.mapped.now.names.d.now l.servers.mapped.now.names.f.now e i) (slice_get l.servers.mapped.now.names.d.now.components x.component) false) l.instance
    (drop l.instance l.servers.mapped.now.names.f.now.instances))
    ≡ (contains same_pair l.initial.edges e || has_wait l.servers.mapped.now.names.d.now l.servers.mapped.now.names.f.now e)
