use Rattle.std.proofs.Common.{◌≡◌, ℕ, ◌||◌, drop}
use Rattle.indexmap.specs.IndexSet.{contains}
use Rattle.plan_definitions.specs.Keys.{same_pair}
use Rattle.mapping_rules.specs.Waiting.{leads}
use Rattle.mapping_rules.proofs.waits.add_waits.Given as goal

abbrev pub invariant-loop-task : goal.invariant-loop-task
invariant-loop-task l = (e : ℕ × ℕ) → (contains same_pair l.edges e || leads e l.from (drop l.task-index l.waits)) ≡ (contains same_pair l.initial.edges e || leads e l.from l.waits)
