use Rattle.std.proofs.Common.{◌≡◌, ℕ, ◌||◌, drop}
use Rattle.indexmap.specs.IndexSet.{contains}
use Rattle.plan_definitions.specs.Keys.{same_pair}
use Rattle.mapping_rules.specs.Waiting.{pairs}
use Rattle.mapping_rules.proofs.waits.add_from_each.Given as goal

abbrev pub invariant-loop-task : goal.invariant-loop-task
invariant-loop-task l = (e : ℕ × ℕ) → (contains same_pair l.edges e || pairs e (drop l.task-index l.tasks) l.waits) ≡ (contains same_pair l.initial.edges e || pairs e l.tasks l.waits)
