use Rattle.std.proofs.Common.{◌≡◌, ◌++◌, drop}
use Rattle.plan_definitions.specs.Lists.{from}
use Rattle.mapping_rules.specs.Listed.{tasks_at}
use Rattle.mapping_rules.proofs.mapped.Mapped.list_tasks.Given as goal

abbrev pub invariant-loop-number : goal.invariant-loop-number
invariant-loop-number l = from 0 (tasks_at l.self.names.d.now l.self.names.f.now l.instance) l.events ≡ l.list.items ++ from l.number (tasks_at l.self.names.d.now l.self.names.f.now l.instance) (drop l.number l.events)
