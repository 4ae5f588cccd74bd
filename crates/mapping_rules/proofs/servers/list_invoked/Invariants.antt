use Rattle.std.proofs.Common.{◌≡◌, ◌++◌, drop}
use Rattle.plan_definitions.specs.Lists.{from}
use Rattle.mapping_rules.specs.Listed.{invoked_at}
use Rattle.mapping_rules.proofs.servers.list_invoked.Given as goal

abbrev pub invariant-loop-number : goal.invariant-loop-number
invariant-loop-number l = from 0 (λ m e. invoked_at m e.kind) l.events ≡ l.list.items ++ from l.number (λ m e. invoked_at m e.kind) (drop l.number l.events)
