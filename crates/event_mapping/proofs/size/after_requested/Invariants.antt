use Rattle.std.proofs.Common.{◌≡◌, ◌-◌, take}
use Rattle.std.specs.List.{sum_by}
use Rattle.plan_definitions.specs.PlanRules.{requested}
use Rattle.event_mapping.proofs.size.after_requested.Given as goal

abbrev pub invariant-loop-server : goal.invariant-loop-server
invariant-loop-server l = l.rest ≡ l.left - sum_by requested (take l.server-index l.servers)
