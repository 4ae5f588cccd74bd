use Rattle.std.proofs.Common.{◌≡◌, ◌++◌, take}
use Rattle.plan_definitions.specs.Planned.{named_areas}
use Rattle.event_mapping.proofs.areas.push_areas.Given as goal

abbrev pub invariant-loop-name : goal.invariant-loop-name
invariant-loop-name l = l.list.items ≡ l.initial.list.items ++ named_areas l.instance (take l.name-index l.names)
