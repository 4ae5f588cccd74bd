use Rattle.std.proofs.Common.{◌≡◌, take, map}
use Rattle.plan_definitions.specs.Mapped.{event_names}
use Rattle.mapping_rules.specs.Naming.{names_of}
use Rattle.mapping_rules.proofs.naming.events_of_all.Given as goal

abbrev pub invariant-loop-component : goal.invariant-loop-component
invariant-loop-component l = map names_of l.list.items ≡ map event_names (take l.component-index l.components)
