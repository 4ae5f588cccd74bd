use Rattle.std.proofs.Common.{◌≡◌, map, take}
use Rattle.plan_definitions.specs.Mapped.{is_mapped}
use Rattle.mapping_rules.proofs.tasks.list_mapped.Given as goal

abbrev pub invariant-loop-event : goal.invariant-loop-event
invariant-loop-event l = l.list.items ≡ map (is_mapped l.mapped.names.d.now l.mapped.names.f.now) (take l.event-index l.events)
