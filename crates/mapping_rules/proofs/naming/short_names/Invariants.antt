use Rattle.std.proofs.Common.{◌≡◌, take, map}
use Rattle.mapping_rules.specs.Naming.{names_of}
use Rattle.mapping_rules.proofs.naming.short_names.Given as goal

abbrev pub invariant-loop-event : goal.invariant-loop-event
invariant-loop-event l = names_of l.list.items ≡ map (λ e. e.short_name) (take l.event-index l.events)
