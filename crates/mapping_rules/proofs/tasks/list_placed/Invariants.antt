use Rattle.std.proofs.Common.{◌≡◌, map, take}
use Rattle.mapping_rules.specs.Placing.{task_entry}
use Rattle.mapping_rules.proofs.tasks.list_placed.Given as goal

abbrev pub invariant-loop-mapped : goal.invariant-loop-mapped
invariant-loop-mapped l = l.list.items ≡ map (task_entry l.names.d.now l.names.f.now) (take l.mapped-index l.events)
