use Rattle.std.proofs.Common.{◌≡◌, take}
use Rattle.std.specs.List.{flat_map}
use Rattle.mapping_rules.specs.Listed.{task_of}
use Rattle.mapping_rules.proofs.mapped.tasks_of.Given as goal

abbrev pub invariant-loop-mapped : goal.invariant-loop-mapped
invariant-loop-mapped l = l.list.items ≡ flat_map (task_of l.names.d.now l.names.f.now) (take l.mapped-index l.events)
