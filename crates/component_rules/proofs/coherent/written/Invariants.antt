use Rattle.std.proofs.Common.{◌≡◌, take}
use Rattle.std.specs.List.{flat_map}
use Rattle.plan_definitions.specs.Coherent.{written_by}
use Rattle.component_rules.proofs.coherent.written.Given as goal

abbrev pub invariant-loop-access : goal.invariant-loop-access
invariant-loop-access l = l.found.items ≡ flat_map written_by (take l.access-index l.accesses)
