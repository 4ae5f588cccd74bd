use Rattle.std.proofs.Common.{◌≡◌, ◌++◌, take}
use Rattle.std.specs.List.{flat_map}
use Rattle.plan_definitions.specs.Calls.{called_by}
use Rattle.component_rules.proofs.calls.note_all_called.Given as goal

abbrev pub invariant-loop-access : goal.invariant-loop-access
invariant-loop-access l = l.found.items ≡ l.initial.found.items ++ flat_map called_by (take l.access-index l.accesses)
