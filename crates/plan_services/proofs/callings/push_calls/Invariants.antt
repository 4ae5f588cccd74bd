use Rattle.std.proofs.Common.{◌≡◌, ◌++◌, take}
use Rattle.std.specs.List.{flat_map}
use Rattle.plan_definitions.specs.Callings.{calling_of}
use Rattle.plan_services.proofs.callings.push_calls.Given as goal

abbrev pub invariant-loop-access : goal.invariant-loop-access
invariant-loop-access l = l.list.items ≡ l.initial.list.items ++ flat_map (calling_of l.instance l.runnable) (take l.access-index l.accesses)
