use Rattle.std.proofs.Common.{◌≡◌, map, take}
use Rattle.plan_definitions.specs.Started.{target_of}
use Rattle.plan_services.proofs.targets.targets_of.Given as goal

abbrev pub invariant-loop-access : goal.invariant-loop-access
invariant-loop-access l = l.list.items ≡ map (target_of l.source.d.now l.source.f.now l.instance l.runnable) (take l.access-index l.accesses)
