use Rattle.std.proofs.Common.{◌≡◌, ◌++◌, take}
use Rattle.std.specs.List.{flat_map}
use Rattle.plan_text.specs.Calls.{all_seen}
use Rattle.plan_text.specs.Targets.{targets_of}
use Rattle.plan_text.proofs.calls.add_given_by.Given as goal

abbrev pub invariant-loop-access : goal.invariant-loop-access
invariant-loop-access l = all_seen l.calls.items ≡ all_seen l.fn.calls.items ++ flat_map (targets_of l.types l.component l.runnable) (take l.access-index l.runnable.accesses)
