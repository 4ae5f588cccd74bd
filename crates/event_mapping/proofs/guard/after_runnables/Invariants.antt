use Rattle.std.proofs.Common.{◌≡◌, ◌-◌, take}
use Rattle.std.specs.List.{sum_by}
use Rattle.event_mapping.specs.Guard.{points_of_runnable}
use Rattle.event_mapping.proofs.guard.after_runnables.Given as goal

abbrev pub invariant-loop-runnable : goal.invariant-loop-runnable
invariant-loop-runnable l = l.rest ≡ l.left - sum_by points_of_runnable (take l.runnable-index l.runnables)
