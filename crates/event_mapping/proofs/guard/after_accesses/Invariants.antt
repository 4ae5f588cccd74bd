use Rattle.std.proofs.Common.{◌≡◌, ◌-◌, take}
use Rattle.std.specs.List.{sum_by}
use Rattle.event_mapping.specs.Guard.{points_at}
use Rattle.event_mapping.proofs.guard.after_accesses.Given as goal

abbrev pub invariant-loop-access : goal.invariant-loop-access
invariant-loop-access l = l.rest ≡ l.left - sum_by points_at (take l.access-index l.accesses)
