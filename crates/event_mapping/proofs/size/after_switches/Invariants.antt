use Rattle.std.proofs.Common.{◌≡◌, ◌-◌, take}
use Rattle.std.specs.List.{sum_by}
use Rattle.event_mapping.proofs.size.after_switches.Given as goal

abbrev pub invariant-loop-machine : goal.invariant-loop-machine
invariant-loop-machine l = l.rest ≡ l.left - sum_by (λ m. m.queue) (take l.machine-index l.machines)
