use Rattle.std.proofs.Common.{◌≡◌, ◌-◌, length}
use Rattle.std.specs.List.{slice_get}
use Rattle.script_reading.specs.Offers.{first_from, goes_by, mode_in}
use Rattle.script_reading.proofs.environment.mode_in.Given as goal

abbrev pub invariant-loop-at : goal.invariant-loop-at
invariant-loop-at l = mode_in l.machine.modes l.name ≡ first_from (λ k. goes_by l.name (slice_get l.machine.modes k)) (length l.machine.modes - l.at) l.at
