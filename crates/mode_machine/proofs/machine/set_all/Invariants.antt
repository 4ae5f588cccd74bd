use Rattle.std.proofs.Common.{◌≡◌, true}
use Rattle.mode_machine.proofs.Each.{so_far}
use Rattle.mode_machine.proofs.machine.set_all.Given as goal

abbrev pub invariant-loop-flag : goal.invariant-loop-flag
invariant-loop-flag l = l.flags ≡ so_far (λ _. true) l.flag-index l.initial.flags
