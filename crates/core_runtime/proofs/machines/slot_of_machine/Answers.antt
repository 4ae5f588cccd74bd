use Rattle.std.proofs.Common.{◌≡◌, ◌-◌, ap, arith, length, Some}
use Rattle.std.proofs.lemmas.Option.{same_Some}
use Rattle.core_runtime.proofs.machines.slot_of_machine.Goals as goal
use Rattle.core_runtime.proofs.machines.slot_of_machine.Goals.{else-machine-machines-via-then-machine-machines+else-machines-machine, else-machine-machines-via-else-machine-machines}

pub returns-then-machines-machine-clause-slot : goal.returns-then-machines-machine-clause-slot
returns-then-machines-machine-clause-slot c = λ machine at is place within.
    let same : c.in-Some.machine ≡ machine = same_Some _ _ (c.in-Some.ensures machine is) in
    let count : c.len-machines.result ≡ length c.args.p.now.machines = omega arith in
    let slot : c.args.slots - (c.len-machines.result - c.in-Some.machine) ≡ at = omega (arith, place, within, same, count, c.if-machine-machines.true, c.if-machines-machine.true) in
    ap (λ n. Some n) slot

pub returns-else-machine-machines-clause-slot : goal.returns-else-machine-machines-clause-slot
returns-else-machine-machines-clause-slot c = λ machine at is place within.
    let same : c.in-Some.machine ≡ machine = same_Some _ _ (c.in-Some.ensures machine is) in
    let count : c.len-machines.result ≡ length c.args.p.now.machines = omega arith in
    elim c.else-machine-machines.branch [
      | else-machine-machines-via-then-machine-machines+else-machines-machine w ↦ absurd (omega (arith, place, within, same, count, w.if-machine-machines.true, w.if-machines-machine.false))
      | else-machine-machines-via-else-machine-machines w ↦ absurd (omega (arith, place, within, same, count, w.if-machine-machines.false))
    ]

pub returns-in-None-clause-slot : goal.returns-in-None-clause-slot
returns-in-None-clause-slot c = λ machine at is place within. absurd (cc (c.in-None.ensures machine is))
