use Rattle.std.proofs.Common.{◌∙◌, ◌&&◌, ap, sym, false, length, nat_lt}
use Rattle.bus_semantics.specs.Common.{same_number}
use Rattle.bus_laws.specs.Common.{MachinePlan}
use Rattle.trace_reading.proofs.Lookups.{looked_at, looked_past}
use Rattle.trace_reading.proofs.owners.switch_fits.Goals as goal

pub returns-then-same_number : goal.returns-then-same_number
returns-then-same_number c =
    ap (nat_lt c.args.mode) c.len.ensures
    ∙ ap (λ b. b && nat_lt c.args.mode (length c.in-Some.machine.now.modes)) (sym (sym c.same_number.ensures ∙ c.if-same_number.true))
    ∙ looked_at (λ (n : MachinePlan). same_number n.instance c.args.home && nat_lt c.args.mode (length n.modes)) false c.items.result.now c.args.p.now.machines c.args.machine c.in-Some.machine.now c.items.ensures c.in-Some.ensures.lookup.3.0 c.in-Some.ensures.lookup.1

pub returns-else-same_number : goal.returns-else-same_number
returns-else-same_number c =
    c.if-same_number.false
    ∙ ap (λ b. b && nat_lt c.args.mode (length c.in-Some.machine.now.modes)) (sym (sym c.same_number.ensures ∙ c.if-same_number.false))
    ∙ looked_at (λ (n : MachinePlan). same_number n.instance c.args.home && nat_lt c.args.mode (length n.modes)) false c.items.result.now c.args.p.now.machines c.args.machine c.in-Some.machine.now c.items.ensures c.in-Some.ensures.lookup.3.0 c.in-Some.ensures.lookup.1

pub returns-in-None : goal.returns-in-None
returns-in-None c =
    looked_past _ false c.items.result.now c.args.p.now.machines c.args.machine c.items.ensures c.in-None.ensures.lookup.3
