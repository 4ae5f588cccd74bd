use Rattle.std.proofs.Common.{◌≡◌, ◌<◌, true, false, refl, ◌∙◌, subst, arith, length, get_or}
use Rattle.bus_semantics.specs.Common.{same_Some, plan_of}
use Rattle.trace_objects.proofs.Noting.{phases_noted}
use Rattle.trace_objects.proofs.Sets.{with_length, with_kept, with_it}
use Rattle.trace_objects.proofs.unrest.note_phase.Goals as goal

pub returns-then-machine-len : goal.returns-then-machine-len
returns-then-machine-len c = λ now objects among.
    let machines = c.args.machines.now in
    let more = c.insert.new.self in
    let at = c.in-Some.machine in
    let inside : at < length machines = omega (arith, c.if-machine-len.true, c.len.ensures, c.requires) in
    phases_noted (plan_of c.args.p.now) c.args.object now objects machines more (with_length machines more at c.insert.ensures) (with_kept machines more at c.insert.ensures inside)
    (λ n is less. subst (λ k. get_or more k false ≡ true) (same_Some at n (c.in-Some.ensures n is)) (with_it machines more at c.insert.ensures inside)) among

pub returns-else-machine-len : goal.returns-else-machine-len
returns-else-machine-len c = λ now objects among.
    let machines = c.args.machines.now in
    phases_noted (plan_of c.args.p.now) c.args.object now objects machines machines refl (λ n out. out)
    (λ n is less. let same : c.in-Some.machine ≡ n = same_Some c.in-Some.machine n (c.in-Some.ensures n is) in absurd (omega (arith, same, less, c.if-machine-len.false, c.len.ensures, c.requires))) among

pub returns-in_default : goal.returns-in_default
returns-in_default c = λ now objects among.
    let machines = c.args.machines.now in
    phases_noted (plan_of c.args.p.now) c.args.object now objects machines machines refl (λ n out. out) (λ n is less. absurd (cc (c.in_default.is ∙ c.in_default.ensures n is))) among
