use Rattle.std.proofs.Common.{◌∙◌, ap, false}
use Rattle.bus_semantics.specs.Common.{same_number, plan_of}
use Rattle.trace_reading.proofs.Lookups.{looked_past, result_alone, result_at, result_off}
use Rattle.trace_reading.proofs.owners.result_point.Goals as goal

pub returns-then-point : goal.returns-then-point
returns-then-point c =
    c.same_number.ensures
    ∙ ap (λ o. same_number o c.args.home) c.instance_of.ensures
    ∙ result_at (plan_of c.args.p.now) c.args.home c.items.result.now c.args.point c.in-Some.point.now c.items.ensures c.in-Some.ensures.lookup.3.0 c.in-Some.ensures.lookup.1 c.in-Some-runnable.runnable c.in-Some-runnable.is c.if-point.true

pub returns-in-None : goal.returns-in-None
returns-in-None c =
    looked_past _ false c.items.result.now c.args.p.now.points c.args.point c.items.ensures c.in-None.ensures.lookup.3

pub returns-else-point : goal.returns-else-point
returns-else-point c =
    result_off (plan_of c.args.p.now) c.args.home c.items.result.now c.args.point c.in-Some.point.now c.items.ensures c.in-Some.ensures.lookup.3.0 c.in-Some.ensures.lookup.1 c.in-Some-runnable.runnable c.in-Some-runnable.is c.if-point.false

pub returns-in-None-runnable : goal.returns-in-None-runnable
returns-in-None-runnable c =
    result_alone (plan_of c.args.p.now) c.args.home c.items.result.now c.args.point c.in-Some.point.now c.items.ensures c.in-Some.ensures.lookup.3.0 c.in-Some.ensures.lookup.1 c.in-None-runnable.is
