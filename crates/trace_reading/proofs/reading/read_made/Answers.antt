use Rattle.std.proofs.Common.{sym, ap, ◌∙◌}
use Rattle.bus_semantics.specs.Plan.{plan_of}
use Rattle.trace_reading.specs.Guess.{guess_of}
use Rattle.trace_reading.proofs.Judging.{is_read, none_read, other_read}
use Rattle.trace_reading.proofs.Naming.{named}
use Rattle.trace_reading.proofs.reading.read_made.Goals as goal

pub returns-then-is_read_as : goal.returns-then-is_read_as
returns-then-is_read_as c =
    is_read c.args.v (plan_of c.args.names.now.plan.now) c.args.line.now c.in-Some.e (sym c.is_read_as.ensures ∙ c.if-is_read_as.true)

pub returns-else-is_read_as : goal.returns-else-is_read_as
returns-else-is_read_as c =
    let p = plan_of c.args.names.now.plan.now in
    other_read c.args.v p (named p c.requires) c.args.line.now c.in-Some.e
    (ap (guess_of c.args.v p) (sym c.without_last.ensures) ∙ sym c.guess.ensures ∙ c.in-Some.is)
    (sym c.is_read_as.ensures ∙ c.if-is_read_as.false)

pub returns-in-None : goal.returns-in-None
returns-in-None c =
    let p = plan_of c.args.names.now.plan.now in
    none_read c.args.v p (named p c.requires) c.args.line.now (ap (guess_of c.args.v p) (sym c.without_last.ensures) ∙ sym c.guess.ensures ∙ c.in-None.is)
