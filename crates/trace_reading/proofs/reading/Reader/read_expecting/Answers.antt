use Rattle.std.proofs.Common.{sym, ◌∙◌}
use Rattle.bus_semantics.specs.Plan.{plan_of}
use Rattle.trace_reading.proofs.Judging.{is_read}
use Rattle.trace_reading.proofs.reading.Reader.read_expecting.Goals as goal

pub returns-then-is_read_as : goal.returns-then-is_read_as
returns-then-is_read_as c = record {
  reads = is_read c.args.v (plan_of c.args.self.now.plan.now) c.args.line.now c.in-Some.e.now (sym c.is_read_as.ensures ∙ c.if-is_read_as.true);
}
