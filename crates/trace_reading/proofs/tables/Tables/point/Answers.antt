use Rattle.std.proofs.Common.{◌∙◌}
use Rattle.bus_semantics.specs.Plan.{plan_of}
use Rattle.trace_reading.proofs.Indexing.{first_point}
use Rattle.trace_reading.proofs.tables.Tables.point.Goals as goal

pub returns : goal.returns
returns c = c.find.ensures ∙ first_point (plan_of c.args.self.now.plan.now) c.args.caller c.args.name.now
