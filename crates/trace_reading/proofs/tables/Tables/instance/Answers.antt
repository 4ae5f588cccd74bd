use Rattle.std.proofs.Common.{◌∙◌}
use Rattle.bus_semantics.specs.Plan.{plan_of}
use Rattle.trace_reading.proofs.Indexing.{first_instance}
use Rattle.trace_reading.proofs.tables.Tables.instance.Goals as goal

pub returns : goal.returns
returns c = c.find.ensures ∙ first_instance (plan_of c.args.self.now.plan.now) c.args.path.now
