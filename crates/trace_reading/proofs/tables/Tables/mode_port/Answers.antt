use Rattle.std.proofs.Common.{ap, ◌∙◌}
use Rattle.bus_semantics.specs.Plan.{plan_of}
use Rattle.trace_reading.specs.declared.tables.Kind.TheVariants as Kind
use Rattle.trace_reading.specs.Tables.{first_of}
use Rattle.trace_reading.proofs.Indexing.{first_mode_port}
use Rattle.trace_reading.proofs.tables.Tables.mode_port.Goals as goal

pub returns : goal.returns
returns c = c.find.ensures ∙ ap (λ h. first_of Kind.ModePort (plan_of c.args.self.now.plan.now) h c.args.name.now) c.place.ensures ∙ first_mode_port (plan_of c.args.self.now.plan.now) c.args.home c.args.name.now
