use Rattle.std.proofs.Common.{◌∙◌, ap}
use Rattle.plan_definitions.specs.Keys.{same_pair}
use Rattle.mapping_rules.specs.Groups.{values_at}
use Rattle.mapping_rules.proofs.Events.{tasks_listed}
use Rattle.mapping_rules.proofs.mapped.Mapped.tasks_of_event.Goals as goal

pub returns : goal.returns
returns c = c.at.ensures ∙ ap (values_at (same_pair c.args.event)) c.args.self.now.are_tasks
    ∙ tasks_listed c.args.self.now.names.d.now c.args.self.now.names.f.now c.args.event c.args.self.now.names.d.now.mapping.events
