use Rattle.std.proofs.Common.{◌∙◌, nat_eq, ap}
use Rattle.mapping_rules.specs.Groups.{values_at}
use Rattle.mapping_rules.proofs.Events.{tasks_of_runnable}
use Rattle.mapping_rules.proofs.mapped.Mapped.tasks_of_runnables.Goals as goal

pub returns : goal.returns
returns c = λ r. ap (values_at (nat_eq r)) (c.in_ok-tasks.ensures ∙ c.in_ok-list.ensures) ∙ tasks_of_runnable c.args.self.now.names.d.now c.args.self.now.names.f.now c.args.instance r 0 c.args.events.now
