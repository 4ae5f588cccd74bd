use Rattle.std.proofs.Common.{◌∙◌, ◌||◌, ap}
use Rattle.indexmap.specs.IndexSet.{contains}
use Rattle.plan_definitions.specs.Keys.{same_pair}
use Rattle.mapping_rules.proofs.Adding.{component_waits}
use Rattle.mapping_rules.proofs.waits.add_of_component.Goals as goal

pub returns : goal.returns
returns c = λ e. c.in_ok-add_of_runnables.ensures e ∙ ap (λ b. contains same_pair c.args.edges.now e || b) (component_waits c.args.servers.now.mapped.now.names.d.now c.args.servers.now.mapped.now.names.f.now e
    c.args.instance c.args.component.now c.in_ok-tasks.tasks.entries.items c.items.result.now c.items-2.result.now c.in_ok-tasks.ensures c.items.ensures c.items-2.ensures)
