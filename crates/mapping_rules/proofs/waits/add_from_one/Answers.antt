use Rattle.std.proofs.Common.{◌∙◌, ◌||◌, ap}
use Rattle.indexmap.specs.IndexSet.{contains}
use Rattle.plan_definitions.specs.Keys.{same_pair}
use Rattle.mapping_rules.proofs.Adding.{first_leads}
use Rattle.mapping_rules.proofs.waits.add_from_one.Goals as goal

pub returns : goal.returns
returns c = λ e. c.in_ok-add_waits.ensures e ∙ ap (λ b. contains same_pair c.args.edges.now e || b) (first_leads e c.args.waits.now c.args.task c.args.tasks.now c.requires.same c.requires.first)
