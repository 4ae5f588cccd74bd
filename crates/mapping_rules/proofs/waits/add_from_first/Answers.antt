use Rattle.indexmap.specs.IndexSet.{contains}
use Rattle.plan_definitions.specs.Keys.{same_pair}
use Rattle.mapping_rules.proofs.Adding.{none_added}
use Rattle.mapping_rules.proofs.waits.add_from_first.Goals as goal

pub returns-in-None : goal.returns-in-None
returns-in-None c = λ e. none_added e c.args.waits.now c.args.tasks.now c.in-None.ensures (contains same_pair c.args.edges.now e)
