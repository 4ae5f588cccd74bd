use Rattle.std.proofs.Common.{codes}
use Rattle.serde_json.specs.View.{view}
use Rattle.declared_names.proofs.Sizes.{at_small}
use Rattle.component_model.proofs.component_reading.runnables.Goals as goal

pub read_runnables-runnables-requires-clause-values : goal.read_runnables-runnables-requires-clause-values
read_runnables-runnables-requires-clause-values c = at_small (codes "runnables") (view c.args.value.now) _ c.items_at.ensures c.requires.value
