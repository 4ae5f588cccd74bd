use Rattle.std.proofs.Common.{codes}
use Rattle.serde_json.specs.View.{view}
use Rattle.declared_names.proofs.Sizes.{value_small}
use Rattle.component_model.proofs.Lists.{null_small}
use Rattle.component_model.proofs.component_reading.program.Goals as goal

pub started_by-requires-clause-value : goal.started_by-requires-clause-value
started_by-requires-clause-value c = value_small (codes "program") (view c.args.value.now) _ _ c.value_at.ensures c.requires.value null_small
