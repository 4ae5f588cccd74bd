use Rattle.std.proofs.Common.{codes}
use Rattle.serde_json.specs.View.{view}
use Rattle.declared_names.proofs.Sizes.{value_small}
use Rattle.component_model.proofs.Lists.{null_small}
use Rattle.component_model.proofs.component_reading.behavior_of.Goals as goal

pub behavior-requires-clause-inner : goal.behavior-requires-clause-inner
behavior-requires-clause-inner c = value_small (codes "behavior") (view c.args.value.now) _ _ c.value_at.ensures c.requires.value null_small
