use Rattle.serde_json.specs.View.{view}
use Rattle.declared_names.specs.Values.{text_in}
use Rattle.declared_names.proofs.Sizes.{at_small, few_names}
use Rattle.declared_names.proofs.names.declared_texts.Goals as goal

pub of-requires : goal.of-requires
of-requires c = few_names text_in c.in_ok-names.names.items _ c.in_ok-names.ensures (at_small c.args.key.now (view c.args.value.now) _ c.items_at.ensures c.requires)
