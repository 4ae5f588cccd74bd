use Rattle.std.proofs.Common.{◌≡◌, IfOk, codes, unwrap_or, subst, ap, ◌∙◌}
use Rattle.serde_json.specs.Find.{get}
use Rattle.serde_json.specs.View.{view}
use Rattle.component_model.specs.Compositions.{mapping_reading}
use Rattle.declared_names.proofs.Sizes.{value_small}
use Rattle.component_model.proofs.Lists.{null_small, view_null}
use Rattle.component_model.proofs.reading.mapping_of.Goals as goal

pub read_mapping-requires : goal.read_mapping-requires
read_mapping-requires c = value_small (codes "mapping") (view c.args.value.now) _ _ c.value_at.ensures c.requires null_small

pub returns : goal.returns
returns c =
    let mapped = c.value_at.ensures ∙ ap (unwrap_or (get (codes "mapping") (view c.args.value.now))) view_null in
    subst (λ d. IfOk c.read_mapping.result (λ m. m ≡ mapping_reading d)) mapped c.read_mapping.ensures
