use Rattle.std.proofs.Common.{codes, map, ap, ◌∙◌}
use Rattle.serde_json.specs.View.{view}
use Rattle.component_model.specs.Compositions.{composition_reading}
use Rattle.declared_names.specs.Names.{position_in}
use Rattle.component_model.specs.Programs.{component_reading}
use Rattle.declared_names.proofs.Sizes.{at_small}
use Rattle.component_model.proofs.reading.read_in.Goals as goal

pub returns : goal.returns
returns c =
    let scope = c.args.scope.now in
    let components = c.in_ok-components.ensures ∙ ap (map (component_reading scope)) c.items_at-listed.ensures in
    let compositions = c.in_ok-compositions.ensures ∙ ap (map (composition_reading scope.interfaces scope.prototypes)) c.items_at-composed.ensures in
    let root = c.find-root.ensures ∙ ap (position_in scope.prototypes.compositions) c.text_at.ensures in
    λ i. record { types = c.in_ok-types.ensures i; components = components i; compositions = compositions i; root = root i; mapping = c.in_ok-mapping.ensures i }

pub read_components-requires-clause-values : goal.read_components-requires-clause-values
read_components-requires-clause-values c = at_small (codes "components") (view c.args.value.now) _ c.items_at-listed.ensures c.requires.value

pub read_compositions-requires : goal.read_compositions-requires
read_compositions-requires c = at_small (codes "compositions") (view c.args.value.now) _ c.items_at-composed.ensures c.requires.value
