use Rattle.std.proofs.Common.{map, ap, ◌∙◌}
use Rattle.component_model.specs.Compositions.{connector_reading}
use Rattle.component_model.proofs.composition_reading.connectors_between.Goals as goal

pub returns : goal.returns
returns c = c.in_ok-connectors.ensures ∙ ap (λ ds. map (connector_reading c.args.names.now c.args.ends.now) ds) c.items_at.ensures
