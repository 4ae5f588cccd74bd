use Rattle.std.proofs.Common.{map, ap, ◌∙◌}
use Rattle.component_model.specs.Components.{event_reading, variable_reading}
use Rattle.declared_names.specs.Values.{text_in}
use Rattle.component_model.proofs.component_reading.read_behavior.Goals as goal

pub returns : goal.returns
returns c =
    let scope = c.args.scope.now in
    let areas = c.in_ok-exclusive_areas.ensures ∙ ap (map text_in) c.items_at-areas.ensures in
    let variables = c.in_ok-variables.ensures ∙ ap (map (variable_reading c.args.types.now)) c.items_at-declared.ensures in
    let events = c.in_ok-events.ensures ∙ ap (map (event_reading scope.interfaces.now scope.names.now)) c.items_at-starting.ensures in
    λ i. record { exclusive_areas = areas i; variables = variables i; runnables = c.in_ok-runnables.ensures i; events = events i }
