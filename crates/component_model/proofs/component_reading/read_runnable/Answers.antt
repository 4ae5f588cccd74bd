use Rattle.std.proofs.Common.{map, ap, ◌∙◌}
use Rattle.component_model.specs.Components.{access_reading, coherent_reading}
use Rattle.component_model.proofs.component_reading.read_runnable.Goals as goal

pub returns : goal.returns
returns c =
    let scope = c.args.scope.now in
    let accesses = c.in_ok-accesses.ensures ∙ ap (map (access_reading scope.interfaces.now scope.names.now)) c.items_at-accessed.ensures in
    let coherent = c.in_ok-coherent.ensures ∙ ap (map (coherent_reading scope.interfaces.now scope.names.now)) c.items_at-listed.ensures in
    λ i. record { short_name = c.in_ok-short_name.ensures i; can_be_invoked_concurrently = c.flag_at.ensures i; accesses = accesses i; coherent = coherent i; program = c.in_ok-program.ensures i }
