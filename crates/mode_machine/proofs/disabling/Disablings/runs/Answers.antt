use Rattle.std.proofs.Common.{◌<◌, ◌∙◌, ap, sym, length, arith}
use Rattle.std.specs.List.{slice_index_or}
use Rattle.mode_machine.specs.Disabling.{Dependency, Watched, no_dependency}
use Rattle.mode_machine.proofs.Watching.{as_many_dependencies, dependency_there}
use Rattle.mode_machine.proofs.disabling.Disablings.runs.Goals as goal

pub returns : goal.returns
returns c =
    let d = c.self.inside in
    let event = c.args.event in
    let within : event < length d.running = omega (arith, c.requires, ap (λ (w : Watched). length w.events) c.self.view_is, as_many_dependencies d.modes.items d.running c.self.invariant.0) in
    c.contains.ensures ∙ sym (ap (λ (x : Dependency). x.admitted) (dependency_there d.modes.items d.running event c.self.invariant.0 within))
    ∙ ap (λ (w : Watched). (slice_index_or w.events event no_dependency).admitted) c.self.view_is
