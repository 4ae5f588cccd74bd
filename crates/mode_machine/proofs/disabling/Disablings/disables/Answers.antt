use Rattle.std.proofs.Common.{◌<◌, ◌∙◌, ap, sym, length, arith}
use Rattle.std.specs.List.{slice_index_or}
use Rattle.mode_machine.specs.Disabling.{Dependency, Watched, has_mode, no_dependency}
use Rattle.mode_machine.proofs.Watching.{as_many_dependencies, dependency_there, modes_there}
use Rattle.mode_machine.proofs.disabling.Disablings.disables.Goals as goal

pub index-requires : goal.index-requires
index-requires c =
    let d = c.self.inside in
    omega (arith, c.requires, ap (λ (w : Watched). length w.events) c.self.view_is, as_many_dependencies d.modes.items d.running c.self.invariant.0, c.self.invariant.0, d.modes.ok)

pub returns : goal.returns
returns c =
    let d = c.self.inside in
    let event = c.args.event in
    let mode = c.args.mode in
    let within : event < length d.running = omega (arith, c.requires, ap (λ (w : Watched). length w.events) c.self.view_is, as_many_dependencies d.modes.items d.running c.self.invariant.0) in
    c.has_mode.ensures ∙ ap (has_mode mode) (modes_there d.modes.items event c.index.result.now (omega (arith, within, c.self.invariant.0)) c.index.ensures)
    ∙ sym (ap (λ (x : Dependency). has_mode mode x.modes) (dependency_there d.modes.items d.running event c.self.invariant.0 within))
    ∙ ap (λ (w : Watched). has_mode mode (slice_index_or w.events event no_dependency).modes) c.self.view_is
