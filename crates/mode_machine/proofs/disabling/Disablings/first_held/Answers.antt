use Rattle.std.proofs.Common.{◌∙◌, ap, position, refl}
use Rattle.mode_machine.specs.Disabling.{Watched, dependencies, holds_back, no_dependency}
use Rattle.mode_machine.proofs.Nexts.{is_position}
use Rattle.mode_machine.proofs.disabling.Disablings.first_held.Goals as goal

pub returns-clause-first : goal.returns-clause-first
returns-clause-first c =
    let d = c.self.inside in
    is_position (holds_back d.watched) (dependencies d.modes.items d.running) no_dependency refl d.held c.self.invariant.1
    ∙ ap (λ (w : Watched). position (holds_back w.mode) w.events) c.self.view_is
