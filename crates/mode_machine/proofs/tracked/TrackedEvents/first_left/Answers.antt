use Rattle.std.proofs.Common.{◌∙◌, ap, position, refl}
use Rattle.mode_machine.specs.Common.{idle_event, Tracked, OwedEvent}
use Rattle.mode_machine.proofs.Nexts.{is_position}
use Rattle.mode_machine.proofs.tracked.TrackedEvents.first_left.Goals as goal

pub returns-clause-first : goal.returns-clause-first
returns-clause-first c =
    let t = c.self.inside in
    is_position (λ (e : OwedEvent). e.left) t.events.items idle_event refl t.left c.self.invariant.left ∙ ap (λ (s : Tracked). position (λ (e : OwedEvent). e.left) s.events) c.self.view_is
