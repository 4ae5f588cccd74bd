use Rattle.std.proofs.Common.{◌≡◌, sym, ◌∙◌, ap, position, None, if◌then◌else◌}
use Rattle.rte_value.specs.declared.kinds.Step.TheVariants as step
use Rattle.mode_machine.specs.Disabling.{holds_back}
use Rattle.mode_machine.specs.Kept.{Kept, first_left, phase_after, unless_owed, unless_running}
use Rattle.mode_machine.proofs.machine.Machine.next_phase.Goals as goal

pub returns-in-Close : goal.returns-in-Close
returns-in-Close c =
    let now = c.args.self.now in
    let stage = sym (ap (λ (k : Kept). k.stage) c.self.view_is) ∙ c.in-Close.is in
    let held = c.first_held.ensures.first ∙ ap (λ mode. position (holds_back mode) c.self.inside.disablings.events) c.self.invariant.watched
    ∙ ap (λ (k : Kept). position (holds_back k.next) k.disablings) c.self.view_is in
    c.unless_running.ensures ∙ ap (λ o. unless_running (if c.self.inside.waits then o else None)) held ∙ ap (λ (k : Kept). unless_running (if k.waits then position (holds_back now.next) now.disablings else None)) c.self.view_is
    ∙ sym (ap (λ s. phase_after s now) stage)

pub returns-in-Exit : goal.returns-in-Exit
returns-in-Exit c =
    let now = c.args.self.now in
    let stage : now.stage ≡ step.Exit = sym (ap (λ (k : Kept). k.stage) c.self.view_is) ∙ c.in-Exit.is in
    c.unless_owed.ensures ∙ ap (λ o. unless_owed o step.Transition) (c.first_left.ensures.first ∙ ap first_left c.self.view_is)
    ∙ sym (ap (λ s. phase_after s now) stage)

pub returns-in-Transition : goal.returns-in-Transition
returns-in-Transition c =
    let now = c.args.self.now in
    let stage : now.stage ≡ step.Transition = sym (ap (λ (k : Kept). k.stage) c.self.view_is) ∙ c.in-Transition.is in
    c.unless_owed-in-Transition.ensures ∙ ap (λ o. unless_owed o step.Entry) (c.first_left-in-Transition.ensures.first ∙ ap first_left c.self.view_is)
    ∙ sym (ap (λ s. phase_after s now) stage)

pub returns-in-Entry : goal.returns-in-Entry
returns-in-Entry c =
    let now = c.args.self.now in
    let stage : now.stage ≡ step.Entry = sym (ap (λ (k : Kept). k.stage) c.self.view_is) ∙ c.in-Entry.is in
    c.unless_owed-in-Entry.ensures ∙ ap (λ o. unless_owed o step.Stable) (c.first_left-in-Entry.ensures.first ∙ ap first_left c.self.view_is)
    ∙ sym (ap (λ s. phase_after s now) stage)
