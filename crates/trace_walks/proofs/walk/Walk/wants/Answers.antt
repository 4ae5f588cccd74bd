use Rattle.std.proofs.Common.{◌≡◌, ◌∙◌, sym, ap, Some, None}
use Rattle.std.specs.Prelude.{option_map}
use Rattle.task_machine.specs.Frames.{wanted_in}
use Rattle.trace_walks.proofs.Following.{wants_none, wants_this}
use Rattle.trace_walks.proofs.walk.Walk.wants.Goals as goal

pub returns-in-Some : goal.returns-in-Some
returns-in-Some c = λ p k h bodies fit stands.
    let r = c.in-Some.running.now in
    let there : c.args.self.now.running ≡ Some r = sym c.activation.ensures ∙ ap (option_map (λ running. running.now)) c.in-Some.is in
    c.is_next.ensures
    ∙ wants_this c.args.t.now p k h c.args.self.now stands bodies fit r there (wanted_in c.next_call.result) c.next_call.ensures c.args.entry.now.deed

pub returns-in-None : goal.returns-in-None
returns-in-None c = λ p k h bodies fit stands.
    let none : c.args.self.now.running ≡ None = sym c.activation.ensures ∙ ap (option_map (λ running. running.now)) c.in-None.is in
    wants_none c.args.t.now p k h c.args.self.now stands c.args.entry.now.deed none
