use Rattle.std.proofs.Common.{◌≡◌, ◌∙◌, sym, ap, Some, None, false, rules}
use Rattle.std.specs.Prelude.{option_map}
use Rattle.task_machine.specs.Frames.{wanted_in}
use Rattle.trace_walks.proofs.Following.{wanted_so}
use Rattle.trace_walks.proofs.walk.Walk.wanted.Goals as goal

pub returns-then-self : goal.returns-then-self
returns-then-self c = λ p k h w bodies fit stands is. absurd (cc is)

pub returns-in-Some : goal.returns-in-Some
returns-in-Some c = λ p k h w bodies fit stands is.
    let free : c.args.self.now.held ≡ false = search rules in
    let r = c.in-Some.running.now in
    let there : c.args.self.now.running ≡ Some r = sym c.activation.ensures ∙ ap (option_map (λ running. running.now)) c.in-Some.is in
    wanted_so c.args.t.now p k h c.args.self.now stands bodies fit r there (wanted_in c.next_call.result) c.next_call.ensures w is free

pub returns-in-None : goal.returns-in-None
returns-in-None c = λ p k h w bodies fit stands is. absurd (cc is)
