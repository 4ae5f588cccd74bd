use Rattle.std.proofs.Common.{sym, ◌∙◌, subst, Some}
use Rattle.mode_machine.specs.Chains.{IsNext, occurs}
use Rattle.mode_machine.proofs.chains.Chains.first.Goals as goal

pub returns-in-Some : goal.returns-in-Some
returns-in-Some c = λ moments are.
    let here = subst (IsNext (occurs moments (Some c.in-Some.moment)) 0) (sym (c.copied.ensures ∙ c.get.ensures.value)) (are.first c.in-Some.moment) in
    subst (λ at. IsNext (occurs moments at) 0 c.copied.result) (sym c.in-Some.is) here
