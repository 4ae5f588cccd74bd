use Rattle.std.proofs.Common.{[], ◌∷◌, ◌++◌, map, ap, ◌∙◌}
use Rattle.runnable_lang.specs.declared.program.AccessKind.TheVariants as kind
use Rattle.bus_semantics.specs.Common.{exprs, to_ask, to_hear}
use Rattle.task_machine.specs.declared.instr.Taken.TheVariants as taken
use Rattle.task_machine.specs.Targets.{number_at}
use Rattle.task_machine.specs.Instructions.{Shared, instruction_of, call, change_of, passes_of}
use Rattle.task_generator.specs.Common.{given_over, numbered}
use Rattle.task_generator.proofs.Patching.{two_more}
use Rattle.task_generator.proofs.generator.Generator.ask_and_hear.Goals as goal

pub returns : goal.returns
returns c =
    let a = numbered c.args.self.now.accesses.now.list.now kind.Call c.args.port c.args.item in
    let old = map instruction_of c.args.code.now.items in
    let asks : Shared = λ t. call (λ event m. to_ask (number_at t a.target) (given_over a (exprs c.args.values.now) m)) (change_of (taken.Refusal c.args.status)) (passes_of (taken.Refusal c.args.status)) in
    two_more _ _ _ _ _ c.in_ok-ask.ensures c.in_ok-put_call.ensures
    ∙ ap (λ q. old ++ (asks ∷ (λ t. call (λ event m. to_hear (number_at t q)) (change_of (taken.Words c.in_ok-vars.vars c.args.status)) (passes_of (taken.Words c.in_ok-vars.vars c.args.status))) ∷ [])) c.number-access.ensures
    ∙ ap (λ vs. old ++ (asks ∷ (λ t. call (λ event m. to_hear (number_at t a.target)) (change_of (taken.Words vs c.args.status)) (passes_of (taken.Words vs c.args.status))) ∷ [])) c.in_ok-vars.ensures
