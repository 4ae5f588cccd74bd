use Rattle.std.proofs.Common.{arith}
use Rattle.std.proofs.lemmas.Result.{IfErr-weaker, IfOk-weaker}
use Rattle.declared_names.proofs.Reading.{short_few}
use Rattle.commands.specs.HeaderCommand.{IsHeaderFinding, SaysHeader}
use Rattle.commands.specs.Judging.{IsFound}
use Rattle.rte_program.proofs.header.judge_header.Goals as goal

pub plan_bytes-requires : goal.plan_bytes-requires
plan_bytes-requires c = let fits = c.requires in short_few c.args.description.now (omega (arith, fits))

pub returns-in-Ok-clause-made : goal.returns-in-Ok-clause-made
returns-in-Ok-clause-made c =
    IfOk-weaker c.header_over-answer.result _ (λ text. SaysHeader c.args.description.now c.args.name.now text.items) (λ text is. is c.args.description.now c.in-Ok.ensures.planned) c.header_over-answer.ensures.made

pub returns-in-Ok-clause-stopped : goal.returns-in-Ok-clause-stopped
returns-in-Ok-clause-stopped c =
    IfErr-weaker c.header_over-answer.result _ (IsFound (IsHeaderFinding c.args.description.now c.args.name.now)) (λ why is. is c.args.description.now c.in-Ok.ensures.planned) c.header_over-answer.ensures.stopped
