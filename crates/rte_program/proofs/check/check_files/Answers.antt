use Rattle.commands.specs.CheckCommand.{IsCheckFinding}
use Rattle.commands.specs.Commands.{check}
use Rattle.commands.proofs.Judging as by
use Rattle.commands.proofs.Lines.{check_short}
use Rattle.rte_program.proofs.check.check_files.Goals as goal

pub report-requires : goal.report-requires
report-requires g c = check_short c.items_have_one_line.ensures c.args.description.now c.args.trace.now c.args.script.now c.requires.trace c.requires.script c.in-Err.stop c.in-Err.ensures.stopped

pub returns-in-Ok : goal.returns-in-Ok
returns-in-Ok g c = λ d t s. by.legal d t s _ _ _ c.in-Ok.ensures.legal c.put_text.result _ _ _ _ c.put_text.ensures

pub returns-in-Err : goal.returns-in-Err
returns-in-Err g c = λ d t s. by.stopped (check d t s) _ (IsCheckFinding c.args.description.now c.args.trace.now c.args.script.now) (λ found is. is) c.report.result _ _ _ _ c.in-Err.stop c.in-Err.ensures.stopped c.report.ensures
