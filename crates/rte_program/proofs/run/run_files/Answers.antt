use Rattle.std.proofs.Common.{arith}
use Rattle.declared_names.proofs.Reading.{short_few}
use Rattle.commands.specs.Commands.{run}
use Rattle.commands.specs.RunCommand.{IsRunFinding}
use Rattle.commands.proofs.Judging as by
use Rattle.rte_program.proofs.Ran.{carried}
use Rattle.rte_program.proofs.run.run_files.Goals as goal

pub judge-requires : goal.judge-requires
judge-requires g c = let fits = c.requires.description in short_few c.args.description.now (omega (arith, fits))

pub run_prepared-requires-clause-ready : goal.run_prepared-requires-clause-ready
run_prepared-requires-clause-ready g c = λ κs lives. (c.args.description.now, c.args.script.now, c.in-Ok.ensures.ready)

pub report-requires : goal.report-requires
report-requires g c = by.run_short c.args.description.now c.args.script.now c.requires.script c.in-Err.stop c.in-Err.ensures.stopped

pub returns-in-Ok : goal.returns-in-Ok
returns-in-Ok g c = λ d s. carried d s _ _ c.in-Ok.prepared.found c.in-Ok.prepared.script.lines c.in-Ok.ensures.ready c.run_prepared.result _ _ _ _ c.run_prepared.ensures

pub returns-in-Err : goal.returns-in-Err
returns-in-Err g c = λ d s. by.stopped (run d s) _ (IsRunFinding c.args.description.now c.args.script.now) (λ found is. is) c.report.result _ _ _ _ c.in-Err.stop c.in-Err.ensures.stopped c.report.ensures
