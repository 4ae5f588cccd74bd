use Rattle.std.proofs.Common.{arith}
use Rattle.declared_names.proofs.Reading.{short_few}
use Rattle.commands.specs.Commands.{pair}
use Rattle.commands.specs.PairCommand.{IsPairFinding}
use Rattle.commands.proofs.Judging as by
use Rattle.rte_program.proofs.Paired.{carried}
use Rattle.rte_program.proofs.pair.pair_files.Goals as goal

pub judge_pair-requires-clause-one : goal.judge_pair-requires-clause-one
judge_pair-requires-clause-one g c = let fits = c.requires.one in short_few c.args.one.now (omega (arith, fits))

pub judge_pair-requires-clause-two : goal.judge_pair-requires-clause-two
judge_pair-requires-clause-two g c = let fits = c.requires.two in short_few c.args.two.now (omega (arith, fits))

pub run_prepared_pair-requires-clause-ready : goal.run_prepared_pair-requires-clause-ready
run_prepared_pair-requires-clause-ready g c = λ κs lives. (c.args.one.now, c.args.two.now, c.args.script.now, c.in-Ok.ensures.ready)

pub report-requires : goal.report-requires
report-requires g c = by.pair_short c.args.one.now c.args.two.now c.args.script.now c.requires.script c.in-Err.stop c.in-Err.ensures.stopped

pub returns-in-Ok : goal.returns-in-Ok
returns-in-Ok g c = λ d e s. carried d e s _ _ _ c.in-Ok.prepared.nodes.one c.in-Ok.prepared.nodes.two c.in-Ok.prepared.linked.script.lines c.in-Ok.ensures.ready c.run_prepared_pair.result _ _ _ _ c.run_prepared_pair.ensures

pub returns-in-Err : goal.returns-in-Err
returns-in-Err g c = λ d e s. by.stopped (pair d e s) _ (IsPairFinding c.args.one.now c.args.two.now c.args.script.now) (λ found is. is) c.report.result _ _ _ _ c.in-Err.stop c.in-Err.ensures.stopped c.report.ensures
