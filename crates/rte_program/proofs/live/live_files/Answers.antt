use Rattle.std.proofs.Common.{arith}
use Rattle.declared_names.proofs.Reading.{short_few}
use Rattle.commands.specs.Commands.{live}
use Rattle.commands.specs.LiveCommand.{IsLiveFinding}
use Rattle.commands.proofs.Judging as by
use Rattle.rte_program.proofs.Fed.{carried}
use Rattle.rte_program.proofs.live.live_files.Goals as goal

pub judge_live-requires : goal.judge_live-requires
judge_live-requires g c = let fits = c.requires.description in short_few c.args.description.now (omega (arith, fits))

pub serve_prepared-requires-clause-ready : goal.serve_prepared-requires-clause-ready
serve_prepared-requires-clause-ready g c = λ κs lives. (c.args.description.now, c.args.stimuli.now, c.in-Ok.ensures.ready)

pub report-requires : goal.report-requires
report-requires g c = by.live_short c.args.description.now c.args.stimuli.now c.requires.stimuli c.in-Err.stop c.in-Err.ensures.stopped

pub returns-in-Ok : goal.returns-in-Ok
returns-in-Ok g c = λ d. carried d _ _ c.in-Ok.prepared.found c.in-Ok.prepared.feeds c.in-Ok.ensures.ready c.serve_prepared.result _ _ _ _ c.serve_prepared.ensures

pub returns-in-Err : goal.returns-in-Err
returns-in-Err g c = λ d. by.stopped (live d) _ (IsLiveFinding c.args.description.now c.args.stimuli.now) (λ found is. is) c.report.result _ _ _ _ c.in-Err.stop c.in-Err.ensures.stopped c.report.ensures
