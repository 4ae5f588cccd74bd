use Rattle.std.proofs.Common.{arith}
use Rattle.declared_names.proofs.Reading.{short_few}
use Rattle.worked_rows.proofs.pairs.run_wired.Goals as goal

pub judge_pair-requires-clause-one : goal.judge_pair-requires-clause-one
judge_pair-requires-clause-one g c = let fits = c.requires.one in short_few c.args.one.now (omega (arith, fits))

pub judge_pair-requires-clause-two : goal.judge_pair-requires-clause-two
judge_pair-requires-clause-two g c = let fits = c.requires.two in short_few c.args.two.now (omega (arith, fits))

pub run_linked-run-requires-clause-ready : goal.run_linked-run-requires-clause-ready
run_linked-run-requires-clause-ready g c = λ κs lives. (c.args.one.now, c.args.two.now, c.args.script.now, c.in-Ok.ensures.ready)
