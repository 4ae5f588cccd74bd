use Rattle.std.proofs.Common.{arith}
use Rattle.declared_names.proofs.Reading.{short_few}
use Rattle.commands.proofs.Judging as by
use Rattle.rte_program.proofs.check.judge_trace.Goals as goal

pub judge-requires : goal.judge-requires
judge-requires c = let fits = c.requires in short_few c.args.description.now (omega (arith, fits))

pub returns-in-Ok-clause-legal : goal.returns-in-Ok-clause-legal
returns-in-Ok-clause-legal c =
    by.legal_trace c.args.description.now c.args.trace.now c.args.script.now c.in-Ok.prepared.found c.in-Ok.prepared.script.lines c.in-Ok.ensures.ready c.check_over-answer.result c.check_over-answer.ensures.legal

pub returns-in-Ok-clause-stopped : goal.returns-in-Ok-clause-stopped
returns-in-Ok-clause-stopped c =
    by.refused_trace c.args.description.now c.args.trace.now c.args.script.now c.in-Ok.prepared.found c.in-Ok.prepared.script.lines c.in-Ok.ensures.ready c.check_over-answer.result c.check_over-answer.ensures.stopped
