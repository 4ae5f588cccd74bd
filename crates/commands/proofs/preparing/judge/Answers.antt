use Rattle.commands.proofs.Judging.{bad_script}
use Rattle.commands.proofs.preparing.judge.Goals as goal

pub returns-in-Err-script_over-clause-stopped : goal.returns-in-Err-script_over-clause-stopped
returns-in-Err-script_over-clause-stopped c = bad_script c.args.description.now c.args.script.now c.in-Ok.found c.in-Ok.ensures.planned c.in-Err-script_over.stop c.in-Err-script_over.ensures.stopped
