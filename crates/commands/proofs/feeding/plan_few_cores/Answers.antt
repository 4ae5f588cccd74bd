use Rattle.commands.proofs.Judging.{not_planned}
use Rattle.commands.proofs.feeding.plan_few_cores.Goals as goal

pub returns-in-Err-clause-stopped : goal.returns-in-Err-clause-stopped
returns-in-Err-clause-stopped c = λ stimuli. not_planned c.args.description.now stimuli c.in-Err.stop c.in-Err.ensures.stopped
