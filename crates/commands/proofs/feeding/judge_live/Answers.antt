use Rattle.commands.proofs.feeding.judge_live.Goals as goal

pub returns-in-Err-clause-stopped : goal.returns-in-Err-clause-stopped
returns-in-Err-clause-stopped c = c.in-Err.ensures.stopped c.args.stimuli.now

pub returns-in-Err-feeds_over-clause-stopped : goal.returns-in-Err-feeds_over-clause-stopped
returns-in-Err-feeds_over-clause-stopped c = c.in-Err-feeds_over.ensures.stopped c.args.description.now c.in-Ok.ensures.planned
