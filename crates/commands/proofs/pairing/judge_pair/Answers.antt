use Rattle.commands.proofs.pairing.judge_pair.Goals as goal

pub returns-in-Err-clause-stopped : goal.returns-in-Err-clause-stopped
returns-in-Err-clause-stopped c = c.in-Err.ensures.stopped c.args.script.now

pub returns-in-Err-link_over-clause-stopped : goal.returns-in-Err-link_over-clause-stopped
returns-in-Err-link_over-clause-stopped c = c.in-Err-link_over.ensures.stopped c.args.one.now c.args.two.now c.in-Ok.ensures.planned
