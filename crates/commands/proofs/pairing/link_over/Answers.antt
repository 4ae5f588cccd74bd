use Rattle.commands.proofs.pairing.link_over.Goals as goal

pub returns-in-Err-clause-stopped : goal.returns-in-Err-clause-stopped
returns-in-Err-clause-stopped c = λ first second both. c.in-Err.ensures.stopped first second c.args.script.now both
