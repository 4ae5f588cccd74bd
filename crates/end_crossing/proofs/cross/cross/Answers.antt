use Rattle.end_crossing.proofs.cross.cross.Goals as goal

pub returns-clause-grown : goal.returns-clause-grown
returns-clause-grown c = c.in_ok-is_full.ensures.grown c.args.provided.now c.in_ok-first.ensures c.requires.pairs
