use Rattle.composition_flatten.proofs.whole.root_gate.Goals as goal

pub returns-clause-ends : goal.returns-clause-ends
returns-clause-ends c = c.narrowed.ensures.ends
