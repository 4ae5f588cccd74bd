use Rattle.composition_flatten.proofs.whole.add_as_they_are.Goals as goal

pub add_own-requires-clause-matched : goal.add_own-requires-clause-matched
add_own-requires-clause-matched c = c.begin.ensures _
