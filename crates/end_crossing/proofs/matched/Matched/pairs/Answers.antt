use Rattle.end_crossing.proofs.SameGates.{shares_key}
use Rattle.end_crossing.proofs.matched.Matched.pairs.Goals as goal

pub returns-clause-pairs : goal.returns-clause-pairs
returns-clause-pairs c = λ p r a b i j join. c.in_ok-pairs.ensures p r a b (shares_key c.args.d.now p r i j join)
