use Rattle.pair_run.specs.Linked.{links_of}
use Rattle.pair_run.proofs.Sides.{one_does, two_does}
use Rattle.pair_run.proofs.laws.each_side_does_its_part.Goals as goal

pub returns-clause-first : goal.returns-clause-first
returns-clause-first c = λ p m q n script j lines is. one_does p (links_of p q) script j lines is.follows

pub returns-clause-second : goal.returns-clause-second
returns-clause-second c = λ p m q n script j is. two_does p (links_of p q) script j is.follows
