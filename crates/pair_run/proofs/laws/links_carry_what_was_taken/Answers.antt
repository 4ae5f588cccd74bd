use Rattle.pair_run.proofs.Values.{all_arrive, some_arrive}
use Rattle.pair_run.proofs.laws.links_carry_what_was_taken.Goals as goal

pub returns-clause-whole : goal.returns-clause-whole
returns-clause-whole c = λ p m q n script j k l sound lines is at. all_arrive p q m sound k l at script j lines is.follows

pub returns-clause-begun : goal.returns-clause-begun
returns-clause-begun c = λ p m q n script j k l sound lines is at. some_arrive p q m sound k l at script is.later j lines is.follows
