use Rattle.join_search.proofs.Stars.{many_to_many_is}
use Rattle.join_search.proofs.laws.crowded_groups_are_many_to_many.Goals as goal

pub returns : goal.returns
returns c = many_to_many_is
