use Rattle.std.proofs.Common.{◌∙◌, sym, subst}
use Rattle.description_types.specs.Members.{Among}
use Rattle.end_search.proofs.sides.pairs_of_provided.Goals as goal

pub returns : goal.returns
returns c = λ others indexed i j a b s. subst (Among (i, j)) (sym (c.in_ok-list.ensures.items ∙ c.as_slice.ensures.keys)) (c.in_ok-pairs.ensures others indexed i j a b s)
