use Rattle.std.proofs.Common.{◌∙◌, ap, sym, subst}
use Rattle.std.proofs.lemmas.Result.{IfOk-weaker}
use Rattle.end_search.specs.Matching.{turned}
use Rattle.description_types.specs.Members.{Among}
use Rattle.end_search.proofs.SameNames.{turned_back}
use Rattle.end_search.proofs.sides.pairs_of_required.Goals as goal

pub returns : goal.returns
returns c = IfOk-weaker c.turned-list.result _ _ (λ list is others indexed i j a b s. subst (Among (i, j)) (sym (is ∙ ap turned c.as_slice.ensures.keys))
    (turned_back c.in_ok-pairs.pairs.keys i j (c.in_ok-pairs.ensures others indexed j i b a (s.0, s.2, s.1)))) c.turned-list.ensures
