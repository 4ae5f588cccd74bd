use Rattle.end_search.proofs.SameNames.{turned_names}
use Rattle.end_search.proofs.matches.same_names.Goals as goal

pub returns : goal.returns
returns c = turned_names c.args.names.now c.args.others.now c.in_ok-pairs-2.pairs.items c.as_slice.result.now c.in_ok-list.list.items c.in_ok-pairs-2.ensures c.as_slice.ensures.value c.in_ok-list.ensures
