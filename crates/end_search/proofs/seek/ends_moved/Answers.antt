use Rattle.std.proofs.Common.{arith}
use Rattle.end_search.proofs.Wishing.{cut_either, found_moved}
use Rattle.end_search.proofs.seek.ends_moved.Goals as goal

pub returns-clause-found : goal.returns-clause-found
returns-clause-found c = found_moved c.args.first c.args.near.now _ c.as_slice.result.now c.new-ends.result.keys c.in_ok-is_more.is_more (omega arith) c.as_slice.ensures.keys c.new-ends.ensures.empty c.either.ensures c.in_ok-is_more.ensures.found

pub returns-clause-cut : goal.returns-clause-cut
returns-clause-cut c = λ near. cut_either c.args.limit c.in_ok-is_more.is_more c.args.near.now.is_cut c.either.result c.either.ensures c.in_ok-is_more.ensures.cut near
