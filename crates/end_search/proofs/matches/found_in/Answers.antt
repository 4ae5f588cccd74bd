use Rattle.end_search.proofs.SameNames.{items_more, items_all}
use Rattle.end_search.proofs.matches.found_in.Goals as goal

pub loop-number-preserved : goal.loop-number-preserved
loop-number-preserved c = λ i j. items_more c.args.names.now c.args.others.now c.loop-number.number i j _ _ (c.in_ok-add_item.ensures i j) (c.loop-number.invariant i j)

pub returns : goal.returns
returns c = λ i j. items_all c.args.names.now c.args.others.now c.count-number-end.result c.loop-number.number i j _ c.count-number-end.ensures c.loop-number-test.false (c.loop-number.invariant i j)
