use Rattle.end_search.proofs.Lookups.{no_end, end_more, ends_all}
use Rattle.end_search.proofs.groups.groups_of.Goals as goal

pub loop-end-preserved : goal.loop-end-preserved
loop-end-preserved c = λ q x. end_more c.args.ends.now c.loop-end.end-index no_end q x _ _ c.loop-end-test.true (c.in_ok-add_under.ensures q x) (c.loop-end.invariant q x)

pub returns : goal.returns
returns c = λ q x. ends_all c.args.ends.now c.loop-end.end-index q x _ c.loop-end-test.false (c.loop-end.invariant q x)
