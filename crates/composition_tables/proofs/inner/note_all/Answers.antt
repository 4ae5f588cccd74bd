use Rattle.composition_tables.specs.Inner.{port_of}
use Rattle.composition_tables.proofs.Following.{step_joined}
use Rattle.composition_tables.proofs.Stepping.{one_more, whole_list}
use Rattle.composition_tables.proofs.inner.note_all.Goals as goal

pub loop-inner-preserved : goal.loop-inner-preserved
loop-inner-preserved c = λ k. step_joined _ _ _ _ _ _ (c.in_ok-note_inner.ensures k) (c.loop-inner.invariant k) (one_more c.args.inners.now c.loop-inner.inner-index (port_of (0, 0)) (port_of k) c.loop-inner-test.true)

pub returns : goal.returns
returns c = λ k. whole_list c.args.inners.now c.loop-inner.inner-index (port_of k) _ _ c.loop-inner-test.false (c.loop-inner.invariant k)
