use Rattle.std.proofs.Common.{refl}
use Rattle.implicit_buffers.proofs.Listing.{noted_more}
use Rattle.implicit_buffers.proofs.fetchings.note_list.Goals as goal

pub loop-elem-preserved : goal.loop-elem-preserved
loop-elem-preserved c = λ x. noted_more c.args.elements.now c.loop-elem.elem-index 0 c.args.list x _ _ _ _ c.loop-elem-test.true refl (c.in_ok-insert.ensures.updates.0 x) (c.loop-elem.invariant x)
