use Rattle.std.proofs.Common.{arith}
use Rattle.tick_events.proofs.Tree.{tree_from_more}
use Rattle.tick_events.proofs.winners.settle_all.Goals as goal

pub loop-node-preserved : goal.loop-node-preserved
loop-node-preserved c =
    tree_from_more _ c.loop-node.best c.settle.new.best c.loop-node.node _ (omega arith) (omega arith) (omega arith) c.settle.ensures.winner c.settle.ensures.places c.loop-node.invariant
