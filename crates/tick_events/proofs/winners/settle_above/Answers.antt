use Rattle.std.proofs.Common.{arith}
use Rattle.tick_events.proofs.Tree.{tree_but_leaf, tree_but_more, tree_but_root}
use Rattle.tick_events.proofs.winners.settle_above.Goals as goal

pub loop-node-init : goal.loop-node-init
loop-node-init c = record { inner = omega arith; tree = tree_but_leaf _ _ _ c.requires.tree }

pub loop-node-preserved : goal.loop-node-preserved
loop-node-preserved c = record {
  inner = omega arith;
  tree = tree_but_more _ c.loop-node.best c.settle.new.best c.loop-node.node (omega arith) (omega arith) c.settle.ensures.winner c.settle.ensures.places c.loop-node.invariant.tree;
}

pub returns : goal.returns
returns c = tree_but_root _ _ c.loop-node.node (omega arith) c.loop-node.invariant.tree
