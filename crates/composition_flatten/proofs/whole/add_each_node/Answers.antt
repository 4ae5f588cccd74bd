use Rattle.composition_tables.specs.declared.nodes.Node.{Node}
use Rattle.composition_flatten.specs.Links.{IsNodeLink}
use Rattle.composition_tables.proofs.Growth.{grown_more, grown_full, grown_all}
use Rattle.composition_tables.proofs.Members.{at}
use Rattle.composition_flatten.proofs.whole.add_each_node.Goals as goal

abbrev no_node : Node
no_node = record { depth = 0; composition = 0; first = 0 }

pub returns-then-branch : goal.returns-then-branch
returns-then-branch c = record {
  matched = c.in_ok-add_node.ensures.matched;
  grown = grown_full (IsNodeLink c.args.tree.now.d.now) c.args.nodes.now c.loop-node.node-index no_node c.args.links.now.list.items c.loop-node.links.list.items c.add_node.new.links.list.items c.in_ok-add_node.field-0
      c.loop-node-test.true c.loop-node.invariant.grown c.in_ok-add_node.ensures.grown c.if-branch.true;
}

pub loop-node-preserved : goal.loop-node-preserved
loop-node-preserved c = record {
  matched = c.in_ok-add_node.ensures.matched;
  own = c.in_ok-add_node.ensures.own;
  grown = grown_more (IsNodeLink c.args.tree.now.d.now) c.args.nodes.now c.loop-node.node-index no_node c.args.links.now.list.items c.loop-node.links.list.items c.add_node.new.links.list.items c.in_ok-add_node.field-0
      c.loop-node-test.true c.loop-node.invariant.grown c.in_ok-add_node.ensures.grown c.if-branch.false;
}

pub returns : goal.returns
returns c = record {
  matched = c.loop-node.invariant.matched;
  grown = grown_all (IsNodeLink c.args.tree.now.d.now) c.args.nodes.now c.loop-node.node-index c.args.links.now.list.items c.loop-node.links.list.items c.loop-node-test.false c.loop-node.invariant.grown;
}

pub add_node-requires-clause-depth : goal.add_node-requires-clause-depth
add_node-requires-clause-depth c = (c.requires.within _ (at c.args.nodes.now c.loop-node.node-index no_node c.loop-node-test.true)).0

pub add_node-requires-clause-first : goal.add_node-requires-clause-first
add_node-requires-clause-first c = (c.requires.within _ (at c.args.nodes.now c.loop-node.node-index no_node c.loop-node-test.true)).1
