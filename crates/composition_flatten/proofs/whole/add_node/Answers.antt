use Rattle.composition_flatten.proofs.Wholes.{node_full, node_grown}
use Rattle.composition_flatten.proofs.whole.add_node.Goals as goal

pub returns-then-own-clause-grown : goal.returns-then-own-clause-grown
returns-then-own-clause-grown c = node_full c.args.tree.now.d.now c.args.node c.take_own.new.own c.in_ok-take_own.ensures.depth c.in_ok-take_own.ensures.composition c.in_ok-take_own.ensures.own c.args.links.now.list.items c.if-own.true c.requires.depth c.requires.first

pub returns-clause-grown : goal.returns-clause-grown
returns-clause-grown c = node_grown c.args.tree.now.d.now c.args.node c.take_own.new.own c.in_ok-take_own.ensures.depth c.in_ok-take_own.ensures.composition c.in_ok-take_own.ensures.own c.as_slice.result.now c.args.links.now.list.items c.add_from.new.links.list.items c.in_ok-is_full-2.is_full
    c.as_slice.ensures.value c.if-own.false c.in_ok-is_full-2.ensures
