use Rattle.composition_flatten.proofs.Wholes.{nodes_within, inner_grown}
use Rattle.composition_flatten.proofs.whole.add_inner.Goals as goal

pub add_nodes-requires-clause-within : goal.add_nodes-requires-clause-within
add_nodes-requires-clause-within c = nodes_within c.args.tree.now.d.now c.in_ok-nodes.nodes.items c.as_slice.result.now c.as_slice.ensures.value c.in_ok-nodes.ensures

pub returns-clause-grown : goal.returns-clause-grown
returns-clause-grown c = inner_grown c.args.tree.now.d.now c.in_ok-nodes.nodes.items c.as_slice.result.now c.args.links.now.list.items c.add_nodes.new.links.list.items c.in_ok-is_full.is_full c.as_slice.ensures.value c.in_ok-nodes.ensures c.in_ok-is_full.ensures.grown
