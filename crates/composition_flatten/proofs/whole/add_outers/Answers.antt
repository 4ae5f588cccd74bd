use Rattle.composition_flatten.proofs.Outers.{outer_all}
use Rattle.composition_flatten.proofs.whole.add_outers.Goals as goal

pub returns : goal.returns
returns c = outer_all c.args.tree.now.d.now c.connectors_of.result.now c.in_ok-ports.ports.keys c.as_slice.result.now c.args.links.now.list.items c.add_each_outer.new.links.list.items c.in_ok-is_full.is_full
    c.connectors_of.ensures c.in_ok-ports.ensures c.as_slice.ensures.keys c.in_ok-is_full.ensures
