use Rattle.composition_flatten.proofs.Wholes.{links_full, links_all}
use Rattle.composition_flatten.proofs.whole.add_over.Goals as goal

pub returns-then-branch : goal.returns-then-branch
returns-then-branch c = links_full c.args.tree.now.d.now c.args.links.now.list.items c.add_inner.new.links.list.items c.in_ok-add_inner.field-0 c.in_ok-add_inner.ensures.grown c.if-branch.true

pub returns : goal.returns
returns c = links_all c.args.tree.now.d.now c.args.links.now.list.items c.add_inner.new.links.list.items c.add_outers.new.links.list.items c.in_ok-is_full.is_full c.in_ok-add_inner.field-0 c.in_ok-add_inner.ensures.grown c.if-branch.false c.in_ok-is_full.ensures
