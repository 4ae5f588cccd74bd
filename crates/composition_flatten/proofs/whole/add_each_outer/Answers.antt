use Rattle.composition_flatten.specs.Links.{IsOuterLink}
use Rattle.composition_tables.proofs.Growth.{grown_more, grown_full, grown_all}
use Rattle.composition_flatten.proofs.whole.add_each_outer.Goals as goal

pub returns-then-branch : goal.returns-then-branch
returns-then-branch c = grown_full (IsOuterLink c.args.tree.now.d.now) c.args.ports.now c.loop-port.port-index 0 c.args.links.now.list.items c.loop-port.links.list.items c.add_outer.new.links.list.items c.in_ok-add_outer.field-0
    c.loop-port-test.true c.loop-port.invariant.grown c.in_ok-add_outer.ensures.grown c.if-branch.true

pub loop-port-preserved : goal.loop-port-preserved
loop-port-preserved c = record {
  matched = c.in_ok-add_outer.ensures.matched;
  grown = grown_more (IsOuterLink c.args.tree.now.d.now) c.args.ports.now c.loop-port.port-index 0 c.args.links.now.list.items c.loop-port.links.list.items c.add_outer.new.links.list.items c.in_ok-add_outer.field-0
      c.loop-port-test.true c.loop-port.invariant.grown c.in_ok-add_outer.ensures.grown c.if-branch.false;
}

pub returns : goal.returns
returns c = grown_all (IsOuterLink c.args.tree.now.d.now) c.args.ports.now c.loop-port.port-index c.args.links.now.list.items c.loop-port.links.list.items c.loop-port-test.false c.loop-port.invariant.grown
