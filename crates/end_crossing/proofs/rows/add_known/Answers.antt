use Rattle.end_crossing.specs.Crossings.{IsBetween}
use Rattle.composition_tables.proofs.Growth.{grown_more, grown_full, grown_all}
use Rattle.composition_tables.proofs.Members.{at}
use Rattle.end_crossing.proofs.rows.add_known.Goals as goal

pub add_interfaces-requires-clause-first : goal.add_interfaces-requires-clause-first
add_interfaces-requires-clause-first c = c.requires.first _ (at c.args.pairs.now c.loop-pair.pair-index (0, 0) c.loop-pair-test.true)

pub add_interfaces-requires-clause-second : goal.add_interfaces-requires-clause-second
add_interfaces-requires-clause-second c = c.requires.second _ (at c.args.pairs.now c.loop-pair.pair-index (0, 0) c.loop-pair-test.true)

pub returns-then-branch : goal.returns-then-branch
returns-then-branch c = record {
  matched = c.in_ok-add_interfaces.ensures.matched;
  grown = grown_full (IsBetween c.args.d.now c.args.first.now c.args.second.now) c.args.pairs.now c.loop-pair.pair-index (0, 0) c.args.links.now.list.items c.loop-pair.links.list.items c.add_interfaces.new.links.list.items c.in_ok-add_interfaces.field-0
      c.loop-pair-test.true c.loop-pair.invariant.grown c.in_ok-add_interfaces.ensures.grown c.if-branch.true;
}

pub loop-pair-preserved : goal.loop-pair-preserved
loop-pair-preserved c = record {
  matched = c.in_ok-add_interfaces.ensures.matched;
  grown = grown_more (IsBetween c.args.d.now c.args.first.now c.args.second.now) c.args.pairs.now c.loop-pair.pair-index (0, 0) c.args.links.now.list.items c.loop-pair.links.list.items c.add_interfaces.new.links.list.items c.in_ok-add_interfaces.field-0
      c.loop-pair-test.true c.loop-pair.invariant.grown c.in_ok-add_interfaces.ensures.grown c.if-branch.false;
}

pub returns : goal.returns
returns c = record {
  matched = c.loop-pair.invariant.matched;
  grown = grown_all (IsBetween c.args.d.now c.args.first.now c.args.second.now) c.args.pairs.now c.loop-pair.pair-index c.args.links.now.list.items c.loop-pair.links.list.items c.loop-pair-test.false c.loop-pair.invariant.grown;
}
