use Rattle.description_types.specs.Growing.{AnyOf}
use Rattle.end_crossing.specs.PortLinks.{IsPairLink}
use Rattle.composition_tables.proofs.Growth.{grown_more, grown_full, grown_all}
use Rattle.end_search.proofs.Lookups.{no_end}
use Rattle.end_crossing.proofs.cross.add_all.Goals as goal

pub returns-then-branch : goal.returns-then-branch
returns-then-branch c = record {
  matched = c.in_ok-add_ends.ensures.matched;
  grown = grown_full (λ p. AnyOf (IsPairLink c.args.d.now p) c.args.required.now) c.args.provided.now c.loop-end.end-index no_end c.args.links.now.list.items c.loop-end.links.list.items c.add_ends.new.links.list.items c.in_ok-add_ends.field-0
      c.loop-end-test.true c.loop-end.invariant.grown c.in_ok-add_ends.ensures.grown c.if-branch.true;
}

pub loop-end-preserved : goal.loop-end-preserved
loop-end-preserved c = record {
  matched = c.in_ok-add_ends.ensures.matched;
  grown = grown_more (λ p. AnyOf (IsPairLink c.args.d.now p) c.args.required.now) c.args.provided.now c.loop-end.end-index no_end c.args.links.now.list.items c.loop-end.links.list.items c.add_ends.new.links.list.items c.in_ok-add_ends.field-0
      c.loop-end-test.true c.loop-end.invariant.grown c.in_ok-add_ends.ensures.grown c.if-branch.false;
}

pub returns : goal.returns
returns c = record {
  matched = c.loop-end.invariant.matched;
  grown = grown_all (λ p. AnyOf (IsPairLink c.args.d.now p) c.args.required.now) c.args.provided.now c.loop-end.end-index c.args.links.now.list.items c.loop-end.links.list.items c.loop-end-test.false c.loop-end.invariant.grown;
}
