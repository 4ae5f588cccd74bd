use Rattle.composition_tables.specs.declared.tree.PortEnd.{PortEnd}
use Rattle.description_types.specs.Growing.{AnyOf}
use Rattle.end_crossing.specs.PortLinks.{IsPairLink}
use Rattle.composition_tables.proofs.Growth.{grown_more, grown_full, grown_all}
use Rattle.end_search.proofs.Lookups.{no_end}
use Rattle.end_crossing.proofs.rows.add_columns.Goals as goal

pub returns-then-branch : goal.returns-then-branch
returns-then-branch c = record {
  matched = c.in_ok-add_column.ensures.matched;
  grown = grown_full (λ (r : PortEnd). AnyOf (λ (p : PortEnd). IsPairLink c.args.d.now p r) c.args.first.now) c.args.second.now c.loop-end.end-index no_end c.args.links.now.list.items c.loop-end.links.list.items c.add_column.new.links.list.items c.in_ok-add_column.field-0
      c.loop-end-test.true c.loop-end.invariant.grown c.in_ok-add_column.ensures.grown c.if-branch.true;
}

pub loop-end-preserved : goal.loop-end-preserved
loop-end-preserved c = record {
  matched = c.in_ok-add_column.ensures.matched;
  grown = grown_more (λ (r : PortEnd). AnyOf (λ (p : PortEnd). IsPairLink c.args.d.now p r) c.args.first.now) c.args.second.now c.loop-end.end-index no_end c.args.links.now.list.items c.loop-end.links.list.items c.add_column.new.links.list.items c.in_ok-add_column.field-0
      c.loop-end-test.true c.loop-end.invariant.grown c.in_ok-add_column.ensures.grown c.if-branch.false;
}

pub returns : goal.returns
returns c = record {
  matched = c.loop-end.invariant.matched;
  grown = grown_all (λ (r : PortEnd). AnyOf (λ (p : PortEnd). IsPairLink c.args.d.now p r) c.args.first.now) c.args.second.now c.loop-end.end-index c.args.links.now.list.items c.loop-end.links.list.items c.loop-end-test.false c.loop-end.invariant.grown;
}
