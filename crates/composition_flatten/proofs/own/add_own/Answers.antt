use Rattle.std.proofs.Common.{subst, List, true, false}
use Rattle.description_types.specs.declared.description.Connector.{Connector}
use Rattle.description_types.specs.declared.description.Connector.TheVariants.{Assembly}
use Rattle.description_types.specs.Growing.{AnyOf, Grown}
use Rattle.composition_flatten.specs.Links.{IsAssemblyLink}
use Rattle.composition_tables.proofs.Growth.{grown_more, grown_full, grown_all}
use Rattle.composition_flatten.proofs.own.add_own.Goals as goal

abbrev no_connector : Connector
no_connector = Assembly (record { prototype = 0; port = 0 }) (record { prototype = 0; port = 0 })

pub returns-then-branch : goal.returns-then-branch
returns-then-branch c = record {
  matched = c.in_ok-add_assembly.ensures.matched;
  grown = subst (λ (l : List Connector). Grown (AnyOf (IsAssemblyLink c.args.tree.now.d.now c.args.depth c.args.composition) l) c.args.links.now.list.items c.add_assembly.new.links.list.items true) c.connectors_of-connector-items.ensures
      (grown_full (IsAssemblyLink c.args.tree.now.d.now c.args.depth c.args.composition) c.connectors_of-connector-items.result.now c.loop-connector.connector-index no_connector c.args.links.now.list.items c.loop-connector.links.list.items c.add_assembly.new.links.list.items c.in_ok-add_assembly.field-0
      c.loop-connector-test.true c.loop-connector.invariant.grown c.in_ok-add_assembly.ensures.grown c.if-branch.true);
}

pub loop-connector-preserved : goal.loop-connector-preserved
loop-connector-preserved c = record {
  matched = c.in_ok-add_assembly.ensures.matched;
  grown = grown_more (IsAssemblyLink c.args.tree.now.d.now c.args.depth c.args.composition) c.connectors_of-connector-items.result.now c.loop-connector.connector-index no_connector c.args.links.now.list.items c.loop-connector.links.list.items c.add_assembly.new.links.list.items c.in_ok-add_assembly.field-0
      c.loop-connector-test.true c.loop-connector.invariant.grown c.in_ok-add_assembly.ensures.grown c.if-branch.false;
}

pub returns : goal.returns
returns c = record {
  matched = c.loop-connector.invariant.matched;
  grown = subst (λ (l : List Connector). Grown (AnyOf (IsAssemblyLink c.args.tree.now.d.now c.args.depth c.args.composition) l) c.args.links.now.list.items c.loop-connector.links.list.items false) c.connectors_of-connector-items.ensures
      (grown_all (IsAssemblyLink c.args.tree.now.d.now c.args.depth c.args.composition) c.connectors_of-connector-items.result.now c.loop-connector.connector-index c.args.links.now.list.items c.loop-connector.links.list.items c.loop-connector-test.false c.loop-connector.invariant.grown);
}
