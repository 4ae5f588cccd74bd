use Rattle.std.proofs.Common.{◌≡◌, ◌+◌, ◌∙◌, ap, sym, subst, arith, length, Some}
use Rattle.std.specs.Prelude.{option_and_then}
use Rattle.bus_semantics.specs.Common.{slice_get, plan_of, bundle_of}
use Rattle.object_kinds.proofs.Lists.{at_index}
use Rattle.port_objects.proofs.Listing.{AreListed, as_long, list_more}
use Rattle.port_objects.proofs.making.listed_bundles.Goals as goal

pub loop-list-preserved : goal.loop-list-preserved
loop-list-preserved c =
    let p = plan_of c.args.p.now in
    let i = c.loop-list.list-index in
    let list = c.list-item.result in
    let at : slice_get p.lists i ≡ Some list = at_index p.lists c.items-list-items.result.now i list c.items-list-items.ensures c.list-item.is (omega (arith, c.loop-list-test.true, ap length c.items-list-items.ensures)) in
    record {
      long = ap length c.mark_bundle.ensures ∙ as_long (option_and_then (bundle_of p) (slice_get list.elems 0)) c.loop-list.listed.items ∙ c.loop-list.invariant.long;
      listed = subst (AreListed p (i + 1)) (sym c.mark_bundle.ensures) (list_more p i list at c.loop-list.listed.items c.loop-list.invariant.listed);
    }
