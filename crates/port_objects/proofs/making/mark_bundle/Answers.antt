use Rattle.std.proofs.Common.{◌<◌, ◌∙◌, arith, length, sym}
use Rattle.bus_semantics.specs.Common.{slice_get, plan_of}
use Rattle.port_objects.proofs.Listing.{touched_within}
use Rattle.port_objects.proofs.making.mark_bundle.Goals as goal

pub index_mut-requires : goal.index_mut-requires
index_mut-requires c =
    let p = plan_of c.args.p.now in
    let below : c.in-Some.bundle < length p.bundles = touched_within p c.requires.bundles (slice_get c.args.list.now.elems 0) c.in-Some.bundle (sym c.list_bundle.ensures ∙ c.in-Some.is) in
    omega (arith, below, c.requires.long)
