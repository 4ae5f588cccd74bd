use Rattle.std.proofs.Common.{◌≡◌, length}
use Rattle.bus_semantics.specs.Plan.{plan_of}
use Rattle.port_objects.proofs.Listing.{AreListed}
use Rattle.port_objects.proofs.making.listed_bundles.Given as goal

abbrev pub invariant-loop-list : goal.invariant-loop-list
invariant-loop-list l = record {
  long : length l.listed.items ≡ length l.p.bundles;
  listed : AreListed (plan_of l.p) l.list-index l.listed.items;
}
