use Rattle.std.proofs.Common.{◌≡◌, ◌++◌, [], nat_eq}
use Rattle.indexmap.specs.IndexSet.{contains}
use Rattle.bus_semantics.specs.Common.{plan_of, runnable_of, in_order}
use Rattle.implicit_buffers.specs.Buffers.{is_implicit}
use Rattle.implicit_buffers.specs.Fetchings.{implicits_of, in_turn}
use Rattle.implicit_buffers.proofs.fetchings.fetchings_of.Given as goal

abbrev pub invariant-loop-access : goal.invariant-loop-access
invariant-loop-access l =
    implicits_of l.found.items ++ in_turn (plan_of l.p) (runnable_of l.runnable).lists (is_implicit l.fetches) (contains nat_eq l.met) l.access-iterator.a.rest.now l.access-iterator.b.rest.now
    ≡ in_order (plan_of l.p) (runnable_of l.runnable).lists (is_implicit l.fetches) [] (runnable_of l.runnable).accesses (runnable_of l.runnable).targets
