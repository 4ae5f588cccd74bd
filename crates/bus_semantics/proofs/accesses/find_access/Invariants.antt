use Rattle.std.proofs.Common.{◌≡◌}
use Rattle.bus_semantics.specs.Common.{runnable_of, is_to, found, access}
use Rattle.bus_semantics.proofs.accesses.find_access.Given as goal

abbrev pub invariant-loop-access : goal.invariant-loop-access
invariant-loop-access l =
    found (is_to l.kind l.port l.item) l.access-iterator.a.rest.now l.access-iterator.b.rest.now
    ≡ access (runnable_of l.runnable) l.kind l.port l.item
