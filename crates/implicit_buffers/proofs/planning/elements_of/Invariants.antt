use Rattle.std.proofs.Common.{◌≡◌, ◌++◌}
use Rattle.bus_semantics.specs.Plan.{runnable_of}
use Rattle.implicit_buffers.specs.Buffers.{is_implicit, named}
use Rattle.implicit_buffers.proofs.planning.elements_of.Given as goal

abbrev pub invariant-loop-access : goal.invariant-loop-access
invariant-loop-access l =
    l.elements.items ++ named (is_implicit l.fetches) l.access-iterator.a.rest.now l.access-iterator.b.rest.now
    ≡ named (is_implicit l.fetches) (runnable_of l.runnable).accesses (runnable_of l.runnable).targets
