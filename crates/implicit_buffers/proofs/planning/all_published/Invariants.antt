use Rattle.std.proofs.Common.{◌≡◌, map, take}
use Rattle.bus_semantics.specs.Plan.{runnable_of}
use Rattle.implicit_buffers.specs.Buffers.{published_by}
use Rattle.implicit_buffers.proofs.planning.all_published.Given as goal

abbrev pub invariant-loop-runnable : goal.invariant-loop-runnable
invariant-loop-runnable l = l.lists.items ≡ map published_by (map runnable_of (take l.runnable-index l.runnables))
