use Rattle.std.proofs.Common.{◌≡◌, ◌++◌, map, drop}
use Rattle.bus_semantics.specs.Plan.{plan_of}
use Rattle.implicit_buffers.specs.Fetchings.{implicits_of}
use Rattle.task_machine.specs.Instructions.{instruction_of}
use Rattle.task_generator.specs.Common.{fetching_code, fixed}
use Rattle.task_generator.proofs.around.put_fetches.Given as goal

abbrev pub invariant-loop-fetch : goal.invariant-loop-fetch
invariant-loop-fetch l =
    map instruction_of l.code.items ++ map fixed (fetching_code (plan_of l.p) l.elements (implicits_of (drop l.fetch-index l.fetches)))
    ≡ map instruction_of l.fn.code.items ++ map fixed (fetching_code (plan_of l.p) l.elements (implicits_of l.fetches))
