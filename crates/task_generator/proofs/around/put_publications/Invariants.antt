use Rattle.std.proofs.Common.{◌≡◌, ◌++◌, map, drop}
use Rattle.bus_semantics.specs.Plan.{plan_of}
use Rattle.implicit_buffers.specs.Fetchings.{implicits_of}
use Rattle.task_machine.specs.Instructions.{instruction_of}
use Rattle.task_generator.specs.Common.{publishing_code, fixed}
use Rattle.task_generator.proofs.around.put_publications.Given as goal

abbrev pub invariant-loop-publication : goal.invariant-loop-publication
invariant-loop-publication l =
    map instruction_of l.code.items ++ map fixed (publishing_code (plan_of l.p) l.elements (implicits_of (drop l.publication-index l.publications)))
    ≡ map instruction_of l.fn.code.items ++ map fixed (publishing_code (plan_of l.p) l.elements (implicits_of l.publications))
