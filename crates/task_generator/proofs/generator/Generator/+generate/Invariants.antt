use Rattle.std.proofs.Common.{◌≡◌, ◌++◌, map, drop}
use Rattle.runnable_lang.specs.Trees.{body_tree}
use Rattle.task_machine.specs.Instructions.{instruction_of}
use Rattle.task_generator.specs.Shared.{shared_of_body}
use Rattle.task_generator.proofs.generator.Generator.+generate.Given as goal

abbrev pub invariant-body-loop-stmt : goal.invariant-body-loop-stmt
invariant-body-loop-stmt l =
    map instruction_of l.code.items ++ shared_of_body l.self.accesses.now.list.now l.depth (body_tree (drop l.stmt-index l.body))
    ≡ map instruction_of l.fn.code.items ++ shared_of_body l.self.accesses.now.list.now l.depth (body_tree l.body)
