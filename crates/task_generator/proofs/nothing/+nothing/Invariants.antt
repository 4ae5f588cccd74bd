use Rattle.std.proofs.Common.{◌≡◌, drop}
use Rattle.runnable_lang.specs.Trees.{body_tree}
use Rattle.task_generator.specs.Nothing.{do_nothing}
use Rattle.task_generator.proofs.nothing.+nothing.Given as goal

abbrev pub invariant-do_nothing-loop-stmt : goal.invariant-do_nothing-loop-stmt
invariant-do_nothing-loop-stmt l = do_nothing (body_tree (drop l.stmt-index l.body)) ≡ do_nothing (body_tree l.body)
