use Rattle.std.proofs.Common.{◌≡◌, ◌≤◌, min, max, drop}
use Rattle.runnable_lang.specs.Trees.{body_tree}
use Rattle.task_generator.specs.Bounds.{loops_of_body}
use Rattle.task_generator.proofs.bounds.+loops.Given as goal

abbrev pub invariant-loops_of_body-loop-stmt : goal.invariant-loops_of_body-loop-stmt
invariant-loops_of_body-loop-stmt l = record {
  is_capped : l.most ≤ 4294967295;
  is_left : min (max l.most (loops_of_body (body_tree (drop l.stmt-index l.body)))) 4294967295 ≡ min (loops_of_body (body_tree l.body)) 4294967295;
}
