use Rattle.std.proofs.Common.{◌≡◌, ◌+◌, ◌≤◌, min, drop}
use Rattle.runnable_lang.specs.Trees.{body_tree}
use Rattle.task_generator.specs.Bounds.{steps_of_body}
use Rattle.task_generator.proofs.bounds.+steps.Given as goal

abbrev pub invariant-steps_of_body-loop-stmt : goal.invariant-steps_of_body-loop-stmt
invariant-steps_of_body-loop-stmt l = record {
  is_capped : l.total ≤ 18446744073709551615;
  is_left : min (l.total + steps_of_body (body_tree (drop l.stmt-index l.body))) 18446744073709551615 ≡ min (steps_of_body (body_tree l.body)) 18446744073709551615;
}
