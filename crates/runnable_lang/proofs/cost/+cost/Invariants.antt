use Rattle.std.proofs.Common.{◌≡◌, ◌+◌, ◌≤◌, min, drop}
use Rattle.runnable_lang.specs.Trees.{body_tree}
use Rattle.runnable_lang.specs.Costs.{body_cost}
use Rattle.runnable_lang.proofs.cost.+cost.Given as goal

abbrev pub invariant-of_body-loop-stmt : goal.invariant-of_body-loop-stmt
invariant-of_body-loop-stmt l = record {
  is_capped : l.total ≤ 100001;
  is_left : min (l.total + body_cost (body_tree (drop l.stmt-index l.body))) 100001 ≡ min (body_cost (body_tree l.body)) 100001;
}
