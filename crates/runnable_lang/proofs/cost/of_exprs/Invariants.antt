use Rattle.std.proofs.Common.{◌≡◌, ◌+◌, ◌≤◌, min, drop}
use Rattle.runnable_lang.specs.Trees.{exprs}
use Rattle.runnable_lang.specs.Costs.{exprs_cost}
use Rattle.runnable_lang.proofs.cost.of_exprs.Given as goal

abbrev pub invariant-loop-expr : goal.invariant-loop-expr
invariant-loop-expr l = record {
  is_capped : l.total ≤ 100001;
  is_left : min (l.total + exprs_cost (exprs (drop l.expr-index l.list))) 100001 ≡ min (exprs_cost (exprs l.list)) 100001;
}
