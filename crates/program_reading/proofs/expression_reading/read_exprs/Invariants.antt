use Rattle.std.proofs.Common.{◌≡◌, map, take}
use Rattle.runnable_lang.specs.Trees.{exprs}
use Rattle.serde_json.specs.View.{view}
use Rattle.program_reading.specs.Expressions.{expr_reading}
use Rattle.program_reading.proofs.expression_reading.read_exprs.Given as goal

abbrev pub invariant-loop-value : goal.invariant-loop-value
invariant-loop-value l = exprs l.list.items ≡ map (λ d. expr_reading d l.vars) (map view (take l.value-index l.values))
