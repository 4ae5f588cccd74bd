use Rattle.std.proofs.Common.{rules, arith}
use Rattle.runnable_lang.specs.declared.stmt.Expr.{the_lemmas}
use Rattle.program_reading.proofs.Parts.{expr_there, expr_past}
use Rattle.program_reading.proofs.expression_reading.+expression.Goals as goal

pub read_part-returns-then-part-parts : goal.read_part-returns-then-part-parts
read_part-returns-then-part-parts t c =
    rw (expr_there c.args.vars.now c.args.parts.now c.args.part c.index-parts-part.result (omega arith) c.index-parts-part.is) c.read_expr.ensures

pub read_part-returns-else-part-parts : goal.read_part-returns-else-part-parts
read_part-returns-else-part-parts t c = rw (expr_past c.args.vars.now c.args.parts.now c.args.part (omega arith)) (search (rules, the_lemmas))
