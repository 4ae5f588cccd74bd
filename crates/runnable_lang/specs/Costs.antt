-- What a program costs: a bound on the steps and bus calls of one activation.
use Rattle.std.specs.Prelude.{ℕ, ◌+◌, ◌*◌, List, [], ◌∷◌}
use Rattle.runnable_lang.specs.Trees.{ExprTree, constant, variable, combined, StmtTree, sets, chooses, repeats, in_area, writes, reads, invalidates, asks_updated, sends, receives}
use Rattle.runnable_lang.specs.Trees.{writes_late, reads_early, writes_variable, reads_variable, writes_variable_late, reads_variable_early, calls, calls_and_goes_on, takes_result, switches}
use Rattle.runnable_lang.specs.Trees.{asks_mode, BodyTree, done, next}

-- an expression: the number of its operators
abbrev pub expr_cost : ExprTree → ℕ
expr_cost (constant z) = 0
expr_cost (variable v) = 0
expr_cost (combined o a b) = 1 + (expr_cost a + expr_cost b)

-- expressions together
abbrev pub exprs_cost : List ExprTree → ℕ
exprs_cost [] = 0
exprs_cost (e ∷ es) = expr_cost e + exprs_cost es

-- a statement: 1 and its expressions, and besides 1 more and its body for an area, both bodies of an `if`, and the body of a `repeat` so many times
abbrev mutual
  pub stmt_cost : StmtTree → ℕ
  stmt_cost (sets v e) = 1 + expr_cost e
  stmt_cost (chooses c first second) = 1 + (expr_cost c + (body_cost first + body_cost second))
  stmt_cost (repeats n body) = 1 + n * body_cost body
  stmt_cost (in_area x body) = 2 + body_cost body
  stmt_cost (writes port item es s) = 1 + exprs_cost es
  stmt_cost (reads port item vs s) = 1
  stmt_cost (invalidates port item s) = 1
  stmt_cost (asks_updated port item v) = 1
  stmt_cost (sends port item es s) = 1 + exprs_cost es
  stmt_cost (receives port item vs s) = 1
  stmt_cost (writes_late port item es) = 1 + exprs_cost es
  stmt_cost (reads_early port item vs) = 1
  stmt_cost (writes_variable x es) = 1 + exprs_cost es
  stmt_cost (reads_variable x vs) = 1
  stmt_cost (writes_variable_late x es) = 1 + exprs_cost es
  stmt_cost (reads_variable_early x vs) = 1
  stmt_cost (calls port item es vs s) = 1 + exprs_cost es
  stmt_cost (calls_and_goes_on port item es s) = 1 + exprs_cost es
  stmt_cost (takes_result port item vs s) = 1
  stmt_cost (switches port mode s) = 1
  stmt_cost (asks_mode port v) = 1

  -- statements together
  pub body_cost : BodyTree → ℕ
  body_cost done = 0
  body_cost (next s body) = stmt_cost s + body_cost body
