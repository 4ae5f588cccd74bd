-- What the expressions of a program are read as.
use Rattle.std.specs.Prelude.{ℕ, pos, List, [], ◌∷◌, slice_get, bytes_eq, codes, if◌then◌else◌, Option, Some, None}
use Rattle.serde_json.specs.Data.{Data, null, boolean, number, string, array, object, Items, no_items, item}
use Rattle.runnable_lang.specs.declared.stmt.Op.{Op}
use Rattle.runnable_lang.specs.declared.stmt.Op.TheVariants as op
use Rattle.runnable_lang.specs.Trees.{ExprTree, constant, variable, combined}
use Rattle.declared_names.specs.Names.{Names, position_in}
use Rattle.declared_names.specs.Values.{text_of_part, word_in}

-- the operator of a word
abbrev pub op_reading : List ℕ → Op
op_reading word =
    if bytes_eq word (codes "add") then op.Add else
    (if bytes_eq word (codes "sub") then op.Sub else
    (if bytes_eq word (codes "mul") then op.Mul else
    (if bytes_eq word (codes "div") then op.Div else
    (if bytes_eq word (codes "eq") then op.Eq else
    (if bytes_eq word (codes "ne") then op.Ne else
    (if bytes_eq word (codes "lt") then op.Lt else op.Le))))))

-- the expression that a part of an operator is, once the variables are numbered
abbrev pub Numbered : Type 0
Numbered = Names → ExprTree

abbrev pub expr_of : Names → Option Numbered → ExprTree
expr_of vars None = constant (pos 0)
expr_of vars (Some e) = e vars

-- an expression: a constant, a variable or an operator with two expressions
abbrev mutual
  pub expr_reading : Data → Numbered
  expr_reading null vars = constant (pos 0)
  expr_reading (boolean b) vars = constant (pos 0)
  expr_reading (number n) vars = constant (word_in (number n))
  expr_reading (string t) vars = variable (position_in vars t)
  expr_reading (array ds) vars = combined (op_reading (text_of_part 0 (array ds))) (expr_of vars (slice_get (expr_readings ds) 1)) (expr_of vars (slice_get (expr_readings ds) 2))
  expr_reading (object ms) vars = constant (pos 0)

  pub expr_readings : Items → List Numbered
  expr_readings no_items = []
  expr_readings (item d ds) = expr_reading d ∷ expr_readings ds
