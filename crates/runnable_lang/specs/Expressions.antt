-- What an expression is worth over the variables of an activation.
use Rattle.std.specs.Prelude.{ℤ, pos, List, get_or}
use Rattle.rte_value.specs.declared.kinds.Cmp.TheVariants as cmp
use Rattle.rte_value.specs.Arithmetic.{saturating_sum, saturating_difference, saturating_product, quotient_or_zero, comparison}
use Rattle.runnable_lang.specs.declared.stmt.Op.{Op}
use Rattle.runnable_lang.specs.declared.stmt.Op.TheVariants as op
use Rattle.runnable_lang.specs.Trees.{ExprTree, constant, variable, combined}

-- an operator at two words
abbrev pub operated : Op → ℤ → ℤ → ℤ
operated op.Add a b = saturating_sum a b
operated op.Sub a b = saturating_difference a b
operated op.Mul a b = saturating_product a b
operated op.Div a b = quotient_or_zero a b
operated op.Eq a b = comparison cmp.Eq a b
operated op.Ne a b = comparison cmp.Ne a b
operated op.Lt a b = comparison cmp.Lt a b
operated op.Le a b = comparison cmp.Le a b

-- an expression over the variables, of which one that there is not counts 0
abbrev pub worth : List ℤ → ExprTree → ℤ
worth vars (constant z) = z
worth vars (variable v) = get_or vars v (pos 0)
worth vars (combined o a b) = operated o (worth vars a) (worth vars b)
