-- Sums that are held at a cap, step by step.
use Rattle.std.proofs.Common.{◌≡◌, ◌+◌, ◌*◌, ◌<◌, min, ℕ, zero, suc, inl, inr, arith, List, length, drop, get_or}
use Rattle.std.proofs.lemmas.List.{drop_more}
use Rattle.std.proofs.Math.Nat.{zero-mul}
use Rattle.std.proofs.lemmas.Nat.{mul-le}
use Rattle.std.proofs.lemmas.Bool.{cases_lt}
use Rattle.runnable_lang.specs.declared.stmt.Expr.{Expr}
use Rattle.runnable_lang.specs.declared.stmt.Stmt.{Stmt}
use Rattle.runnable_lang.specs.Trees.{expr_tree, exprs, stmt_tree, body_tree}
use Rattle.runnable_lang.specs.Costs.{expr_cost, exprs_cost, stmt_cost, body_cost}

-- one more part
pub capped_turn : (total part rest cap : ℕ) → min (min (total + min part cap) cap + rest) cap ≡ min (total + (part + rest)) cap
capped_turn total part rest cap = omega arith

-- one more expression
pub exprs_turn : (list : List Expr) (i : ℕ) (d : Expr) (total : ℕ) → i < length list → min (min (total + min (expr_cost (expr_tree (get_or list i d))) 100001) 100001 + exprs_cost (exprs (drop (i + 1) list))) 100001 ≡ min (total + exprs_cost (exprs (drop i list))) 100001
exprs_turn list i d total h = rw (drop_more list i d h) (capped_turn total (expr_cost (expr_tree (get_or list i d))) (exprs_cost (exprs (drop (i + 1) list))) 100001)

-- one more statement
pub body_turn : (list : List Stmt) (i : ℕ) (d : Stmt) (total : ℕ) → i < length list → min (min (total + min (stmt_cost (stmt_tree (get_or list i d))) 100001) 100001 + body_cost (body_tree (drop (i + 1) list))) 100001 ≡ min (total + body_cost (body_tree (drop i list))) 100001
body_turn list i d total h = rw (drop_more list i d h) (capped_turn total (stmt_cost (stmt_tree (get_or list i d))) (body_cost (body_tree (drop (i + 1) list))) 100001)

-- a body so many times
pub capped_product : (times cost cap : ℕ) → min (times * min cost cap) cap ≡ min (times * cost) cap
capped_product zero cost cap = simp zero-mul
capped_product (suc n) cost cap = elim (cases_lt cap cost) [
  | inl above ↦
      let is_cap : min cost cap ≡ cap = omega arith in
      rw is_cap (omega (arith, mul-le 1 cap (suc n) cap (omega arith) (omega arith), mul-le 1 cost (suc n) cost (omega arith) (omega arith)))
  | inr below ↦
      let is_cost : min cost cap ≡ cost = omega arith in
      rw is_cost
]
