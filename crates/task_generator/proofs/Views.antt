-- The trees that statements are.
use Rattle.std.proofs.Common.{◌≡◌, ℕ, rules, Vec, Global}
use Rattle.runnable_lang.specs.declared.stmt.Expr.{Expr}
use Rattle.runnable_lang.specs.declared.stmt.Stmt.{Write, Read, Invalidate, IsUpdated, Receive, Call, ACall, TakeResult, the_lemmas}
use Rattle.runnable_lang.specs.Trees.{exprs, stmt_tree, writes, reads, invalidates, asks_updated, receives, calls, calls_and_goes_on, takes_result}

pub tree_of_write : (port item : ℕ) (values : Vec Expr Global) (status : ℕ) → stmt_tree (Write port item values status) ≡ writes port item (exprs values.items) status
tree_of_write port item values status = search (rules, the_lemmas)

pub tree_of_call : (port item : ℕ) (values : Vec Expr Global) (vars : Vec ℕ Global) (status : ℕ) → stmt_tree (Call port item values vars status) ≡ calls port item (exprs values.items) vars.items status
tree_of_call port item values vars status = search (rules, the_lemmas)

pub tree_of_acall : (port item : ℕ) (values : Vec Expr Global) (status : ℕ) → stmt_tree (ACall port item values status) ≡ calls_and_goes_on port item (exprs values.items) status
tree_of_acall port item values status = search (rules, the_lemmas)

pub tree_of_read : (port item : ℕ) (vars : Vec ℕ Global) (status : ℕ) → stmt_tree (Read port item vars status) ≡ reads port item vars.items status
tree_of_read port item vars status = search (rules, the_lemmas)

pub tree_of_receive : (port item : ℕ) (vars : Vec ℕ Global) (status : ℕ) → stmt_tree (Receive port item vars status) ≡ receives port item vars.items status
tree_of_receive port item vars status = search (rules, the_lemmas)

pub tree_of_take_result : (port item : ℕ) (vars : Vec ℕ Global) (status : ℕ) → stmt_tree (TakeResult port item vars status) ≡ takes_result port item vars.items status
tree_of_take_result port item vars status = search (rules, the_lemmas)

pub tree_of_invalidate : (port item status : ℕ) → stmt_tree (Invalidate port item status) ≡ invalidates port item status
tree_of_invalidate port item status = search (rules, the_lemmas)

pub tree_of_update : (port item var : ℕ) → stmt_tree (IsUpdated port item var) ≡ asks_updated port item var
tree_of_update port item var = search (rules, the_lemmas)
