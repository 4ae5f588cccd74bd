-- The trees of statements that hold others.
use Rattle.std.proofs.Common.{rules, ◌≡◌, ℕ, Vec, Global}
use Rattle.runnable_lang.specs.declared.stmt.Expr.{Expr}
use Rattle.runnable_lang.specs.declared.stmt.Stmt.{Stmt, If, Repeat, Area, the_lemmas}
use Rattle.runnable_lang.specs.Trees.{chooses, repeats, in_area, expr_tree, stmt_tree, body_tree}

pub tree_of_if : (e : Expr) (one two : Vec Stmt Global) → stmt_tree (If e one two) ≡ chooses (expr_tree e) (body_tree one.items) (body_tree two.items)
tree_of_if e one two = search (rules, the_lemmas)

pub tree_of_repeat : (n : ℕ) (body : Vec Stmt Global) → stmt_tree (Repeat n body) ≡ repeats n (body_tree body.items)
tree_of_repeat n body = search (rules, the_lemmas)

pub tree_of_area : (x : ℕ) (body : Vec Stmt Global) → stmt_tree (Area x body) ≡ in_area x (body_tree body.items)
tree_of_area x body = search (rules, the_lemmas)
