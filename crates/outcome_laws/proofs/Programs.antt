-- Programs for trees: a tree whose lists are short is that of a program.
use Rattle.std.proofs.Common.{rules, ◌≡◌, ℕ, suc, ◌<◌, ◌^◌, List, [], ◌∷◌, map, length, refl, sym, ap, ◌∙◌, arith}
use Rattle.std.specs.Global.{Box, Vec}
use Rattle.runnable_lang.specs.declared.program.Program.{Program}
use Rattle.runnable_lang.specs.declared.stmt.Op.{Op}
use Rattle.runnable_lang.specs.declared.stmt.Expr.{Expr, Const, Var, Bin}
use Rattle.runnable_lang.specs.declared.stmt.Expr as expr
use Rattle.runnable_lang.specs.declared.stmt.Stmt as stmt
use Rattle.runnable_lang.specs.declared.stmt.Stmt.{Stmt, Set, If, Repeat, Area, Invalidate, IsUpdated, Switch, Mode, Write, Read, Send, Receive, IWrite, IRead, IrvWrite, IrvRead, IrvIWrite}
use Rattle.runnable_lang.specs.declared.stmt.Stmt.{IrvIRead, Call, ACall, TakeResult}
use Rattle.runnable_lang.specs.Trees.{ExprTree, constant, variable, combined, StmtTree, BodyTree, ProgramTree, done, next, sets, chooses, repeats, in_area, invalidates, asks_updated}
use Rattle.runnable_lang.specs.Trees.{switches, asks_mode, writes, reads, sends, receives, writes_late, reads_early, writes_variable, reads_variable, writes_variable_late}
use Rattle.runnable_lang.specs.Trees.{reads_variable_early, calls, calls_and_goes_on, takes_result, body_tree, expr_tree, exprs, program_tree, stmt_tree}
use Rattle.outcome_laws.proofs.Values.{IsFew, box_of, vec_of}

abbrev pub body_length : BodyTree → ℕ
body_length done = 0
body_length (next s b) = suc (body_length b)

-- the lists of a statement, and those of each statement of a body, are short
abbrev mutual
  pub IsShort : StmtTree → Type 0
  IsShort (sets v e) = Unit {0}
  IsShort (chooses e a b) = ((body_length a < 2 ^ 63) × AreShort a) × ((body_length b < 2 ^ 63) × AreShort b)
  IsShort (repeats n b) = (body_length b < 2 ^ 63) × AreShort b
  IsShort (in_area a b) = (body_length b < 2 ^ 63) × AreShort b
  IsShort (invalidates p i s) = Unit {0}
  IsShort (asks_updated p i v) = Unit {0}
  IsShort (switches p m s) = Unit {0}
  IsShort (asks_mode p v) = Unit {0}
  IsShort (writes p i es s) = IsFew es
  IsShort (reads p i vs s) = IsFew vs
  IsShort (sends p i es s) = IsFew es
  IsShort (receives p i vs s) = IsFew vs
  IsShort (writes_late p i es) = IsFew es
  IsShort (reads_early p i vs) = IsFew vs
  IsShort (writes_variable x es) = IsFew es
  IsShort (reads_variable x vs) = IsFew vs
  IsShort (writes_variable_late x es) = IsFew es
  IsShort (reads_variable_early x vs) = IsFew vs
  IsShort (calls p i es vs s) = IsFew es × IsFew vs
  IsShort (calls_and_goes_on p i es s) = IsFew es
  IsShort (takes_result p i vs s) = IsFew vs

  pub AreShort : BodyTree → Type 0
  AreShort done = Unit {0}
  AreShort (next s b) = IsShort s × AreShort b

abbrev pub IsShortBody : BodyTree → Type 0
IsShortBody b = (body_length b < 2 ^ 63) × AreShort b

-- ---- expressions

expr_of_combined : (op : Op) (a b : Box Expr) → expr_tree (Bin op a b) ≡ combined op (expr_tree a.value) (expr_tree b.value)
expr_of_combined op a b = search (rules, expr.the_lemmas)

joined : (op : Op) (t u : ExprTree) (a b : Expr) → expr_tree a ≡ t → expr_tree b ≡ u → (x : Box Expr) × (x.value ≡ a) → (y : Box Expr) × (y.value ≡ b)
    → (e : Expr) × (expr_tree e ≡ combined op t u)
joined op t u a b is_a is_b (x, in_x) (y, in_y) =
    (Bin op x y, expr_of_combined op x y ∙ (λ i. combined op ((ap expr_tree in_x ∙ is_a) i) ((ap expr_tree in_y ∙ is_b) i)))

expr_for : (t : ExprTree) → (e : Expr) × (expr_tree e ≡ t)
expr_for (constant z) = (Const z, search (rules, expr.the_lemmas))
expr_for (variable n) = (Var n, search (rules, expr.the_lemmas))
expr_for (combined op t u) = joined op t u (expr_for t).0 (expr_for u).0 (expr_for t).1 (expr_for u).1 (box_of (expr_for t).0) (box_of (expr_for u).0)

list_for : {X Y : Type 0} (f : X → Y) → ((y : Y) → (x : X) × (f x ≡ y)) → (ys : List Y) → (xs : List X) × (map f xs ≡ ys)
list_for f each [] = ([], refl)
list_for f each (y ∷ ys) = ((each y).0 ∷ (list_for f each ys).0, λ i. (each y).1 i ∷ (list_for f each ys).1 i)

length_of_map : {X Y : Type 0} (f : X → Y) (xs : List X) → length (map f xs) ≡ length xs
length_of_map f [] = refl
length_of_map f (x ∷ xs) = ap suc (length_of_map f xs)

as_vec : (ts : List ExprTree) → IsFew ts → (es : List Expr) × (exprs es ≡ ts) → (v : Vec Expr) × (exprs v.items ≡ ts)
as_vec ts few (es, are) = let same : length es ≡ length ts = sym (length_of_map expr_tree es) ∙ ap length are in
    let (v, is) = vec_of es (omega (arith, same, few)) in (v, ap exprs is ∙ are)

exprs_for : (ts : List ExprTree) → IsFew ts → (v : Vec Expr) × (exprs v.items ≡ ts)
exprs_for ts few = as_vec ts few (list_for expr_tree expr_for ts)

-- ---- statements

tree_of_invalidates : (p : ℕ) (i : ℕ) (s : ℕ) → stmt_tree (Invalidate p i s) ≡ invalidates p i s
tree_of_invalidates p i s = search (rules, stmt.the_lemmas)

tree_of_asks_updated : (p : ℕ) (i : ℕ) (v : ℕ) → stmt_tree (IsUpdated p i v) ≡ asks_updated p i v
tree_of_asks_updated p i v = search (rules, stmt.the_lemmas)

tree_of_switches : (p : ℕ) (m : ℕ) (s : ℕ) → stmt_tree (Switch p m s) ≡ switches p m s
tree_of_switches p m s = search (rules, stmt.the_lemmas)

tree_of_asks_mode : (p : ℕ) (v : ℕ) → stmt_tree (Mode p v) ≡ asks_mode p v
tree_of_asks_mode p v = search (rules, stmt.the_lemmas)

tree_of_writes : (p : ℕ) (i : ℕ) (es : Vec Expr) (s : ℕ) → stmt_tree (Write p i es s) ≡ writes p i (exprs es.items) s
tree_of_writes p i es s = search (rules, stmt.the_lemmas)

tree_of_reads : (p : ℕ) (i : ℕ) (vs : Vec ℕ) (s : ℕ) → stmt_tree (Read p i vs s) ≡ reads p i vs.items s
tree_of_reads p i vs s = search (rules, stmt.the_lemmas)

tree_of_sends : (p : ℕ) (i : ℕ) (es : Vec Expr) (s : ℕ) → stmt_tree (Send p i es s) ≡ sends p i (exprs es.items) s
tree_of_sends p i es s = search (rules, stmt.the_lemmas)

tree_of_receives : (p : ℕ) (i : ℕ) (vs : Vec ℕ) (s : ℕ) → stmt_tree (Receive p i vs s) ≡ receives p i vs.items s
tree_of_receives p i vs s = search (rules, stmt.the_lemmas)

tree_of_writes_late : (p : ℕ) (i : ℕ) (es : Vec Expr) → stmt_tree (IWrite p i es) ≡ writes_late p i (exprs es.items)
tree_of_writes_late p i es = search (rules, stmt.the_lemmas)

tree_of_reads_early : (p : ℕ) (i : ℕ) (vs : Vec ℕ) → stmt_tree (IRead p i vs) ≡ reads_early p i vs.items
tree_of_reads_early p i vs = search (rules, stmt.the_lemmas)

tree_of_writes_variable : (x : ℕ) (es : Vec Expr) → stmt_tree (IrvWrite x es) ≡ writes_variable x (exprs es.items)
tree_of_writes_variable x es = search (rules, stmt.the_lemmas)

tree_of_reads_variable : (x : ℕ) (vs : Vec ℕ) → stmt_tree (IrvRead x vs) ≡ reads_variable x vs.items
tree_of_reads_variable x vs = search (rules, stmt.the_lemmas)

tree_of_writes_variable_late : (x : ℕ) (es : Vec Expr) → stmt_tree (IrvIWrite x es) ≡ writes_variable_late x (exprs es.items)
tree_of_writes_variable_late x es = search (rules, stmt.the_lemmas)

tree_of_reads_variable_early : (x : ℕ) (vs : Vec ℕ) → stmt_tree (IrvIRead x vs) ≡ reads_variable_early x vs.items
tree_of_reads_variable_early x vs = search (rules, stmt.the_lemmas)

tree_of_calls : (p : ℕ) (i : ℕ) (es : Vec Expr) (vs : Vec ℕ) (s : ℕ) → stmt_tree (Call p i es vs s) ≡ calls p i (exprs es.items) vs.items s
tree_of_calls p i es vs s = search (rules, stmt.the_lemmas)

tree_of_calls_and_goes_on : (p : ℕ) (i : ℕ) (es : Vec Expr) (s : ℕ) → stmt_tree (ACall p i es s) ≡ calls_and_goes_on p i (exprs es.items) s
tree_of_calls_and_goes_on p i es s = search (rules, stmt.the_lemmas)

tree_of_takes_result : (p : ℕ) (i : ℕ) (vs : Vec ℕ) (s : ℕ) → stmt_tree (TakeResult p i vs s) ≡ takes_result p i vs.items s
tree_of_takes_result p i vs s = search (rules, stmt.the_lemmas)

tree_of_sets : (v : ℕ) (e : Expr) → stmt_tree (Set v e) ≡ sets v (expr_tree e)
tree_of_sets v e = search (rules, stmt.the_lemmas)

tree_of_chooses : (e : Expr) (a b : Vec Stmt) → stmt_tree (If e a b) ≡ chooses (expr_tree e) (body_tree a.items) (body_tree b.items)
tree_of_chooses e a b = search (rules, stmt.the_lemmas)

tree_of_repeats : (n : ℕ) (b : Vec Stmt) → stmt_tree (Repeat n b) ≡ repeats n (body_tree b.items)
tree_of_repeats n b = search (rules, stmt.the_lemmas)

tree_of_in_area : (a : ℕ) (b : Vec Stmt) → stmt_tree (Area a b) ≡ in_area a (body_tree b.items)
tree_of_in_area a b = search (rules, stmt.the_lemmas)

-- a body that its statements are
record Body (b : BodyTree) : Type 0 where
  stmts : List Stmt
  are : body_tree stmts ≡ b
  long : length stmts ≡ body_length b

body_vec : (b : BodyTree) → body_length b < 2 ^ 63 → Body b → (v : Vec Stmt) × (body_tree v.items ≡ b)
body_vec b few x = let same : length x.stmts ≡ body_length b = x.long in
    let (v, is) = vec_of x.stmts (omega (arith, same, few)) in (v, ap body_tree is ∙ x.are)

one_more : (t : StmtTree) (b : BodyTree) → (s : Stmt) × (stmt_tree s ≡ t) → Body b → Body (next t b)
one_more t b (s, is) x = record { stmts = s ∷ x.stmts; are = λ i. next (is i) (x.are i); long = ap suc x.long }

chosen : (e : ExprTree) (a b : BodyTree) → (x : Expr) × (expr_tree x ≡ e) → (v : Vec Stmt) × (body_tree v.items ≡ a) → (w : Vec Stmt) × (body_tree w.items ≡ b) → (s : Stmt) × (stmt_tree s ≡ chooses e a b)
chosen e a b (x, is) (v, first) (w, second) = (If x v w, tree_of_chooses x v w ∙ (λ i. chooses (is i) (first i) (second i)))

repeated : (n : ℕ) (b : BodyTree) → (v : Vec Stmt) × (body_tree v.items ≡ b) → (s : Stmt) × (stmt_tree s ≡ repeats n b)
repeated n b (v, is) = (Repeat n v, tree_of_repeats n v ∙ ap (repeats n) is)

entered : (a : ℕ) (b : BodyTree) → (v : Vec Stmt) × (body_tree v.items ≡ b) → (s : Stmt) × (stmt_tree s ≡ in_area a b)
entered a b (v, is) = (Area a v, tree_of_in_area a v ∙ ap (in_area a) is)

set : (v : ℕ) (e : ExprTree) → (x : Expr) × (expr_tree x ≡ e) → (s : Stmt) × (stmt_tree s ≡ sets v e)
set v e (x, is) = (Set v x, tree_of_sets v x ∙ ap (sets v) is)

mutual
  stmt_for : (t : StmtTree) → IsShort t → (s : Stmt) × (stmt_tree s ≡ t)
  stmt_for (sets v e) few = set v e (expr_for e)
  stmt_for (chooses e a b) few = chosen e a b (expr_for e) (body_vec a few.0.0 (body_for a few.0.1)) (body_vec b few.1.0 (body_for b few.1.1))
  stmt_for (repeats n b) few = repeated n b (body_vec b few.0 (body_for b few.1))
  stmt_for (in_area a b) few = entered a b (body_vec b few.0 (body_for b few.1))
  stmt_for (invalidates p i s) few = (Invalidate p i s, tree_of_invalidates p i s)
  stmt_for (asks_updated p i v) few = (IsUpdated p i v, tree_of_asks_updated p i v)
  stmt_for (switches p m s) few = (Switch p m s, tree_of_switches p m s)
  stmt_for (asks_mode p v) few = (Mode p v, tree_of_asks_mode p v)
  stmt_for (writes p i es s) few = (Write p i ((exprs_for es few).0) s, tree_of_writes p i ((exprs_for es few).0) s ∙ (λ at. writes p i ((exprs_for es few).1 at) s))
  stmt_for (reads p i vs s) few = (Read p i ((vec_of vs few).0) s, tree_of_reads p i ((vec_of vs few).0) s ∙ (λ at. reads p i ((vec_of vs few).1 at) s))
  stmt_for (sends p i es s) few = (Send p i ((exprs_for es few).0) s, tree_of_sends p i ((exprs_for es few).0) s ∙ (λ at. sends p i ((exprs_for es few).1 at) s))
  stmt_for (receives p i vs s) few = (Receive p i ((vec_of vs few).0) s, tree_of_receives p i ((vec_of vs few).0) s ∙ (λ at. receives p i ((vec_of vs few).1 at) s))
  stmt_for (writes_late p i es) few = (IWrite p i ((exprs_for es few).0), tree_of_writes_late p i ((exprs_for es few).0) ∙ (λ at. writes_late p i ((exprs_for es few).1 at)))
  stmt_for (reads_early p i vs) few = (IRead p i ((vec_of vs few).0), tree_of_reads_early p i ((vec_of vs few).0) ∙ (λ at. reads_early p i ((vec_of vs few).1 at)))
  stmt_for (writes_variable x es) few = (IrvWrite x ((exprs_for es few).0), tree_of_writes_variable x ((exprs_for es few).0) ∙ (λ at. writes_variable x ((exprs_for es few).1 at)))
  stmt_for (reads_variable x vs) few = (IrvRead x ((vec_of vs few).0), tree_of_reads_variable x ((vec_of vs few).0) ∙ (λ at. reads_variable x ((vec_of vs few).1 at)))
  stmt_for (writes_variable_late x es) few = (IrvIWrite x ((exprs_for es few).0), tree_of_writes_variable_late x ((exprs_for es few).0) ∙ (λ at. writes_variable_late x ((exprs_for es few).1 at)))
  stmt_for (reads_variable_early x vs) few = (IrvIRead x ((vec_of vs few).0), tree_of_reads_variable_early x ((vec_of vs few).0) ∙ (λ at. reads_variable_early x ((vec_of vs few).1 at)))
  stmt_for (calls p i es vs s) few = (Call p i ((exprs_for es few.0).0) ((vec_of vs few.1).0) s, tree_of_calls p i ((exprs_for es few.0).0) ((vec_of vs few.1).0) s ∙ (λ at. calls p i ((exprs_for es few.0).1 at) ((vec_of vs few.1).1 at) s))
  stmt_for (calls_and_goes_on p i es s) few = (ACall p i ((exprs_for es few).0) s, tree_of_calls_and_goes_on p i ((exprs_for es few).0) s ∙ (λ at. calls_and_goes_on p i ((exprs_for es few).1 at) s))
  stmt_for (takes_result p i vs s) few = (TakeResult p i ((vec_of vs few).0) s, tree_of_takes_result p i ((vec_of vs few).0) s ∙ (λ at. takes_result p i ((vec_of vs few).1 at) s))

  body_for : (b : BodyTree) → AreShort b → Body b
  body_for done few = record { stmts = []; are = refl; long = refl }
  body_for (next s b) few = one_more s b (stmt_for s few.0) (body_for b few.1)

program_with : (t : ProgramTree) → (v : Vec Stmt) × (body_tree v.items ≡ t.body) → (p : Program) × (program_tree p ≡ t)
program_with t (v, is) = (record { vars = t.vars; body = v }, λ i. record { vars = t.vars; body = is i })

pub program_for : (t : ProgramTree) → IsShortBody t.body → (p : Program) × (program_tree p ≡ t)
program_for t few = program_with t (body_vec t.body few.0 (body_for t.body few.1))
