-- The first path that a walk finds, step by step.
use Rattle.std.proofs.Common.{◌≡◌, ◌+◌, ◌<◌, ℕ, Bool, true, false, refl, sym, ap, ◌∙◌, List, [], ◌∷◌, ◌++◌, length, drop, get_or, Option, Some, None, is_some, Result, Ok, Err, Vec, Global}
use Rattle.std.proofs.lemmas.List.{drop_more}
use Rattle.std.specs.Option.{option_map}
use Rattle.std.specs.Result.{IsErr}
use Rattle.runnable_lang.specs.declared.stmt.Stmt.{Stmt}
use Rattle.runnable_lang.specs.Trees.{ExprTree, StmtTree, chooses, repeats, in_area, BodyTree, stmt_tree, body_tree}
use Rattle.runnable_lang.specs.Places.{Test, within, here, under, failing_in, failing_among, first}
use Rattle.runnable_lang.specs.Refusals.{of_rule}
use Rattle.runnable_lang.specs.Tests.{under_path, Finds}

-- further out
first_under : (i : ℕ) (paths : List (List ℕ)) → first (under i paths) ≡ under_path i (first paths)
first_under i [] = refl
first_under i (p ∷ ps) = refl

-- none in the first part
first_after : (i : ℕ) (paths more : List (List ℕ)) → under_path i (first paths) ≡ None → first (under i paths ++ more) ≡ first more
first_after i [] more none = refl
first_after i (p ∷ ps) more none = cc

-- one in the first part
first_before : (i : ℕ) (paths more : List (List ℕ)) (path : List ℕ) → under_path i (first paths) ≡ Some path → first (under i paths ++ more) ≡ Some path
first_before i [] more path some = cc
first_before i (p ∷ ps) more path some = some

-- a statement that does not fail itself
passed : (fails : Bool) (paths : List (List ℕ)) → fails ≡ false → here fails paths ≡ paths
passed true paths h = cc
passed false paths h = refl

-- the first path of all where there is one in the first part
first_held : (i : ℕ) (paths more : List (List ℕ)) → is_some (under_path i (first paths)) ≡ true → is_some (first (under i paths ++ more)) ≡ true
first_held i [] more some = cc
first_held i (p ∷ ps) more some = refl

-- a `repeat`
pub repeat_is : (fails : Test) (around : Option ℕ) (s : StmtTree) (n : ℕ) (body : BodyTree) → s ≡ repeats n body → fails around s ≡ false → first (failing_in fails around s) ≡ under_path 2 (first (failing_among fails around 0 body))
repeat_is fails around s n body is ok =
    let paths = failing_among fails around 0 body in
    let ok' = rw is at ok in
    rw is (rw (passed (fails around (repeats n body)) (under 2 paths) ok') (first_under 2 paths))

-- an area
pub area_is : (fails : Test) (around : Option ℕ) (s : StmtTree) (x : ℕ) (body : BodyTree) → s ≡ in_area x body → fails around s ≡ false → first (failing_in fails around s) ≡ under_path 2 (first (failing_among fails (within around x) 0 body))
area_is fails around s x body is ok =
    let paths = failing_among fails (within around x) 0 body in
    let ok' = rw is at ok in
    rw is (rw (passed (fails around (in_area x body)) (under 2 paths) ok') (first_under 2 paths))

-- an `if` of which the first body has none
pub second_is : (fails : Test) (around : Option ℕ) (s : StmtTree) (e : ExprTree) (one two : BodyTree) → s ≡ chooses e one two → fails around s ≡ false → under_path 2 (first (failing_among fails around 0 one)) ≡ None → first (failing_in fails around s) ≡ under_path 3 (first (failing_among fails around 0 two))
second_is fails around s e one two is ok none =
    let os = failing_among fails around 0 one in
    let ts = failing_among fails around 0 two in
    let ok' = rw is at ok in
    rw is (rw (passed (fails around (chooses e one two)) (under 2 os ++ under 3 ts) ok')
    (first_after 2 os (under 3 ts) none ∙ first_under 3 ts))

-- an `if` of which the first body has one
pub first_is : (fails : Test) (around : Option ℕ) (s : StmtTree) (e : ExprTree) (one two : BodyTree) (path : List ℕ) → s ≡ chooses e one two → fails around s ≡ false → under_path 2 (first (failing_among fails around 0 one)) ≡ Some path → first (failing_in fails around s) ≡ Some path
first_is fails around s e one two path is ok some =
    let os = failing_among fails around 0 one in
    let ts = failing_among fails around 0 two in
    let ok' = rw is at ok in
    rw is (rw (passed (fails around (chooses e one two)) (under 2 os ++ under 3 ts) ok')
    (first_before 2 os (under 3 ts) path some))

-- the same where the path is not known
pub first_is_some : (fails : Test) (around : Option ℕ) (s : StmtTree) (e : ExprTree) (one two : BodyTree) → s ≡ chooses e one two → fails around s ≡ false → is_some (under_path 2 (first (failing_among fails around 0 one))) ≡ true → is_some (first (failing_in fails around s)) ≡ true
first_is_some fails around s e one two is ok some =
    let os = failing_among fails around 0 one in
    let ts = failing_among fails around 0 two in
    let ok' = rw is at ok in
    rw is (rw (passed (fails around (chooses e one two)) (under 2 os ++ under 3 ts) ok')
    (first_held 2 os (under 3 ts) some))

-- further out there is one as well
pub under_is_some : (i : ℕ) (path : Option (List ℕ)) → is_some path ≡ true → is_some (under_path i path) ≡ true
under_is_some i None some = some
under_is_some i (Some p) some = refl

-- a body, of which one more statement has none
pub next_turn : (fails : Test) (around : Option ℕ) (list : List Stmt) (i : ℕ) (d : Stmt) → i < length list → None ≡ first (failing_in fails around (stmt_tree (get_or list i d))) → first (failing_among fails around (i + 1) (body_tree (drop (i + 1) list))) ≡ first (failing_among fails around i (body_tree (drop i list)))
next_turn fails around list i d h none =
    rw (drop_more list i d h) (sym (first_after i (failing_in fails around (stmt_tree (get_or list i d))) _ (ap (under_path i) (sym none))))

-- a body, of which the next statement has one
pub found_turn : (fails : Test) (around : Option ℕ) (list : List Stmt) (i : ℕ) (d : Stmt) (path : List ℕ) → i < length list → Some path ≡ first (failing_in fails around (stmt_tree (get_or list i d))) → first (failing_among fails around i (body_tree (drop i list))) ≡ Some (i ∷ path)
found_turn fails around list i d path h some =
    rw (drop_more list i d h) (first_before i (failing_in fails around (stmt_tree (get_or list i d))) _ (i ∷ path) (ap (under_path i) (sym some)))

-- the same where the path is not known
pub held_turn : (fails : Test) (around : Option ℕ) (list : List Stmt) (i : ℕ) (d : Stmt) → i < length list → is_some (first (failing_in fails around (stmt_tree (get_or list i d)))) ≡ true → is_some (first (failing_among fails around i (body_tree (drop i list)))) ≡ true
held_turn fails around list i d h some =
    rw (drop_more list i d h) (first_held i (failing_in fails around (stmt_tree (get_or list i d))) _ (under_is_some i (first (failing_in fails around (stmt_tree (get_or list i d)))) some))

-- the first place of a rule
pub rule_turn : (rule : ℕ) (paths : List (List ℕ)) → first (of_rule rule paths) ≡ option_map (λ path. (rule, path)) (first paths)
rule_turn rule [] = refl
rule_turn rule (p ∷ ps) = refl

-- an answer without memory
pub finds_at_err : {E : Type 0} (wanted : Option (List ℕ)) (r : Result (Option (Vec ℕ Global)) E) → IsErr r → is_some wanted ≡ true → Finds wanted r
finds_at_err wanted (Ok found) err some = absurd (cc)
finds_at_err wanted (Err e) err some = some
