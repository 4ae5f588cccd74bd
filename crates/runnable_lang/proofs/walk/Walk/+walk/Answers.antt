use Rattle.std.proofs.Common.{◌≡◌, ◌∷◌, sym, ap, ◌∙◌, subst, Some, None}
use Rattle.runnable_lang.specs.Trees.{stmt_tree, body_tree, expr_tree, chooses, repeats, in_area}
use Rattle.runnable_lang.specs.Places.{first, failing_in, failing_among}
use Rattle.runnable_lang.specs.Tests.{test_of, items_of, under_path, Finds}
use Rattle.runnable_lang.proofs.Firsts.{repeat_is, area_is, first_is, first_is_some, second_is, found_turn, finds_at_err}
use Rattle.runnable_lang.proofs.Views.{tree_of_if, tree_of_repeat, tree_of_area}
use Rattle.runnable_lang.proofs.walk.Walk.+walk.Goals as goal

pub in_stmt-returns-in-Repeat : goal.in_stmt-returns-in-Repeat
in_stmt-returns-in-Repeat t c =
    let fails = test_of c.args.self.now.rule c.args.self.now.table.now.accesses.now in
    let s = stmt_tree c.args.stmt.now in
    let body = body_tree c.in-Repeat.body.items in
    let is : s ≡ repeats c.in-Repeat.times body = ap stmt_tree c.in-Repeat.is ∙ tree_of_repeat c.in-Repeat.times c.in-Repeat.body in
    let deref = c.deref-in-Repeat.ensures.value in
    rw (repeat_is fails c.args.around s c.in-Repeat.times body is (sym c.if-fails.ensures)) (rw deref at c.in_part-in-Repeat.ensures)

pub in_stmt-returns-in-Area : goal.in_stmt-returns-in-Area
in_stmt-returns-in-Area t c =
    let fails = test_of c.args.self.now.rule c.args.self.now.table.now.accesses.now in
    let s = stmt_tree c.args.stmt.now in
    let body = body_tree c.in-Area.body.items in
    let is : s ≡ in_area c.in-Area.area body = ap stmt_tree c.in-Area.is ∙ tree_of_area c.in-Area.area c.in-Area.body in
    let deref = c.deref-in-Area.ensures.value in
    let inside = c.inside.ensures in
    rw (area_is fails c.args.around s c.in-Area.area body is (sym c.if-fails.ensures)) (rw (deref, inside) at c.in_part-in-Area.ensures)

pub in_stmt-returns-in-None : goal.in_stmt-returns-in-None
in_stmt-returns-in-None t c =
    let fails = test_of c.args.self.now.rule c.args.self.now.table.now.accesses.now in
    let s = stmt_tree c.args.stmt.now in
    let one = body_tree c.in-If.yes.items in
    let two = body_tree c.in-If.no.items in
    let is : s ≡ chooses (expr_tree c.in-If.cond) one two = ap stmt_tree c.in-If.is ∙ tree_of_if c.in-If.cond c.in-If.yes c.in-If.no in
    let found = rw c.deref.ensures.value at c.in_ok-in_part-in-If.ensures in
    let none : under_path 2 (first (failing_among fails c.args.around 0 one)) ≡ None = sym found ∙ ap items_of c.in-None.is in
    rw (second_is fails c.args.around s (expr_tree c.in-If.cond) one two is (sym c.if-fails.ensures) none) (rw c.deref-in-None.ensures.value at c.in_part-in-None.ensures)

pub in_stmt-returns-in_err-in_part-in-If : goal.in_stmt-returns-in_err-in_part-in-If
in_stmt-returns-in_err-in_part-in-If t c =
    let fails = test_of c.args.self.now.rule c.args.self.now.table.now.accesses.now in
    let s = stmt_tree c.args.stmt.now in
    let one = body_tree c.in-If.yes.items in
    let two = body_tree c.in-If.no.items in
    let is : s ≡ chooses (expr_tree c.in-If.cond) one two = ap stmt_tree c.in-If.is ∙ tree_of_if c.in-If.cond c.in-If.yes c.in-If.no in
    let some = rw c.deref.ensures.value at c.in_err-in_part-in-If.ensures in
    finds_at_err _ _ c.from_residual.ensures.0 (first_is_some fails c.args.around s (expr_tree c.in-If.cond) one two is (sym c.if-fails.ensures) some)

pub in_stmt-returns-in-Some : goal.in_stmt-returns-in-Some
in_stmt-returns-in-Some t c =
    let fails = test_of c.args.self.now.rule c.args.self.now.table.now.accesses.now in
    let s = stmt_tree c.args.stmt.now in
    let one = body_tree c.in-If.yes.items in
    let two = body_tree c.in-If.no.items in
    let is : s ≡ chooses (expr_tree c.in-If.cond) one two = ap stmt_tree c.in-If.is ∙ tree_of_if c.in-If.cond c.in-If.yes c.in-If.no in
    let found = rw c.deref.ensures.value at c.in_ok-in_part-in-If.ensures in
    let some : under_path 2 (first (failing_among fails c.args.around 0 one)) ≡ Some c.in-Some.path.items = sym found ∙ ap items_of c.in-Some.is in
    sym (first_is fails c.args.around s (expr_tree c.in-If.cond) one two c.in-Some.path.items is (sym c.if-fails.ensures) some)

pub in_body-returns-in-Some : goal.in_body-returns-in-Some
in_body-returns-in-Some t c =
    let fails = test_of c.args.self.now.rule c.args.self.now.table.now.accesses.now in
    let item = c.index-body-position.result in
    let i = c.loop-position.position in
    let found : Some c.in-Some.path.items ≡ first (failing_in fails c.args.around (stmt_tree item)) = sym (ap items_of c.in-Some.is) ∙ c.in_ok-path.ensures in
    let at_item = found ∙ ap (λ e. first (failing_in fails c.args.around (stmt_tree e))) c.index-body-position.is in
    let whole : Some (i ∷ c.in-Some.path.items) ≡ first (failing_among fails c.args.around 0 (body_tree c.args.body.now)) = sym (found_turn fails c.args.around c.args.body.now i item c.in-Some.path.items c.loop-position-test.true at_item) ∙ c.loop-position.invariant in
    subst (λ p. Finds p c.under.result) whole c.under.ensures
