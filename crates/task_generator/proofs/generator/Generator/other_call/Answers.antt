use Rattle.std.proofs.Common.{◌≡◌, ap, ◌∙◌}
use Rattle.runnable_lang.specs.Trees.{exprs, stmt_tree, calls, calls_and_goes_on, takes_result}
use Rattle.task_generator.proofs.Views.{tree_of_call, tree_of_acall, tree_of_take_result}
use Rattle.task_generator.proofs.generator.Generator.other_call.Goals as goal

pub returns-in-Call : goal.returns-in-Call
returns-in-Call c =
    let is : stmt_tree c.args.stmt.now ≡ calls c.in-Call.port c.in-Call.item (exprs c.in-Call.values.items) c.in-Call.vars.items c.in-Call.status =
    ap stmt_tree c.in-Call.is ∙ tree_of_call c.in-Call.port c.in-Call.item c.in-Call.values c.in-Call.vars c.in-Call.status in
    let one = c.deref-in-Call.ensures.value in
    let two = c.deref-in-Call-2.ensures.value in
    simp is (rw (one, two) at c.ask_and_hear.ensures)

pub returns-in-ACall : goal.returns-in-ACall
returns-in-ACall c =
    let is : stmt_tree c.args.stmt.now ≡ calls_and_goes_on c.in-ACall.port c.in-ACall.item (exprs c.in-ACall.values.items) c.in-ACall.status =
    ap stmt_tree c.in-ACall.is ∙ tree_of_acall c.in-ACall.port c.in-ACall.item c.in-ACall.values c.in-ACall.status in
    let deref = c.deref-in-ACall.ensures.value in
    simp is (rw deref at c.ask.ensures)

pub returns-in-TakeResult : goal.returns-in-TakeResult
returns-in-TakeResult c =
    let is : stmt_tree c.args.stmt.now ≡ takes_result c.in-TakeResult.port c.in-TakeResult.item c.in-TakeResult.vars.items c.in-TakeResult.status =
    ap stmt_tree c.in-TakeResult.is ∙ tree_of_take_result c.in-TakeResult.port c.in-TakeResult.item c.in-TakeResult.vars c.in-TakeResult.status in
    let deref = c.deref-in-TakeResult.ensures.value in
    let number = c.number-access.ensures in
    simp is (rw (deref, number) at c.take_words.ensures)
