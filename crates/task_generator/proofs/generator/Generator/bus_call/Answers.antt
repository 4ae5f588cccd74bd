use Rattle.std.proofs.Common.{◌≡◌, ap, ◌∙◌}
use Rattle.runnable_lang.specs.Trees.{exprs, stmt_tree, writes, reads, invalidates, asks_updated, receives}
use Rattle.task_generator.proofs.Views.{tree_of_write, tree_of_read, tree_of_invalidate, tree_of_update, tree_of_receive}
use Rattle.task_generator.proofs.generator.Generator.bus_call.Goals as goal

pub returns-in-Write : goal.returns-in-Write
returns-in-Write c =
    let is : stmt_tree c.args.stmt.now ≡ writes c.in-Write.port c.in-Write.item (exprs c.in-Write.values.items) c.in-Write.status =
    ap stmt_tree c.in-Write.is ∙ tree_of_write c.in-Write.port c.in-Write.item c.in-Write.values c.in-Write.status in
    let deref = c.deref.ensures.value in
    simp is (rw deref at c.write.ensures)

pub returns-in-Read : goal.returns-in-Read
returns-in-Read c =
    let is : stmt_tree c.args.stmt.now ≡ reads c.in-Read.port c.in-Read.item c.in-Read.vars.items c.in-Read.status =
    ap stmt_tree c.in-Read.is ∙ tree_of_read c.in-Read.port c.in-Read.item c.in-Read.vars c.in-Read.status in
    let deref = c.deref-in-Read.ensures.value in
    let number = c.number-access.ensures in
    simp is (rw (deref, number) at c.take_words.ensures)

pub returns-in-Invalidate : goal.returns-in-Invalidate
returns-in-Invalidate c =
    let is : stmt_tree c.args.stmt.now ≡ invalidates c.in-Invalidate.port c.in-Invalidate.item c.in-Invalidate.status =
    ap stmt_tree c.in-Invalidate.is ∙ tree_of_invalidate c.in-Invalidate.port c.in-Invalidate.item c.in-Invalidate.status in
    let number = c.number-access-in-Invalidate.ensures in
    simp is (rw number at c.put_call.ensures)

pub returns-in-IsUpdated : goal.returns-in-IsUpdated
returns-in-IsUpdated c =
    let is : stmt_tree c.args.stmt.now ≡ asks_updated c.in-IsUpdated.port c.in-IsUpdated.item c.in-IsUpdated.var =
    ap stmt_tree c.in-IsUpdated.is ∙ tree_of_update c.in-IsUpdated.port c.in-IsUpdated.item c.in-IsUpdated.var in
    let number = c.number-access-in-IsUpdated.ensures in
    simp is (rw number at c.put_call-in-IsUpdated.ensures)

pub returns-in-Receive : goal.returns-in-Receive
returns-in-Receive c =
    let is : stmt_tree c.args.stmt.now ≡ receives c.in-Receive.port c.in-Receive.item c.in-Receive.vars.items c.in-Receive.status =
    ap stmt_tree c.in-Receive.is ∙ tree_of_receive c.in-Receive.port c.in-Receive.item c.in-Receive.vars c.in-Receive.status in
    let deref = c.deref-in-Receive.ensures.value in
    let number = c.number-access-in-Receive.ensures in
    simp is (rw (deref, number) at c.take_words-in-Receive.ensures)
