use Rattle.std.proofs.Common.{arith, ◌≡◌, ◌+◌, [], ◌∷◌, ◌++◌, if◌then◌else◌, length, map, sym, ap, ◌∙◌}
use Rattle.bus_semantics.specs.Common.{length-map, expr_tree, stmt_tree, body_tree, chooses, to_enter, to_leave}
use denote.Param.Weighed.{at_most}
use Rattle.runnable_lang.proofs.stmt.Stmt.TheLaws.{the_size}
use Rattle.task_machine.specs.declared.instr.Taken.TheVariants as taken
use Rattle.task_machine.specs.Targets.{number_at}
use Rattle.task_machine.specs.Instructions.{instruction_of, skip, call, change_of, passes_nothing}
use Rattle.task_generator.specs.Shared.{fixed, looping_shared, shared_of, shared_of_body}
use Rattle.task_generator.proofs.Few.{cheap_part, flat_part, inner_short, sides_short}
use Rattle.task_generator.proofs.Patching.{around_more, far_of, near_of}
use Rattle.runnable_lang.proofs.Views.{tree_of_if}
use Rattle.task_generator.proofs.generator.Generator.+generate.Goals as goal

pub area-returns : goal.area-returns
area-returns t c =
    let r = c.args.self.now.accesses.now.list.now in
    let old = map instruction_of c.args.code.now.items in
    let body = shared_of_body r c.args.depth (body_tree c.args.body.now) in
    around_more _ _ _ _ body _ _ c.in_ok-put_call.ensures c.in_ok-body.ensures c.in_ok-put_call-2.ensures
    ∙ ap (λ x. old ++ ((λ t. call (λ event m. to_enter (number_at t x)) (change_of taken.Nothing) passes_nothing) ∷ (body ++ (λ t. call (λ event m. to_leave (number_at t x)) (change_of taken.Nothing) passes_nothing) ∷ []))) c.number-access.ensures

pub body-statement-requires : goal.body-statement-requires
body-statement-requires t c =
    let body = c.args.body.now in
    let i = c.loop-stmt.stmt-index in
    let x = c.stmt-item.result in
    let less = at_most the_size body i x c.loop-stmt-test.true in (
      omega (arith, less, ap the_size c.stmt-item.is, c.decreases),
      (cheap_part body i x c.stmt-item.is c.loop-stmt-test.true c.requires.cost, flat_part body i c.args.depth x c.stmt-item.is c.loop-stmt-test.true c.requires.depth),
    )

pub repeat-end_loop-requires : goal.repeat-end_loop-requires
repeat-end_loop-requires t c =
    let r = c.args.self.now.accesses.now.list.now in
    let body = shared_of_body r (c.args.depth + 1) (body_tree c.args.body.now) in
    let does = sym c.loop_does_nothing.ensures ∙ c.if-loop_does_nothing.false in
    let far = far_of c.args.code.now.items c.hold.new.code.items c.body.new.code.items (fixed (skip 0)) body c.in_ok-begin.begin c.in_ok-begin.ensures.place c.in_ok-begin.ensures.code c.in_ok-body.ensures in
    omega (arith, far, inner_short r c.args.depth c.args.times (body_tree c.args.body.now) does c.requires.cost)

pub statement-end_choice-requires-clause-first : goal.statement-end_choice-requires-clause-first
statement-end_choice-requires-clause-first t c =
    let r = c.args.self.now.accesses.now.list.now in
    let first = shared_of_body r c.args.depth (body_tree c.in-If.yes.items) in
    let is = ap stmt_tree c.in-If.is ∙ tree_of_if c.in-If.cond c.in-If.yes c.in-If.no in
    let one = rw c.deref.ensures.value at c.in_ok-body-in-If.ensures in
    let near = near_of c.args.code.now.items c.hold.new.code.items c.body.new.code.items (fixed (skip 0)) first c.in_ok-test-in-If.test c.in_ok-jump-in-If.jump
    c.in_ok-test-in-If.ensures.place c.in_ok-jump-in-If.ensures.place c.in_ok-test-in-If.ensures.code one in
    omega (arith, near, sides_short r c.args.depth (stmt_tree c.args.stmt.now) (expr_tree c.in-If.cond) (body_tree c.in-If.yes.items) (body_tree c.in-If.no.items) is c.requires.cost)

pub statement-end_choice-requires-clause-second : goal.statement-end_choice-requires-clause-second
statement-end_choice-requires-clause-second t c =
    let r = c.args.self.now.accesses.now.list.now in
    let second = shared_of_body r c.args.depth (body_tree c.in-If.no.items) in
    let is = ap stmt_tree c.in-If.is ∙ tree_of_if c.in-If.cond c.in-If.yes c.in-If.no in
    let two = rw c.deref-in-If.ensures.value at c.in_ok-body-in-If-2.ensures in
    let far = far_of c.body.new.code.items c.hold-in-If.new.code.items c.body-in-If.new.code.items (fixed (skip 0)) second c.in_ok-jump-in-If.jump c.in_ok-jump-in-If.ensures.place c.in_ok-jump-in-If.ensures.code two in
    omega (arith, far, sides_short r c.args.depth (stmt_tree c.args.stmt.now) (expr_tree c.in-If.cond) (body_tree c.in-If.yes.items) (body_tree c.in-If.no.items) is c.requires.cost)

pub repeat-returns : goal.repeat-returns
repeat-returns t c =
    let r = c.args.self.now.accesses.now.list.now in
    let old = map instruction_of c.args.code.now.items in
    let body = shared_of_body r (c.args.depth + 1) (body_tree c.args.body.now) in
    let does = sym c.loop_does_nothing.ensures ∙ c.if-loop_does_nothing.false in
    c.in_ok-end_loop.ensures old body
    (c.in_ok-body.ensures ∙ ap (λ is. is ++ body) c.in_ok-begin.ensures.code)
    (c.in_ok-begin.ensures.place ∙ sym (length-map c.args.code.now.items instruction_of))
    ∙ ap (λ b. old ++ (if b then [] else looping_shared c.args.depth c.args.times body)) (sym does)

pub statement-returns-in_ok-end_choice-in-If : goal.statement-returns-in_ok-end_choice-in-If
statement-returns-in_ok-end_choice-in-If t c =
    let r = c.args.self.now.accesses.now.list.now in
    let old = map instruction_of c.args.code.now.items in
    let first = shared_of_body r c.args.depth (body_tree c.in-If.yes.items) in
    let second = shared_of_body r c.args.depth (body_tree c.in-If.no.items) in
    let is : stmt_tree c.args.stmt.now ≡ chooses (expr_tree c.in-If.cond) (body_tree c.in-If.yes.items) (body_tree c.in-If.no.items) =
    ap stmt_tree c.in-If.is ∙ tree_of_if c.in-If.cond c.in-If.yes c.in-If.no in
    let one = rw c.deref.ensures.value at c.in_ok-body-in-If.ensures in
    let front : map instruction_of c.body.new.code.items ≡ (old ++ fixed (skip 0) ∷ []) ++ first =
    one ∙ ap (λ l. l ++ first) c.in_ok-test-in-If.ensures.code in
    let two = rw c.deref-in-If.ensures.value at c.in_ok-body-in-If-2.ensures in
    let whole : map instruction_of c.body-in-If.new.code.items ≡ (((old ++ fixed (skip 0) ∷ []) ++ first) ++ fixed (skip 0) ∷ []) ++ second =
    two ∙ ap (λ l. l ++ second) (c.in_ok-jump-in-If.ensures.code ∙ ap (λ l. l ++ fixed (skip 0) ∷ []) front) in
    c.in_ok-end_choice-in-If.ensures old first second whole
    (c.in_ok-test-in-If.ensures.place ∙ sym (length-map c.args.code.now.items instruction_of))
    (c.in_ok-jump-in-If.ensures.place ∙ sym (length-map c.body.new.code.items instruction_of) ∙ ap length front)
    ∙ ap (λ st. old ++ shared_of r c.args.depth st) (sym is)
