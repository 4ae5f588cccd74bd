use Rattle.std.proofs.Common.{◌≡◌, ◌≤◌, length, map, IfOk, sym, ap, subst, ◌∙◌, arith}
use Rattle.std.proofs.lemmas.List.{take_all}
use Rattle.runnable_lang.specs.Trees.{body_tree, in_order, stmt_tree}
use Rattle.serde_json.specs.View.{items_view, view}
use Rattle.serde_json.proofs.Views.{view-Array}
use Rattle.program_reading.specs.Statements.{block, context_of}
use Rattle.program_reading.proofs.Kept.{kept}
use Rattle.program_reading.proofs.Parts.{body_there, body_past, stmts_are}
use Rattle.program_reading.proofs.statement_reading.+statement.Goals as goal

pub read_part-returns-then-part-parts : goal.read_part-returns-then-part-parts
read_part-returns-then-part-parts t c =
    rw (body_there (context_of c.args.scope.now) c.args.parts.now c.args.part c.index-parts-part.result (omega arith) c.index-parts-part.is) c.read_body.ensures

pub read_part-returns-else-part-parts : goal.read_part-returns-else-part-parts
read_part-returns-else-part-parts t c =
    ap body_tree c.new.ensures.items ∙ sym (body_past (context_of c.args.scope.now) c.args.parts.now c.args.part (omega arith))

pub read_stmts-returns : goal.read_stmts-returns
read_stmts-returns t c =
    let items = c.args.items.now in
    let scope = context_of c.args.scope.now in
    let whole : length items ≤ c.loop-position.position = omega arith in
    ap in_order (c.loop-position.invariant ∙ ap (map (λ v. (block (view v)).stmt scope)) (take_all c.loop-position.position items whole) ∙ sym (stmts_are scope items))

pub read_stmt-returns-in_default : goal.read_stmt-returns-in_default
read_stmt-returns-in_default t c =
    let scope = context_of c.args.scope.now in
    let d = view c.args.value.now in
    let same = kept c.keyword_of.result c.text_of_part.result.now scope d (items_view c.in-Array.parts.items) (ap view c.in-Array.is ∙ view-Array c.in-Array.parts) c.text_of_part.ensures c.keyword_of.ensures c.in_default.not-If c.in_default.not-Repeat c.in_default.not-Area in
    subst (λ x. IfOk c.simple.result (λ s. stmt_tree s ≡ x)) same c.simple.ensures
