use Rattle.std.proofs.Common.{◌≡◌, ◌+◌, ◌-◌, length, map, set, sym, ap, ◌∙◌}
use Rattle.bus_semantics.specs.Common.{length-map, expr_tree}
use Rattle.task_machine.specs.Instructions.{instruction_of, unless, skip}
use Rattle.task_generator.specs.Shared.{fixed}
use Rattle.task_generator.proofs.Patching.{choice_patched, first_is}
use Rattle.task_generator.proofs.code.end_choice.Goals as goal

pub returns : goal.returns
returns c base first second is at_test at_jump =
    let whole = map instruction_of c.args.code.now.items in
    let far : c.distance-first.result ≡ length first + 1 = c.distance-first.ensures ∙ first_is base first (fixed (skip 0)) c.args.test c.args.jump at_test at_jump in
    let long : c.len.result ≡ length whole = c.len.ensures ∙ c.args.code.now.ok.0 ∙ sym (length-map c.args.code.now.items instruction_of) in
    let counted : c.saturating_sub.result ≡ length whole - c.args.jump - 1 =
    c.saturating_sub.ensures ∙ ap (λ k. k - 1) (c.distance-second.ensures ∙ ap (λ k. k - c.args.jump) long) in
    c.replace-2.ensures.code
    ∙ ap (λ l. set l c.args.jump (fixed (skip c.saturating_sub.result))) (c.replace.ensures.code ∙ ap (λ e. set whole c.args.test (fixed (unless e c.distance-first.result))) c.in_ok-cond.ensures)
    ∙ choice_patched whole base first second (fixed (skip 0)) (fixed (skip 0)) (expr_tree c.args.cond.now) c.args.test c.args.jump c.distance-first.result c.saturating_sub.result is at_test at_jump far counted
