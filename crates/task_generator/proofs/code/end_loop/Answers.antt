use Rattle.std.proofs.Common.{◌≡◌, ◌-◌, length, map, set, sym, ap, ◌∙◌}
use Rattle.std.proofs.lemmas.List.{length-map}
use Rattle.task_machine.specs.Instructions.{instruction_of, begin_loop, skip}
use Rattle.task_generator.specs.Shared.{fixed}
use Rattle.task_generator.proofs.Patching.{loop_patched}
use Rattle.task_generator.proofs.code.end_loop.Goals as goal

pub returns : goal.returns
returns c base body is at_begin =
    let whole = map instruction_of c.args.code.now.items in
    let long : c.len.result ≡ length whole = c.len.ensures ∙ c.args.code.now.ok.0 ∙ sym (length-map c.args.code.now.items instruction_of) in
    let past : c.distance-past.result ≡ length whole - c.args.begin = c.distance-past.ensures ∙ ap (λ k. k - c.args.begin) long in
    c.replace.ensures.code
    ∙ ap (λ l. set l c.args.begin (fixed (begin_loop c.args.counter c.args.times c.distance-past.result))) c.in_ok-put.ensures
    ∙ loop_patched whole base body (fixed (skip 0)) c.args.begin c.args.counter c.args.times c.distance-past.result c.saturating_sub.result is at_begin past c.saturating_sub.ensures
