use Rattle.std.proofs.Common.{◌≡◌, ◌≤◌, ◌++◌, length, map, ap, ◌∙◌, sym, arith}
use Rattle.bus_semantics.specs.Common.{length-map, arc_value, AccessSig, Program, Signature, body_tree}
use Rattle.task_machine.specs.Instructions.{instruction_of}
use Rattle.task_generator.specs.Common.{steps_of_body, loops_of_body, shared_of_body}
use Rattle.task_generator.proofs.Few.{body_loops, body_steps, body_code}
use Rattle.task_generator.proofs.shared.code_of.Goals as goal

pub body-requires-clause-depth : goal.body-requires-clause-depth
body-requires-clause-depth c =
    let body = c.deref-3.ensures.value ∙ ap (λ (q : Program). q.body.items) c.deref-2.ensures in
    rw body (omega (arith, body_loops (body_tree (arc_value c.args.runnable.now.program).body.items), c.requires.bounded.cost))

pub invariant_of-result : goal.invariant_of-result
invariant_of-result c =
    let tree = body_tree (arc_value c.args.runnable.now.program).body.items in
    let s = c.in_ok-accesses.accesses.list.now in
    let body = c.deref-3.ensures.value ∙ ap (λ (q : Program). q.body.items) c.deref-2.ensures in
    let is : map instruction_of c.of-2.result ≡ shared_of_body s 0 tree =
    ap (map instruction_of) c.of-2.ensures ∙ c.in_ok-body.ensures ∙ (λ i. map instruction_of (c.new-instrs.ensures.items i) ++ shared_of_body s 0 (body_tree (body i))) in
    let long = sym (length-map c.of-2.result instruction_of) ∙ ap length is in
    record { short = omega (arith, long, body_code s 0 tree, body_steps tree, c.requires.bounded.cost) }

pub returns : goal.returns
returns c =
    let tree = body_tree (arc_value c.args.runnable.now.program).body.items in
    let list : c.in_ok-accesses.accesses.list.now ≡ (arc_value c.args.runnable.now.signature).accesses = c.in_ok-accesses.ensures ∙ c.items.ensures ∙ ap (λ (s : Signature). s.accesses) c.deref.ensures in
    let body = c.deref-3.ensures.value ∙ ap (λ (q : Program). q.body.items) c.deref-2.ensures in
    let instrs : map instruction_of c.of-2.result ≡ shared_of_body (arc_value c.args.runnable.now.signature).accesses 0 tree =
    ap (map instruction_of) c.of-2.ensures ∙ c.in_ok-body.ensures ∙ (λ i. map instruction_of (c.new-instrs.ensures.items i) ++ shared_of_body (list i) 0 (body_tree (body i))) in
    let counted = c.deref-5.ensures.value ∙ ap (λ (q : Program). q.body.items) c.deref-4.ensures in
    let all = rw counted at c.steps_of_body.ensures in
    let nested = c.deref-7.ensures.value ∙ ap (λ (q : Program). q.body.items) c.deref-6.ensures in
    let deep = rw nested at c.loops_of_body.ensures in
    let steps : c.steps_of_body.result ≡ steps_of_body tree = omega (arith, all, body_steps tree, c.requires.bounded.cost) in
    let loops : c.loops_of_body.result ≡ loops_of_body tree = omega (arith, deep, body_loops tree, c.requires.bounded.cost) in
    λ i. record { instrs = instrs i; steps = steps i; loops = loops i }
