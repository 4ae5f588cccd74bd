use Rattle.std.proofs.Common.{◌++◌, length, sym, ap, ◌∙◌, arith}
use Rattle.std.proofs.lemmas.List.{append-nil}
use Rattle.std.proofs.lemmas.Slice.Zip.{Zip-more, either_empty_from_Zip}
use Rattle.task_machine.proofs.Returning.{results_more, results_end}
use Rattle.task_machine.proofs.returned.Returned.value.Goals as goal

pub loop-argument-preserved : goal.loop-argument-preserved
loop-argument-preserved c =
    let more = Zip-more c.loop-argument.argument-iterator c.next.new.self c.next.result (c.in-Some.argument, c.in-Some.word) c.in-Some.is c.next.ensures.steps in
    let long = ap length more.0 in
    let pushed = c.push_result.ensures.len in
    record {
      so_far = results_more _ _ _ _ _ _ _ _ _ c.push_result.ensures.items more.0 more.1 c.loop-argument.invariant.so_far;
      counted = omega (arith, c.loop-argument.invariant.counted);
    }

pub returns : goal.returns
returns c =
    let words = c.loop-argument.words.items in
    let none = results_end c.loop-argument.argument-iterator.a.rest.now c.loop-argument.argument-iterator.b.rest.now
    (either_empty_from_Zip c.loop-argument.argument-iterator c.next.new.self c.next.result c.in-None.is c.next.ensures.steps) in
    c.in-Some-new.ensures.words ∙ c.as_slice.ensures.value ∙ sym (append-nil words) ∙ ap (λ ws. words ++ ws) (sym none) ∙ c.loop-argument.invariant.so_far
