use Rattle.std.proofs.Common.{◌≡◌, ◌+◌, ◌++◌, drop, sym, ap, ◌∙◌, arith}
use Rattle.std.proofs.lemmas.List.{at_drop_more}
use Rattle.plan_numbers.specs.Starts.{elements_of_instance, sums, total}
use Rattle.plan_numbers.proofs.Starting.{sums_more, sums_all}
use Rattle.plan_numbers.proofs.starts.sums_of_instances.Goals as goal

pub loop-instance-preserved : goal.loop-instance-preserved
loop-instance-preserved c =
    let size = elements_of_instance c.args.d.now in
    let xs = c.args.instances.now in
    let next = c.loop-instance.sum + c.elements_of_instance-sum.result in
    let rest = drop (c.loop-instance.instance-index + 1) xs in
    let step : total size (drop c.loop-instance.instance-index xs) ≡ size c.instance-item.result + total size rest =
    at_drop_more (total size) xs c.loop-instance.instance-index c.instance-item.result c.loop-instance-test.true ∙ ap (λ x. size x + total size rest) (sym c.instance-item.is) in
    record {
      sums = sums_more size xs (sums size 0 xs) c.loop-instance.list.items c.loop-instance.sum next c.loop-instance.instance-index c.instance-item.result c.loop-instance-test.true c.instance-item.is
          (ap (λ n. c.loop-instance.sum + n) c.elements_of_instance-sum.ensures) c.loop-instance.invariant.sums
          ∙ ap (λ l. l ++ sums size next rest) (sym c.in_ok-push.ensures.items);
      rest = omega (arith, step, c.elements_of_instance-sum.ensures, c.loop-instance.invariant.rest);
    }

pub returns : goal.returns
returns c =
    let size = elements_of_instance c.args.d.now in
    c.of.ensures ∙ c.in_ok-push-2.ensures.items
    ∙ sym (sums_all size c.args.instances.now (sums size 0 c.args.instances.now) c.loop-instance.list.items c.loop-instance.sum c.loop-instance.instance-index c.loop-instance-test.false c.loop-instance.invariant.sums)
