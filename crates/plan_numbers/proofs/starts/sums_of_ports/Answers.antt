use Rattle.std.proofs.Common.{◌+◌, ◌++◌, drop, sym, ap, ◌∙◌}
use Rattle.plan_numbers.specs.Starts.{capped, capped_sums, elements_at}
use Rattle.plan_numbers.proofs.Starting.{capped_more, capped_all}
use Rattle.plan_numbers.proofs.starts.sums_of_ports.Goals as goal

pub loop-port-preserved : goal.loop-port-preserved
loop-port-preserved c =
    let size = elements_at c.args.types.now in
    let next = c.capped_sum-sum.result in
    capped_more size c.args.ports.now (capped_sums size 0 c.args.ports.now) c.loop-port.list.items c.loop-port.sum next c.loop-port.port-index c.port-item.result c.loop-port-test.true c.port-item.is
    (c.capped_sum-sum.ensures ∙ ap (λ n. capped (c.loop-port.sum + n)) c.elements_at.ensures) c.loop-port.invariant
    ∙ ap (λ l. l ++ capped_sums size next (drop (c.loop-port.port-index + 1) c.args.ports.now)) (sym c.in_ok-push.ensures.items)

pub returns : goal.returns
returns c =
    let size = elements_at c.args.types.now in
    c.of.ensures ∙ c.in_ok-push-2.ensures.items
    ∙ sym (capped_all size c.args.ports.now (capped_sums size 0 c.args.ports.now) c.loop-port.list.items c.loop-port.sum c.loop-port.port-index c.loop-port-test.false c.loop-port.invariant)
