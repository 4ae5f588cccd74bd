use Rattle.std.proofs.Common.{◌+◌, ◌++◌, drop, sym, ap, ◌∙◌}
use Rattle.plan_definitions.specs.Common.{from, sites_at}
use Rattle.plan_definitions.proofs.Turns.{from_more, from_none, nothing}
use Rattle.plan_numbers.proofs.all_sites.push_ports.Goals as goal

pub loop-number-preserved : goal.loop-number-preserved
loop-number-preserved c =
    let part = sites_at c.args.types.now c.args.owner in
    from_more part c.args.ports.now _ c.loop-number.list.items c.loop-number.number c.index-ports-number.result c.loop-number-test.true c.index-ports-number.is c.loop-number.invariant
    ∙ ap (λ l. l ++ from (c.loop-number.number + 1) part (drop (c.loop-number.number + 1) c.args.ports.now)) (sym c.in_ok-push_at.ensures)

pub returns : goal.returns
returns c =
    let part = sites_at c.args.types.now c.args.owner in
    nothing c.loop-number.list.items _ (from_none part c.args.ports.now c.loop-number.number c.loop-number.number c.loop-number-test.false) ∙ sym c.loop-number.invariant
