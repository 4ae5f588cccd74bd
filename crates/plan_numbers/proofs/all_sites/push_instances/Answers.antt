use Rattle.std.proofs.Common.{◌+◌, ◌++◌, drop, sym, ap, ◌∙◌}
use Rattle.plan_definitions.specs.Common.{from, sites_of_instance}
use Rattle.plan_definitions.proofs.Turns.{from_more, from_none, nothing}
use Rattle.plan_numbers.proofs.all_sites.push_instances.Goals as goal

pub loop-number-preserved : goal.loop-number-preserved
loop-number-preserved c =
    let part = sites_of_instance c.args.d.now in
    from_more part c.args.instances.now _ c.loop-number.list.items c.loop-number.number c.index-instances-number.result c.loop-number-test.true c.index-instances-number.is c.loop-number.invariant
    ∙ ap (λ l. l ++ from (c.loop-number.number + 1) part (drop (c.loop-number.number + 1) c.args.instances.now)) (sym c.in_ok-push_instance.ensures)

pub returns : goal.returns
returns c =
    let part = sites_of_instance c.args.d.now in
    nothing c.loop-number.list.items _ (from_none part c.args.instances.now c.loop-number.number c.loop-number.number c.loop-number-test.false) ∙ sym c.loop-number.invariant
