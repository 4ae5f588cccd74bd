use Rattle.std.proofs.Common.{[], ◌∷◌, ◌++◌, ap, ◌∙◌}
use Rattle.plan_elements.proofs.Leading.{own_more}
use Rattle.plan_elements.proofs.leaders.numbers_below.Goals as goal

pub loop-number-preserved : goal.loop-number-preserved
loop-number-preserved c = own_more _ c.loop-number.list.items c.push.new.self.items c.loop-number.number c.args.count c.loop-number-test.true
    (c.in_ok-push.ensures.items ∙ ap (λ k. c.loop-number.list.items ++ k ∷ []) c.position.ensures) c.loop-number.invariant
