use Rattle.plan_elements.specs.Spreads.{number_at}
use Rattle.plan_elements.proofs.Mapped.{mapped_all, mapped_more}
use Rattle.plan_elements.proofs.groups.numbers_of.Goals as goal

pub loop-leader-preserved : goal.loop-leader-preserved
loop-leader-preserved c =
    mapped_more (number_at c.args.ranks.now) c.args.leaders.now c.loop-leader.leader-index 0 c.loop-leader.list.items c.push.new.self.items c.number_at.result
    c.loop-leader-test.true c.in_ok-push.ensures.items c.number_at.ensures c.loop-leader.invariant

pub returns : goal.returns
returns c = mapped_all (number_at c.args.ranks.now) c.args.leaders.now c.loop-leader.leader-index c.loop-leader.list.items c.loop-leader-test.false c.loop-leader.invariant
