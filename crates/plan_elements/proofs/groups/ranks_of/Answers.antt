use Rattle.std.proofs.Common.{get_or, nat_eq}
use Rattle.std.proofs.lemmas.List.{get_or_default}
use Rattle.plan_elements.proofs.Ranking.{count_all, count_more, few_more, ranks_all, ranks_more}
use Rattle.plan_elements.proofs.groups.ranks_of.Goals as goal

pub loop-number-preserved : goal.loop-number-preserved
loop-number-preserved c =
    let leaders = c.args.leaders.now in
    let i = c.loop-number.number in
    let l = get_or leaders i 0 in
    let is = get_or_default leaders i 0 l c.loop-number-test.true in
    record {
      few = few_more (nat_eq l i) c.loop-number.count c.in_ok-count.count i c.in_ok-count.ensures.count c.loop-number.invariant.few;
      ranked = ranks_more leaders i l c.loop-number-test.true is _ c.loop-number.numbers.items c.push_rank.new.list.items c.loop-number.count c.in_ok-count.count
          c.in_ok-count.ensures.rank c.in_ok-count.ensures.count c.loop-number.invariant.ranked;
      counted = count_more leaders i l c.loop-number-test.true is _ c.loop-number.count c.in_ok-count.count c.in_ok-count.ensures.count c.loop-number.invariant.counted;
    }

pub returns-clause-ranks : goal.returns-clause-ranks
returns-clause-ranks c = ranks_all c.args.leaders.now _ c.loop-number.numbers.items c.loop-number.count c.loop-number.number c.loop-number-test.false c.loop-number.invariant.ranked

pub returns-clause-count : goal.returns-clause-count
returns-clause-count c = count_all c.args.leaders.now _ c.loop-number.count c.loop-number.number c.loop-number-test.false c.loop-number.invariant.counted
