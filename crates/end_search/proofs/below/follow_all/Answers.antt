use Rattle.std.proofs.Common.{arith}
use Rattle.end_search.proofs.Seeking.{stays_same, stays_on, searching_next, searching_done}
use Rattle.end_search.proofs.below.follow_all.Goals as goal

pub loop-position-init : goal.loop-position-init
loop-position-init c = record { stays = stays_same c.args.search.now; searching = (omega arith, λ i h. absurd (omega (arith, h))) }

pub loop-position-preserved : goal.loop-position-preserved
loop-position-preserved c = record {
  stays = stays_on c.args.search.now c.loop-position.search c.follow_port.new.search c.loop-position.invariant.stays c.in_ok-follow_port.ensures.stays;
  searching = searching_next c.args.tree.now.d.now c.loop-position.search c.follow_port.new.search c.loop-position.position c.seen_at-node.result
      (let within = c.loop-position-test.true in let long = c.len.ensures.len in omega (arith, within, long)) c.seen_at-node.ensures c.in_ok-follow_port.ensures.stays c.loop-position.invariant.searching c.in_ok-follow_port.ensures.followed;
}

pub returns-clause-done : goal.returns-clause-done
returns-clause-done c = searching_done c.args.tree.now.d.now c.loop-position.search c.loop-position.position (let past = c.loop-position-test.false in let long = c.len.ensures.len in omega (arith, past, long)) c.loop-position.invariant.searching
