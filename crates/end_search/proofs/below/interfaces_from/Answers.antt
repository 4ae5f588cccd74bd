use Rattle.end_search.proofs.Seeking.{covered_more, found_below}
use Rattle.end_search.proofs.below.interfaces_from.Goals as goal

pub returns : goal.returns
returns c = λ n first x a. found_below c.args.tree.now.d.now c.follow_all.new.search c.in_ok-follow_all.ensures.done n c.args.of_type first c.args.port
    (covered_more c.args.tree.now.d.now c.in_ok-search.search c.follow_all.new.search c.in_ok-follow_all.ensures.stays c.args.of_type c.args.port c.in_ok-search.ensures) x a
