use Rattle.end_crossing.proofs.Grouping.{adding_same}
use Rattle.end_crossing.proofs.crossing.add_first.Goals as goal

pub add_both-added-requires-clause-matched : goal.add_both-added-requires-clause-matched
add_both-added-requires-clause-matched c =
    adding_same c.args.tree.now.d.now c.args.matched.now c.args.links.now.list.items c.requires.matched c.take_side.new.self c.in_ok-second.ensures.matched c.in_ok-second.ensures.done c.in_ok-second.ensures.crossed

pub returns-in_ok-keep_side-in-Ok-clause-matched : goal.returns-in_ok-keep_side-in-Ok-clause-matched
returns-in_ok-keep_side-in-Ok-clause-matched c =
    adding_same c.args.tree.now.d.now c.add_both-added.new.matched c.add_both-added.new.links.list.items c.in-Ok.ensures.matched c.keep_side.new.self c.in_ok-keep_side-in-Ok.ensures.matched c.in_ok-keep_side-in-Ok.ensures.done c.in_ok-keep_side-in-Ok.ensures.crossed
