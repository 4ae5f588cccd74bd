use Rattle.end_search.proofs.SameNames.{push_more, push_all}
use Rattle.end_search.proofs.matches.add_places.Goals as goal

pub loop-place-preserved : goal.loop-place-preserved
loop-place-preserved c = push_more c.args.number c.args.places.now c.loop-place.place-index c.args.pairs.now.items c.loop-place.pairs.items c.push.new.self.items c.loop-place-test.true c.in_ok-push.ensures.items c.loop-place.invariant

pub returns : goal.returns
returns c = λ i j. push_all c.args.number c.args.places.now c.loop-place.place-index i j _ _ c.loop-place-test.false (c.loop-place.invariant i j)
