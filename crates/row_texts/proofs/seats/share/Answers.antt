use Rattle.std.proofs.Common.{◌∙◌}
use Rattle.row_texts.proofs.TwoSeats.{two_popped}
use Rattle.row_texts.proofs.seats.share.Goals as goal

pub take_turns-requires-clause-first : goal.take_turns-requires-clause-first
take_turns-requires-clause-first c =
    let o = c.requires.opened in
    let t = two_popped c.args.seats.items _ _ c.in-Some-pop.first c.in-Some.second (o.seated.count ∙ o.number) c.in-Some.ensures.items c.in-Some-pop.ensures.items in
    (o.seated.each 0 c.in-Some-pop.first t.first, (o.fresh 0 c.in-Some-pop.first t.first).made)

pub take_turns-requires-clause-second : goal.take_turns-requires-clause-second
take_turns-requires-clause-second c =
    let o = c.requires.opened in
    let t = two_popped c.args.seats.items _ _ c.in-Some-pop.first c.in-Some.second (o.seated.count ∙ o.number) c.in-Some.ensures.items c.in-Some-pop.ensures.items in
    (o.seated.each 1 c.in-Some.second t.second, (o.fresh 1 c.in-Some.second t.second).made)
