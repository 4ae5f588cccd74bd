use Rattle.end_crossing.proofs.Kept.{kept_more}
use Rattle.end_crossing.proofs.matched.keep.Goals as goal

pub returns-clause-matched : goal.returns-clause-matched
returns-clause-matched c = record {
  listed = c.make_room.ensures.matched.listed;
  kept = kept_more c.args.d.now c.make_room.new.matched.kept c.insert.new.self c.args.pair c.args.items c.make_room.ensures.matched.kept c.in_ok-insert.ensures.updates c.requires.found;
  sides = c.make_room.ensures.matched.sides;
  near = c.make_room.ensures.matched.near;
}
