use Rattle.end_crossing.proofs.SameGates.{sides_more}
use Rattle.end_crossing.proofs.matched.Matched.keep_side.Goals as goal

pub returns-clause-matched : goal.returns-clause-matched
returns-clause-matched c = record {
  listed = c.make_room_for.ensures.matched.listed;
  kept = c.make_room_for.ensures.matched.kept;
  sides = sides_more c.args.d.now c.make_room_for.new.self.sides c.insert.new.self c.args.gate c.make_room_for.ensures.matched.sides c.args.side c.in_ok-insert.ensures.updates c.requires.side;
  near = c.make_room_for.ensures.matched.near;
}
