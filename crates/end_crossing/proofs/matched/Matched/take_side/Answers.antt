use Rattle.std.proofs.Common.{sym}
use Rattle.end_crossing.proofs.SameGates.{sides_less}
use Rattle.end_crossing.proofs.matched.Matched.take_side.Goals as goal

pub returns-in-Some-clause-matched : goal.returns-in-Some-clause-matched
returns-in-Some-clause-matched c = record {
  listed = c.requires.matched.listed;
  kept = c.requires.matched.kept;
  sides = sides_less c.args.tree.now.d.now c.args.self.now.sides c.swap_remove.new.self c.args.gate c.requires.matched.sides c.swap_remove.ensures.updates;
  near = c.requires.matched.near;
}

pub returns-in-Some-clause-side : goal.returns-in-Some-clause-side
returns-in-Some-clause-side c = c.requires.matched.sides c.args.gate c.in-Some.side (sym c.in-Some.ensures.value)

pub returns-in_ok-side-in-None-clause-matched : goal.returns-in_ok-side-in-None-clause-matched
returns-in_ok-side-in-None-clause-matched c = record {
  listed = c.requires.matched.listed;
  kept = c.requires.matched.kept;
  sides = sides_less c.args.tree.now.d.now c.args.self.now.sides c.swap_remove.new.self c.args.gate c.requires.matched.sides c.swap_remove.ensures.updates;
  near = c.in_ok-side-in-None.ensures.near;
}
