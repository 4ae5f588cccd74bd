use Rattle.std.proofs.Common.{refl, ◌∙◌, ap, arith, length}
use Rattle.bus_semantics.specs.Plan.{plan_of}
use Rattle.core_lanes.proofs.Taken.{no_turns, turns_on}
use Rattle.live_lanes.proofs.turns.make_turns.Goals as goal

pub loop-init : goal.loop-init
loop-init g c = record {
  round = refl;
  number = refl;
  room = c.requires.room;
  ready = λ m is. is;
  taken = no_turns (plan_of c.args.p.now) c.args.t.now c.args.core.now c.args.bench.now.view.made c.requires.none;
  made = ap length c.requires.none;
  few = omega arith;
}

pub loop-preserved : goal.loop-preserved
loop-preserved g c =
    let i = c.loop.invariant in
    let at = c.loop in
    record {
      round = c.turn-made.ensures.round ∙ i.round;
      number = c.turn-made.ensures.number ∙ i.number;
      room = c.turn-made.ensures.room;
      ready = λ m is. c.turn-made.ensures.ready m (i.ready m is);
      taken = turns_on (plan_of c.args.p.now) c.args.t.now c.args.core.now at.core c.turn-made.new.core at.bench.view.made c.turn-made.new.bench.view.made c.turn-made.ensures.taken.0 i.taken c.turn-made.ensures.taken.1;
      made = c.turn-made.ensures.made;
      few = c.turn-made.ensures.few;
    }
