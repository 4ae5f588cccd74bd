use Rattle.std.proofs.Common.{refl, ◌∙◌, ap, arith}
use Rattle.bus_semantics.specs.Plan.{plan_of}
use Rattle.cross_core_table.specs.declared.views.View.{View}
use Rattle.core_lanes.specs.declared.stay.Stay.{Stay}
use Rattle.core_lanes.proofs.Leaving.{nothing_true, true_on, known_on, stay_on, leaves, turned_out, stays_no_more}
use Rattle.core_lanes.proofs.Taken.{no_turns, turns_on}
use Rattle.core_lanes.proofs.turns.make_turns.Goals as goal

pub loop-turns-init : goal.loop-turns-init
loop-turns-init g c =
    let p = plan_of c.args.p.now in
    let view : View = c.args.bench.now.view in
    let stay : Stay = c.new-stay.result in
    let entries = ap (λ (s : Stay). s.made) c.new-stay.ensures in
    let row = ap (λ (s : Stay). s.quiet) c.new-stay.ensures in
    let did = nothing_true p c.args.core.now.slots stay view c.requires.none c.new-stay.ensures in
    record {
      round = refl;
      number = refl;
      room = c.requires.room;
      ready = λ m is. is;
      taken = no_turns p c.args.t.now c.args.core.now view.made c.requires.none;
      made = did.made;
      did = did;
      known = λ far. absurd (omega (arith, row, far));
      few = omega (arith, entries);
      rests = omega (arith, row);
      turns = omega arith;
    }

pub loop-turns-preserved : goal.loop-turns-preserved
loop-turns-preserved g c =
    let i = c.loop-turns.invariant in
    let at = c.loop-turns in
    let p = plan_of c.args.p.now in
    let old : View = at.bench.view in
    let new : View = c.turn.new.bench.view in
    let made = c.turn.result in
    let counts = c.turn.ensures.counts in
    let further = c.goes_on.ensures.stays cc in
    let did = true_on p c.args.t.now at.core c.turn.new.core at.stay c.turn.new.self old new made c.turn.ensures.taken counts i.did in
    let stays = stay_on p at.core.slots at.stay c.turn.new.self old new made at.turns counts further.0 further.1 i.turns in
    record {
      round = c.turn.ensures.round ∙ i.round;
      number = c.turn.ensures.number ∙ i.number;
      room = c.turn.ensures.room;
      ready = λ m is. c.turn.ensures.ready m (i.ready m is);
      taken = turns_on p c.args.t.now c.args.core.now at.core c.turn.new.core old.made new.made made i.taken c.turn.ensures.taken;
      made = did.made;
      did = did;
      known = known_on p at.core.slots at.stay c.turn.new.self old new made counts c.turn.ensures.due i.known;
      few = stays.0;
      rests = stays.1;
      turns = stays.2;
    }

pub returns-then-not-goes_on-clause-left : goal.returns-then-not-goes_on-clause-left
returns-then-not-goes_on-clause-left g c =
    let i = c.loop-turns.invariant in
    let at = c.loop-turns in
    leaves at.stay i.known (stays_no_more at.stay.made at.stay.quiet i.few i.rests (c.goes_on.ensures.leaves cc))

pub returns-clause-left : goal.returns-clause-left
returns-clause-left g c =
    let i = c.loop-turns.invariant in
    let at = c.loop-turns in
    leaves at.stay i.known (turned_out at.stay.made at.stay.quiet at.turns i.few i.rests i.turns (omega arith))
