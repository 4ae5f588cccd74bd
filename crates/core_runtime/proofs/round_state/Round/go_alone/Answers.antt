use Rattle.std.proofs.Common.{inr, length, ◌∙◌, ap, arith}
use Rattle.core_runtime.proofs.Later.{later_then, alone_rests, turn_more}
use Rattle.core_runtime.proofs.round_state.Round.go_alone.Goals as goal

pub step-made-requires-clause-number : goal.step-made-requires-clause-number
step-made-requires-clause-number g c = omega (arith, c.loop-turns.invariant.later.count, c.requires.alone)

pub step-made-requires-clause-room : goal.step-made-requires-clause-room
step-made-requires-clause-room g c =
    let i = c.loop-turns.invariant in
    omega (arith, i.later.room, i.count, c.requires.room, ap length c.requires.empty)

pub loop-turns-preserved : goal.loop-turns-preserved
loop-turns-preserved g c =
    let i = c.loop-turns.invariant in
    record {
      later = later_then c.args.self.now c.loop-turns.self c.step-made.new.self i.later c.if-not-made.ensures.later;
      count = omega (arith, i.count, turn_more c.loop-turns.self c.step-made.new.self 0 c.if-not-made.ensures.turn);
    }

pub returns-then-not-made-clause-later : goal.returns-then-not-made-clause-later
returns-then-not-made-clause-later g c = later_then c.args.self.now c.loop-turns.self c.step-made.new.self c.loop-turns.invariant.later c.if-not-made.ensures.later

pub returns-then-not-made-clause-end : goal.returns-then-not-made-clause-end
returns-then-not-made-clause-end g c = inr (alone_rests c.loop-turns.self c.step-made.new.self (c.loop-turns.invariant.later.count ∙ c.requires.alone) c.if-not-made.ensures.later c.if-not-made.ensures.turn)
