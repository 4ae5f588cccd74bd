use Rattle.std.proofs.Common.{◌<◌, length, ap, arith}
use Rattle.std.proofs.lemmas.Option.{slice_get_within}
use Rattle.core_runtime.specs.Rounds.{RoundState}
use Rattle.core_runtime.proofs.Later.{later_then, quiet_on, turn_few}
use Rattle.core_runtime.proofs.InOrder.{turn_in_order, all_in_order}
use Rattle.core_runtime.proofs.round_state.Round.give_turns.Goals as goal

pub step-requires-clause-number : goal.step-requires-clause-number
step-requires-clause-number c = omega (arith, c.loop-number.invariant.later.count, ap (λ (r : RoundState). length r.cores) c.self.view_is)

pub step-requires-clause-room : goal.step-requires-clause-room
step-requires-clause-room c =
    let i = c.loop-number.invariant in
    omega (arith, i.later.room, i.few, c.requires.room, ap length c.requires.empty, ap (λ (r : RoundState). length r.cores) c.self.view_is)

pub loop-number-preserved : goal.loop-number-preserved
loop-number-preserved c =
    let i = c.loop-number.invariant in
    let below : c.loop-number.number < length c.loop-number.self.cores = omega (arith, i.later.count, ap (λ (r : RoundState). length r.cores) c.self.view_is) in
    record {
      later = later_then c.args.self.now c.loop-number.self c.step.new.self i.later c.step.ensures.later;
      few = omega (arith, i.few, turn_few c.loop-number.self c.step.new.self c.loop-number.number c.step.result c.step.ensures.turn);
      order = turn_in_order c.args.self.now c.loop-number.self c.step.new.self c.loop-number.number i.later i.order c.step.result below c.step.ensures.turn;
      rest = quiet_on c.args.self.now c.loop-number.self c.step.new.self c.loop-number.number i.later c.step.result c.step.ensures.turn i.rest;
    }

pub returns-clause-rest : goal.returns-clause-rest
returns-clause-rest c = λ none i x found.
    let within : i < length c.args.self.now.cores = slice_get_within c.args.self.now.cores i x found in
    (c.loop-number.invariant.rest none).none i x (omega (arith, ap (λ (r : RoundState). length r.cores) c.self.view_is)) found

pub returns-clause-order : goal.returns-clause-order
returns-clause-order c =
    let i = c.loop-number.invariant in
    all_in_order c.args.self.now c.loop-number.self c.loop-number.self c.loop-number.number i.later i.order (omega (arith, ap (λ (r : RoundState). length r.cores) c.self.view_is))
