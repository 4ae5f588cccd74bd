use Rattle.std.proofs.Common.{◌≡◌, refl, sym, ◌∙◌, ap, subst}
use Rattle.bus_semantics.specs.Common.{same_Some, plan_of}
use Rattle.cross_core_table.specs.OpenRounds.{OpenRound}
use Rattle.cross_core_table.specs.Seats.{IsSeatOf, made_of, core_of}
use Rattle.core_lanes.specs.Taking.{TakesTurns}
use Rattle.live_lanes.proofs.lanes.Lane.go.Goals as goal

pub returns : goal.returns
returns g c =
    let taken : c.in-Some.seat ≡ c.requires.seated.seat = same_Some _ _ (c.in-Some.ensures.value ∙ c.requires.seated.has) in
    let number : core_of c.in-Some.seat ≡ c.args.number = ap core_of taken ∙ c.requires.seated.of.at.number in
    let round = c.make_turns.ensures.round ∙ ap (λ b. b.round) c.bench-bench.ensures in
    let core = c.make_turns.ensures.number ∙ ap (λ b. b.core) c.bench-bench.ensures ∙ number in
    let kept : made_of c.leave.result ≡ c.make_turns.new.bench.view.made = sym c.leave.ensures.seat.at.made ∙ ap (λ v. v.made) c.leave.ensures.view in
    record {
      seat = c.leave.result;
      has = refl;
      of = subst (λ (r : OpenRound). IsSeatOf r c.args.number c.leave.result) round (subst (λ n. IsSeatOf c.make_turns.new.bench.round n c.leave.result) core c.leave.ensures.seat);
      room = c.make_turns.ensures.room;
      turns = subst (λ part. TakesTurns (plan_of c.args.ground.now.plan.now) c.args.ground.now.bodies.now c.args.self.now.core part c.make_turns.new.core) (sym kept) c.make_turns.ensures.turns;
    }
