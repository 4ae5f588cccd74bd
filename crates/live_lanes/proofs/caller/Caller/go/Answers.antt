use Rattle.std.proofs.Common.{◌≡◌, refl, sym, ◌∙◌, ap, subst}
use Rattle.bus_semantics.specs.Common.{same_Some, plan_of}
use Rattle.cross_core_table.specs.OpenRounds.{OpenRound}
use Rattle.cross_core_table.specs.Seats.{IsSeatOf, view_of, made_of, core_of}
use Rattle.feed_queue.specs.Passes.{order_of}
use Rattle.live_lanes.specs.Callers.{AreAllCalls}
use Rattle.live_lanes.proofs.Orders.{no_calls}
use Rattle.live_lanes.proofs.caller.Caller.go.Goals as goal

pub call_all-requires-clause-calls : goal.call_all-requires-clause-calls
call_all-requires-clause-calls g c = λ κs lives.
    let taken : c.in-Some.seat ≡ c.requires.calls.seat = same_Some _ _ (c.in-Some.ensures.value ∙ c.requires.calls.has) in
    let none = ap (λ b. b.view.made) c.bench-bench.ensures ∙ ap (λ s. (view_of s).made) taken ∙ c.requires.calls.fresh in
    no_calls (plan_of c.args.ground.now.plan.now) c.args.ground.now.feeds.now (order_of c.args.self.now.pump) c.bench-bench.result.view.made c.requires.calls.order none

pub returns : goal.returns
returns g c =
    let taken : c.in-Some.seat ≡ c.requires.calls.seat = same_Some _ _ (c.in-Some.ensures.value ∙ c.requires.calls.has) in
    let number : core_of c.in-Some.seat ≡ c.args.number = ap core_of taken ∙ c.requires.calls.of.at.number in
    let round = c.call_all.ensures.round ∙ ap (λ b. b.round) c.bench-bench.ensures in
    let core = c.call_all.ensures.number ∙ ap (λ b. b.core) c.bench-bench.ensures ∙ number in
    let kept : made_of c.leave.result ≡ c.call_all.new.bench.view.made = sym c.leave.ensures.seat.at.made ∙ ap (λ v. v.made) c.leave.ensures.view in
    record {
      seat = c.leave.result;
      has = refl;
      of = subst (λ (r : OpenRound). IsSeatOf r c.args.number c.leave.result) round (subst (λ n. IsSeatOf c.call_all.new.bench.round n c.leave.result) core c.leave.ensures.seat);
      all = subst (AreAllCalls (plan_of c.args.ground.now.plan.now) c.args.ground.now.feeds.now (order_of c.call_all.new.pump)) (sym kept) c.call_all.ensures.calls;
    }
