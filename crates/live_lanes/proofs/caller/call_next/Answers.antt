use Rattle.std.proofs.Common.{◌≡◌, ◌<◌, ◌++◌, ◌∷◌, [], refl, sym, ◌∙◌, ap, subst, arith, length, Some}
use Rattle.std.specs.Prelude.{sum}
use Rattle.bus_semantics.specs.Common.{slice_get, wish_fits, plan_of, wanted_of}
use Rattle.bus_semantics.specs.declared.entries.Actor.TheVariants.{Env}
use Rattle.cross_core_table.specs.Common.{plan_in, OpenRound}
use Rattle.feed_queue.specs.Feeds.{length_of, times}
use Rattle.feed_queue.specs.Passes.{order_of}
use Rattle.feed_queue.specs.Given.{lengths_of}
use Rattle.live_lanes.specs.Calls.{HaveStood}
use Rattle.live_lanes.specs.Drawn.{wanted_at}
use Rattle.live_lanes.proofs.Orders.{fewer, calls_on, may_have}
use Rattle.live_lanes.proofs.caller.call_next.Goals as goal

pub wish_at-wish-requires : goal.wish_at-wish-requires
wish_at-wish-requires g c = subst (λ ls. c.in-Some.number < length_of ls c.in-Some.feed) c.requires.ground.long c.in-Some.ensures.within

pub call-requires-clause-plan : goal.call-requires-clause-plan
call-requires-clause-plan g c = ap (λ (r : OpenRound). plan_in r.opening) c.requires.round ∙ c.requires.ground.plan

pub call-requires-clause-stood : goal.call-requires-clause-stood
call-requires-clause-stood g c = subst (λ (r : OpenRound). HaveStood r.opening) (sym c.requires.round) c.requires.ground.stood

pub call-requires-clause-sound : goal.call-requires-clause-sound
call-requires-clause-sound g c = (c.requires.ground.mapping, c.requires.ground.sound)

pub call-requires-clause-fits : goal.call-requires-clause-fits
call-requires-clause-fits g c = may_have (plan_of c.args.ground.now.plan.now) c.args.ground.now.feeds.now c.in-Some.feed c.in-Some.number (wanted_of c.wish_at-wish.result.now) c.requires.ground.wished c.wish_at-wish.ensures

pub call-requires-clause-room : goal.call-requires-clause-room
call-requires-clause-room g c =
    let feeds = c.args.ground.now.feeds.now in
    let order = order_of c.args.pump.now in
    let left : times c.in-Some.feed order < length_of (lengths_of feeds) c.in-Some.feed = subst (λ n. n < length_of (lengths_of feeds) c.in-Some.feed) c.in-Some.ensures.number (subst (λ ls. c.in-Some.number < length_of ls c.in-Some.feed) c.requires.ground.long c.in-Some.ensures.within) in
    let less = fewer (plan_of c.args.ground.now.plan.now) feeds order c.args.bench.now.view.made c.requires.calls c.in-Some.feed left in
    let few = c.requires.ground.wished.few in
    let room = ap (λ (r : OpenRound). r.opening.room) c.requires.round ∙ c.requires.ground.limit in
    omega (arith, less, few, room)

pub returns-in-Some-clause-calls : goal.returns-in-Some-clause-calls
returns-in-Some-clause-calls g c =
    let feeds = c.args.ground.now.feeds.now in
    let order = order_of c.args.pump.now in
    let left : times c.in-Some.feed order < length_of (lengths_of feeds) c.in-Some.feed = subst (λ n. n < length_of (lengths_of feeds) c.in-Some.feed) c.in-Some.ensures.number (subst (λ ls. c.in-Some.number < length_of ls c.in-Some.feed) c.requires.ground.long c.in-Some.ensures.within) in
    calls_on (plan_of c.args.ground.now.plan.now) feeds order c.args.bench.now.view.made c.requires.calls c.in-Some.feed left c.in-Some.number (wanted_of c.wish_at-wish.result.now) (order_of c.next.new.self) c.call.new.bench.view.made
    c.in-Some.ensures.number c.wish_at-wish.ensures c.in-Some.ensures.some c.call.ensures.called
