use Rattle.std.proofs.Common.{◌≡◌, refl, sym, ◌∙◌, ap, subst, length}
use Rattle.bus_semantics.specs.declared.entries.Actor.TheVariants.{Env}
use Rattle.bus_semantics.specs.Common.{plan_of, wanted_of}
use Rattle.cross_core_table.specs.Common.{plan_in, OpenRound}
use Rattle.live_lanes.specs.Calls.{HasCalled, HaveStood}
use Rattle.live_lanes.proofs.Called.{asked_in, never_waits, called_then}
use Rattle.live_lanes.proofs.calling.call_on.Goals as goal

pub act_once-requires-clause-asked : goal.act_once-requires-clause-asked
act_once-requires-clause-asked g c =
    let is : plan_in c.loop.bench.round.opening ≡ plan_of c.args.p.now = ap (λ (r : OpenRound). plan_in r.opening) c.loop.invariant.round ∙ c.requires.plan in
    asked_in c.loop.bench.round.opening (plan_of c.args.p.now) is c.requires.sound.0 c.args.object c.args.wish.now c.requires.sound.1 c.requires.fits c.requires.touches c.sound_plans_have_objects.ensures.touched

pub unreachable-requires : goal.unreachable-requires
unreachable-requires g c =
    let k = c.loop.bench.round.opening in
    let is : plan_in k ≡ plan_of c.args.p.now = ap (λ (r : OpenRound). plan_in r.opening) c.loop.invariant.round ∙ c.requires.plan in
    let stood : HaveStood k = subst (λ (r : OpenRound). HaveStood r.opening) (sym c.loop.invariant.round) c.requires.stood in
    never_waits k (plan_of c.args.p.now) is c.requires.sound.0 c.args.object c.args.wish.now c.requires.sound.1 c.requires.fits c.requires.touches
    c.leads_are_legal.ensures.stands c.leads_miss_nothing.ensures c.calls_come.ensures.always stood c.loop.bench.core c.loop.bench.view c.act_once.new.self.view _ c.in-NotYet.ensures.knows

pub returns-in-Done-clause-called : goal.returns-in-Done-clause-called
returns-in-Done-clause-called g c =
    let k = c.loop.bench.round.opening in
    let is : plan_in k ≡ plan_of c.args.p.now = ap (λ (r : OpenRound). plan_in r.opening) c.loop.invariant.round ∙ c.requires.plan in
    subst (λ xs. HasCalled (plan_of c.args.p.now) (wanted_of c.args.wish.now) xs c.act_once.new.self.view.made) c.loop.invariant.made
    (called_then k (plan_of c.args.p.now) is c.requires.sound.0 c.args.object c.args.wish.now c.requires.sound.1 c.requires.fits c.requires.touches
    c.leads_are_legal.ensures.stands c.leads_miss_nothing.ensures c.calls_come.ensures.always c.loop.bench.core c.loop.bench.view c.act_once.new.self.view _ c.in-Done.ensures.knows)
