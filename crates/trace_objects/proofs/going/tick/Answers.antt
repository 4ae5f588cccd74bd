use Rattle.std.proofs.Common.{arith, sym}
use Rattle.bus_semantics.specs.Common.{plan_of, to_tick}
use Rattle.bus_semantics.specs.declared.entries.Actor.TheVariants.{Env}
use Rattle.port_objects.specs.Common.{tick_of_env}
use Rattle.trace_objects.proofs.NextEntries.{fit_so, own_so, next_at}
use Rattle.trace_objects.proofs.Reached.{there, at, found, planned, may_ask, plans_after}
use Rattle.trace_objects.proofs.going.tick.Goals as goal

pub object_of-requires : goal.object_of-requires
object_of-requires c =
    let p = plan_of c.args.p.now in
    let w = to_tick in
    let can = c.requires.next in
    let fit = fit_so p can.mapping can.history Env w can.next c.running_activations_go_on.ensures in
    record { within = c.sound_plans_have_objects.ensures.touched p can.mapping Env w can.next.sound fit }

pub index_mut-requires : goal.index_mut-requires
index_mut-requires c =
    let p = plan_of c.args.p.now in
    let w = to_tick in
    let can = c.requires.next in
    let fit = fit_so p can.mapping can.history Env w can.next c.running_activations_go_on.ensures in
    let within = there p Env w c.args.objects.now.items c.in-Some.number c.in-Some.ensures c.requires.planned can.next.sound.objects
    (c.sound_plans_have_objects.ensures.touched p can.mapping Env w can.next.sound fit) in
    omega (arith, within)

pub tick_at-requires-clause-planned : goal.tick_at-requires-clause-planned
tick_at-requires-clause-planned c =
    let p = plan_of c.args.p.now in
    let a = Env in
    let w = to_tick in
    let can = c.requires.next in
    let fit = fit_so p can.mapping can.history Env w can.next c.running_activations_go_on.ensures in
    let within = there p a w c.args.objects.now.items c.in-Some.number c.in-Some.ensures c.requires.planned can.next.sound.objects (c.sound_plans_have_objects.ensures.touched p can.mapping a w can.next.sound fit) in
    planned p a w c.args.objects.now.items c.in-Some.number c.in-Some.ensures c.requires.planned c.index_mut.result.now
    (found p a w c.args.objects.now.items c.in-Some.number c.in-Some.ensures c.requires.planned c.index_mut.result.now within c.index_mut.ensures.value)

pub tick_at-requires-clause-number : goal.tick_at-requires-clause-number
tick_at-requires-clause-number c = sym (at (plan_of c.args.p.now) Env to_tick c.args.objects.now.items c.in-Some.number c.in-Some.ensures c.requires.planned)

pub returns-in-Some-clause-among : goal.returns-in-Some-clause-among
returns-in-Some-clause-among c =
    let p = plan_of c.args.p.now in
    let a = Env in
    let w = to_tick in
    let can = c.requires.next in
    let fit = fit_so p can.mapping can.history Env w can.next c.running_activations_go_on.ensures in
    let within = there p a w c.args.objects.now.items c.in-Some.number c.in-Some.ensures c.requires.planned can.next.sound.objects (c.sound_plans_have_objects.ensures.touched p can.mapping a w can.next.sound fit) in
    c.tick_at.ensures.among c.args.objects.now.items
    (found p a w c.args.objects.now.items c.in-Some.number c.in-Some.ensures c.requires.planned c.index_mut.result.now within c.index_mut.ensures.value) c.requires.among

pub returns-in-Some-clause-planned : goal.returns-in-Some-clause-planned
returns-in-Some-clause-planned c =
    plans_after (plan_of c.args.p.now) Env to_tick c.args.objects.now.items c.in-Some.number c.in-Some.ensures c.requires.planned c.tick_at.new.object c.tick_at.ensures.planned

pub returns-in-Some-clause-made : goal.returns-in-Some-clause-made
returns-in-Some-clause-made c = λ m h next stand yes.
    let p = plan_of c.args.p.now in
    let a = Env in
    let w = to_tick in
    let objects = c.args.objects.now.items in
    let object = c.in-Some.number in
    let goes = c.running_activations_go_on.ensures in
    let fit = fit_so p m h a w next goes in
    let within = there p a w objects object c.in-Some.ensures c.requires.planned next.sound.objects (c.sound_plans_have_objects.ensures.touched p m a w next.sound fit) in
    let place = found p a w objects object c.in-Some.ensures c.requires.planned c.index_mut.result.now within c.index_mut.ensures.value in
    let ask = may_ask p a w objects object c.in-Some.ensures c.requires.planned c.index_mut.result.now place m h next.sound fit (own_so p m h a w next goes) stand in
    next_at p m h a w next goes c.what_comes_may_follow.ensures.wish c.what_comes_may_follow.ensures.entry objects object c.in-Some.ensures stand c.tick_at.new.object tick_of_env (c.tick_at.ensures.made m _ ask yes)
