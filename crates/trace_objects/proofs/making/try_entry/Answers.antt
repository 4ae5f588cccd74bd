use Rattle.std.proofs.Common.{arith, sym}
use Rattle.bus_semantics.specs.Common.{plan_of, wanted_of, noted}
use Rattle.trace_objects.proofs.Alone.{FreeLaws, returned_alone}
use Rattle.trace_objects.proofs.Broken.{StartLaws}
use Rattle.trace_objects.proofs.Reached.{there, at, found, planned, may_ask, plans_after}
use Rattle.trace_objects.proofs.TriedEntries.{facts_at, tried_on, tried_alone}
use Rattle.trace_objects.proofs.making.try_entry.Goals as goal

pub object_of-requires : goal.object_of-requires
object_of-requires c =
    let p = plan_of c.args.p.now in
    let e = c.args.entry.now in
    let w = wanted_of c.wish_of-wish.result in
    let can = c.requires.tried in
    let f = facts_at p e c.args.event w c.wish_of-wish.ensures c.running_activations_go_on.ensures c.what_comes_may_follow.ensures.wish c.what_comes_may_follow.ensures.entry can.mapping can.history can.tried in
    record { within = c.sound_plans_have_objects.ensures.touched p can.mapping e.actor w can.tried.sound f.fit }

pub index_mut-requires : goal.index_mut-requires
index_mut-requires c =
    let p = plan_of c.args.p.now in
    let e = c.args.entry.now in
    let w = wanted_of c.wish_of-wish.result in
    let can = c.requires.tried in
    let f = facts_at p e c.args.event w c.wish_of-wish.ensures c.running_activations_go_on.ensures c.what_comes_may_follow.ensures.wish c.what_comes_may_follow.ensures.entry can.mapping can.history can.tried in
    let within = there p e.actor w c.args.objects.now.items c.in-Some.object c.in-Some.ensures c.requires.planned can.tried.sound.objects (c.sound_plans_have_objects.ensures.touched p can.mapping e.actor w can.tried.sound f.fit) in
    omega (arith, within)

pub make_on-requires-clause-fits : goal.make_on-requires-clause-fits
make_on-requires-clause-fits c =
    let p = plan_of c.args.p.now in
    let e = c.args.entry.now in
    let w = wanted_of c.wish_of-wish.result in
    let can = c.requires.tried in
    let f = facts_at p e c.args.event w c.wish_of-wish.ensures c.running_activations_go_on.ensures c.what_comes_may_follow.ensures.wish c.what_comes_may_follow.ensures.entry can.mapping can.history can.tried in
    f.fit

pub make_on-requires-clause-own : goal.make_on-requires-clause-own
make_on-requires-clause-own c =
    let p = plan_of c.args.p.now in
    let e = c.args.entry.now in
    let w = wanted_of c.wish_of-wish.result in
    let can = c.requires.tried in
    let f = facts_at p e c.args.event w c.wish_of-wish.ensures c.running_activations_go_on.ensures c.what_comes_may_follow.ensures.wish c.what_comes_may_follow.ensures.entry can.mapping can.history can.tried in
    f.own

pub make_on-requires-clause-planned : goal.make_on-requires-clause-planned
make_on-requires-clause-planned c =
    let p = plan_of c.args.p.now in
    let e = c.args.entry.now in
    let w = wanted_of c.wish_of-wish.result in
    let can = c.requires.tried in
    let f = facts_at p e c.args.event w c.wish_of-wish.ensures c.running_activations_go_on.ensures c.what_comes_may_follow.ensures.wish c.what_comes_may_follow.ensures.entry can.mapping can.history can.tried in
    let within = there p e.actor w c.args.objects.now.items c.in-Some.object c.in-Some.ensures c.requires.planned can.tried.sound.objects (c.sound_plans_have_objects.ensures.touched p can.mapping e.actor w can.tried.sound f.fit) in
    planned p e.actor w c.args.objects.now.items c.in-Some.object c.in-Some.ensures c.requires.planned c.index_mut.result.now (found p e.actor w c.args.objects.now.items c.in-Some.object c.in-Some.ensures c.requires.planned c.index_mut.result.now within c.index_mut.ensures.value)

pub make_on-requires-clause-number : goal.make_on-requires-clause-number
make_on-requires-clause-number c =
    sym (at (plan_of c.args.p.now) c.args.entry.now.actor (wanted_of c.wish_of-wish.result) c.args.objects.now.items c.in-Some.object c.in-Some.ensures c.requires.planned)

pub returns-in-Some-clause-among : goal.returns-in-Some-clause-among
returns-in-Some-clause-among c =
    let p = plan_of c.args.p.now in
    let e = c.args.entry.now in
    let w = wanted_of c.wish_of-wish.result in
    let can = c.requires.tried in
    let f = facts_at p e c.args.event w c.wish_of-wish.ensures c.running_activations_go_on.ensures c.what_comes_may_follow.ensures.wish c.what_comes_may_follow.ensures.entry can.mapping can.history can.tried in
    let within = there p e.actor w c.args.objects.now.items c.in-Some.object c.in-Some.ensures c.requires.planned can.tried.sound.objects (c.sound_plans_have_objects.ensures.touched p can.mapping e.actor w can.tried.sound f.fit) in
    c.make_on.ensures.among c.args.objects.now.items
    (found p e.actor w c.args.objects.now.items c.in-Some.object c.in-Some.ensures c.requires.planned c.index_mut.result.now within c.index_mut.ensures.value) c.requires.among

pub returns-in-Some-clause-planned : goal.returns-in-Some-clause-planned
returns-in-Some-clause-planned c =
    plans_after (plan_of c.args.p.now) c.args.entry.now.actor (wanted_of c.wish_of-wish.result) c.args.objects.now.items c.in-Some.object c.in-Some.ensures c.requires.planned c.make_on.new.object c.make_on.ensures.planned

pub returns-in-Some-clause-tried : goal.returns-in-Some-clause-tried
returns-in-Some-clause-tried c = λ m h tried stand.
    let p = plan_of c.args.p.now in
    let e = c.args.entry.now in
    let w = wanted_of c.wish_of-wish.result in
    let f = facts_at p e c.args.event w c.wish_of-wish.ensures c.running_activations_go_on.ensures c.what_comes_may_follow.ensures.wish c.what_comes_may_follow.ensures.entry m h tried in
    let within = there p e.actor w c.args.objects.now.items c.in-Some.object c.in-Some.ensures c.requires.planned tried.sound.objects (c.sound_plans_have_objects.ensures.touched p m e.actor w tried.sound f.fit) in
    let is = found p e.actor w c.args.objects.now.items c.in-Some.object c.in-Some.ensures c.requires.planned c.index_mut.result.now within c.index_mut.ensures.value in
    let ask = may_ask p e.actor w c.args.objects.now.items c.in-Some.object c.in-Some.ensures c.requires.planned c.index_mut.result.now is m h tried.sound f.fit f.own stand in
    let starts : StartLaws p m h = record {
      comes = λ a event l asked due matching. c.calls_come.ensures.start p m a event l asked due matching;
      matching = λ k event object key may touching. c.wishes_match.ensures.start p m h k event object tried.sound tried.legal key may touching;
      same = λ n object proper touching. c.answers_look_at_one_object.ensures.touching p m (noted h) n object tried.sound (c.answers_look_at_one_object.ensures.legal p h tried.legal) proper touching;
      unjoined = λ a event none. let u = returned_alone p m tried.sound event none in c.unjoined_points_return_nothing.ensures p h a event u.point tried.legal u.kind u.unjoined;
      past = λ object. c.legal_histories_part_into_objects.ensures p m h object tried.sound tried.legal;
    } in
    tried_on p e c.args.event w c.wish_of-wish.ensures c.running_activations_go_on.ensures c.what_comes_may_follow.ensures.wish c.what_comes_may_follow.ensures.entry
    c.args.objects.now.items c.in-Some.object c.in-Some.ensures m h tried stand c.legal_histories_part_into_objects.ensures starts c.make_on.new.object c.make_on.result (c.make_on.ensures.made m _ ask)

pub returns-in-None-clause-tried : goal.returns-in-None-clause-tried
returns-in-None-clause-tried c = λ m h tried stand.
    let p = plan_of c.args.p.now in
    let free : FreeLaws p m h = record {
      goes = λ k running. c.running_activations_go_on.ensures p m h k tried.sound tried.legal running;
      answers = λ a v d l fit none is free. c.free_deeds_are_legal.ensures.answers p m a v d l tried.sound fit none is free;
      only = λ a v d l n fit none is free actor wish answers. c.free_deeds_are_legal.ensures.only p m a v d l n tried.sound fit none is free actor wish answers;
      unjoined = λ a event point kind none. c.unjoined_points_return_nothing.ensures p h a event point tried.legal kind none;
      outstanding = λ k point next. c.hearers_have_asked.ensures.outstanding p m h k point tried.sound tried.legal next;
      nothing = λ k r event start answers v of next none. c.what_touches_nothing.ensures p m k r event start answers v of next none;
    } in
    let starts : StartLaws p m h = record {
      comes = λ a event l asked due matching. c.calls_come.ensures.start p m a event l asked due matching;
      matching = λ k event object key may touching. c.wishes_match.ensures.start p m h k event object tried.sound tried.legal key may touching;
      same = λ n object proper touching. c.answers_look_at_one_object.ensures.touching p m (noted h) n object tried.sound (c.answers_look_at_one_object.ensures.legal p h tried.legal) proper touching;
      unjoined = λ a event none. let u = returned_alone p m tried.sound event none in c.unjoined_points_return_nothing.ensures p h a event u.point tried.legal u.kind u.unjoined;
      past = λ object. c.legal_histories_part_into_objects.ensures p m h object tried.sound tried.legal;
    } in
    tried_alone p c.args.entry.now c.args.event (wanted_of c.wish_of-wish.result) c.wish_of-wish.ensures c.running_activations_go_on.ensures c.what_comes_may_follow.ensures.wish c.what_comes_may_follow.ensures.entry
    m h tried free starts c.in-None.ensures c.args.objects.now.items stand c.make_alone.result c.make_alone.ensures
