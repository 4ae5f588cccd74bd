use Rattle.std.proofs.Common.{arith, refl, sym, subst, ◌∷◌}
use Rattle.bus_semantics.specs.Common.{plan_of, wanted_of, entries_of, noted_for, MayCome}
use Rattle.trace_objects.proofs.Noting.{held_back}
use Rattle.trace_objects.proofs.Pausing.{may_follow, stuck_there, stuck_alone}
use Rattle.trace_objects.proofs.Reached.{there, at, found, planned, may_ask, plans_after}
use Rattle.trace_objects.proofs.resting.comes.Goals as goal

pub object_of-requires : goal.object_of-requires
object_of-requires c = record { within = c.sound_plans_have_objects.ensures.touched (plan_of c.args.p.now) c.requires.sound.0 c.args.who.now (wanted_of c.args.wish.now) c.requires.sound.1 c.requires.fits }

pub index_mut-requires : goal.index_mut-requires
index_mut-requires c =
    let p = plan_of c.args.p.now in
    let sound = c.requires.sound in
    let within = there p c.args.who.now (wanted_of c.args.wish.now) c.args.objects.now.items c.in-Some.object c.in-Some.ensures c.requires.planned sound.1.objects
    (c.sound_plans_have_objects.ensures.touched p sound.0 c.args.who.now (wanted_of c.args.wish.now) sound.1 c.requires.fits) in
    omega (arith, within)

pub act-requires-clause-planned : goal.act-requires-clause-planned
act-requires-clause-planned c =
    let p = plan_of c.args.p.now in
    let a = c.args.who.now in
    let w = wanted_of c.args.wish.now in
    let sound = c.requires.sound in
    let within = there p a w c.args.objects.now.items c.in-Some.object c.in-Some.ensures c.requires.planned sound.1.objects
    (c.sound_plans_have_objects.ensures.touched p sound.0 a w sound.1 c.requires.fits) in
    planned p a w c.args.objects.now.items c.in-Some.object c.in-Some.ensures c.requires.planned c.index_mut.result.now
    (found p a w c.args.objects.now.items c.in-Some.object c.in-Some.ensures c.requires.planned c.index_mut.result.now within c.index_mut.ensures.value)

pub returns-in-NotYet-clause-held : goal.returns-in-NotYet-clause-held
returns-in-NotYet-clause-held c = λ no i o touch is.
    let p = plan_of c.args.p.now in
    let a = c.args.who.now in
    let w = wanted_of c.args.wish.now in
    let objects = c.args.objects.now.items in
    let sound = c.requires.sound in
    let within = there p a w objects c.in-Some.object c.in-Some.ensures c.requires.planned sound.1.objects (c.sound_plans_have_objects.ensures.touched p sound.0 a w sound.1 c.requires.fits) in
    let there_it = found p a w objects c.in-Some.object c.in-Some.ensures c.requires.planned c.index_mut.result.now within c.index_mut.ensures.value in
    held_back p a w objects c.in-Some.object c.index_mut.result.now c.act.new.object c.in-NotYet.field-0 there_it c.in-Some.ensures c.in-NotYet.ensures.lead i o touch is

pub returns-in-Done-clause-planned : goal.returns-in-Done-clause-planned
returns-in-Done-clause-planned c =
    plans_after (plan_of c.args.p.now) c.args.who.now (wanted_of c.args.wish.now) c.args.objects.now.items c.in-Some.object c.in-Some.ensures c.requires.planned c.act.new.object c.act.ensures.planned

pub returns-in-Done-clause-comes : goal.returns-in-Done-clause-comes
returns-in-Done-clause-comes c = λ m h sound legal stand begun.
    let p = plan_of c.args.p.now in
    let a = c.args.who.now in
    let w = wanted_of c.args.wish.now in
    let within = there p a w c.args.objects.now.items c.in-Some.object c.in-Some.ensures c.requires.planned sound.objects (c.sound_plans_have_objects.ensures.touched p m a w sound c.requires.fits) in
    let is = found p a w c.args.objects.now.items c.in-Some.object c.in-Some.ensures c.requires.planned c.index_mut.result.now within c.index_mut.ensures.value in
    let ask = may_ask p a w c.args.objects.now.items c.in-Some.object c.in-Some.ensures c.requires.planned c.index_mut.result.now is m h sound c.requires.fits c.requires.own stand in
    let one = c.in-Done.ensures.done m (entries_of p h c.in-Some.object) c.in-Done.field-0 ask refl in
    let number = at p a w c.args.objects.now.items c.in-Some.object c.in-Some.ensures c.requires.planned in
    may_follow p m h legal a w begun (λ b v n plain program comes. c.what_comes_may_follow.ensures.entry p m h b v n sound legal plain program comes) c.in-Done.field-0
    (subst (λ n. MayCome p a w (entries_of p h n) (noted_for w c.in-Done.field-0)) (sym number) one.comes)

pub returns-in-NotYet-clause-comes : goal.returns-in-NotYet-clause-comes
returns-in-NotYet-clause-comes c = λ m h sound legal stand begun.
    let p = plan_of c.args.p.now in
    let a = c.args.who.now in
    let w = wanted_of c.args.wish.now in
    let within = there p a w c.args.objects.now.items c.in-Some.object c.in-Some.ensures c.requires.planned sound.objects (c.sound_plans_have_objects.ensures.touched p m a w sound c.requires.fits) in
    let is = found p a w c.args.objects.now.items c.in-Some.object c.in-Some.ensures c.requires.planned c.index_mut.result.now within c.index_mut.ensures.value in
    let ask = may_ask p a w c.args.objects.now.items c.in-Some.object c.in-Some.ensures c.requires.planned c.index_mut.result.now is m h sound c.requires.fits c.requires.own stand in
    stuck_there p m h legal a w begun c.in-Some.object c.in-Some.ensures (λ e longer. c.legal_histories_part_into_objects.ensures p m (e ∷ h) c.in-Some.object sound longer)
    (c.in-NotYet.ensures.not_yet m (entries_of p h c.in-Some.object) c.in-NotYet.field-0 ask refl)

pub returns-in-None-clause-comes : goal.returns-in-None-clause-comes
returns-in-None-clause-comes c = λ m h sound legal stand begun.
    let p = plan_of c.args.p.now in
    stuck_alone p m h sound (λ b event point kind unjoined. c.unjoined_points_return_nothing.ensures p h b event point legal kind unjoined)
    c.args.who.now (wanted_of c.args.wish.now) begun.kind c.requires.fits (sym c.in-None.ensures)
