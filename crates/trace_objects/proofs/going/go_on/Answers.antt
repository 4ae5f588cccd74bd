use Rattle.std.proofs.Common.{◌≡◌, arith, refl, sym, subst, Some}
use Rattle.bus_semantics.specs.Common.{plan_of, wanted_of, noted_for}
use Rattle.port_objects.specs.Common.{lead, kept_of}
use Rattle.trace_objects.specs.Going.{MakesNext}
use Rattle.trace_objects.specs.Unrest.{IsLed}
use Rattle.trace_objects.proofs.NextEntries.{fit_so, own_so, next_alone, next_at}
use Rattle.trace_objects.proofs.Noting.{among_still}
use Rattle.trace_objects.proofs.Reached.{there, at, found, planned, may_ask, plans_after}
use Rattle.trace_objects.proofs.going.go_on.Goals as goal

pub object_of-requires : goal.object_of-requires
object_of-requires c =
    let p = plan_of c.args.p.now in
    let w = wanted_of c.args.wish.now in
    let can = c.requires.next in
    let fit = fit_so p can.mapping can.history c.args.actor w can.next c.running_activations_go_on.ensures in
    record { within = c.sound_plans_have_objects.ensures.touched p can.mapping c.args.actor w can.next.sound fit }

pub index_mut-object-requires : goal.index_mut-object-requires
index_mut-object-requires c =
    let p = plan_of c.args.p.now in
    let w = wanted_of c.args.wish.now in
    let can = c.requires.next in
    let fit = fit_so p can.mapping can.history c.args.actor w can.next c.running_activations_go_on.ensures in
    let within = there p c.args.actor w c.args.objects.now.items c.in-Some.number c.in-Some.ensures c.requires.planned can.next.sound.objects
    (c.sound_plans_have_objects.ensures.touched p can.mapping c.args.actor w can.next.sound fit) in
    omega (arith, within)

pub act_in_place-requires-clause-fits : goal.act_in_place-requires-clause-fits
act_in_place-requires-clause-fits c =
    let can = c.requires.next in
    fit_so (plan_of c.args.p.now) can.mapping can.history c.args.actor (wanted_of c.args.wish.now) can.next c.running_activations_go_on.ensures

pub act_in_place-requires-clause-own : goal.act_in_place-requires-clause-own
act_in_place-requires-clause-own c =
    let can = c.requires.next in
    own_so (plan_of c.args.p.now) can.mapping can.history c.args.actor (wanted_of c.args.wish.now) can.next c.running_activations_go_on.ensures

pub act_in_place-requires-clause-planned : goal.act_in_place-requires-clause-planned
act_in_place-requires-clause-planned c =
    let p = plan_of c.args.p.now in
    let a = c.args.actor in
    let w = wanted_of c.args.wish.now in
    let can = c.requires.next in
    let fit = fit_so p can.mapping can.history c.args.actor w can.next c.running_activations_go_on.ensures in
    let within = there p a w c.args.objects.now.items c.in-Some.number c.in-Some.ensures c.requires.planned can.next.sound.objects (c.sound_plans_have_objects.ensures.touched p can.mapping a w can.next.sound fit) in
    planned p a w c.args.objects.now.items c.in-Some.number c.in-Some.ensures c.requires.planned c.index_mut-object.result.now
    (found p a w c.args.objects.now.items c.in-Some.number c.in-Some.ensures c.requires.planned c.index_mut-object.result.now within c.index_mut-object.ensures.value)

pub returns-in-Done-clause-among : goal.returns-in-Done-clause-among
returns-in-Done-clause-among c =
    let p = plan_of c.args.p.now in
    let a = c.args.actor in
    let w = wanted_of c.args.wish.now in
    let objects = c.args.objects.now.items in
    let number = c.in-Some.number in
    let can = c.requires.next in
    let fit = fit_so p can.mapping can.history a w can.next c.running_activations_go_on.ensures in
    let within = there p a w objects number c.in-Some.ensures c.requires.planned can.next.sound.objects (c.sound_plans_have_objects.ensures.touched p can.mapping a w can.next.sound fit) in
    let old = c.index_mut-object.result.now in
    let new = c.act_in_place.new.object in
    let e = c.act_in_place.new.out in
    let place = found p a w objects number c.in-Some.ensures c.requires.planned old within c.index_mut-object.ensures.value in
    let made = c.in-Done.ensures.lead in
    let led : IsLed p number old new e.deed = record {
      noted = noted_for w e;
      deed = refl;
      leads = subst (λ n. lead p n (kept_of old) (noted_for w e) ≡ Some (kept_of new)) (at p a w objects number c.in-Some.ensures c.requires.planned) made.leads;
      told = made.told;
    } in
    c.note.ensures old objects led place c.requires.among

pub returns-in-Done-clause-planned : goal.returns-in-Done-clause-planned
returns-in-Done-clause-planned c =
    plans_after (plan_of c.args.p.now) c.args.actor (wanted_of c.args.wish.now) c.args.objects.now.items c.in-Some.number c.in-Some.ensures c.requires.planned c.act_in_place.new.object c.act_in_place.ensures.planned

pub returns-in-Done-clause-made : goal.returns-in-Done-clause-made
returns-in-Done-clause-made c = λ m h next stand yes.
    let p = plan_of c.args.p.now in
    let a = c.args.actor in
    let w = wanted_of c.args.wish.now in
    let objects = c.args.objects.now.items in
    let number = c.in-Some.number in
    let goes = c.running_activations_go_on.ensures in
    let fit = fit_so p m h a w next goes in
    let within = there p a w objects number c.in-Some.ensures c.requires.planned next.sound.objects (c.sound_plans_have_objects.ensures.touched p m a w next.sound fit) in
    let old = c.index_mut-object.result.now in
    let place = found p a w objects number c.in-Some.ensures c.requires.planned old within c.index_mut-object.ensures.value in
    let ask = may_ask p a w objects number c.in-Some.ensures c.requires.planned old place m h next.sound fit (own_so p m h a w next goes) stand in
    next_at p m h a w next goes c.what_comes_may_follow.ensures.wish c.what_comes_may_follow.ensures.entry objects number c.in-Some.ensures stand c.act_in_place.new.object c.act_in_place.new.out (c.in-Done.ensures.done m _ ask refl)

pub returns-in-NotYet-clause-among : goal.returns-in-NotYet-clause-among
returns-in-NotYet-clause-among c =
    let p = plan_of c.args.p.now in
    let a = c.args.actor in
    let w = wanted_of c.args.wish.now in
    let objects = c.args.objects.now.items in
    let number = c.in-Some.number in
    let can = c.requires.next in
    let fit = fit_so p can.mapping can.history a w can.next c.running_activations_go_on.ensures in
    let within = there p a w objects number c.in-Some.ensures c.requires.planned can.next.sound.objects (c.sound_plans_have_objects.ensures.touched p can.mapping a w can.next.sound fit) in
    let old = c.index_mut-object.result.now in
    let place = found p a w objects number c.in-Some.ensures c.requires.planned old within c.index_mut-object.ensures.value in
    among_still p number old c.act_in_place.new.object objects c.args.unrest.now place c.in-NotYet.ensures.lead.same c.requires.among

pub returns-in-NotYet-clause-planned : goal.returns-in-NotYet-clause-planned
returns-in-NotYet-clause-planned c =
    plans_after (plan_of c.args.p.now) c.args.actor (wanted_of c.args.wish.now) c.args.objects.now.items c.in-Some.number c.in-Some.ensures c.requires.planned c.act_in_place.new.object c.act_in_place.ensures.planned

pub returns-in-None-clause-made : goal.returns-in-None-clause-made
returns-in-None-clause-made c = λ m h next stand yes.
    let p = plan_of c.args.p.now in
    let a = c.args.actor in
    let w = wanted_of c.args.wish.now in
    let alone = c.go_on_alone.ensures yes in
    let objects = c.args.objects.now.items in
    subst (MakesNext p h a w objects) (sym alone.is)
    (next_alone p m h a w next c.running_activations_go_on.ensures c.what_comes_may_follow.ensures.wish c.what_comes_may_follow.ensures.entry alone.deed alone.free alone.answer c.free_deeds_are_legal.ensures.answers
    c.activations_ask_what_fits.ensures.end (sym c.in-None.ensures) objects stand)
