use Rattle.std.proofs.Common.{◌≡◌, sym, subst, Some}
use Rattle.bus_semantics.specs.Common.{slice_get, plan_of, wanted_of}
use Rattle.object_kinds.specs.Kinds.{acted}
use Rattle.port_objects.specs.Common.{IsOfPlan, IsAnswer}
use Rattle.port_objects.proofs.Benching.{touched_is, found_at, set_planned, acted_on}
use Rattle.port_objects.proofs.among.act_among.Goals as goal

pub act_in_place-requires-clause-planned : goal.act_in_place-requires-clause-planned
act_in_place-requires-clause-planned c =
    let p = plan_of c.args.p.now in
    let o = c.index_mut.result.now in
    let found : slice_get c.args.objects.now.items c.args.object ≡ Some o = found_at p c.args.objects.now.items c.args.object o c.requires.sound c.requires.planned c.requires.there c.index_mut.ensures.value in
    subst (λ n. IsOfPlan p n o) (sym (touched_is p c.args.who.now (wanted_of c.args.wish.now) c.args.object c.requires.touching)) (c.requires.planned.each c.args.object o found)

pub returns-clause-planned : goal.returns-clause-planned
returns-clause-planned c =
    let p = plan_of c.args.p.now in
    set_planned p c.args.objects.now.items c.args.object c.act_in_place.new.object c.requires.planned
    (subst (λ n. IsOfPlan p n c.act_in_place.new.object) (touched_is p c.args.who.now (wanted_of c.args.wish.now) c.args.object c.requires.touching) c.act_in_place.ensures.planned)

pub returns-clause-on : goal.returns-clause-on
returns-clause-on c =
    let p = plan_of c.args.p.now in
    let a = c.args.who.now in
    let w = wanted_of c.args.wish.now in
    let o = c.index_mut.result.now in
    let found : slice_get c.args.objects.now.items c.args.object ≡ Some o = found_at p c.args.objects.now.items c.args.object o c.requires.sound c.requires.planned c.requires.there c.index_mut.ensures.value in
    acted_on p c.args.object a w c.args.objects.now.items o c.act_in_place.new.object (acted c.act_in_place.result c.act_in_place.new.out) found
    (subst (λ n. IsAnswer p n a w o c.act_in_place.new.object (acted c.act_in_place.result c.act_in_place.new.out)) (touched_is p a w c.args.object c.requires.touching) c.act_in_place.ensures.lead)
