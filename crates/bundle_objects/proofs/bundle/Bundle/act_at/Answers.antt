use Rattle.std.proofs.Common.{◌≡◌, refl, ◌<◌, length, set, sym, ◌∙◌, ap, subst, arith, Some}
use Rattle.bus_semantics.specs.Common.{slice_get, length-map, plan_of, wanted_of}
use Rattle.object_kinds.specs.Common.{acted}
use Rattle.object_kinds.proofs.Filling.{not_filled}
use Rattle.object_kinds.proofs.Lists.{mapped_at}
use Rattle.data_objects.specs.Kept.{GroupState}
use Rattle.bundle_objects.specs.Acting.{IsPartActed}
use Rattle.bundle_objects.specs.Kept.{BundleState}
use Rattle.bundle_objects.proofs.Coded.{kept_of, view_by, group_found, part_acted}
use Rattle.bundle_objects.proofs.bundle.Bundle.act_at.Goals as goal

pub act_in_group-requires-clause-planned : goal.act_in_group-requires-clause-planned
act_in_group-requires-clause-planned c = λ group seen.
    let i = c.self.inside in
    c.requires.planned group c.index_mut.result.now.kept
    (ap (λ (s : BundleState). slice_get s.kept.parts c.args.place) (sym c.self.view_is) ∙ mapped_at kept_of i.groups.items c.args.place c.index_mut.result.now (group_found i.groups.items c.args.place c.index_mut.result.now c.args.self.now (view_by i.numbers.items i.events.items i.places.items i.groups.items i.woken.items i.woken.cap) refl c.self.view_is c.requires.within c.index_mut.ensures.value)) seen

pub returns : goal.returns
returns c =
    let p = plan_of c.args.p.now in
    let a = c.args.who.now in
    let w = wanted_of c.args.wish.now in
    let i = c.self.inside in
    let room = i.woken.cap in
    subst (λ old. IsPartActed p c.args.place a w old (view_by i.numbers.items i.events.items i.places.items (set i.groups.items c.args.place c.act_in_group.new.self) i.woken.items room) (acted c.act_in_group.result c.act_in_group.new.out)) c.self.view_is
    (part_acted p a w i.numbers.items i.events.items i.places.items i.groups.items i.woken.items room c.args.place c.index_mut.result.now c.act_in_group.new.self (acted c.act_in_group.result c.act_in_group.new.out) (group_found i.groups.items c.args.place c.index_mut.result.now c.args.self.now (view_by i.numbers.items i.events.items i.places.items i.groups.items i.woken.items i.woken.cap) refl c.self.view_is c.requires.within c.index_mut.ensures.value)
    c.act_in_group.ensures.planned c.act_in_group.ensures.answer (λ group inside shown is. c.act_in_group.ensures.same group inside shown (not_filled c.act_in_group.result c.act_in_group.new.out shown is)))
