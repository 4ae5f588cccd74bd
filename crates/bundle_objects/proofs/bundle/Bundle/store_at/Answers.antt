use Rattle.std.proofs.Common.{◌≡◌, refl, ◌<◌, ◌≤◌, ◌+◌, not, count_by, length, set, sym, ◌∙◌, ap, subst, arith, Some}
use Rattle.std.specs.Prelude.{sum_by}
use Rattle.bus_semantics.specs.Common.{slice_get, length-map}
use Rattle.bundle_objects.specs.Acting.{Adds}
use Rattle.bundle_objects.specs.Kept.{BundleState, clear_in}
use Rattle.bundle_objects.specs.Leading.{store_at}
use Rattle.bundle_objects.specs.Plans.{IsOfPlan}
use Rattle.bundle_objects.proofs.Coded.{view_by, group_found, clear_of, part_stored, part_counted, part_adds}
use Rattle.bundle_objects.proofs.bundle.Bundle.store_at.Goals as goal

pub publish_and_add-requires : goal.publish_and_add-requires
publish_and_add-requires c =
    let i = c.self.inside in
    record {
      room = omega (
        arith,
        c.requires.room,
        ap (λ (s : BundleState). length s.woken + clear_in s.kept) c.self.view_is,
        ap (λ (s : BundleState). s.room) c.self.view_is,
        clear_of i.numbers.items i.events.items i.places.items i.groups.items c.args.place c.index_mut.result.now (group_found i.groups.items c.args.place c.index_mut.result.now c.args.self.now (view_by i.numbers.items i.events.items i.places.items i.groups.items i.woken.items i.woken.cap) refl c.self.view_is c.requires.within c.index_mut.ensures.value),
      );
    }

pub returns-clause-kept : goal.returns-clause-kept
returns-clause-kept c =
    let i = c.self.inside in
    part_stored i.numbers.items i.events.items i.places.items i.groups.items c.args.place c.args.value.now c.index_mut.result.now c.publish_and_add.new.self (group_found i.groups.items c.args.place c.index_mut.result.now c.args.self.now (view_by i.numbers.items i.events.items i.places.items i.groups.items i.woken.items i.woken.cap) refl c.self.view_is c.requires.within c.index_mut.ensures.value) c.publish_and_add.ensures.events c.publish_and_add.ensures.stored
    ∙ ap (λ (s : BundleState). store_at s.kept c.args.value.now (Some c.args.place)) c.self.view_is

pub returns-clause-room : goal.returns-clause-room
returns-clause-room c =
    let i = c.self.inside in
    let counted = part_counted i.numbers.items i.events.items i.places.items i.groups.items c.args.place c.args.value.now c.index_mut.result.now c.publish_and_add.new.self (group_found i.groups.items c.args.place c.index_mut.result.now c.args.self.now (view_by i.numbers.items i.events.items i.places.items i.groups.items i.woken.items i.woken.cap) refl c.self.view_is c.requires.within c.index_mut.ensures.value) c.publish_and_add.ensures.events c.publish_and_add.ensures.stored
    i.woken.items c.publish_and_add.new.woken.items c.publish_and_add.ensures.room in
    omega (arith, counted, c.requires.room, ap (λ (s : BundleState). length s.woken + clear_in s.kept) c.self.view_is, ap (λ (s : BundleState). s.room) c.self.view_is, c.publish_and_add.ensures.capacity)

pub returns-clause-adds : goal.returns-clause-adds
returns-clause-adds c = λ p b planned.
    let i = c.self.inside in
    let new = c.publish_and_add.new.self in
    let told = c.publish_and_add.new.woken.items in
    let adds = part_adds i.numbers.items i.events.items i.places.items i.groups.items c.args.place c.args.value.now c.index_mut.result.now new (group_found i.groups.items c.args.place c.index_mut.result.now c.args.self.now (view_by i.numbers.items i.events.items i.places.items i.groups.items i.woken.items i.woken.cap) refl c.self.view_is c.requires.within c.index_mut.ensures.value) c.publish_and_add.ensures.events c.publish_and_add.ensures.stored p b
    (subst (λ (s : BundleState). IsOfPlan p b s.kept) (sym c.self.view_is) planned) i.woken.items told i.woken.cap c.publish_and_add.ensures.told c.publish_and_add.ensures.stayed c.publish_and_add.ensures.only c.publish_and_add.ensures.room in
    subst (λ old. Adds old (view_by i.numbers.items i.events.items i.places.items (set i.groups.items c.args.place new) told c.publish_and_add.new.woken.cap)) c.self.view_is
    (subst (λ n. Adds (view_by i.numbers.items i.events.items i.places.items i.groups.items i.woken.items i.woken.cap) (view_by i.numbers.items i.events.items i.places.items (set i.groups.items c.args.place new) told n)) (sym c.publish_and_add.ensures.capacity) adds)
