use Rattle.std.proofs.Common.{◌≡◌, length, sym, ◌∙◌, ap, subst, Some}
use Rattle.bus_semantics.specs.declared.entries.Deed.TheVariants as deed
use Rattle.bus_semantics.specs.declared.entries.Entry.{Entry}
use Rattle.bus_semantics.specs.Common.{plan_of, to_see_updated}
use Rattle.object_kinds.specs.Layout.{place, members_of}
use Rattle.data_objects.specs.Acting.{Leads}
use Rattle.data_objects.specs.Kept.{GroupState}
use Rattle.data_objects.proofs.Acting.{receiver_within, look_leads}
use Rattle.data_objects.proofs.group.Group.is_updated.Goals as goal

pub is_updated-requires : goal.is_updated-requires
is_updated-requires c =
    let count : length c.self.inside.unqueued.inits ≡ length (members_of (plan_of c.args.p.now) c.args.group) = ap (λ (s : GroupState). length s.kept.unqueued.inits) c.self.view_is ∙ c.requires.inits in
    receiver_within (plan_of c.args.p.now) c.args.group c.args.elem c.in-Some.receiver (length c.self.inside.unqueued.inits) (sym c.receiver.ensures ∙ c.in-Some.is) count

pub returns-in-Some : goal.returns-in-Some
returns-in-Some c =
    let p = plan_of c.args.p.now in
    let inside = c.self.inside in
    let events = inside.events.items in
    let woken = inside.woken.items in
    let there : place c.args.elem (members_of p c.args.group) ≡ Some c.in-Some.receiver = sym c.receiver.ensures ∙ c.in-Some.is in
    let entry : Entry = record { actor = c.args.who.now; deed = deed.IsUpdated c.args.elem c.is_updated.result } in
    subst (λ old. Leads p c.args.group c.args.who.now (to_see_updated c.args.elem) old old entry) c.self.view_is (look_leads p c.args.group c.args.who.now c.args.elem c.in-Some.receiver events woken inside.unqueued there c.is_updated.result c.is_updated.ensures)
