use Rattle.std.proofs.Common.{◌≡◌, length, sym, ◌∙◌, ap, subst, Some}
use Rattle.bus_semantics.specs.declared.entries.Deed.TheVariants as deed
use Rattle.bus_semantics.specs.declared.entries.Entry.{Entry}
use Rattle.bus_semantics.specs.Common.{plan_of, to_fetch}
use Rattle.object_kinds.specs.Layout.{place, members_of}
use Rattle.data_objects.specs.Acting.{Leads}
use Rattle.data_objects.specs.Kept.{GroupState}
use Rattle.data_objects.proofs.Acting.{receiver_within, fetch_leads}
use Rattle.data_objects.proofs.group.Group.fetch.Goals as goal

pub fetch-requires : goal.fetch-requires
fetch-requires c =
    let count : length c.self.inside.unqueued.inits ≡ length (members_of (plan_of c.args.p.now) c.args.group) = ap (λ (s : GroupState). length s.kept.unqueued.inits) c.self.view_is ∙ c.requires.inits in
    receiver_within (plan_of c.args.p.now) c.args.group c.args.elem c.in-Some.receiver (length c.self.inside.unqueued.inits) (sym c.receiver.ensures ∙ c.in-Some.is) count

pub returns-in-Some : goal.returns-in-Some
returns-in-Some c =
    let p = plan_of c.args.p.now in
    let inside = c.self.inside in
    let events = inside.events.items in
    let woken = inside.woken.items in
    let there : place c.args.elem (members_of p c.args.group) ≡ Some c.in-Some.receiver = sym c.receiver.ensures ∙ c.in-Some.is in
    let entry : Entry = record { actor = c.args.who.now; deed = deed.Fetch c.args.elem c.fetch.result } in
    subst (λ old. Leads p c.args.group c.args.who.now (to_fetch c.args.elem) old old entry) c.self.view_is (fetch_leads p c.args.group c.args.who.now c.args.elem c.in-Some.receiver events woken inside.unqueued there c.fetch.result c.fetch.ensures)
