use Rattle.std.proofs.Common.{◌≡◌, length, sym, ◌∙◌, ap, subst, Some}
use Rattle.bus_semantics.specs.declared.entries.Deed.TheVariants as deed
use Rattle.bus_semantics.specs.declared.entries.Entry.{Entry}
use Rattle.bus_semantics.specs.Common.{plan_of, to_read}
use Rattle.object_kinds.specs.Layout.{place, members_of}
use Rattle.data_objects.specs.Acting.{Leads}
use Rattle.data_objects.specs.Kept.{GroupState}
use Rattle.data_objects.proofs.Acting.{receiver_within, read_leads}
use Rattle.data_objects.proofs.Telling.{state}
use Rattle.data_objects.proofs.group.Group.read.Goals as goal

pub value-requires : goal.value-requires
value-requires c =
    let count : length c.self.inside.unqueued.inits ≡ length (members_of (plan_of c.args.p.now) c.args.group) = ap (λ (s : GroupState). length s.kept.unqueued.inits) c.self.view_is ∙ c.requires.inits in
    receiver_within (plan_of c.args.p.now) c.args.group c.args.elem c.in-Some.receiver (length c.self.inside.unqueued.inits) (sym c.receiver.ensures ∙ c.in-Some.is) count

pub note_read-requires : goal.note_read-requires
note_read-requires c =
    let count : length c.self.inside.unqueued.inits ≡ length (members_of (plan_of c.args.p.now) c.args.group) = ap (λ (s : GroupState). length s.kept.unqueued.inits) c.self.view_is ∙ c.requires.inits in
    receiver_within (plan_of c.args.p.now) c.args.group c.args.elem c.in-Some.receiver (length c.self.inside.unqueued.inits) (sym c.receiver.ensures ∙ c.in-Some.is) count

pub returns-in-Some : goal.returns-in-Some
returns-in-Some c =
    let p = plan_of c.args.p.now in
    let inside = c.self.inside in
    let events = inside.events.items in
    let woken = inside.woken.items in
    let there : place c.args.elem (members_of p c.args.group) ≡ Some c.in-Some.receiver = sym c.receiver.ensures ∙ c.in-Some.is in
    let entry : Entry = record { actor = c.args.who.now; deed = deed.Read c.args.elem c.code_for-code.result c.value.result.now } in
    let filled : entry ≡ c.fill_read.new.out = λ i. record { actor = sym c.fill_read.ensures.actor i; deed = sym c.fill_read.ensures.deed i } in
    subst (λ e. Leads p c.args.group c.args.who.now (to_read c.args.elem) c.args.self.now (state events c.note_read.new.self woken) e) filled
    (subst (λ old. Leads p c.args.group c.args.who.now (to_read c.args.elem) old (state events c.note_read.new.self woken) entry) c.self.view_is
    (read_leads p c.args.group c.args.who.now c.args.elem c.in-Some.receiver events woken inside.unqueued there c.note_read.new.self c.code_for-code.result c.value.result.now c.value.ensures
    c.code_for-code.ensures c.note_read.ensures))
