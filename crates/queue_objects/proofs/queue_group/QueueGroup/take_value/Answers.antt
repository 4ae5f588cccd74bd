use Rattle.std.proofs.Common.{◌≡◌, ◌<◌, length, arith, sym, ◌∙◌, ap, subst, Some}
use Rattle.bus_semantics.specs.declared.entries.Deed.TheVariants as deed
use Rattle.bus_semantics.specs.declared.entries.Entry.{Entry}
use Rattle.bus_semantics.specs.Wanted.{to_receive}
use Rattle.object_kinds.specs.Layout.{place}
use Rattle.object_kinds.proofs.Placing.{place_within}
use Rattle.queue_objects.specs.Acting.{Leads}
use Rattle.queue_objects.proofs.Acting.{receive_leads}
use Rattle.queue_objects.proofs.Telling.{state}
use Rattle.queue_objects.proofs.queue_group.QueueGroup.take_value.Goals as goal

pub receive-received-requires : goal.receive-received-requires
receive-received-requires c =
    let receivers = c.self.inside.receivers.items in
    let there : place c.args.elem receivers ≡ Some c.in-Some.receiver = ap (place c.args.elem) (sym c.as_slice.ensures.value) ∙ sym c.find.ensures ∙ c.in-Some.is in
    let within : c.in-Some.receiver < length receivers = place_within c.args.elem receivers c.in-Some.receiver there in
    let same = c.self.invariant.2 in
    omega arith

pub returns-in-Some : goal.returns-in-Some
returns-in-Some c = λ p joined.
    let inside = c.self.inside in
    let receivers = inside.receivers.items in
    let events = inside.events.items in
    let got = c.receive-received in
    let there : place c.args.elem receivers ≡ Some c.in-Some.receiver = ap (place c.args.elem) (sym c.as_slice.ensures.value) ∙ sym c.find.ensures ∙ c.in-Some.is in
    let entry : Entry = record { actor = c.args.who.now; deed = deed.Receive c.args.elem got.result.code got.result.value } in
    let filled : entry ≡ c.fill_receive.new.out = λ i. record { actor = sym c.fill_receive.ensures.actor i; deed = sym c.fill_receive.ensures.deed i } in
    subst (Leads p c.args.who.now (to_receive c.args.elem) c.args.self.now (state receivers events got.new.self inside.woken.items)) filled
    (subst (λ old. Leads p c.args.who.now (to_receive c.args.elem) old (state receivers events got.new.self inside.woken.items) entry) c.self.view_is
    (receive_leads p c.args.who.now c.args.elem receivers events inside.woken.items inside.queues c.in-Some.receiver got.new.self got.result.code got.result.value joined there got.ensures.answer got.ensures.kept))
