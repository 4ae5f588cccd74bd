use Rattle.std.proofs.Common.{◌≡◌, sym, subst}
use Rattle.bus_semantics.specs.Common.{words_of, to_send}
use Rattle.bus_semantics.specs.declared.entries.Deed.TheVariants as deed
use Rattle.bus_semantics.specs.declared.entries.Entry.{Entry}
use Rattle.queue_objects.specs.Acting.{Leads}
use Rattle.queue_objects.proofs.Acting.{send_leads}
use Rattle.queue_objects.proofs.Telling.{state}
use Rattle.queue_objects.proofs.queue_group.QueueGroup.send.Goals as goal

pub returns : goal.returns
returns c = λ p.
    let inside = c.self.inside in
    let receivers = inside.receivers.items in
    let events = inside.events.items in
    let sent = c.send-code in
    let new = state receivers events sent.new.self sent.new.woken.items in
    let entry : Entry = record { actor = c.args.who.now; deed = deed.Send c.args.elem c.args.value.now sent.result } in
    let filled : entry ≡ c.fill_send.new.out = λ i. record { actor = sym c.fill_send.ensures.actor i; deed = sym c.fill_send.ensures.deed i } in
    subst (Leads p c.args.who.now (to_send c.args.elem (words_of c.args.value.now)) c.args.self.now new) filled
    (subst (λ old. Leads p c.args.who.now (to_send c.args.elem (words_of c.args.value.now)) old new entry) c.self.view_is
    (send_leads p c.args.who.now c.args.elem receivers events inside.woken.items inside.queues c.as_slice.result.now sent.new.woken.items sent.new.self sent.result c.args.value.now
    c.self.invariant.1 c.as_slice.ensures.value sent.ensures.answer sent.ensures.kept sent.ensures.woken sent.ensures.only))
