use Rattle.std.proofs.Common.{◌≡◌, ◌<◌, length, arith, sym, ◌∙◌, ap, subst, Some}
use Rattle.object_kinds.specs.Layout.{place}
use Rattle.object_kinds.proofs.Placing.{place_within}
use Rattle.queue_objects.specs.Acting.{IsTaken}
use Rattle.queue_objects.specs.Leading.{started_at}
use Rattle.queue_objects.proofs.Acting.{start_taken}
use Rattle.queue_objects.proofs.Telling.{state}
use Rattle.queue_objects.proofs.queue_group.QueueGroup.take_start.Goals as goal

pub start-requires : goal.start-requires
start-requires c =
    let events = c.self.inside.events.items in
    let there : place c.args.event events ≡ Some c.in-Some.place = ap (place c.args.event) (sym c.as_slice.ensures.value) ∙ sym c.find.ensures ∙ c.in-Some.is in
    let within : c.in-Some.place < length events = place_within c.args.event events c.in-Some.place there in
    let same = c.self.invariant.3 in
    omega arith

pub returns-in-Some : goal.returns-in-Some
returns-in-Some c =
    let inside = c.self.inside in
    let receivers = inside.receivers.items in
    let events = inside.events.items in
    let there : place c.args.event events ≡ Some c.in-Some.place = ap (place c.args.event) (sym c.as_slice.ensures.value) ∙ sym c.find.ensures ∙ c.in-Some.is in
    subst (λ old. IsTaken c.start.result old (state receivers events c.start.new.self inside.woken.items) (started_at old.kept.queued (place c.args.event old.kept.events))) c.self.view_is
    (start_taken receivers events inside.queues c.start.new.self inside.woken.items (place c.args.event events) c.in-Some.place c.start.result there c.start.ensures.pending c.start.ensures.kept)
