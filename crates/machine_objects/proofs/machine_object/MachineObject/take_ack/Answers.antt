use Rattle.std.proofs.Common.{◌≡◌, ◌<◌, length, arith, sym, ◌∙◌, ap, subst, None, Some}
use Rattle.object_kinds.specs.Layout.{place}
use Rattle.object_kinds.proofs.Placing.{place_within}
use Rattle.machine_objects.specs.Acting.{IsTaken}
use Rattle.machine_objects.specs.Kept.{MachineState}
use Rattle.machine_objects.specs.Leading.{started_at}
use Rattle.machine_objects.proofs.Acting.{ack_taken}
use Rattle.machine_objects.proofs.Telling.{state}
use Rattle.machine_objects.proofs.machine_object.MachineObject.take_ack.Goals as goal

pub start_ack-requires : goal.start_ack-requires
start_ack-requires c =
    let events = c.self.inside.acks.items in
    let there : place c.args.event events ≡ Some c.in-Some.place = ap (place c.args.event) (sym c.as_slice.ensures.value) ∙ sym c.find.ensures ∙ c.in-Some.is in
    let within : c.in-Some.place < length events = place_within c.args.event events c.in-Some.place there in
    let same = c.self.invariant.5 in
    omega arith

pub returns-in-Some : goal.returns-in-Some
returns-in-Some c =
    let inside = c.self.inside in
    let there : place c.args.event inside.acks.items ≡ Some c.in-Some.place = ap (place c.args.event) (sym c.as_slice.ensures.value) ∙ sym c.find.ensures ∙ c.in-Some.is in
    let new = state inside.owed.items inside.acks.items inside.disabled.items c.start_ack.new.self inside.woken.items in
    subst (λ (s : MachineState). IsTaken c.start_ack.result s new (started_at s.kept.machine None (place c.args.event s.kept.acks))) c.self.view_is
    (subst (λ o. IsTaken c.start_ack.result (state inside.owed.items inside.acks.items inside.disabled.items inside.machine inside.woken.items) new (started_at inside.machine None o)) (sym there)
    (ack_taken inside.owed.items inside.acks.items inside.disabled.items inside.woken.items inside.machine c.in-Some.place c.start_ack.result c.start_ack.new.self c.start_ack.ensures.pending c.start_ack.ensures.kept))
