use Rattle.std.proofs.Common.{◌≡◌, ◌<◌, length, arith, sym, ◌∙◌, ap, subst, None, Some}
use Rattle.object_kinds.specs.Layout.{place}
use Rattle.object_kinds.proofs.Placing.{place_within}
use Rattle.machine_objects.specs.Acting.{IsTaken}
use Rattle.machine_objects.specs.Kept.{MachineState}
use Rattle.machine_objects.specs.Leading.{started_at}
use Rattle.machine_objects.proofs.Acting.{owed_taken}
use Rattle.machine_objects.proofs.Telling.{state}
use Rattle.machine_objects.proofs.machine_object.MachineObject.take_start.Goals as goal

pub start_owed-requires : goal.start_owed-requires
start_owed-requires c =
    let events = c.self.inside.owed.items in
    let there : place c.args.event events ≡ Some c.in-Some.place = ap (place c.args.event) (sym c.as_slice.ensures.value) ∙ sym c.find.ensures ∙ c.in-Some.is in
    let within : c.in-Some.place < length events = place_within c.args.event events c.in-Some.place there in
    let same = c.self.invariant.4 in
    omega arith

pub returns-in-Some : goal.returns-in-Some
returns-in-Some c =
    let inside = c.self.inside in
    let there : place c.args.event inside.owed.items ≡ Some c.in-Some.place = ap (place c.args.event) (sym c.as_slice.ensures.value) ∙ sym c.find.ensures ∙ c.in-Some.is in
    let within : c.in-Some.place < length inside.owed.items = place_within c.args.event inside.owed.items c.in-Some.place there in
    let same = c.self.invariant.4 in
    let new = state inside.owed.items inside.acks.items inside.disabled.items c.start_owed.new.self inside.woken.items in
    subst (λ (s : MachineState). IsTaken c.start_owed.result s new (started_at s.kept.machine (place c.args.event s.kept.owed) (place c.args.event s.kept.acks))) c.self.view_is
    (subst (λ o. IsTaken c.start_owed.result (state inside.owed.items inside.acks.items inside.disabled.items inside.machine inside.woken.items) new (started_at inside.machine o (place c.args.event inside.acks.items))) (sym there)
    (owed_taken inside.owed.items inside.acks.items inside.disabled.items inside.woken.items inside.machine c.in-Some.place (place c.args.event inside.acks.items) c.start_owed.result c.start_owed.new.self c.start_owed.ensures.answer c.start_owed.ensures.kept (omega arith)))

pub returns-in-None : goal.returns-in-None
returns-in-None c =
    let inside = c.self.inside in
    let none : place c.args.event c.args.self.now.kept.owed ≡ None = subst (λ (s : MachineState). place c.args.event s.kept.owed ≡ None) c.self.view_is (ap (place c.args.event) (sym c.as_slice.ensures.value) ∙ sym c.find.ensures ∙ c.in-None.is) in
    subst (λ o. IsTaken c.take_ack.result c.args.self.now c.take_ack.new.self (started_at c.args.self.now.kept.machine o (place c.args.event c.args.self.now.kept.acks))) (sym none) c.take_ack.ensures
