use Rattle.std.proofs.Common.{◌≡◌, ◌<◌, length, arith, sym, ◌∙◌, ap, subst, Some}
use Rattle.object_kinds.specs.Layout.{place}
use Rattle.object_kinds.proofs.Placing.{place_within}
use Rattle.machine_objects.specs.Kept.{MachineState, may_start_at, may_start}
use Rattle.machine_objects.proofs.machine_object.MachineObject.may_start.Goals as goal

pub is_due-requires : goal.is_due-requires
is_due-requires c =
    let events = c.self.inside.owed.items in
    let there : place c.args.event events ≡ Some c.in-Some.place = ap (place c.args.event) (sym c.as_slice.ensures.value) ∙ sym c.find.ensures ∙ c.in-Some.is in
    let within : c.in-Some.place < length events = place_within c.args.event events c.in-Some.place there in
    let same = c.self.invariant.4 in
    omega arith

pub returns-in-Some : goal.returns-in-Some
returns-in-Some c =
    let inside = c.self.inside in
    let there : place c.args.event inside.owed.items ≡ Some c.in-Some.place = ap (place c.args.event) (sym c.as_slice.ensures.value) ∙ sym c.find.ensures ∙ c.in-Some.is in
    subst (λ (s : MachineState). c.is_due.result ≡ may_start s.kept c.args.event) c.self.view_is (c.is_due.ensures ∙ ap (λ o. may_start_at inside.machine o (place c.args.event inside.acks.items)) (sym there))

pub is_ack_due-requires : goal.is_ack_due-requires
is_ack_due-requires c =
    let events = c.self.inside.acks.items in
    let there : place c.args.event events ≡ Some c.in-Some-find.place = ap (place c.args.event) (sym c.as_slice-2.ensures.value) ∙ sym c.find-2.ensures ∙ c.in-Some-find.is in
    let within : c.in-Some-find.place < length events = place_within c.args.event events c.in-Some-find.place there in
    let same = c.self.invariant.5 in
    omega arith
