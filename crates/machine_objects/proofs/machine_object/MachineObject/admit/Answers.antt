use Rattle.std.proofs.Common.{◌≡◌, ◌<◌, length, arith, sym, ◌∙◌, ap, subst, None, Some}
use Rattle.bus_semantics.specs.Wanted.{to_admit}
use Rattle.object_kinds.specs.declared.acted.Acted.TheVariants.{NotYet}
use Rattle.object_kinds.specs.declared.acted.Shown.TheVariants.{Unmatched}
use Rattle.object_kinds.specs.Common.{acted, place}
use Rattle.object_kinds.proofs.Placing.{place_within}
use Rattle.machine_objects.specs.Acting.{IsActed}
use Rattle.machine_objects.specs.Kept.{MachineState}
use Rattle.machine_objects.proofs.Acting.{admit_acts, admit_holds}
use Rattle.machine_objects.proofs.Telling.{state}
use Rattle.machine_objects.proofs.machine_object.MachineObject.admit.Goals as goal

pub admit-requires : goal.admit-requires
admit-requires c =
    let events = c.self.inside.disabled.items in
    let there : place c.args.event events ≡ Some c.in-Some.place = ap (place c.args.event) (sym c.as_slice.ensures.value) ∙ sym c.find.ensures ∙ c.in-Some.is in
    let within : c.in-Some.place < length events = place_within c.args.event events c.in-Some.place there in
    let same = c.self.invariant.6 in
    omega arith

pub returns-in-Some : goal.returns-in-Some
returns-in-Some c =
    let inside = c.self.inside in
    let there : place c.args.event inside.disabled.items ≡ Some c.in-Some.place = ap (place c.args.event) (sym c.as_slice.ensures.value) ∙ sym c.find.ensures ∙ c.in-Some.is in
    let new = state inside.owed.items inside.acks.items inside.disabled.items c.admit.new.self inside.woken.items in
    subst (λ (s : MachineState). IsActed c.args.who.now (to_admit c.args.event) s new (acted c.admission.result c.admission.new.out)) c.self.view_is
    (subst (IsActed c.args.who.now (to_admit c.args.event) (state inside.owed.items inside.acks.items inside.disabled.items inside.machine inside.woken.items) new) (sym c.admission.ensures)
    (admit_acts c.args.who.now inside.owed.items inside.acks.items inside.disabled.items inside.woken.items inside.machine c.args.event c.in-Some.place c.admit.result c.admit.new.self there c.admit.ensures.answer c.admit.ensures.kept))

pub returns-in-None : goal.returns-in-None
returns-in-None c =
    let inside = c.self.inside in
    let none : place c.args.event inside.disabled.items ≡ None = ap (place c.args.event) (sym c.as_slice.ensures.value) ∙ sym c.find.ensures ∙ c.in-None.is in
    subst (λ (s : MachineState). IsActed c.args.who.now (to_admit c.args.event) s s (NotYet Unmatched)) c.self.view_is
    (admit_holds c.args.who.now inside.owed.items inside.acks.items inside.disabled.items inside.woken.items inside.machine c.args.event none)
