use Rattle.std.proofs.Common.{◌≡◌, sym, ◌∙◌, ap, subst, None, Some}
use Rattle.object_kinds.specs.Layout.{place}
use Rattle.machine_objects.specs.Acting.{IsEnded}
use Rattle.machine_objects.specs.Kept.{MachineState}
use Rattle.machine_objects.specs.Leading.{ended_at}
use Rattle.machine_objects.proofs.machine_object.MachineObject.take_end.Goals as goal

pub end_owed-requires : goal.end_owed-requires
end_owed-requires c = subst (λ (s : MachineState). place c.args.event s.kept.owed ≡ Some c.in-Some.place) c.self.view_is (ap (place c.args.event) (sym c.as_slice.ensures.value) ∙ sym c.find.ensures ∙ c.in-Some.is)

pub returns-in-Some : goal.returns-in-Some
returns-in-Some c =
    let there : place c.args.event c.args.self.now.kept.owed ≡ Some c.in-Some.place = subst (λ (s : MachineState). place c.args.event s.kept.owed ≡ Some c.in-Some.place) c.self.view_is (ap (place c.args.event) (sym c.as_slice.ensures.value) ∙ sym c.find.ensures ∙ c.in-Some.is) in
    subst (λ o. IsEnded c.end_owed.result c.args.self.now c.end_owed.new.self (ended_at c.args.self.now.kept.machine o (place c.args.event c.args.self.now.kept.disabled))) (sym there) c.end_owed.ensures

pub returns-in-None : goal.returns-in-None
returns-in-None c =
    let none : place c.args.event c.args.self.now.kept.owed ≡ None = subst (λ (s : MachineState). place c.args.event s.kept.owed ≡ None) c.self.view_is (ap (place c.args.event) (sym c.as_slice.ensures.value) ∙ sym c.find.ensures ∙ c.in-None.is) in
    subst (λ o. IsEnded c.end_disabled.result c.args.self.now c.end_disabled.new.self (ended_at c.args.self.now.kept.machine o (place c.args.event c.args.self.now.kept.disabled))) (sym none) c.end_disabled.ensures
