use Rattle.std.proofs.Common.{◌≡◌, ◌<◌, [], ◌∷◌, ◌++◌, length, arith, true, sym, ◌∙◌, ap, subst, None, Some}
use Rattle.object_kinds.specs.Layout.{place}
use Rattle.object_kinds.proofs.Placing.{place_within}
use Rattle.machine_objects.specs.Acting.{IsEnded}
use Rattle.machine_objects.specs.Kept.{MachineState}
use Rattle.machine_objects.specs.Leading.{ended_at}
use Rattle.machine_objects.proofs.Ending.{owed_ended}
use Rattle.machine_objects.proofs.Telling.{none_acked, state}
use Rattle.machine_objects.proofs.machine_object.MachineObject.end_owed.Goals as goal

pub end_owed-has_ended-requires : goal.end_owed-has_ended-requires
end_owed-has_ended-requires c =
    let events = c.self.inside.owed.items in
    let there : place c.args.event events ≡ Some c.args.at = subst (λ (s : MachineState). place c.args.event s.kept.owed ≡ Some c.args.at) (sym c.self.view_is) c.requires in
    let within : c.args.at < length events = place_within c.args.event events c.args.at there in
    let same = c.self.invariant.4 in
    omega arith

pub returns-then-is_due : goal.returns-then-is_due
returns-then-is_due c =
    let inside = c.self.inside in
    let events = inside.owed.items in
    let acks = inside.acks.items in
    let disabled = inside.disabled.items in
    let k = inside.machine in
    let ended = c.end_owed-has_ended in
    let new = state events acks disabled ended.new.self c.push_reserved.new.self.items in
    let there : place c.args.event events ≡ Some c.args.at = subst (λ (s : MachineState). place c.args.event s.kept.owed ≡ Some c.args.at) (sym c.self.view_is) c.requires in
    let told : c.push_reserved.new.self.items ≡ c.args.event ∷ [] = c.push_reserved.ensures.items ∙ ap (λ xs. xs ++ c.args.event ∷ []) c.clear.ensures.items in
    subst (λ (s : MachineState). IsEnded ended.result s new (ended_at s.kept.machine (Some c.args.at) None)) c.self.view_is
    (subst (λ b. IsEnded b (state events acks disabled k inside.woken.items) new (ended_at k (Some c.args.at) None)) (sym c.if-has_ended.true)
    (owed_ended events acks disabled inside.woken.items k c.args.event c.args.at there (none_acked events acks c.args.event c.args.at c.self.invariant.3 there) ended.new.self ended.ensures.kept c.push_reserved.new.self.items true
    (sym c.if-has_ended.true ∙ ended.ensures.answer) (sym c.if-is_due.true ∙ c.is_due.ensures) told))
