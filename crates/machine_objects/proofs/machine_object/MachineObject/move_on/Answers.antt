use Rattle.std.proofs.Common.{refl, sym, ◌∙◌, ap, subst}
use Rattle.bus_semantics.specs.Common.{slice_index_or, to_move_on}
use Rattle.bus_semantics.specs.declared.entries.Deed.TheVariants as deed
use Rattle.mode_machine.specs.declared.machine.Advanced.TheVariants as advanced
use Rattle.mode_machine.specs.Kept.{after_advance, is_phase}
use Rattle.object_kinds.specs.declared.acted.Shown.TheVariants.{NoSwitch, Running, Owed}
use Rattle.object_kinds.specs.Kinds.{acted}
use Rattle.machine_objects.specs.Acting.{IsActed}
use Rattle.machine_objects.proofs.Acting.{phase_leads, phase_holds}
use Rattle.machine_objects.proofs.Telling.{state, phase_tells}
use Rattle.machine_objects.proofs.machine_object.MachineObject.move_on.Goals as goal
use Rattle.machine_objects.proofs.machine_object.MachineObject.move_on.Goals.{in-Did, in-NoSwitch, in-Running, in-Owed}

pub returns : goal.returns
returns c =
    let inside = c.self.inside in
    let events = inside.owed.items in
    let acks = inside.acks.items in
    let disabled = inside.disabled.items in
    let before = inside.woken.items in
    let k = inside.machine in
    let made = c.advance in
    let old = state events acks disabled k before in
    let new = state events acks disabled made.new.self made.new.woken.items in
    subst (λ s. IsActed c.args.who.now to_move_on s new (acted c.match-advance.result c.match-advance.out)) c.self.view_is
    (elim c.match-advance.branch [
      | in-Did w ↦ subst (IsActed c.args.who.now to_move_on old new) (λ t. acted (sym w.result-is t) (sym w.out-is t))
          (phase_leads c.args.who.now events acks disabled before k w.in-Did.step made.new.self made.new.woken.items (sym w.in-Did.is ∙ made.ensures.answer) (made.ensures.kept ∙ ap (λ r. after_advance r k) w.in-Did.is)
          (phase_tells events acks disabled c.as_slice.result.now c.as_slice-2.result.now k made.new.self before made.new.woken.items c.self.invariant.0 c.self.invariant.1 c.self.invariant.3 c.as_slice.ensures.value c.as_slice-2.ensures.value
          made.ensures.woken made.ensures.acked (made.ensures.only (ap is_phase w.in-Did.is)) (deed.Phase w.in-Did.step) refl))
      | in-NoSwitch w ↦ subst (IsActed c.args.who.now to_move_on old new) (λ t. acted (sym w.result-is t) (sym w.out-is t))
          (phase_holds c.args.who.now events acks disabled before k advanced.NoSwitch made.new.self made.new.woken.items NoSwitch (sym w.in-NoSwitch.is ∙ made.ensures.answer) refl
          (made.ensures.kept ∙ ap (λ r. after_advance r k) w.in-NoSwitch.is) (ap (λ v. v.items) (made.ensures.left (ap is_phase w.in-NoSwitch.is))) refl)
      | in-Running w ↦ subst (IsActed c.args.who.now to_move_on old new) (λ t. acted (sym w.result-is t) (sym w.out-is t))
          (phase_holds c.args.who.now events acks disabled before k (advanced.Running w.in-Running.place) made.new.self made.new.woken.items (Running w.event_at.result) (sym w.in-Running.is ∙ made.ensures.answer) refl
          (made.ensures.kept ∙ ap (λ r. after_advance r k) w.in-Running.is) (ap (λ v. v.items) (made.ensures.left (ap is_phase w.in-Running.is)))
          (ap Running (w.event_at.ensures ∙ ap (λ xs. slice_index_or xs w.in-Running.place 0) w.as_slice-in-Running.ensures.value)))
      | in-Owed w ↦ subst (IsActed c.args.who.now to_move_on old new) (λ t. acted (sym w.result-is t) (sym w.out-is t))
          (phase_holds c.args.who.now events acks disabled before k (advanced.Owed w.in-Owed.place) made.new.self made.new.woken.items (Owed w.event_at-in-Owed.result) (sym w.in-Owed.is ∙ made.ensures.answer) refl
          (made.ensures.kept ∙ ap (λ r. after_advance r k) w.in-Owed.is) (ap (λ v. v.items) (made.ensures.left (ap is_phase w.in-Owed.is)))
          (ap Owed (w.event_at-in-Owed.ensures ∙ ap (λ xs. slice_index_or xs w.in-Owed.place 0) w.as_slice-in-Owed.ensures.value)))
    ])
