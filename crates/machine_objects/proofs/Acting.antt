-- What the calls of a machine answer is what the lead gives.
use Rattle.std.proofs.Common.{◌≡◌, ◌<◌, ℕ, Bool, true, false, if◌then◌else◌, refl, sym, ◌∙◌, ap, List, [], length, set, Option, Some, None}
use Rattle.std.specs.Prelude.{unwrap_or, option_map}
use Rattle.bus_semantics.specs.Common.{slice_get, eq-eqb, false≢true, slice_get-get_or, Value, Step, words_of, same_words-Decides, Wanted, to_start, to_switch, to_see_mode, to_move_on}
use Rattle.bus_semantics.specs.Common.{to_admit, to_end, wanted_by, event_of, noted_for}
use Rattle.rte_value.specs.declared.kinds.Step.TheVariants as step
use Rattle.bus_semantics.specs.declared.entries.Actor.{Actor}
use Rattle.bus_semantics.specs.declared.entries.Deed.{Deed}
use Rattle.bus_semantics.specs.declared.entries.Deed.TheVariants as deed
use Rattle.mode_machine.specs.declared.disabling.Admitted.{Admitted}
use Rattle.mode_machine.specs.declared.disabling.Admitted.TheVariants.{Yes, No, Runs}
use Rattle.mode_machine.specs.declared.machine.Advanced.{Advanced}
use Rattle.mode_machine.specs.declared.machine.Advanced.TheVariants as advanced
use Rattle.mode_machine.specs.Kept as machines
use Rattle.mode_machine.specs.Owed as owed
use Rattle.object_kinds.specs.declared.acted.Shown.{Shown}
use Rattle.object_kinds.specs.declared.acted.Shown.TheVariants.{NotDue, Unmatched}
use Rattle.object_kinds.specs.Common.{place, given}
use Rattle.object_kinds.proofs.Lists.{set_same}
use Rattle.object_kinds.proofs.Options.{given_none}
use Rattle.machine_objects.specs.Acting.{is_bare, Tells, Leads, Holds, IsActed, IsTaken, IsEnded, admission_by}
use Rattle.machine_objects.specs.Kept.{Kept, MachineState}
use Rattle.machine_objects.specs.Leading.{same_step, is_made, is_answered, started_at, admitted_at, ended_at, lead_of_machine, with_machine, lead, why_no_phase, wakes}
use Rattle.machine_objects.proofs.Starting.{wakes_nothing}
use Rattle.machine_objects.proofs.Telling.{state, none_tells}

-- ---- entries of a wish

same_itself : (s : Step) → same_step s s ≡ true
same_itself (step.Close mode) = eq-eqb mode mode refl
same_itself step.Exit = refl
same_itself step.Transition = refl
same_itself step.Entry = refl
same_itself step.Stable = refl

starts_by : (k : Kept) (event : Option ℕ) (d : Deed) (by e : ℕ) → wanted_by by d ≡ to_start e → lead_of_machine k event d ≡ started_at k.machine (place e k.owed) (place e k.acks)
starts_by k event (deed.Start f point value) by e same = let is : f ≡ e = cc in rw is refl
starts_by k event d by e same = absurd (cc same)

-- a phase that was not made
not_made : (s : Step) (r : Advanced) → machines.is_phase r ≡ false → is_made s r ≡ false
not_made s (advanced.Did t) none = absurd (false≢true (sym none))
not_made s advanced.NoSwitch none = refl
not_made s (advanced.Running d) none = refl
not_made s (advanced.Owed e) none = refl

none_moves : (k : Kept) (event : Option ℕ) (d : Deed) (by : ℕ) → machines.is_phase (machines.answer_to_advance k.machine) ≡ false → wanted_by by d ≡ to_move_on → lead_of_machine k event d ≡ None
none_moves k event (deed.Phase s) by none same = given_none (is_made s (machines.answer_to_advance k.machine)) (machines.after_step s k.machine) (not_made s (machines.answer_to_advance k.machine) none)
none_moves k event d by none same = absurd (cc same)

none_admits : (k : Kept) (event : Option ℕ) (d : Deed) (e : ℕ) → ((answer : Bool) → admitted_at answer k.machine (place e k.disabled) ≡ None) → wanted_by (unwrap_or event 0) d ≡ to_admit e → lead_of_machine k event d ≡ None
none_admits k None (deed.Admit answer) e none same = refl
none_admits k (Some f) (deed.Admit answer) e none same = let is : f ≡ e = cc in ap (λ z. admitted_at answer k.machine (place z k.disabled)) is ∙ none answer
none_admits k event d e none same = absurd (cc same)

none_ends : (k : Kept) (event : Option ℕ) (d : Deed) (e : ℕ) → ended_at k.machine (place e k.owed) (place e k.disabled) ≡ None → wanted_by (unwrap_or event 0) d ≡ to_end e → lead_of_machine k event d ≡ None
none_ends k None deed.End e none same = refl
none_ends k (Some f) deed.End e none same = let is : f ≡ e = cc in ap (λ z. ended_at k.machine (place z k.owed) (place z k.disabled)) is ∙ none
none_ends k event d e none same = absurd (cc same)

-- ---- starts

module _ (events acks disabled woken : List ℕ) (k : machines.Kept) where
  pub owed_taken : (i : ℕ) (r : Option ℕ) (started : Bool) (new : machines.Kept) → started ≡ owed.may_start (machines.owed_at i k) → new ≡ machines.after_owed i owed.after_owed_start k → i < length k.owed
      → IsTaken started (state events acks disabled k woken) (state events acks disabled new woken) (started_at k (Some i) r)
  owed_taken i r started new is next within = by_started started is
    where
      by_started : (b : Bool) → b ≡ owed.may_start (machines.owed_at i k) → IsTaken b (state events acks disabled k woken) (state events acks disabled new woken) (started_at k (Some i) r)
      by_started true may = (ap (λ b. given b (machines.after_owed i owed.after_owed_start k)) (sym may) ∙ ap (λ z. Some z) (sym next), refl, refl)
      by_started false may = (
        ap (λ b. given b (machines.after_owed i owed.after_owed_start k)) (sym may),
        ap (λ z. state events acks disabled z woken) (next ∙ ap (λ o. machines.with_owed (set k.owed i o) k)
            (ap (λ b. if b then record { moment = (machines.owed_at i k).moment; due = false; running = true; begun = true; left = (machines.owed_at i k).left } else machines.owed_at i k) (sym may))
            ∙ ap (λ os. machines.with_owed os k) (set_same k.owed i (machines.owed_at i k) (slice_get-get_or k.owed i owed.idle_event within))),
      )

  pub ack_taken : (i : ℕ) (started : Bool) (new : machines.Kept) → Some started ≡ slice_get k.acks i → new ≡ machines.with_acks (set k.acks i false) k
      → IsTaken started (state events acks disabled k woken) (state events acks disabled new woken) (started_at k None (Some i))
  ack_taken i true new is next = (rw (← is) (ap (λ z. Some z) (sym next)), refl, refl)
  ack_taken i false new is next = (
    rw (← is) refl,
    ap (λ z. state events acks disabled z woken) (next ∙ ap (λ flags. machines.with_acks flags k) (set_same k.acks i false (sym is))),
  )

-- ---- what the machine's calls give

module _ (a : Actor) (events acks disabled woken : List ℕ) (k : machines.Kept) where
  abbrev kept : Kept
  kept = record { owed = events; acks = acks; disabled = disabled; machine = k }

  -- an entry that wakes nothing
  quiet_leads : (w : Wanted) (d : Deed) (new : machines.Kept) → wanted_by (unwrap_or (event_of w) 0) d ≡ w → is_bare d ≡ true → wakes d ≡ false → lead_of_machine kept (event_of w) d ≡ Some new
      → Leads a w (state events acks disabled k woken) (state events acks disabled new woken) (record { actor = a; deed = d })
  quiet_leads w d new wish bare quiet leads =
      let led : lead kept (noted_for w (record { actor = a; deed = d })) ≡ Some (with_machine kept new) = ap (option_map (with_machine kept)) leads in
      record {
        actor = refl;
        wish = wish;
        bare = bare;
        leads = led;
        told = none_tells (state events acks disabled k woken) (state events acks disabled new woken) d quiet refl (λ event off. wakes_nothing kept (with_machine kept new) (noted_for w (record { actor = a; deed = d })) led quiet event off);
      }

  pub switch_leads : (n mode code : ℕ) (new : machines.Kept) → code ≡ machines.answer_to_switch k → new ≡ machines.after_switch mode k
      → Leads a (to_switch n mode) (state events acks disabled k woken) (state events acks disabled new woken) (record { actor = a; deed = deed.Switch n mode code })
  switch_leads n mode code new is next = quiet_leads (to_switch n mode) (deed.Switch n mode code) new refl refl refl
      (ap (λ b. given b (machines.after_switch mode k)) (eq-eqb code (machines.answer_to_switch k) is) ∙ ap (λ z. Some z) (sym next))

  pub mode_leads : (port mode : ℕ) → mode ≡ machines.mode_of k → Leads a (to_see_mode port) (state events acks disabled k woken) (state events acks disabled k woken) (record { actor = a; deed = deed.Mode port mode })
  mode_leads port mode is = quiet_leads (to_see_mode port) (deed.Mode port mode) k refl refl refl (ap (λ b. given b k) (eq-eqb mode (machines.mode_of k) is))

  pub phase_leads : (s : Step) (new : machines.Kept) (told : List ℕ) → advanced.Did s ≡ machines.answer_to_advance k → new ≡ machines.after_step s k → Tells (state events acks disabled k woken) (state events acks disabled new told) (deed.Phase s)
      → Leads a to_move_on (state events acks disabled k woken) (state events acks disabled new told) (record { actor = a; deed = deed.Phase s })
  phase_leads s new told is next tells = record {
    actor = refl;
    wish = refl;
    bare = refl;
    leads = ap (option_map (with_machine kept))
        (ap (λ r. given (is_made s r) (machines.after_step s k)) (sym is) ∙ ap (λ b. given b (machines.after_step s k)) (same_itself s) ∙ ap (λ z. Some z) (sym next));
    told = tells;
  }

  pub phase_holds : (r : Advanced) (new : machines.Kept) (told : List ℕ) (shown : Shown) → r ≡ machines.answer_to_advance k → machines.is_phase r ≡ false → new ≡ machines.after_advance r k → told ≡ woken → shown ≡ why_no_phase kept r
      → Holds to_move_on (state events acks disabled k woken) (state events acks disabled new told) shown
  phase_holds r new told shown is none next left why = record {
    why = why ∙ ap (why_no_phase kept) is;
    same = λ i. state events acks disabled ((next ∙ stays r none) i) (left i);
    none = λ n wish. ap (option_map (with_machine kept)) (none_moves kept n.event n.entry.deed (unwrap_or n.event 0) (ap machines.is_phase (sym is) ∙ none) wish);
  }
    where
      stays : (o : Advanced) → machines.is_phase o ≡ false → machines.after_advance o k ≡ k
      stays (advanced.Did t) off = absurd (false≢true (sym off))
      stays advanced.NoSwitch off = refl
      stays (advanced.Running d) off = refl
      stays (advanced.Owed e) off = refl

  -- ---- admissions

  pub admit_acts : (e d : ℕ) (r : Admitted) (new : machines.Kept) → place e disabled ≡ Some d → r ≡ machines.answer_to_admit d k → new ≡ machines.after_admit d k
      → IsActed a (to_admit e) (state events acks disabled k woken) (state events acks disabled new woken) (admission_by a r)
  admit_acts e d r new there is next = by_answer r is
    where
      by_answer : (o : Admitted) → o ≡ machines.answer_to_admit d k → IsActed a (to_admit e) (state events acks disabled k woken) (state events acks disabled new woken) (admission_by a o)
      by_answer Yes let_in = quiet_leads (to_admit e) (deed.Admit true) new refl refl refl
          (ap (admitted_at true k) there ∙ ap (λ o. given (is_answered true o) (machines.after_admit d k)) (sym let_in) ∙ ap (λ z. Some z) (sym next))
      by_answer No dropped = quiet_leads (to_admit e) (deed.Admit false) new refl refl refl
          (ap (admitted_at false k) there ∙ ap (λ o. given (is_answered false o) (machines.after_admit d k)) (sym dropped) ∙ ap (λ z. Some z) (sym next))
      by_answer Runs runs = record {
        why = refl;
        same = ap (λ z. state events acks disabled z woken) (next ∙ ap (λ o. machines.admitted_by o d k) (sym runs));
        none = λ n wish. ap (option_map (with_machine kept)) (none_admits kept n.event n.entry.deed e (λ answer. ap (admitted_at answer k) there ∙ ap (λ o. given (is_answered answer o) (machines.after_admit d k)) (sym runs)) wish);
      }

  pub admit_holds : (e : ℕ) → place e disabled ≡ None → Holds (to_admit e) (state events acks disabled k woken) (state events acks disabled k woken) Unmatched
  admit_holds e none = record { why = refl; same = refl; none = λ n wish. ap (option_map (with_machine kept)) (none_admits kept n.event n.entry.deed e (λ answer. ap (admitted_at answer k) none) wish) }

-- ---- starts and ends that were taken

pub start_leads : (a : Actor) (e : ℕ) (value : Value) (old new : MachineState) → words_of value ≡ [] → IsTaken true old new (started_at old.kept.machine (place e old.kept.owed) (place e old.kept.acks))
    → Leads a (to_start e) old new (record { actor = a; deed = deed.Start e None value })
start_leads a e value old new empty taken =
    let led : lead old.kept (noted_for (to_start e) (record { actor = a; deed = deed.Start e None value })) ≡ Some new.kept = ap (option_map (with_machine old.kept)) taken.0 ∙ ap (λ z. Some z) (sym taken.1) in
    record {
      actor = refl;
      wish = refl;
      bare = (same_words-Decides (words_of value) []).1 empty;
      leads = led;
      told = none_tells old new (deed.Start e None value) refl taken.2 (λ event off. wakes_nothing old.kept new.kept (noted_for (to_start e) (record { actor = a; deed = deed.Start e None value })) led refl event off);
    }

pub start_holds : (e : ℕ) (old new : MachineState) → IsTaken false old new (started_at old.kept.machine (place e old.kept.owed) (place e old.kept.acks)) → Holds (to_start e) old new (NotDue e)
start_holds e old new taken = record { why = refl; same = taken.1; none = λ n wish. ap (option_map (with_machine old.kept)) (starts_by old.kept n.event n.entry.deed (unwrap_or n.event 0) e wish ∙ taken.0) }

pub end_leads : (a : Actor) (e : ℕ) (old new : MachineState) → IsEnded true old new (ended_at old.kept.machine (place e old.kept.owed) (place e old.kept.disabled)) → Leads a (to_end e) old new (record { actor = a; deed = deed.End })
end_leads a e old new ended = record { actor = refl; wish = refl; bare = refl; leads = ap (option_map (with_machine old.kept)) ended.0 ∙ ap (λ z. Some z) (sym ended.1); told = ended.2 }

pub end_holds : (e : ℕ) (old new : MachineState) → IsEnded false old new (ended_at old.kept.machine (place e old.kept.owed) (place e old.kept.disabled)) → Holds (to_end e) old new Unmatched
end_holds e old new ended = record { why = refl; same = ended.1; none = λ n wish. ap (option_map (with_machine old.kept)) (none_ends old.kept n.event n.entry.deed e ended.0 wish) }
