-- A machine of a sound plan misses no entry that may follow its past.
use Rattle.std.proofs.Common.{◌≡◌, ◌<◌, ◌+◌, ◌⊎◌, inl, inr, ℕ, Bool, true, false, not, ◌&&◌, ◌==◌, refl, sym, ◌∙◌, ap, subst, arith, length, Option, Some, None}
use Rattle.std.specs.Prelude.{set, is_some}
use Rattle.bus_semantics.specs.Common.{eq-eqb, false≢true, slice_get, option_map_or, same_Some, slice_get_within, Value, Step, same_number, Plan, kind_of, Past, first_machine, disabler_of}
use Rattle.bus_semantics.specs.Common.{owing, touches, switch_code, mode_of, mode_at_port, phase_may_come, is_due_kind, switch_due, is_open, runs_by, start_matches, is_proper, Follows}
use Rattle.bus_semantics.specs.Common.{IsPastOf, IsSound}
use Rattle.bus_semantics.specs.declared.plan.EventKind.{EventKind}
use Rattle.bus_semantics.specs.declared.plan.EventKind.TheVariants.{Timing, Init, DataReceived, Invoked, Returns, ModeSwitch, Ack}
use Rattle.bus_semantics.specs.declared.plan.EventPlan.{EventPlan}
use Rattle.bus_semantics.specs.declared.plan.Moment.{Moment}
use Rattle.bus_semantics.specs.declared.script.Mapping.{Mapping}
use Rattle.bus_semantics.specs.declared.entries.Actor.{Actor}
use Rattle.bus_semantics.specs.declared.entries.Deed.{Deed}
use Rattle.bus_semantics.specs.declared.entries.Deed.TheVariants as deed
use Rattle.mode_machine.specs.declared.owed.OwedEvent.{OwedEvent}
use Rattle.mode_machine.specs.Disabling.{Dependency}
use Rattle.mode_machine.specs.Kept as machines
use Rattle.mode_machine.specs.Owed as owed
use Rattle.object_kinds.specs.Common.{MissesNothing, place, given, is_set}
use Rattle.object_kinds.proofs.Classes.{On, StartsOn, touching_on}
use Rattle.object_kinds.proofs.Events.{event_placed, events_all, started_within}
use Rattle.object_kinds.proofs.Flags.{flag_there}
use Rattle.object_kinds.proofs.Numbers.{a_machine}
use Rattle.object_kinds.proofs.Options.{given_where, then_where, mapped_where}
use Rattle.object_kinds.proofs.Placing.{Placed, placed, place_none}
use Rattle.object_kinds.proofs.Proper.{noting, wish_part}
use Rattle.machine_objects.specs.Layout.{IsMachine, machine_of, waits_for_phase, waits_for_end, owed_events, ack_events, moment_in, may_disable, disabled_events}
use Rattle.machine_objects.specs.Kept.{Kept}
use Rattle.machine_objects.specs.Leading.{is_made, is_answered, started_at, ended_at, lead_of_machine, with_machine, lead}
use Rattle.machine_objects.specs.Standing.{owed_after, acked_after, machine_after, kept_after, Keeps}
use Rattle.machine_objects.proofs.Touches.{switch_itself, port_itself, phase_itself, admit_disabled, end_matters, switching, acked_kind, ack_not_owed}
use Rattle.machine_objects.proofs.Past.{past_in_order, past_admitted}
use Rattle.machine_objects.proofs.Steps.{owed_at_is, dependency_at_is, acked_at_is}
use Rattle.machine_objects.proofs.Answering.{switch_code_same, mode_same, phase_same, admit_same}
use Rattle.machine_objects.proofs.Leading.{elsewhere}

-- ---- what touches a machine

-- what a machine starts is a mode switch or an acknowledgement of its own
pub record Started (m : ℕ) (k : EventKind) : Type 0 where
  pub either : (waits_for_phase m k ≡ true) ⊎ (waits_for_end m k ≡ true)

started_by : (p : Plan) (m : ℕ) (k : EventKind) → StartsOn p (a_machine m) k → Started m k
started_by p m (ModeSwitch n at) on = record { either = inl (eq-eqb m n (sym (same_Some n m on))) }
started_by p m (Ack n) on = record { either = inr (eq-eqb m n (sym (same_Some n m on))) }
started_by p m k on = absurd on

pub touches_machine : (p : Plan) (mapping : Mapping) (object : ℕ) (a : Actor) (event : Option ℕ) (d : Deed) → IsSound p mapping → IsMachine p object
    → touches p object (noting a d event) ≡ true → is_proper p (noting a d event) ≡ true → On p (a_machine (machine_of p object)) a event d
touches_machine p mapping object a event d sound is touching proper =
    let from = is.from in
    let below = is.below in
    let within : machine_of p object < length p.machines = omega arith in
    let number : object ≡ first_machine p + machine_of p object = omega arith in
    touching_on p mapping sound (a_machine (machine_of p object)) within a event d (subst (λ n. touches p n (noting a d event) ≡ true) number touching) proper

-- an event of a mode switch is one of the plan's
event_within : (p : Plan) (e n : ℕ) (at : Moment) → kind_of p e ≡ ModeSwitch n at → e < length p.events
event_within p e n at kind = by_event (slice_get p.events e) refl
  where
    by_event : (o : Option EventPlan) → slice_get p.events e ≡ o → e < length p.events
    by_event None none = absurd (cc (sym (ap (λ (o : Option EventPlan). option_map_or (λ (w : EventPlan). w.kind) o Init) none) ∙ kind))
    by_event (Some v) found = slice_get_within p.events e v found

-- and so is one that a mode disables
disabled_within : (p : Plan) (m e : ℕ) → may_disable p m e ≡ true → e < length p.events
disabled_within p m e may = by_event (slice_get p.events e) refl
  where
    by_event : (o : Option EventPlan) → slice_get p.events e ≡ o → e < length p.events
    by_event None none = let no = rw none at may in absurd (false≢true no)
    by_event (Some v) found = slice_get_within p.events e v found

module _ (p : Plan) (object : ℕ) (is : IsMachine p object) (l : Past) (past : IsPastOf p object l) where
  abbrev m : ℕ
  m = machine_of p object

  abbrev kept : Kept
  kept = kept_after p m l

  abbrev k : machines.Kept
  k = machine_after p m l

  switch_comes : (a : Actor) (event : Option ℕ) (n mode code : ℕ) → Follows p object l (noting a (deed.Switch n mode code) event) → is_some (lead_of_machine kept event (deed.Switch n mode code)) ≡ true
  switch_comes a event n mode code follows =
      let itself = switch_itself p object is a event n mode code follows.touching in
      given_where (code == machines.answer_to_switch k) (machines.after_switch mode k)
      (ap (λ c. code == c) (switch_code_same p object is l (past_in_order p object is l past)) ∙ ap (λ j. code == switch_code p j l) (sym itself) ∙ follows.answers.modes)

  mode_comes : (a : Actor) (event : Option ℕ) (port mode : ℕ) → Follows p object l (noting a (deed.Mode port mode) event) → is_some (lead_of_machine kept event (deed.Mode port mode)) ≡ true
  mode_comes a event port mode follows =
      let itself = port_itself p object is a event port mode follows.touching in
      let at : mode_at_port p port l ≡ mode_of p m l = rw itself refl in
      given_where (mode == machines.mode_of k) k (ap (λ c. mode == c) (mode_same p object is l ∙ sym at) ∙ follows.answers.modes)

  phase_comes : (a : Actor) (event : Option ℕ) (s : Step) → Follows p object l (noting a (deed.Phase s) event) → is_some (lead_of_machine kept event (deed.Phase s)) ≡ true
  phase_comes a event s follows =
      let itself = phase_itself p object is a s event follows.touching in
      given_where (is_made s (machines.answer_to_advance k)) (machines.after_step s k) (phase_same p m l s ∙ ap (λ b. phase_may_come p b l s) (sym itself) ∙ follows.answers.modes)

  -- ---- starts

  module _ (e : ℕ) (a : Actor) (event : Option ℕ) (point : Option ℕ) (value : Value) (within : e < length p.events) (follows : Follows p object l (noting a (deed.Start e point value) event)) where
    owed_comes : waits_for_phase m (kind_of p e) ≡ true → is_some (lead_of_machine kept event (deed.Start e point value)) ≡ true
    owed_comes waits =
        let sw = switching m (kind_of p e) waits in
        let there = event_placed p (waits_for_phase m) e within waits in
        let due : (owed_after p m l e).due ≡ true = ap (λ z. switch_due p e m z l) (ap moment_in sw.kind) ∙ sym (ap (λ c. is_due_kind p a e c l) sw.kind) ∙ follows.answers.due in
        let free : not (owed_after p m l e).running ≡ true = sym (ap (λ c. start_matches p l e c) sw.kind) ∙ follows.matching in
        let may : owed.may_start (machines.owed_at there.at k) ≡ true = ap owed.may_start (owed_at_is p m l e there.at there.is) ∙ (λ i. due i && free i) in
        ap (λ o. is_some (started_at k o (place e (ack_events p m)))) there.is ∙ given_where (owed.may_start (machines.owed_at there.at k)) (machines.after_owed there.at owed.after_owed_start k) may

    acked_comes : waits_for_end m (kind_of p e) ≡ true → is_some (lead_of_machine kept event (deed.Start e point value)) ≡ true
    acked_comes waits =
        let kind = acked_kind m (kind_of p e) waits in
        let there = event_placed p (waits_for_end m) e within waits in
        let none = place_none (λ f. waits_for_phase m (kind_of p f)) (owed_events p m) e (events_all p (waits_for_phase m)) (ack_not_owed m (kind_of p e) waits) in
        let due : acked_after m l e ≡ true = sym (ap (λ c. is_due_kind p a e c l) kind) ∙ follows.answers.due in
        (λ i. is_some (started_at k (none i) (there.is i)))
        ∙ given_where (is_set k.acks there.at) (machines.with_acks (set k.acks there.at false) k) (flag_there k.acks there.at (acked_after m l e) (acked_at_is p m l e there.at there.is) due)

    start_comes : Started m (kind_of p e) → is_some (lead_of_machine kept event (deed.Start e point value)) ≡ true
    start_comes started = elim started.either [ inl waits ↦ owed_comes waits | inr waits ↦ acked_comes waits ]

  -- ---- admissions and ends

  disabled_placed : (e : ℕ) → may_disable p m e ≡ true → Placed e (disabled_events p m)
  disabled_placed e may = placed (may_disable p m) (length p.events) e (disabled_within p m e may) may

  is_disabler : (e : ℕ) → disabler_of p e ≡ Some m → may_disable p m e ≡ true
  is_disabler e owes = ap (λ o. same_number o (Some m)) owes ∙ eq-eqb m m refl

  admit_comes : (a : Actor) (event : Option ℕ) (answer : Bool) → Follows p object l (noting a (deed.Admit answer) event) → is_some (lead_of_machine kept event (deed.Admit answer)) ≡ true
  admit_comes a None answer follows = absurd (false≢true follows.answers.admission)
  admit_comes a (Some e) answer follows =
      let may = admit_disabled p object is a answer e follows.touching in
      let there = disabled_placed e may in
      let off = elsewhere p object is l past k e there.at there.is in
      let allowed = follows.answers.admission in
      let free = follows.matching in
      let answered : is_answered answer (machines.answer_to_admit there.at k) ≡ true = admit_same p object is l past e there.at answer there.is may off ∙ (λ i. allowed i && free i) in
      then_where (λ d. given (is_answered answer (machines.answer_to_admit d k)) (machines.after_admit d k)) (place e (disabled_events p m)) there.at there.is
      (given_where (is_answered answer (machines.answer_to_admit there.at k)) (machines.after_admit there.at k) answered)

  owed_end_comes : (e : ℕ) → e < length p.events → waits_for_phase m (kind_of p e) ≡ true → is_open (runs_by e) l ≡ true → is_some (ended_at k (place e (owed_events p m)) (place e (disabled_events p m))) ≡ true
  owed_end_comes e within waits opens =
      let there = event_placed p (waits_for_phase m) e within waits in
      ap (λ o. is_some (ended_at k o (place e (disabled_events p m)))) there.is
      ∙ given_where (machines.owed_at there.at k).running (machines.after_owed there.at owed.after_end k) (ap (λ (o : OwedEvent). o.running) (owed_at_is p m l e there.at there.is) ∙ opens)

  disabled_end_comes : (e : ℕ) → may_disable p m e ≡ true → waits_for_phase m (kind_of p e) ≡ false → is_open (runs_by e) l ≡ true → is_some (ended_at k (place e (owed_events p m)) (place e (disabled_events p m))) ≡ true
  disabled_end_comes e may other opens =
      let there = disabled_placed e may in
      let off = elsewhere p object is l past k e there.at there.is in
      let none = place_none (λ f. waits_for_phase m (kind_of p f)) (owed_events p m) e (events_all p (waits_for_phase m)) other in
      (λ i. is_some (ended_at k (none i) (there.is i)))
      ∙ given_where (machines.dependency_at there.at k).admitted (machines.after_end_admitted there.at k) (ap (λ (o : Dependency). o.admitted) (dependency_at_is p m l e there.at there.is) ∙ sym (past_admitted p object is e off l past) ∙ opens)

  end_comes : (e : ℕ) (c : EventKind) → kind_of p e ≡ c → owing c (disabler_of p e) ≡ Some m → is_open (runs_by e) l ≡ true → is_some (ended_at k (place e (owed_events p m)) (place e (disabled_events p m))) ≡ true
  end_comes e (ModeSwitch n at) kind owes opens =
      let same : m ≡ n = sym (same_Some n m owes) in
      owed_end_comes e (event_within p e n at kind) (ap (waits_for_phase m) kind ∙ eq-eqb m n same) opens
  end_comes e (Timing period) kind owes opens = disabled_end_comes e (is_disabler e owes) (ap (waits_for_phase m) kind) opens
  end_comes e Init kind owes opens = disabled_end_comes e (is_disabler e owes) (ap (waits_for_phase m) kind) opens
  end_comes e (DataReceived y) kind owes opens = disabled_end_comes e (is_disabler e owes) (ap (waits_for_phase m) kind) opens
  end_comes e (Invoked s) kind owes opens = disabled_end_comes e (is_disabler e owes) (ap (waits_for_phase m) kind) opens
  end_comes e (Returns q) kind owes opens = disabled_end_comes e (is_disabler e owes) (ap (waits_for_phase m) kind) opens
  end_comes e (Ack n) kind owes opens = disabled_end_comes e (is_disabler e owes) (ap (waits_for_phase m) kind) opens

  end_of_comes : (a : Actor) (event : Option ℕ) → Follows p object l (noting a deed.End event) → is_some (lead_of_machine kept event deed.End) ≡ true
  end_of_comes a None follows = absurd (false≢true follows.touching)
  end_of_comes a (Some e) follows = end_comes e (kind_of p e) refl (end_matters p object is a e follows.touching) follows.matching

  machine_comes : (a : Actor) (event : Option ℕ) (d : Deed) → On p (a_machine m) a event d → Follows p object l (noting a d event) → is_some (lead_of_machine kept event d) ≡ true
  machine_comes a event (deed.Switch n mode code) on follows = switch_comes a event n mode code follows
  machine_comes a event (deed.Mode port mode) on follows = mode_comes a event port mode follows
  machine_comes a event (deed.Phase s) on follows = phase_comes a event s follows
  machine_comes a event (deed.Start e point value) on follows = start_comes e a event point value (started_within p a e (wish_part p a (deed.Start e point value) event refl follows.proper)) follows (started_by p m (kind_of p e) on)
  machine_comes a event (deed.Admit answer) on follows = admit_comes a event answer follows
  machine_comes a event deed.End on follows = end_of_comes a event follows
  machine_comes a event d on follows = absurd on

pub misses_nothing : (p : Plan) (mapping : Mapping) (object : ℕ) → IsSound p mapping → MissesNothing p object (Keeps p object) lead
misses_nothing p mapping object sound before l n stands follows =
    let is = stands.kept.is_machine in
    ap (λ z. is_some (lead z n)) stands.kept.same
    ∙ mapped_where (with_machine (kept_after p (machine_of p object) l)) (lead_of_machine (kept_after p (machine_of p object) l) n.event n.entry.deed)
    (machine_comes p object is l stands.past n.entry.actor n.event n.entry.deed (touches_machine p mapping object n.entry.actor n.event n.entry.deed sound is follows.touching follows.proper) follows)
