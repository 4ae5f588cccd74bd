-- What a machine answers is what the bus answers after its past.
use Rattle.std.proofs.Common.{◌≡◌, ◌≤◌, ◌+◌, inl, inr, ℕ, Bool, true, false, not, ◌&&◌, ◌||◌, ◌==◌, if◌then◌else◌, refl, sym, ◌∙◌, ap, arith, List, [], length, map, drop, Option, Some, None}
use Rattle.std.specs.Prelude.{is_none, position, nat_lt, option_map}
use Rattle.bus_semantics.specs.Common.{slice_get, option_map_or, cases_lt, eq-eqb, eqb-true, false≢true, ltb-true, lt-ltb, length-drop, list_all-map, Step, same_number, Plan, kind_of}
use Rattle.bus_semantics.specs.Common.{disabling_of, Past, stage_of, settled_of, next_of, waits_of, is_stable, accepted_switches, closes_of, switch_code, mode_of, first_unbegun, phase_after}
use Rattle.bus_semantics.specs.Common.{owes, owes_moment, is_done, all_done, disables, admitted_runs, mode_disables, none_runs_disabled, is_disabled, is_disabled_by, same_bool, is_open}
use Rattle.bus_semantics.specs.Common.{runs_by, IsPastOf}
use Rattle.std.proofs.Math.Bool.{and-false, and-true}
use Rattle.rte_value.specs.declared.kinds.Step.TheVariants as step
use Rattle.bus_semantics.specs.declared.plan.EventKind.{EventKind}
use Rattle.bus_semantics.specs.declared.plan.EventKind.TheVariants.{Timing, Init, DataReceived, Invoked, Returns, ModeSwitch, Ack}
use Rattle.bus_semantics.specs.declared.plan.EventPlan.{EventPlan}
use Rattle.bus_semantics.specs.declared.plan.Disabling.{Disabling}
use Rattle.mode_machine.specs.declared.disabling.Admitted.TheVariants.{Yes, No, Runs}
use Rattle.mode_machine.specs.declared.owed.OwedEvent.{OwedEvent}
use Rattle.mode_machine.specs.Disabling.{Dependency, has_mode, holds_back}
use Rattle.mode_machine.specs.Kept as machines
use Rattle.object_kinds.specs.Layout.{place}
use Rattle.object_kinds.proofs.Options.{clash}
use Rattle.machine_objects.specs.Layout.{IsMachine, machine_of, places_of, waits_for_phase, owed_events, moment_in, may_disable, disabled_events, disabling_modes, starts_elsewhere}
use Rattle.machine_objects.specs.Leading.{same_step, is_made, is_answered}
use Rattle.machine_objects.specs.Standing.{owed_after, dependency_after, machine_after}
use Rattle.machine_objects.proofs.Picking.{every_picked, none_first, left_at}
use Rattle.machine_objects.proofs.Moves.{stable_step}
use Rattle.machine_objects.proofs.Past.{InOrder, machine_there, switch_code_is, past_admitted}
use Rattle.machine_objects.proofs.Steps.{dependency_at_is}

-- ---- switches and modes

-- the code of a switch where a place is free, and where none is
abbrev free_code : Bool → ℕ
free_code b = if b then 0 else 130

abbrev full_code : Bool → ℕ
full_code b = if b then 130 else 0

module _ (p : Plan) (object : ℕ) (is : IsMachine p object) (l : Past) where
  pub switch_code_same : InOrder p (machine_of p object) l → machines.answer_to_switch (machine_after p (machine_of p object) l) ≡ switch_code p (machine_of p object) l
  switch_code_same order =
      by_tests (nat_lt (length (drop begun accepted)) places) (length accepted == begun + places) refl refl order.begun order.waiting ∙ sym (switch_code_is p object is l)
    where
      begun : ℕ
      begun = closes_of (machine_of p object) l

      accepted : List ℕ
      accepted = accepted_switches (machine_of p object) l

      places : ℕ
      places = places_of p (machine_of p object)

      by_tests : (a b : Bool) → nat_lt (length (drop begun accepted)) places ≡ a → (length accepted == begun + places) ≡ b → begun ≤ length accepted → length accepted ≤ begun + places → free_code a ≡ full_code b
      by_tests true false room other few waiting = refl
      by_tests false true room other few waiting = refl
      by_tests true true room full few waiting =
          let less = ltb-true (length (drop begun accepted)) places room in
          let same = eqb-true (length accepted) (begun + places) full in
          let long = length-drop begun accepted in
          absurd (omega arith)
      by_tests false false room other few waiting = elim (cases_lt (length (drop begun accepted)) places) [
        | inl less ↦ clash (nat_lt (length (drop begun accepted)) places) (lt-ltb (length (drop begun accepted)) places less) room
        | inr more ↦ let long = length-drop begun accepted in let same : length accepted ≡ begun + places = omega arith in clash (length accepted == begun + places) (eq-eqb (length accepted) (begun + places) same) other
      ]

  pub mode_same : machines.mode_of (machine_after p (machine_of p object) l) ≡ mode_of p (machine_of p object) l
  mode_same =
      let there = (machine_there p object is).1 in
      ap (λ b. if b then settled_of p (machine_of p object) l else (machine_after p (machine_of p object) l).modes) (sym (stable_step (stage_of (machine_of p object) l))) ∙ rw there refl

-- ---- what a phase waits for

module _ (p : Plan) (m : ℕ) (l : Past) where
  kind_found : (e : ℕ) (v : EventPlan) → slice_get p.events e ≡ Some v → v.kind ≡ kind_of p e
  kind_found e v found = sym (ap (λ (o : Option EventPlan). option_map_or (λ (w : EventPlan). w.kind) o Init) found)

  disabled_found : (e : ℕ) (v : EventPlan) → slice_get p.events e ≡ Some v → v.disabled ≡ disabling_of p e
  disabled_found e v found = sym (ap (λ (o : Option EventPlan). option_map_or (λ (w : EventPlan). w.disabled) o None) found)

  not_left : (own owed done : Bool) → (not (own && owed) || done) ≡ (not own || not (owed && not done))
  not_left false owed done = refl
  not_left true false done = refl
  not_left true true true = refl
  not_left true true false = refl

  owes_kind : (k : EventKind) (done : Bool) → (not (owes p m l k) || done) ≡ (not (waits_for_phase m k) || not (owes_moment p m l (moment_in k) && not done))
  owes_kind (ModeSwitch n at) done = not_left (m == n) (owes_moment p m l at) done
  owes_kind (Timing period) done = refl
  owes_kind Init done = refl
  owes_kind (DataReceived x) done = refl
  owes_kind (Invoked s) done = refl
  owes_kind (Returns q) done = refl
  owes_kind (Ack n) done = refl

  -- nothing is left exactly if all that the phase owes is done
  pub done_same : is_none (machines.first_left (machine_after p m l)) ≡ all_done p m l
  done_same =
      none_first (λ (o : OwedEvent). o.left) (map (owed_after p m l) (owed_events p m))
      ∙ list_all-map (λ (o : OwedEvent). not o.left) (owed_after p m l) (owed_events p m)
      ∙ sym (every_picked p (λ e (v : EventPlan). not (owes p m l v.kind) || is_done m e l) (λ e. waits_for_phase m (kind_of p e)) (λ e. not (owed_after p m l e).left)
      (λ e v found. ap (λ k. not (owes p m l k) || is_done m e l) (kind_found e v found) ∙ owes_kind (kind_of p e) (is_done m e l)))

  not_held : (own has runs : Bool) → (not (own && has) || not runs) ≡ (not own || not (runs && has))
  not_held false has runs = refl
  not_held true true true = refl
  not_held true true false = refl
  not_held true false true = refl
  not_held true false false = refl

  holds_disabling : (o : Option Disabling) (mode : ℕ) (runs : Bool)
      → (not (mode_disables o m mode) || not runs) ≡ (not (same_number (option_map (λ (d : Disabling). d.machine) o) (Some m)) || not (runs && has_mode mode (option_map_or (λ (d : Disabling). d.modes) o [])))
  holds_disabling None mode runs = refl
  holds_disabling (Some d) mode runs = not_held (d.machine == m) (has_mode mode d.modes) runs

  -- nothing holds a machine that waits exactly if no admitted activation runs that the next mode disables
  pub held_same : is_none (position (holds_back (next_of p m l)) (machine_after p m l).disablings) ≡ none_runs_disabled p m l
  held_same =
      none_first (holds_back (next_of p m l)) (map (dependency_after p l) (disabled_events p m))
      ∙ list_all-map (λ d. not (holds_back (next_of p m l) d)) (dependency_after p l) (disabled_events p m)
      ∙ sym (every_picked p (λ e (v : EventPlan). not (mode_disables v.disabled m (next_of p m l)) || not (admitted_runs e l)) (may_disable p m) (λ e. not (holds_back (next_of p m l) (dependency_after p l e)))
      (λ e v found. ap (λ o. not (mode_disables o m (next_of p m l)) || not (admitted_runs e l)) (disabled_found e v found) ∙ holds_disabling (disabling_of p e) (next_of p m l) (admitted_runs e l)))

  -- ---- phases

  made_owed : (t s : Step) (o : Option ℕ) → is_made s (machines.unless_owed o t) ≡ (same_step t s && is_none o)
  made_owed t s None = sym (and-true (same_step t s))
  made_owed t s (Some e) = sym (and-false (same_step t s))

  made_running : (s : Step) (o : Option ℕ) → is_made s (machines.unless_running o) ≡ (same_step step.Exit s && is_none o)
  made_running s None = sym (and-true (same_step step.Exit s))
  made_running s (Some d) = sym (and-false (same_step step.Exit s))

  made_begun : (s : Step) (o : Option ℕ) → first_unbegun m l ≡ o → is_made s (machines.begun o) ≡ phase_after p m l step.Stable s
  made_begun (step.Close mode) None first = ap (λ z. same_number z (Some mode)) (sym first)
  made_begun (step.Close mode) (Some k) first = ap (λ z. same_number z (Some mode)) (sym first)
  made_begun step.Exit None first = refl
  made_begun step.Exit (Some k) first = refl
  made_begun step.Transition None first = refl
  made_begun step.Transition (Some k) first = refl
  made_begun step.Entry None first = refl
  made_begun step.Entry (Some k) first = refl
  made_begun step.Stable None first = refl
  made_begun step.Stable (Some k) first = refl

  after_close : (mode : ℕ) (s : Step) → (same_step step.Exit s && (not (waits_of p m) || none_runs_disabled p m l)) ≡ phase_after p m l (step.Close mode) s
  after_close mode (step.Close other) = refl
  after_close mode step.Exit = refl
  after_close mode step.Transition = refl
  after_close mode step.Entry = refl
  after_close mode step.Stable = refl

  after_exit : (s : Step) → (same_step step.Transition s && all_done p m l) ≡ phase_after p m l step.Exit s
  after_exit (step.Close other) = refl
  after_exit step.Exit = refl
  after_exit step.Transition = refl
  after_exit step.Entry = refl
  after_exit step.Stable = refl

  after_transition : (s : Step) → (same_step step.Entry s && all_done p m l) ≡ phase_after p m l step.Transition s
  after_transition (step.Close other) = refl
  after_transition step.Exit = refl
  after_transition step.Transition = refl
  after_transition step.Entry = refl
  after_transition step.Stable = refl

  after_entry : (s : Step) → (same_step step.Stable s && all_done p m l) ≡ phase_after p m l step.Entry s
  after_entry (step.Close other) = refl
  after_entry step.Exit = refl
  after_entry step.Transition = refl
  after_entry step.Entry = refl
  after_entry step.Stable = refl

  waiting_same : (b : Bool) → is_none (if b then position (holds_back (next_of p m l)) (machine_after p m l).disablings else None) ≡ (not b || none_runs_disabled p m l)
  waiting_same true = held_same
  waiting_same false = refl

  made_after : (t s : Step) → is_made s (machines.phase_after t (machine_after p m l)) ≡ phase_after p m l t s
  made_after step.Stable s =
      ap (λ o. is_made s (machines.begun o)) (left_at (closes_of m l) (accepted_switches m l)) ∙ made_begun s (first_unbegun m l) refl
  made_after (step.Close mode) s =
      made_running s (if waits_of p m then position (holds_back (next_of p m l)) (machine_after p m l).disablings else None) ∙ ap (λ b. same_step step.Exit s && b) (waiting_same (waits_of p m)) ∙ after_close mode s
  made_after step.Exit s = made_owed step.Transition s (machines.first_left (machine_after p m l)) ∙ ap (λ b. same_step step.Transition s && b) done_same ∙ after_exit s
  made_after step.Transition s = made_owed step.Entry s (machines.first_left (machine_after p m l)) ∙ ap (λ b. same_step step.Entry s && b) done_same ∙ after_transition s
  made_after step.Entry s = made_owed step.Stable s (machines.first_left (machine_after p m l)) ∙ ap (λ b. same_step step.Stable s && b) done_same ∙ after_entry s

  pub phase_same : (s : Step) → is_made s (machines.answer_to_advance (machine_after p m l)) ≡ phase_after p m l (stage_of m l) s
  phase_same s = made_after (stage_of m l) s

  -- ---- admissions

  disabled_by : (d : Disabling) → (d.machine == m) ≡ true → machines.is_disabled (machine_after p m l) d.modes ≡ is_disabled_by p d l
  disabled_by d own =
      let same : m ≡ d.machine = sym (eqb-true d.machine m own) in
      ap (λ b. if b then has_mode (settled_of p m l) d.modes else (has_mode (settled_of p m l) d.modes || has_mode (next_of p m l) d.modes)) (sym (stable_step (stage_of m l)))
      ∙ (λ i. if is_stable m l then sym own i && has_mode (settled_of p m l) d.modes else ((sym own i && has_mode (settled_of p m l) d.modes) || (sym own i && has_mode (next_of p m l) d.modes)))
      ∙ ap (λ k. if is_stable k l then disables d k (settled_of p k l) else (disables d k (settled_of p k l) || disables d k (next_of p k l))) same

  pub disabled_same : (e : ℕ) → may_disable p m e ≡ true → machines.is_disabled (machine_after p m l) (disabling_modes p e) ≡ is_disabled p e l
  disabled_same e may = by_disabling (disabling_of p e) refl may
    where
      by_disabling : (o : Option Disabling) → disabling_of p e ≡ o → same_number (option_map (λ (d : Disabling). d.machine) o) (Some m) ≡ true → machines.is_disabled (machine_after p m l) (disabling_modes p e) ≡ is_disabled p e l
      by_disabling None found own = absurd (false≢true own)
      by_disabling (Some d) found own = rw found (disabled_by d own)

pub admit_same : (p : Plan) (object : ℕ) (is : IsMachine p object) (l : Past) → IsPastOf p object l → (e d : ℕ) (answer : Bool) → place e (disabled_events p (machine_of p object)) ≡ Some d → may_disable p (machine_of p object) e ≡ true
    → starts_elsewhere p object e ≡ true → is_answered answer (machines.answer_to_admit d (machine_after p (machine_of p object) l)) ≡ (same_bool answer (not (is_disabled p e l)) && not (is_open (runs_by e) l))
admit_same p object is l past e d answer at may elsewhere =
    ap (λ (k : Dependency). is_answered answer (if k.admitted then Runs else (if machines.is_disabled (machine_after p (machine_of p object) l) k.modes then No else Yes))) (dependency_at_is p (machine_of p object) l e d at)
    ∙ (λ i. is_answered answer (if sym (past_admitted p object is e elsewhere l past) i then Runs else (if disabled_same p (machine_of p object) l e may i then No else Yes)))
    ∙ by_tests answer (is_open (runs_by e) l) (is_disabled p e l)
  where
    by_tests : (a runs off : Bool) → is_answered a (if runs then Runs else (if off then No else Yes)) ≡ (same_bool a (not off) && not runs)
    by_tests true true true = refl
    by_tests true true false = refl
    by_tests true false true = refl
    by_tests true false false = refl
    by_tests false true true = refl
    by_tests false true false = refl
    by_tests false false true = refl
    by_tests false false false = refl
