-- Which phase may come, what switches and modes are answered, and who is admitted look only at the entries that touch the machine.
use Rattle.std.proofs.Common.{◌≡◌, ℕ, ◌+◌, Bool, true, false, ◌&&◌, ◌||◌, not, ◌==◌, if◌then◌else◌, refl, sym, ◌∙◌, ap, subst, arith, Option, Some, None}
use Rattle.bus_semantics.specs.Common.{eqb-true, same_Some, list_all, list_any, slice_get, option_map_or, Step, same_number, Plan, kind_of, disabling_of, machine_of_port, Past}
use Rattle.bus_semantics.specs.Common.{first_machine, machine_object, object_of_kind, disabler_of, owing, machine_of_event, touched_by, touches, stage_of, waits_of, next_of, switch_code}
use Rattle.bus_semantics.specs.Common.{mode_of, mode_at_port, owes_moment, owes, is_done, all_done, disables, admitted_runs, mode_disables, none_runs_disabled, is_disabled_by, is_disabled}
use Rattle.bus_semantics.specs.Common.{phase_after, same_bool, modes_allow, admission_allows, IsSound, is_proper}
use Rattle.std.specs.Prelude.{filter, option_map}
use Rattle.rte_value.specs.declared.kinds.Step.TheVariants as step
use Rattle.bus_laws.specs.Common.{EventPlan, Disabling, EventKind, ModeSwitch, Mapping, Actor, Env, Machine, Act, Deed}
use Rattle.bus_semantics.specs.declared.entries.Deed.TheVariants as deed
use Rattle.bus_laws.proofs.Thinning.{noting, every_same}
use Rattle.bus_laws.proofs.OneEvent.{kind_at, none_disables}
use Rattle.bus_laws.proofs.LocalMachines.{stage_thin, next_thin, settled_thin, code_thin, stable_thin, mode_thin, unbegun_thin, owes_thin, admitted_thin, done_thin}

-- the entries that touch a machine
abbrev pub of_machine : Plan → ℕ → Past → Past
of_machine p m h = filter (touches p (first_machine p + m)) h

module _ (p : Plan) (m : ℕ) (h : Past) (fine : list_all (is_proper p) h ≡ true) where
  done_same : (e : ℕ) (v : EventPlan) (k : EventKind) → v.kind ≡ k → slice_get p.events e ≡ Some v
      → (not (owes p m (of_machine p m h) k) || is_done m e (of_machine p m h)) ≡ (not (owes p m h k) || is_done m e h)
  done_same e v (ModeSwitch n moment) is there = by_test (m == n) refl
    where
      by_test : (b : Bool) → (m == n) ≡ b → (not (b && owes_moment p m (of_machine p m h) moment) || is_done m e (of_machine p m h)) ≡ (not (b && owes_moment p m h moment) || is_done m e h)
      by_test false t = refl
      by_test true t =
          let same : n ≡ m = sym (eqb-true m n t) in
          let kind : kind_of p e ≡ ModeSwitch n moment = kind_at p e v there ∙ is in
          let ours : machine_of_event p e ≡ Some m = ap (λ k. owing k (disabler_of p e)) kind ∙ ap (λ k. Some k) same in
          let waits : object_of_kind p (kind_of p e) ≡ Some (first_machine p + m) = ap (object_of_kind p) kind ∙ ap (λ k. Some (first_machine p + k)) same in
          λ i. not (true && owes_thin p m h fine moment i) || done_thin p m e ours waits h fine i
  done_same e v k is there = refl

  all_done_thin : all_done p m (of_machine p m h) ≡ all_done p m h
  all_done_thin = every_same (λ e (v : EventPlan). not (owes p m (of_machine p m h) v.kind) || is_done m e (of_machine p m h))
      (λ e (v : EventPlan). not (owes p m h v.kind) || is_done m e h) 0 p.events
      (λ j k v same there. let here : j ≡ k = omega arith in done_same k v v.kind refl (subst (λ i. slice_get p.events i ≡ Some v) here there))

  module _ (mapping : Mapping) (sound : IsSound p mapping) where
    not_owed : (e : ℕ) (d : Disabling) (k : EventKind) → kind_of p e ≡ k → disabling_of p e ≡ Some d → d.machine ≡ m → owing k (disabler_of p e) ≡ Some m
    not_owed e d (ModeSwitch n moment) is by same = absurd (cc (none_disables p mapping sound e n moment is))
    not_owed e d k is by same = ap (option_map (λ (x : Disabling). x.machine)) by ∙ ap (λ i. Some i) same

    disabled_same : (e : ℕ) (v : EventPlan) (x : Option Disabling) → v.disabled ≡ x → slice_get p.events e ≡ Some v
        → (not (mode_disables x m (next_of p m (of_machine p m h))) || not (admitted_runs e (of_machine p m h))) ≡ (not (mode_disables x m (next_of p m h)) || not (admitted_runs e h))
    disabled_same e v None is there = refl
    disabled_same e v (Some d) is there = by_test (d.machine == m) refl
      where
        by_test : (b : Bool) → (d.machine == m) ≡ b
            → (not (b && list_any (λ a. a == next_of p m (of_machine p m h)) d.modes) || not (admitted_runs e (of_machine p m h))) ≡ (not (b && list_any (λ a. a == next_of p m h) d.modes) || not (admitted_runs e h))
        by_test false t = refl
        by_test true t =
            let same : d.machine ≡ m = eqb-true d.machine m t in
            let by : disabling_of p e ≡ Some d = ap (λ (o : Option EventPlan). option_map_or (λ (w : EventPlan). w.disabled) o None) there ∙ is in
            let disabled : disabler_of p e ≡ Some m = ap (option_map (λ (x : Disabling). x.machine)) by ∙ ap (λ i. Some i) same in
            let ours : machine_of_event p e ≡ Some m = not_owed e d (kind_of p e) refl by same in
            λ i. not (true && list_any (λ a. a == next_thin p m h fine i) d.modes) || not (admitted_thin p m e ours disabled h fine i)

    none_runs_thin : none_runs_disabled p m (of_machine p m h) ≡ none_runs_disabled p m h
    none_runs_thin = every_same (λ e (v : EventPlan). not (mode_disables v.disabled m (next_of p m (of_machine p m h))) || not (admitted_runs e (of_machine p m h)))
        (λ e (v : EventPlan). not (mode_disables v.disabled m (next_of p m h)) || not (admitted_runs e h)) 0 p.events
        (λ j k v same there. let here : j ≡ k = omega arith in disabled_same k v v.disabled refl (subst (λ i. slice_get p.events i ≡ Some v) here there))

    phase_same : (stage s : Step) → phase_after p m (of_machine p m h) stage s ≡ phase_after p m h stage s
    phase_same step.Stable (step.Close mode) = ap (λ f. same_number f (Some mode)) (unbegun_thin p m h fine)
    phase_same (step.Close mode) step.Exit = ap (λ b. not (waits_of p m) || b) none_runs_thin
    phase_same step.Exit step.Transition = all_done_thin
    phase_same step.Transition step.Entry = all_done_thin
    phase_same step.Entry step.Stable = all_done_thin
    phase_same stage s = refl

    phase_thin : (s : Step) → phase_after p m (of_machine p m h) (stage_of m (of_machine p m h)) s ≡ phase_after p m h (stage_of m h) s
    phase_thin s = ap (λ t. phase_after p m (of_machine p m h) t s) (stage_thin p m h fine) ∙ phase_same (stage_of m h) s

disabled_thin : (p : Plan) (d : Disabling) (h : Past) → list_all (is_proper p) h ≡ true → is_disabled_by p d (of_machine p d.machine h) ≡ is_disabled_by p d h
disabled_thin p d h fine = λ i. if stable_thin p d.machine h fine i then disables d d.machine (settled_thin p d.machine h fine i)
    else disables d d.machine (settled_thin p d.machine h fine i) || disables d d.machine (next_thin p d.machine h fine i)

-- ---- what is answered

-- an object of a machine is that of one machine
record OfMachine (p : Plan) (machine : Option ℕ) (o : ℕ) : Type 0 where
  number : ℕ
  is : machine ≡ Some number
  object : first_machine p + number ≡ o

machine_at : (p : Plan) (machine : Option ℕ) (o : ℕ) → machine_object p machine ≡ Some o → OfMachine p machine o
machine_at p None o e = absurd (cc e)
machine_at p (Some m) o e = record { number = m; is = refl; object = same_Some (first_machine p + m) o e }

no_machine : (p : Plan) (machine : Option ℕ) → machine_object p machine ≡ None → machine ≡ None
no_machine p None e = refl
no_machine p (Some m) e = absurd (cc e)

module _ (p : Plan) (mapping : Mapping) (h : Past) (sound : IsSound p mapping) (fine : list_all (is_proper p) h ≡ true) where
  mode_same : (port : ℕ) (machine : Option ℕ) → machine_of_port p port ≡ machine → (o : ℕ) → machine_object p machine ≡ Some o → mode_at_port p port h ≡ mode_at_port p port (filter (touches p o) h)
  mode_same port None is o touched = absurd (cc touched)
  mode_same port (Some m) is o touched =
      let same : mode_of p m h ≡ mode_of p m (filter (touches p o) h) =
      sym (subst (λ k. mode_of p m (filter (touches p k) h) ≡ mode_of p m h) (same_Some (first_machine p + m) o touched) (mode_thin p m h fine)) in
      rw is same

  pub modes_local : (a : Actor) (d : Deed) (event : Option ℕ) (o : ℕ) → touched_by p (noting a d event) ≡ Some o → modes_allow p h a d ≡ modes_allow p (filter (touches p o) h) a d
  modes_local a (deed.Switch m mode code) event o touched =
      sym (subst (λ k. (code == switch_code p m (filter (touches p k) h)) ≡ (code == switch_code p m h)) (same_Some (first_machine p + m) o touched) (ap (λ c. code == c) (code_thin p m h fine)))
  modes_local a (deed.Mode port mode) event o touched = ap (λ c. mode == c) (mode_same port (machine_of_port p port) refl o touched)
  modes_local (Machine m) (deed.Phase s) event o touched =
      sym (subst (λ k. phase_after p m (filter (touches p k) h) (stage_of m (filter (touches p k) h)) s ≡ phase_after p m h (stage_of m h) s) (same_Some (first_machine p + m) o touched)
      (phase_thin p m h fine mapping sound s))
  modes_local Env (deed.Phase s) event o touched = refl
  modes_local (Act k) (deed.Phase s) event o touched = refl
  modes_local a d event o touched = refl

  disabled_local : (e : ℕ) (x : Option Disabling) → disabling_of p e ≡ x → (o : ℕ) → machine_object p (option_map (λ (d : Disabling). d.machine) x) ≡ Some o → is_disabled p e h ≡ is_disabled p e (filter (touches p o) h)
  disabled_local e None is o touched = absurd (cc touched)
  disabled_local e (Some d) is o touched =
      let same : is_disabled_by p d h ≡ is_disabled_by p d (filter (touches p o) h) =
      sym (subst (λ k. is_disabled_by p d (filter (touches p k) h) ≡ is_disabled_by p d h) (same_Some (first_machine p + d.machine) o touched) (disabled_thin p d h fine)) in
      rw is same

  pub admission_local : (a : Actor) (d : Deed) (event : Option ℕ) (o : ℕ) → touched_by p (noting a d event) ≡ Some o → admission_allows p h event d ≡ admission_allows p (filter (touches p o) h) event d
  admission_local a (deed.Admit admitted) None o touched = refl
  admission_local a (deed.Admit admitted) (Some e) o touched = ap (λ b. same_bool admitted (not b)) (disabled_local e (disabling_of p e) refl o touched)
  admission_local a d None o touched = refl
  admission_local a d (Some e) o touched = refl

-- ---- what touches no machine

module _ (p : Plan) (h l : Past) where
  free_port : (port : ℕ) → machine_of_port p port ≡ None → mode_at_port p port h ≡ mode_at_port p port l
  free_port port none = rw none refl

  pub modes_free : (a : Actor) (d : Deed) (event : Option ℕ) → touched_by p (noting a d event) ≡ None → modes_allow p h a d ≡ modes_allow p l a d
  modes_free a (deed.Switch m mode code) event free = absurd (cc free)
  modes_free a (deed.Mode port mode) event free = ap (λ c. mode == c) (free_port port (no_machine p (machine_of_port p port) free))
  modes_free (Machine m) (deed.Phase s) event free = absurd (cc free)
  modes_free Env (deed.Phase s) event free = refl
  modes_free (Act k) (deed.Phase s) event free = refl
  modes_free a d event free = refl

  free_event : (e : ℕ) (x : Option Disabling) → disabling_of p e ≡ x → machine_object p (option_map (λ (d : Disabling). d.machine) x) ≡ None → is_disabled p e h ≡ is_disabled p e l
  free_event e None is free = rw is refl
  free_event e (Some d) is free = absurd (cc free)

  pub admission_free : (a : Actor) (d : Deed) (event : Option ℕ) → touched_by p (noting a d event) ≡ None → admission_allows p h event d ≡ admission_allows p l event d
  admission_free a (deed.Admit admitted) None free = refl
  admission_free a (deed.Admit admitted) (Some e) free = ap (λ b. same_bool admitted (not b)) (free_event e (disabling_of p e) refl free)
  admission_free a d None free = refl
  admission_free a d (Some e) free = refl
