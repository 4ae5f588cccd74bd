-- What is kept of modes looks only at the entries that touch the machine.
use Rattle.std.proofs.Common.{◌≡◌, ℕ, ◌+◌, Bool, true, false, ◌&&◌, ◌||◌, ◌==◌, if◌then◌else◌, refl, sym, ◌∙◌, ap, ◌∷◌, length, Option, Some, None, unwrap_or}
use Rattle.bus_semantics.specs.Common.{eqb-true, list_all, slice_get, same_number, Plan, look, kind_of, Past, Noted, first_machine, machine_object, object_of_kind, disabler_of}
use Rattle.bus_semantics.specs.Common.{machine_of_event, touches, phase_of, stage_of, initial_of, closed_mode, is_close, is_stable_phase, is_phase, next_of, settled_of, is_stable}
use Rattle.bus_semantics.specs.Common.{switched_to, accepted_switches, closes_of, switch_code, mode_of, stage_owes, owes_moment, is_start_by, is_end_by, started_in_phase, is_done}
use Rattle.bus_semantics.specs.Common.{admitted_runs, first_unbegun, is_proper}
use Rattle.std.specs.Prelude.{filter}
use Rattle.rte_value.specs.declared.kinds.Step.TheVariants as step
use Rattle.bus_laws.specs.Common.{MachinePlan, Moment, Actor, Env, Machine, Act, Deed}
use Rattle.bus_semantics.specs.declared.entries.Deed.TheVariants as deed
use Rattle.bus_laws.proofs.Thinning.{noting, differs, none_if, if_same, option_test, thin, newest_thin, count_thin}

module _ (p : Plan) (m : ℕ) where
  pub at_machine : (n : ℕ) → (m == n) ≡ true → same_number (machine_object p (Some n)) (Some (first_machine p + m)) ≡ true
  at_machine n same = option_test (machine_object p (Some n)) (Some (first_machine p + m)) (ap (λ k. Some (first_machine p + k)) (sym (eqb-true m n same)))

  phase_silent : (a : Actor) (d : Deed) (event : Option ℕ) → touches p (first_machine p + m) (noting a d event) ≡ false → phase_of m (noting a d event) ≡ None
  phase_silent Env d event off = refl
  phase_silent (Act k) d event off = refl
  phase_silent (Machine n) (deed.Phase s) event off = none_if (m == n) s (differs (same_number (machine_object p (Some n)) (Some (first_machine p + m))) (m == n) (at_machine n) off)
  phase_silent (Machine n) d event off = if_same (m == n) None

  pub phase_quiet : (n : Noted) → touches p (first_machine p + m) n ≡ false → phase_of m n ≡ None
  phase_quiet n off = phase_silent n.entry.actor n.entry.deed n.event off

  pub stage_thin : (h : Past) → list_all (is_proper p) h ≡ true → stage_of m (filter (touches p (first_machine p + m)) h) ≡ stage_of m h
  stage_thin h fine = ap (λ s. unwrap_or s step.Entry) (newest_thin (touches p (first_machine p + m)) (is_proper p) (phase_of m) (λ n o off. phase_quiet n off) h fine)

  pub next_thin : (h : Past) → list_all (is_proper p) h ≡ true → next_of p m (filter (touches p (first_machine p + m)) h) ≡ next_of p m h
  next_thin h fine = ap (λ s. unwrap_or s (initial_of p m))
      (newest_thin (touches p (first_machine p + m)) (is_proper p) (λ n. closed_mode (phase_of m n)) (λ n o off. ap closed_mode (phase_quiet n off)) h fine)

  pub settled_thin : (h : Past) → list_all (is_proper p) h ≡ true → settled_of p m (filter (touches p (first_machine p + m)) h) ≡ settled_of p m h
  settled_thin = thin (touches p (first_machine p + m)) (is_proper p) (settled_of p m)
      (λ n h o fine same. λ i. if is_stable_phase (phase_of m n) then next_thin h fine i else same i)
      (λ n h o fine off. ap (λ s. if is_stable_phase s then next_of p m h else settled_of p m h) (phase_quiet n off))

  pub closes_thin : (h : Past) → list_all (is_proper p) h ≡ true → closes_of m (filter (touches p (first_machine p + m)) h) ≡ closes_of m h
  closes_thin = count_thin (touches p (first_machine p + m)) (is_proper p) (λ n. is_close (phase_of m n)) (λ n o off. ap is_close (phase_quiet n off))

  -- ---- switches

  switched_silent : (a : Actor) (d : Deed) (event : Option ℕ) → touches p (first_machine p + m) (noting a d event) ≡ false → switched_to m d ≡ None
  switched_silent a (deed.Switch n mode code) event off = none_if ((m == n) && (code == 0)) mode
      (ap (λ b. b && (code == 0)) (differs (same_number (machine_object p (Some n)) (Some (first_machine p + m))) (m == n) (at_machine n) off))
  switched_silent a d event off = refl

  -- what stands behind the accepted switches before
  switches_with : (n : Noted) (l h : Past) (s : Option ℕ) → switched_to m n.entry.deed ≡ s → accepted_switches m l ≡ accepted_switches m h → accepted_switches m (n ∷ l) ≡ accepted_switches m (n ∷ h)
  switches_with n l h None is same = rw is same
  switches_with n l h (Some mode) is same = rw (is, same) refl

  switches_without : (n : Noted) (h : Past) → switched_to m n.entry.deed ≡ None → accepted_switches m (n ∷ h) ≡ accepted_switches m h
  switches_without n h is = rw is refl

  switches_thin : (h : Past) → list_all (is_proper p) h ≡ true → accepted_switches m (filter (touches p (first_machine p + m)) h) ≡ accepted_switches m h
  switches_thin = thin (touches p (first_machine p + m)) (is_proper p) (accepted_switches m)
      (λ n h o fine same. switches_with n (filter (touches p (first_machine p + m)) h) h (switched_to m n.entry.deed) refl same)
      (λ n h o fine off. switches_without n h (switched_silent n.entry.actor n.entry.deed n.event off))

  pub code_thin : (h : Past) → list_all (is_proper p) h ≡ true → switch_code p m (filter (touches p (first_machine p + m)) h) ≡ switch_code p m h
  code_thin h fine = λ i. look p.machines m (λ (n : MachinePlan). if length (switches_thin h fine i) == closes_thin h fine i + n.queue then 130 else 0) 0

  pub stable_thin : (h : Past) → list_all (is_proper p) h ≡ true → is_stable m (filter (touches p (first_machine p + m)) h) ≡ is_stable m h
  stable_thin h fine = ap (λ s. is_stable_phase (Some s)) (stage_thin h fine)

  pub mode_thin : (h : Past) → list_all (is_proper p) h ≡ true → mode_of p m (filter (touches p (first_machine p + m)) h) ≡ mode_of p m h
  mode_thin h fine = λ i. look p.machines m (λ (n : MachinePlan). if stable_thin h fine i then settled_thin h fine i else length n.modes) 0

  pub unbegun_thin : (h : Past) → list_all (is_proper p) h ≡ true → first_unbegun m (filter (touches p (first_machine p + m)) h) ≡ first_unbegun m h
  unbegun_thin h fine = λ i. slice_get (switches_thin h fine i) (closes_thin h fine i)

  -- ---- an event whose activations matter to the machine

  module _ (e : ℕ) (ours : machine_of_event p e ≡ Some m) where
    end_silent : (a : Actor) (d : Deed) (event : Option ℕ) → touches p (first_machine p + m) (noting a d event) ≡ false → is_end_by e (noting a d event) ≡ false
    end_silent a deed.End None off = refl
    end_silent a deed.End (Some f) off = differs (same_number (machine_object p (machine_of_event p f)) (Some (first_machine p + m))) (f == e)
        (λ same. option_test (machine_object p (machine_of_event p f)) (Some (first_machine p + m))
        (ap (machine_object p) (ap (machine_of_event p) (eqb-true f e same) ∙ ours))) off
    end_silent a d event off = refl

    -- one that the machine disables
    module _ (disabled : disabler_of p e ≡ Some m) where
      not_ours : (f : ℕ) → same_number (machine_object p (disabler_of p f)) (Some (first_machine p + m)) ≡ false → (f == e) ≡ false
      not_ours f off = differs (same_number (machine_object p (disabler_of p f)) (Some (first_machine p + m))) (f == e)
          (λ same. option_test (machine_object p (disabler_of p f)) (Some (first_machine p + m))
          (ap (machine_object p) (ap (disabler_of p) (eqb-true f e same) ∙ disabled))) off

      not_ended : (f : ℕ) → same_number (machine_object p (machine_of_event p f)) (Some (first_machine p + m)) ≡ false → (f == e) ≡ false
      not_ended f off = differs (same_number (machine_object p (machine_of_event p f)) (Some (first_machine p + m))) (f == e)
          (λ same. option_test (machine_object p (machine_of_event p f)) (Some (first_machine p + m))
          (ap (machine_object p) (ap (machine_of_event p) (eqb-true f e same) ∙ ours))) off

      admitted_quiet : (a : Actor) (d : Deed) (event : Option ℕ) (h : Past) → touches p (first_machine p + m) (noting a d event) ≡ false → admitted_runs e (noting a d event ∷ h) ≡ admitted_runs e h
      admitted_quiet a (deed.Admit true) None h off = refl
      admitted_quiet a (deed.Admit true) (Some f) h off = let other = not_ours f off in rw other refl
      admitted_quiet a (deed.Admit false) event h off = refl
      admitted_quiet a deed.End None h off = refl
      admitted_quiet a deed.End (Some f) h off = let other = not_ended f off in rw other refl
      admitted_quiet a d event h off = refl

      admitted_more : (a : Actor) (d : Deed) (event : Option ℕ) (l h : Past) → admitted_runs e l ≡ admitted_runs e h → admitted_runs e (noting a d event ∷ l) ≡ admitted_runs e (noting a d event ∷ h)
      admitted_more a (deed.Admit true) event l h same = by_test (same_number event (Some e)) refl
        where
          by_test : (b : Bool) → same_number event (Some e) ≡ b → admitted_runs e (noting a (deed.Admit true) event ∷ l) ≡ admitted_runs e (noting a (deed.Admit true) event ∷ h)
          by_test true t = rw t refl
          by_test false t = rw t same
      admitted_more a deed.End event l h same = by_test (same_number event (Some e)) refl
        where
          by_test : (b : Bool) → same_number event (Some e) ≡ b → admitted_runs e (noting a deed.End event ∷ l) ≡ admitted_runs e (noting a deed.End event ∷ h)
          by_test true t = rw t refl
          by_test false t = rw t same
      admitted_more a d event l h same = same

      pub admitted_thin : (h : Past) → list_all (is_proper p) h ≡ true → admitted_runs e (filter (touches p (first_machine p + m)) h) ≡ admitted_runs e h
      admitted_thin = thin (touches p (first_machine p + m)) (is_proper p) (admitted_runs e)
          (λ n h o fine same. admitted_more n.entry.actor n.entry.deed n.event (filter (touches p (first_machine p + m)) h) h same)
          (λ n h o fine off. admitted_quiet n.entry.actor n.entry.deed n.event h off)

    -- one that a phase owes
    module _ (waits : object_of_kind p (kind_of p e) ≡ Some (first_machine p + m)) where
      pub start_silent : (a : Actor) (d : Deed) (event : Option ℕ) → touches p (first_machine p + m) (noting a d event) ≡ false → is_start_by e (noting a d event) ≡ false
      start_silent a (deed.Start f point value) event off = differs (same_number (object_of_kind p (kind_of p f)) (Some (first_machine p + m))) (e == f)
          (λ same. option_test (object_of_kind p (kind_of p f)) (Some (first_machine p + m)) (ap (λ k. object_of_kind p (kind_of p k)) (sym (eqb-true e f same)) ∙ waits)) off
      start_silent a d event off = refl

      started_thin : (h : Past) → list_all (is_proper p) h ≡ true → started_in_phase m e (filter (touches p (first_machine p + m)) h) ≡ started_in_phase m e h
      started_thin = thin (touches p (first_machine p + m)) (is_proper p) (started_in_phase m e)
          (λ n h o fine same. ap (λ b. if is_phase (phase_of m n) then false else (is_start_by e n || b)) same)
          (λ n h o fine off. λ i. if is_phase (phase_quiet n off i) then false else (start_silent n.entry.actor n.entry.deed n.event off i || started_in_phase m e h))

      pub done_thin : (h : Past) → list_all (is_proper p) h ≡ true → is_done m e (filter (touches p (first_machine p + m)) h) ≡ is_done m e h
      done_thin = thin (touches p (first_machine p + m)) (is_proper p) (is_done m e)
          (λ n h o fine same. λ i. if is_phase (phase_of m n) then false else if is_end_by e n then started_thin h fine i else same i)
          (λ n h o fine off. λ i. if is_phase (phase_quiet n off i) then false else if end_silent n.entry.actor n.entry.deed n.event off i then started_in_phase m e h else is_done m e h)

  -- ---- what is owed, and what is disabled

  pub owes_thin : (h : Past) → list_all (is_proper p) h ≡ true → (moment : Moment) → owes_moment p m (filter (touches p (first_machine p + m)) h) moment ≡ owes_moment p m h moment
  owes_thin h fine moment = λ i. stage_owes (stage_thin h fine i) (settled_thin h fine i) (next_thin h fine i) moment
