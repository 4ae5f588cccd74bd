-- What holds after any past of a machine: no more switches began than were accepted, no more wait than may, and an activation by an event
-- that the machine disables runs exactly if it was admitted and has not ended.
use Rattle.std.proofs.Common.{◌≡◌, ◌≤◌, ◌+◌, inl, inr, ℕ, suc, Bool, true, false, ◌==◌, if◌then◌else◌, refl, sym, ◌∙◌, ap, subst, arith, [], ◌∷◌, ◌++◌, length, Option, Some, None}
use Rattle.std.specs.Prelude.{unwrap_or}
use Rattle.bus_semantics.specs.Common.{slice_get, option_or, cases_lt, eq-eqb, eqb-true, false≢true, length-append, slice_get_within, Step, same_number, Plan, Past, newest, phase_in}
use Rattle.bus_semantics.specs.Common.{stage_of, accepted_switches, closes_of, switch_code, is_close, first_unbegun, phase_after, phase_may_come, admitted_runs, is_open, runs_by, Follows}
use Rattle.bus_semantics.specs.Common.{IsPastOf}
use Rattle.rte_value.specs.declared.kinds.Step.TheVariants as step
use Rattle.bus_semantics.specs.declared.plan.MachinePlan.{MachinePlan}
use Rattle.bus_semantics.specs.declared.entries.Actor.{Actor}
use Rattle.bus_semantics.specs.declared.entries.Actor.TheVariants.{Machine}
use Rattle.bus_semantics.specs.declared.entries.Deed.{Deed}
use Rattle.bus_semantics.specs.declared.entries.Deed.TheVariants as deed
use Rattle.object_kinds.proofs.Proper.{noting}
use Rattle.machine_objects.specs.Layout.{IsMachine, machine_of, places_of, starts_elsewhere}
use Rattle.machine_objects.proofs.Picking.{item_at}
use Rattle.machine_objects.proofs.Moves.{no_phase, closes_stay, closes_is}
use Rattle.machine_objects.proofs.Touches.{differ, switch_itself, start_here, phase_itself}

-- two numbers of which one is no more and not the same
below : (a b : ℕ) → a ≤ b → (a ≡ b → ⊥) → a + 1 ≤ b
below a b few other = elim (cases_lt a b) [ inl less ↦ omega arith | inr more ↦ absurd (other (omega arith)) ]

-- ---- switches

pub record InOrder (p : Plan) (m : ℕ) (l : Past) : Type 0 where
  pub begun : closes_of m l ≤ length (accepted_switches m l)
  pub waiting : length (accepted_switches m l) ≤ closes_of m l + places_of p m

pub machine_there : (p : Plan) (object : ℕ) → IsMachine p object → (n : MachinePlan) × (slice_get p.machines (machine_of p object) ≡ Some n)
machine_there p object is = let from = is.from in let below = is.below in item_at p.machines (machine_of p object) (omega arith)

module _ (p : Plan) (object : ℕ) (is : IsMachine p object) where
  abbrev pub m : ℕ
  m = machine_of p object

  stays : (a : Actor) (d : Deed) (event : Option ℕ) (l : Past) → InOrder p m l → phase_in d ≡ None → accepted_switches m (noting a d event ∷ l) ≡ accepted_switches m l → InOrder p m (noting a d event ∷ l)
  stays a d event l order none accepted =
      let same = closes_stay p m (noting a d event) l (no_phase m a d event none) in
      let begun = order.begun in
      let waiting = order.waiting in
      let long = ap length accepted in
      record { begun = omega arith; waiting = omega arith }

  -- a switch is accepted where a place is free
  pub switch_code_is : (l : Past) → switch_code p m l ≡ (if length (accepted_switches m l) == closes_of m l + places_of p m then 130 else 0)
  switch_code_is l = let there = (machine_there p object is).1 in rw there refl

  pub accepted_is : (a : Actor) (mode code : ℕ) (event : Option ℕ) (l : Past) (b : Bool) → (code == 0) ≡ b
      → accepted_switches m (noting a (deed.Switch m mode code) event ∷ l) ≡ (if b then accepted_switches m l ++ mode ∷ [] else accepted_switches m l)
  accepted_is a mode code event l true zero = let own : (m == m) ≡ true = eq-eqb m m refl in rw (own, zero) refl
  accepted_is a mode code event l false zero = let own : (m == m) ≡ true = eq-eqb m m refl in rw (own, zero) refl

  switched : (a : Actor) (mode code : ℕ) (event : Option ℕ) (l : Past) → InOrder p m l → (code == switch_code p m l) ≡ true → InOrder p m (noting a (deed.Switch m mode code) event ∷ l)
  switched a mode code event l order answer = by_code (code == 0) refl
    where
      same : closes_of m (noting a (deed.Switch m mode code) event ∷ l) ≡ closes_of m l
      same = closes_stay p m (noting a (deed.Switch m mode code) event) l (no_phase m a (deed.Switch m mode code) event refl)

      by_code : (b : Bool) → (code == 0) ≡ b → InOrder p m (noting a (deed.Switch m mode code) event ∷ l)
      by_code false zero =
          let begun = order.begun in
          let waiting = order.waiting in
          let long : length (accepted_switches m (noting a (deed.Switch m mode code) event ∷ l)) ≡ length (accepted_switches m l) = ap length (accepted_is a mode code event l false zero) in
          record { begun = omega (arith, same); waiting = omega (arith, same) }
      by_code true zero = by_room (length (accepted_switches m l) == closes_of m l + places_of p m) refl
        where
          by_room : (b : Bool) → (length (accepted_switches m l) == closes_of m l + places_of p m) ≡ b → InOrder p m (noting a (deed.Switch m mode code) event ∷ l)
          by_room true full =
              let none : code ≡ 0 = eqb-true code 0 zero in
              let is_code : code ≡ switch_code p m l = eqb-true code (switch_code p m l) answer in
              let limit : code ≡ 130 = is_code ∙ switch_code_is l ∙ ap (λ b. if b then 130 else 0) full in
              absurd (omega arith)
          by_room false free =
              let begun = order.begun in
              let waiting = order.waiting in
              let long : length (accepted_switches m (noting a (deed.Switch m mode code) event ∷ l)) ≡ length (accepted_switches m l) + 1 = ap length (accepted_is a mode code event l true zero) ∙ length-append (accepted_switches m l) (mode ∷ []) in
              let other : length (accepted_switches m l) ≡ closes_of m l + places_of p m → ⊥ = λ is. false≢true (sym free ∙ eq-eqb (length (accepted_switches m l)) (closes_of m l + places_of p m) is) in
              let less = below (length (accepted_switches m l)) (closes_of m l + places_of p m) waiting other in
              record { begun = omega (arith, same); waiting = omega (arith, same) }

  -- a Close takes a switch that has not begun
  closing : (l : Past) (t : Step) (mode : ℕ) → phase_after p m l t (step.Close mode) ≡ true → same_number (first_unbegun m l) (Some mode) ≡ true
  closing l step.Stable mode comes = comes
  closing l (step.Close other) mode comes = absurd (false≢true comes)
  closing l step.Exit mode comes = absurd (false≢true comes)
  closing l step.Transition mode comes = absurd (false≢true comes)
  closing l step.Entry mode comes = absurd (false≢true comes)

  some_unbegun : (o : Option ℕ) (mode : ℕ) → same_number o (Some mode) ≡ true → o ≡ Some mode
  some_unbegun None mode same = absurd (false≢true same)
  some_unbegun (Some k) mode same = ap (λ z. Some z) (eqb-true k mode same)

  moved : (s : Step) (event : Option ℕ) (l : Past) → InOrder p m l → phase_after p m l (stage_of m l) s ≡ true → InOrder p m (noting (Machine m) (deed.Phase s) event ∷ l)
  moved s event l order comes = by_step s comes closes
    where
      closes : closes_of m (noting (Machine m) (deed.Phase s) event ∷ l) ≡ (if is_close (Some s) then suc (closes_of m l) else closes_of m l)
      closes = closes_is p m s (noting (Machine m) (deed.Phase s) event) l (ap (λ b. if b then Some s else None) (eq-eqb m m refl))

      by_step : (t : Step) → phase_after p m l (stage_of m l) t ≡ true → closes_of m (noting (Machine m) (deed.Phase s) event ∷ l) ≡ (if is_close (Some t) then suc (closes_of m l) else closes_of m l)
          → InOrder p m (noting (Machine m) (deed.Phase s) event ∷ l)
      by_step (step.Close mode) may same =
          let less = slice_get_within (accepted_switches m l) (closes_of m l) mode (some_unbegun (first_unbegun m l) mode (closing l (stage_of m l) mode may)) in
          let waiting = order.waiting in
          record { begun = omega arith; waiting = omega arith }
      by_step step.Exit may same = let begun = order.begun in let waiting = order.waiting in record { begun = omega arith; waiting = omega arith }
      by_step step.Transition may same = let begun = order.begun in let waiting = order.waiting in record { begun = omega arith; waiting = omega arith }
      by_step step.Entry may same = let begun = order.begun in let waiting = order.waiting in record { begun = omega arith; waiting = omega arith }
      by_step step.Stable may same = let begun = order.begun in let waiting = order.waiting in record { begun = omega arith; waiting = omega arith }

  follows_order : (a : Actor) (d : Deed) (event : Option ℕ) (l : Past) → InOrder p m l → Follows p object l (noting a d event) → InOrder p m (noting a d event ∷ l)
  follows_order a (deed.Switch n mode code) event l order follows =
      let same : m ≡ n = sym (switch_itself p object is a event n mode code follows.touching) in
      let answer : (code == switch_code p m l) ≡ true = ap (λ k. code == switch_code p k l) same ∙ follows.answers.modes in
      subst (λ k. InOrder p m (noting a (deed.Switch k mode code) event ∷ l)) same (switched a mode code event l order answer)
  follows_order a (deed.Phase s) event l order follows =
      let itself : Machine m ≡ a = sym (phase_itself p object is a s event follows.touching) in
      let comes : phase_may_come p (Machine m) l s ≡ true = ap (λ k. phase_may_come p k l s) itself ∙ follows.answers.modes in
      subst (λ k. InOrder p m (noting k (deed.Phase s) event ∷ l)) itself (moved s event l order comes)
  follows_order a d event l order follows = stays a d event l order refl refl

  pub past_in_order : (l : Past) → IsPastOf p object l → InOrder p m l
  past_in_order [] past = record { begun = omega arith; waiting = omega arith }
  past_in_order (n ∷ l) past = follows_order n.entry.actor n.entry.deed n.event l (past_in_order l past.0) past.1

  -- ---- admitted activations

  -- an activation by the event runs exactly if it was admitted
  abbrev pub RunsAdmitted : (e : ℕ) → Past → Type 0
  RunsAdmitted e l = is_open (runs_by e) l ≡ admitted_runs e l

  follows_admitted : (e : ℕ) → starts_elsewhere p object e ≡ true → (a : Actor) (d : Deed) (event : Option ℕ) (l : Past) → RunsAdmitted e l → Follows p object l (noting a d event) → RunsAdmitted e (noting a d event ∷ l)
  follows_admitted e elsewhere a (deed.Start f point value) event l same follows =
      let other : (e == f) ≡ false = differ (starts_elsewhere p object) e f elsewhere (start_here p object is a event f point value follows.touching) in
      ap (λ b. unwrap_or (option_or (if b then Some true else None) (newest (runs_by e) l)) false) other ∙ same
  follows_admitted e elsewhere a (deed.Admit true) event l same follows = by_event (same_number event (Some e)) refl
    where
      by_event : (b : Bool) → same_number event (Some e) ≡ b → RunsAdmitted e (noting a (deed.Admit true) event ∷ l)
      by_event true it = rw it refl
      by_event false it = rw it same
  follows_admitted e elsewhere a deed.End event l same follows = by_event (same_number event (Some e)) refl
    where
      by_event : (b : Bool) → same_number event (Some e) ≡ b → RunsAdmitted e (noting a deed.End event ∷ l)
      by_event true it = rw it refl
      by_event false it = rw it same
  follows_admitted e elsewhere a d event l same follows = same

  pub past_admitted : (e : ℕ) → starts_elsewhere p object e ≡ true → (l : Past) → IsPastOf p object l → RunsAdmitted e l
  past_admitted e elsewhere [] past = refl
  past_admitted e elsewhere (n ∷ l) past = follows_admitted e elsewhere n.entry.actor n.entry.deed n.event l (past_admitted e elsewhere l past.0) past.1
