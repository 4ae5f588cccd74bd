-- What one entry leaves of where a machine stands, and makes of its events: an entry that is none of its phases, and one that is.
use Rattle.std.proofs.Common.{◌≡◌, ℕ, suc, Bool, true, false, not, ◌&&◌, ◌||◌, if◌then◌else◌, refl, ◌∙◌, ap, [], ◌∷◌, Option, Some, None}
use Rattle.std.specs.Prelude.{unwrap_or}
use Rattle.bus_semantics.specs.Common.{list_any, option_or, false≢true, Step, Plan, kind_of, Noted, Past, newest, is_machine, phase_in, phase_of, stage_of, settled_of, next_of, initial_of}
use Rattle.bus_semantics.specs.Common.{is_stable_phase, is_close, is_phase, closed_mode, closes_of, stage_owes, owes_moment, is_start_by, is_end_by, started_in_phase, is_done, follows_last}
use Rattle.bus_semantics.specs.Common.{ends_transition, phase_owes, never_started, switch_due, runs_by}
use Rattle.std.proofs.Math.Bool.{and-true, or_assoc}
use Rattle.rte_value.specs.declared.kinds.Step.TheVariants as step
use Rattle.bus_semantics.specs.declared.plan.Moment.{Moment}
use Rattle.bus_semantics.specs.declared.plan.Moment.TheVariants.{OnExit, OnTransition, OnEntry}
use Rattle.bus_semantics.specs.declared.entries.Actor.{Actor}
use Rattle.bus_semantics.specs.declared.entries.Deed.{Deed}
use Rattle.mode_machine.specs.Kept as machines
use Rattle.mode_machine.specs.Owed.{owes, owed_by}
use Rattle.object_kinds.proofs.Proper.{noting}
use Rattle.machine_objects.specs.Layout.{moment_in, moment_at, mode_event}
use Rattle.machine_objects.specs.Standing.{owed_after, acked_after, machine_after}

-- a deed that is no phase is none of the machine's
pub no_phase : (m : ℕ) (a : Actor) (d : Deed) (event : Option ℕ) → phase_in d ≡ None → phase_of m (noting a d event) ≡ None
no_phase m a d event none = by_actor (is_machine m a)
  where
    by_actor : (b : Bool) → (if b then phase_in d else None) ≡ None
    by_actor true = none
    by_actor false = refl

-- ---- an entry that is no phase

module _ (p : Plan) (m : ℕ) (n : Noted) (l : Past) (none : phase_of m n ≡ None) where
  pub stage_stays : stage_of m (n ∷ l) ≡ stage_of m l
  stage_stays = ap (λ o. unwrap_or (option_or o (newest (phase_of m) l)) step.Entry) none

  pub next_stays : next_of p m (n ∷ l) ≡ next_of p m l
  next_stays = ap (λ o. unwrap_or (option_or (closed_mode o) (newest (λ k. closed_mode (phase_of m k)) l)) (initial_of p m)) none

  pub settled_stays : settled_of p m (n ∷ l) ≡ settled_of p m l
  settled_stays = ap (λ o. if is_stable_phase o then next_of p m l else settled_of p m l) none

  pub stable_stays : list_any (λ k. is_stable_phase (phase_of m k)) (n ∷ l) ≡ list_any (λ k. is_stable_phase (phase_of m k)) l
  stable_stays = ap (λ o. is_stable_phase o || list_any (λ k. is_stable_phase (phase_of m k)) l) none

  pub closes_stay : closes_of m (n ∷ l) ≡ closes_of m l
  closes_stay = ap (λ o. if is_close o then suc (closes_of m l) else closes_of m l) none

  owes_stays : (at : Moment) → owes_moment p m (n ∷ l) at ≡ owes_moment p m l at
  owes_stays at = λ i. stage_owes (stage_stays i) (settled_stays i) (next_stays i) at

  begun_next : (e : ℕ) → started_in_phase m e (n ∷ l) ≡ (is_start_by e n || started_in_phase m e l)
  begun_next e = ap (λ o. if is_phase o then false else (is_start_by e n || started_in_phase m e l)) none

  done_next : (e : ℕ) → is_done m e (n ∷ l) ≡ (if is_end_by e n then started_in_phase m e l else is_done m e l)
  done_next e = ap (λ o. if is_phase o then false else if is_end_by e n then started_in_phase m e l else is_done m e l) none

  due_next : (e : ℕ) (at : Moment) → switch_due p e m at (n ∷ l) ≡ (not (is_start_by e n) && switch_due p e m at l)
  due_next e at =
      ap (λ o. (not (is_start_by e n) && ((is_phase o && owes_moment p m (n ∷ l) at) || follows_last (is_start_by e) (phase_owes p m at) l)) || (never_started e (n ∷ l) && owes_moment p m [] at)) none
      ∙ by_start (is_start_by e n) (list_any (is_start_by e) l) (follows_last (is_start_by e) (phase_owes p m at) l) (owes_moment p m [] at)
    where
      by_start : (starts any follows first : Bool) → ((not starts && follows) || (not (starts || any) && first)) ≡ (not starts && (follows || (not any && first)))
      by_start true any follows first = refl
      by_start false any follows first = refl

  pub acked_next : (e : ℕ) → acked_after m (n ∷ l) e ≡ (not (is_start_by e n) && acked_after m l e)
  acked_next e = ap (λ o. not (is_start_by e n) && ((is_stable_phase o && list_any (λ k. is_stable_phase (phase_of m k)) l) || follows_last (is_start_by e) (ends_transition m) l)) none

  owed_next : (e : ℕ) (starts ends : Bool) (runs : Option Bool) → is_start_by e n ≡ starts → is_end_by e n ≡ ends → runs_by e n ≡ runs
      → owed_after p m (n ∷ l) e ≡ record {
        moment = moment_at p e;
        due = not starts && switch_due p e m (moment_in (kind_of p e)) l;
        running = unwrap_or (option_or runs (newest (runs_by e) l)) false;
        begun = starts || started_in_phase m e l;
        left = owes_moment p m l (moment_in (kind_of p e)) && not (if ends then started_in_phase m e l else is_done m e l);
      }
  owed_next e starts ends runs is_start is_end is_run = λ i. record {
    moment = moment_at p e;
    due = (due_next e (moment_in (kind_of p e)) ∙ ap (λ b. not b && switch_due p e m (moment_in (kind_of p e)) l) is_start) i;
    running = unwrap_or (option_or (is_run i) (newest (runs_by e) l)) false;
    begun = (begun_next e ∙ ap (λ b. b || started_in_phase m e l) is_start) i;
    left = owes_stays (moment_in (kind_of p e)) i && not ((done_next e ∙ ap (λ b. if b then started_in_phase m e l else is_done m e l) is_end) i);
  }

  -- an event of which the entry is no start and no end
  pub owed_stays : (e : ℕ) → is_start_by e n ≡ false → is_end_by e n ≡ false → runs_by e n ≡ None → owed_after p m (n ∷ l) e ≡ owed_after p m l e
  owed_stays e no_start no_end no_run = owed_next e false false None no_start no_end no_run

  pub owed_started : (e : ℕ) → is_start_by e n ≡ true → is_end_by e n ≡ false → runs_by e n ≡ Some true
      → owed_after p m (n ∷ l) e ≡ record { moment = moment_at p e; due = false; running = true; begun = true; left = (owed_after p m l e).left }
  owed_started e start no_end run = owed_next e true false (Some true) start no_end run

  pub owed_ended : (e : ℕ) → is_start_by e n ≡ false → is_end_by e n ≡ true → runs_by e n ≡ Some false
      → owed_after p m (n ∷ l) e ≡ record {
        moment = moment_at p e;
        due = (owed_after p m l e).due;
        running = false;
        begun = (owed_after p m l e).begun;
        left = owes_moment p m l (moment_in (kind_of p e)) && not (started_in_phase m e l);
      }
  owed_ended e no_start end run = owed_next e false true (Some false) no_start end run

-- what is done was begun
pub done_begun : (m e : ℕ) (l : Past) → is_done m e l ≡ true → started_in_phase m e l ≡ true
done_begun m e [] done = absurd (false≢true done)
done_begun m e (n ∷ l) done = by_phase (is_phase (phase_of m n)) (done_begun m e l) done
  where
    by_start : (b : Bool) → started_in_phase m e l ≡ true → (b || started_in_phase m e l) ≡ true
    by_start true begun = refl
    by_start false begun = begun

    by_end : (b : Bool) → (is_done m e l ≡ true → started_in_phase m e l ≡ true) → (if b then started_in_phase m e l else is_done m e l) ≡ true → started_in_phase m e l ≡ true
    by_end true before ended = ended
    by_end false before ended = before ended

    by_phase : (b : Bool) → (is_done m e l ≡ true → started_in_phase m e l ≡ true) → (if b then false else if is_end_by e n then started_in_phase m e l else is_done m e l) ≡ true
        → (if b then false else (is_start_by e n || started_in_phase m e l)) ≡ true
    by_phase true before is = absurd (false≢true is)
    by_phase false before is = by_start (is_start_by e n) (by_end (is_end_by e n) before is)

-- ---- a phase

-- what a phase owes, in the words of the machine
pub owes_same : (s : Step) (settled next : ℕ) (at : Moment) → stage_owes s settled next at ≡ owes s settled next (mode_event at)
owes_same (step.Close mode) settled next at = refl
owes_same step.Exit settled next (OnExit a) = refl
owes_same step.Exit settled next (OnTransition a b) = refl
owes_same step.Exit settled next (OnEntry b) = refl
owes_same step.Transition settled next (OnExit a) = refl
owes_same step.Transition settled next (OnTransition a b) = refl
owes_same step.Transition settled next (OnEntry b) = refl
owes_same step.Entry settled next (OnExit a) = refl
owes_same step.Entry settled next (OnTransition a b) = refl
owes_same step.Entry settled next (OnEntry b) = refl
owes_same step.Stable settled next at = refl

pub stable_step : (t : Step) → is_stable_phase (Some t) ≡ machines.is_stable t
stable_step (step.Close mode) = refl
stable_step step.Exit = refl
stable_step step.Transition = refl
stable_step step.Entry = refl
stable_step step.Stable = refl

module _ (p : Plan) (m : ℕ) (s : Step) (n : Noted) (l : Past) (phase : phase_of m n ≡ Some s) where
  pub stage_is : stage_of m (n ∷ l) ≡ s
  stage_is = ap (λ o. unwrap_or (option_or o (newest (phase_of m) l)) step.Entry) phase

  pub next_is : next_of p m (n ∷ l) ≡ machines.next_after s (machine_after p m l)
  next_is = ap (λ o. unwrap_or (option_or (closed_mode o) (newest (λ k. closed_mode (phase_of m k)) l)) (initial_of p m)) phase ∙ by_step s
    where
      by_step : (t : Step) → unwrap_or (option_or (closed_mode (Some t)) (newest (λ k. closed_mode (phase_of m k)) l)) (initial_of p m) ≡ machines.next_after t (machine_after p m l)
      by_step (step.Close mode) = refl
      by_step step.Exit = refl
      by_step step.Transition = refl
      by_step step.Entry = refl
      by_step step.Stable = refl

  is_stable : is_stable_phase (phase_of m n) ≡ machines.is_stable s
  is_stable = ap is_stable_phase phase ∙ stable_step s

  pub settled_is : settled_of p m (n ∷ l) ≡ machines.settled_after s (machine_after p m l)
  settled_is = ap (λ b. if b then next_of p m l else settled_of p m l) is_stable

  pub stable_is : list_any (λ k. is_stable_phase (phase_of m k)) (n ∷ l) ≡ (machines.is_stable s || list_any (λ k. is_stable_phase (phase_of m k)) l)
  stable_is = ap (λ b. b || list_any (λ k. is_stable_phase (phase_of m k)) l) is_stable

  pub closes_is : closes_of m (n ∷ l) ≡ (if is_close (Some s) then suc (closes_of m l) else closes_of m l)
  closes_is = ap (λ o. if is_close o then suc (closes_of m l) else closes_of m l) phase

  owes_is : (at : Moment) → owes_moment p m (n ∷ l) at ≡ owes s (settled_of p m l) (machines.next_after s (machine_after p m l)) (mode_event at)
  owes_is at = (λ i. stage_owes (stage_is i) (settled_is i) (next_is i) at) ∙ by_step s
    where
      by_step : (t : Step) → stage_owes t (machines.settled_after t (machine_after p m l)) (machines.next_after t (machine_after p m l)) at ≡ owes t (settled_of p m l) (machines.next_after t (machine_after p m l)) (mode_event at)
      by_step (step.Close mode) = refl
      by_step step.Exit = owes_same step.Exit (settled_of p m l) (next_of p m l) at
      by_step step.Transition = owes_same step.Transition (settled_of p m l) (next_of p m l) at
      by_step step.Entry = owes_same step.Entry (settled_of p m l) (next_of p m l) at
      by_step step.Stable = refl

  -- an event, where the phase is no start and no end
  pub owed_phase : (e : ℕ) → is_start_by e n ≡ false → runs_by e n ≡ None → owed_after p m (n ∷ l) e ≡ owed_by s (settled_of p m l) (machines.next_after s (machine_after p m l)) (owed_after p m l e)
  owed_phase e no_start no_run = λ i. record {
    moment = moment_at p e;
    due = due_is i;
    running = unwrap_or (option_or (no_run i) (newest (runs_by e) l)) false;
    begun = ap (λ o. if is_phase o then false else (is_start_by e n || started_in_phase m e l)) phase i;
    left = left_is i;
  }
    where
      at : Moment
      at = moment_in (kind_of p e)

      owed : Bool
      owed = owes s (settled_of p m l) (machines.next_after s (machine_after p m l)) (mode_event at)

      due_is : switch_due p e m at (n ∷ l) ≡ (owed || switch_due p e m at l)
      due_is =
          (λ i. (not (no_start i) && ((is_phase (phase i) && owes_is at i) || follows_last (is_start_by e) (phase_owes p m at) l)) || (not (no_start i || list_any (is_start_by e) l) && owes_moment p m [] at))
          ∙ or_assoc owed (follows_last (is_start_by e) (phase_owes p m at) l) (never_started e l && owes_moment p m [] at)

      left_is : (owes_moment p m (n ∷ l) at && not (is_done m e (n ∷ l))) ≡ owed
      left_is = (λ i. owes_is at i && not (if is_phase (phase i) then false else if is_end_by e n then started_in_phase m e l else is_done m e l)) ∙ and-true owed

  pub acked_phase : (e : ℕ) → is_start_by e n ≡ false → acked_after m (n ∷ l) e ≡ ((machines.is_stable s && list_any (λ k. is_stable_phase (phase_of m k)) l) || acked_after m l e)
  acked_phase e no_start = λ i. not (no_start i) && ((is_stable i && list_any (λ k. is_stable_phase (phase_of m k)) l) || acked_after m l e)
