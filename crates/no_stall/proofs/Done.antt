-- What a phase owes is started, or due; and once started it is done, or runs.
use Rattle.std.proofs.Common.{◌≡◌, ℕ, ◌⊎◌, inl, inr, Bool, true, false, ◌&&◌, ◌==◌, if◌then◌else◌, refl, sym, ◌∙◌, ap, subst, [], ◌∷◌, Option, Some, None}
use Rattle.bus_semantics.specs.Common.{eqb-true, false≢true, ActKey, Step, same_key-Decides, same_number-Decides, Plan, disabling_of, runnable_of_event, History, Past, is_of, runs}
use Rattle.bus_semantics.specs.Common.{last_started, noted, note, serves_directly, phase_of, is_phase, owes_moment, is_start_by, is_end_by, started_in_phase, is_done, follows_last}
use Rattle.bus_semantics.specs.Common.{phase_owes, never_started, IsLegal, MayFollow, plain_key, IsSound}
use Rattle.bus_laws.specs.Common.{Moment, Mapping, Actor, Env, Machine, Act, Deed, Entry}
use Rattle.bus_semantics.specs.declared.entries.Deed.TheVariants as deed
use Rattle.bus_laws.proofs.Thinning.{noting}
use Rattle.no_stall.proofs.Premises.{Laws}
use Rattle.no_stall.proofs.Direct.{unadmitted}
use Rattle.no_stall.proofs.Steps.{start_key, OwnStep, ends, admits, goes, step, runs_still, started_still}

-- ---- what is owed and not due has started

no_phase : (o : Option Step) → is_phase o ≡ false → o ≡ None
no_phase None e = refl
no_phase (Some s) e = absurd (false≢true (sym e))

phase_starts_none : (i e : ℕ) (a : Actor) (d : Deed) (event : Option ℕ) → is_phase (phase_of i (noting a d event)) ≡ true → is_start_by e (noting a d event) ≡ false
phase_starts_none i e (Machine n) (deed.Start ev point value) event is = absurd (by_machine (i == n) is)
  where
    by_machine : (b : Bool) → is_phase (if b then None else None) ≡ true → ⊥
    by_machine true e = false≢true e
    by_machine false e = false≢true e
phase_starts_none i e Env (deed.Start ev point value) event is = absurd (false≢true is)
phase_starts_none i e (Act k) (deed.Start ev point value) event is = absurd (false≢true is)
phase_starts_none i e a d event is = refl

pub started_or_due : (p : Plan) (i e : ℕ) (moment : Moment) (l : Past) → owes_moment p i l moment ≡ true → follows_last (is_start_by e) (phase_owes p i moment) l ≡ false
    → (never_started e l && owes_moment p i [] moment) ≡ false → started_in_phase i e l ≡ true
started_or_due p i e moment [] owes undue unopened = absurd (false≢true (sym unopened ∙ owes))
started_or_due p i e moment (n ∷ l) owes undue unopened = by_phase (started_or_due p i e moment l) (is_phase (phase_of i n)) refl
  where
    by_start : (owes_moment p i l moment ≡ true → follows_last (is_start_by e) (phase_owes p i moment) l ≡ false → (never_started e l && owes_moment p i [] moment) ≡ false → started_in_phase i e l ≡ true)
        → phase_of i n ≡ None → (b : Bool) → is_start_by e n ≡ b → started_in_phase i e (n ∷ l) ≡ true
    by_start before none true start = rw (none, start) refl
    by_start before none false other =
        let still : started_in_phase i e l ≡ true = before (rw none at owes) (rw (other, none) at undue) (rw other at unopened) in
        rw (none, other) still

    by_phase : (owes_moment p i l moment ≡ true → follows_last (is_start_by e) (phase_owes p i moment) l ≡ false → (never_started e l && owes_moment p i [] moment) ≡ false → started_in_phase i e l ≡ true)
        → (b : Bool) → is_phase (phase_of i n) ≡ b → started_in_phase i e (n ∷ l) ≡ true
    by_phase before true phase =
        let no_start = phase_starts_none i e n.entry.actor n.entry.deed n.event phase in
        absurd (false≢true (sym undue ∙ due no_start phase))
      where
        due : is_start_by e n ≡ false → is_phase (phase_of i n) ≡ true → follows_last (is_start_by e) (phase_owes p i moment) (n ∷ l) ≡ true
        due no_start phase = rw (no_start, phase, owes) refl
    by_phase before false none = by_start before (no_phase (phase_of i n) none) (is_start_by e n) refl

-- ---- what has started is done, or runs

module _ (p : Plan) (m : Mapping) (sound : IsSound p m) (laws : Laws p m) (e r : ℕ) (starts : runnable_of_event p e ≡ Some r) (undirect : serves_directly p (plain_key r) ≡ false) (enabled : disabling_of p e ≡ None) (i : ℕ) where
  abbrev own : ActKey
  own = plain_key r

  pub record IsRunning (h : History) : Type 0 where
    pub running : runs own h ≡ true
    pub started : last_started own h ≡ Some e

  is_end : (h : History) (x : Entry) → (note h x).event ≡ Some e → x.deed ≡ deed.End → is_end_by e (note h x) ≡ true
  is_end h x event is = rw is ((same_number-Decides (note h x).event (Some e)).1 event)

  start_runs : (h : History) (a : Actor) (d : Deed) → MayFollow p h (record { actor = a; deed = d }) → is_start_by e (note h (record { actor = a; deed = d })) ≡ true → IsRunning (record { actor = a; deed = d } ∷ h)
  start_runs h a (deed.Start ev point value) may is =
      let same : e ≡ ev = eqb-true e ev is in
      let here = subst (λ n. MayFollow p h (record { actor = a; deed = deed.Start n point value })) (sym same) may in
      let key : a ≡ Act own = start_key p m sound e r starts undirect h a point value here in
      let mine : is_of own (record { actor = Act own; deed = deed.Start ev point value }) ≡ true = (same_key-Decides own own).1 refl in
      subst (λ (b : Actor). IsRunning (record { actor = b; deed = deed.Start ev point value } ∷ h)) (sym key) (record { running = rw mine refl; started = rw mine (ap (λ (n : ℕ). Some n) (sym same)) })
  start_runs h a d may is = absurd (false≢true is)

  pub done_or_runs : (h : History) → IsLegal p h → started_in_phase i e (noted h) ≡ true → (is_done i e (noted h) ≡ true) ⊎ IsRunning h
  done_or_runs [] legal is = absurd (false≢true is)
  done_or_runs (x ∷ h) legal is = by_phase (done_or_runs h legal.0) (is_phase (phase_of i (note h x))) refl
    where
      not_admitted : is_of own x ≡ true → (b : Bool) → x.deed ≡ deed.Admit b → last_started own h ≡ Some e → ⊥
      not_admitted mine b is_admit started = unadmitted p m sound laws h legal.0 own x legal.1 mine (λ f _ its. subst (λ n. disabling_of p n ≡ None) (cc (its, started)) enabled) b is_admit

      by_step : is_phase (phase_of i (note h x)) ≡ false → started_in_phase i e (noted h) ≡ true → is_of own x ≡ true → IsRunning h → OwnStep p m sound e r starts undirect h x → (is_done i e (noted (x ∷ h)) ≡ true) ⊎ IsRunning (x ∷ h)
      by_step none before mine on (ends event is_end_deed) = let ended = is_end h x event is_end_deed in inl (rw (none, ended) before)
      by_step none before mine on (admits b is_admit) = absurd (not_admitted mine b is_admit on.started)
      by_step none before mine on (goes running started other unover) = inr (record { running = running; started = started })

      by_own : is_phase (phase_of i (note h x)) ≡ false → started_in_phase i e (noted h) ≡ true → IsRunning h → (b : Bool) → is_of own x ≡ b → (is_done i e (noted (x ∷ h)) ≡ true) ⊎ IsRunning (x ∷ h)
      by_own none before on true mine = by_step none before mine on (step p m sound e r starts undirect h x legal.1 mine on.running on.started)
      by_own none before on false other = inr (record { running = runs_still p m sound e r starts undirect h x other on.running; started = started_still p m sound e r starts undirect h x other on.started })

      by_end : is_phase (phase_of i (note h x)) ≡ false → started_in_phase i e (noted h) ≡ true → is_done i e (noted h) ≡ true → (b : Bool) → is_end_by e (note h x) ≡ b → is_done i e (noted (x ∷ h)) ≡ true
      by_end none before done true ended = rw (none, ended) before
      by_end none before done false other = rw (none, other) done

      by_before : is_phase (phase_of i (note h x)) ≡ false → started_in_phase i e (noted h) ≡ true → (is_done i e (noted h) ≡ true) ⊎ IsRunning h → (is_done i e (noted (x ∷ h)) ≡ true) ⊎ IsRunning (x ∷ h)
      by_before none before (inl done) = inl (by_end none before done (is_end_by e (note h x)) refl)
      by_before none before (inr on) = by_own none before on (is_of own x) refl

      by_start : (started_in_phase i e (noted h) ≡ true → (is_done i e (noted h) ≡ true) ⊎ IsRunning h) → is_phase (phase_of i (note h x)) ≡ false → (b : Bool) → is_start_by e (note h x) ≡ b → (is_done i e (noted (x ∷ h)) ≡ true) ⊎ IsRunning (x ∷ h)
      by_start before none true start = inr (start_runs h x.actor x.deed legal.1 start)
      by_start before none false other = let earlier : started_in_phase i e (noted h) ≡ true = rw (none, other) at is in by_before none earlier (before earlier)

      by_phase : (started_in_phase i e (noted h) ≡ true → (is_done i e (noted h) ≡ true) ⊎ IsRunning h) → (b : Bool) → is_phase (phase_of i (note h x)) ≡ b → (is_done i e (noted (x ∷ h)) ≡ true) ⊎ IsRunning (x ∷ h)
      by_phase before true phase = absurd (false≢true (rw phase at is))
      by_phase before false none = by_start before none (is_start_by e (note h x)) refl
