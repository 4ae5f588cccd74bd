-- No admitted activation runs whose event is disabled: by the machine's next mode, or by its settled one.
use Rattle.std.proofs.Common.{◌≡◌, ℕ, suc, Bool, true, false, ◌||◌, not, ◌==◌, if◌then◌else◌, refl, sym, ◌∙◌, ap, subst, arith, [], ◌∷◌, Option, Some, None}
use Rattle.bus_semantics.specs.Common.{and_parts, or_left, or_right, eqb-true, false≢true, same_Some, slice_get, option_map_or, Step, same_number, Plan, disabling_of, disabler_of, History}
use Rattle.bus_semantics.specs.Common.{Noted, Past, noted, note, phase_of, stage_of, waits_of, closes_of, is_close, is_stable, is_stable_phase, initial_of, next_of, settled_of, disables}
use Rattle.bus_semantics.specs.Common.{admitted_runs, mode_disables, none_runs_disabled, is_disabled_by, is_disabled, phase_after, modes_allow, admission_allows, IsLegal}
use Rattle.rte_value.specs.declared.kinds.Step.TheVariants as step
use Rattle.bus_laws.specs.Common.{EventPlan, Disabling, Actor, Env, Machine, Act, Deed}
use Rattle.bus_semantics.specs.declared.entries.Deed.TheVariants as deed
use Rattle.bus_laws.proofs.Thinning.{noting, option_same, every_at}

module _ (p : Plan) (m : ℕ) where
  -- of each event that a mode disables no admitted activation runs
  abbrev QuietIn : (mode : ℕ) → Past → Type 0
  QuietIn mode l = (e : ℕ) (v : EventPlan) → slice_get p.events e ≡ Some v → mode_disables v.disabled m mode ≡ true → admitted_runs e l ≡ false

  abbrev Quiet : Past → Type 0
  Quiet l = QuietIn (next_of p m l) l

  quiet_of : (l : Past) → none_runs_disabled p m l ≡ true → Quiet l
  quiet_of l none e v there disables = by_test (mode_disables v.disabled m (next_of p m l)) (admitted_runs e l) disables
      (every_at (λ e (v : EventPlan). not (mode_disables v.disabled m (next_of p m l)) || not (admitted_runs e l)) 0 p.events none e e v (omega arith) there)
    where
      by_test : (b c : Bool) → b ≡ true → (not b || not c) ≡ true → c ≡ false
      by_test true true d n = absurd (false≢true n)
      by_test true false d n = refl
      by_test false c d n = absurd (false≢true d)

  -- ---- an event that the next mode disables is not admitted

  settled_is_next : (l : Past) → is_stable m l ≡ true → settled_of p m l ≡ next_of p m l
  settled_is_next [] stable = absurd (false≢true stable)
  settled_is_next (n ∷ l) stable = by_phase (settled_is_next l) (phase_of m n) refl
    where
      by_phase : (is_stable m l ≡ true → settled_of p m l ≡ next_of p m l) → (o : Option Step) → phase_of m n ≡ o → settled_of p m (n ∷ l) ≡ next_of p m (n ∷ l)
      by_phase before None is = rw is (before (rw is at stable))
      by_phase before (Some step.Stable) is = rw is refl
      by_phase before (Some (step.Close mode)) is = absurd (false≢true (rw is at stable))
      by_phase before (Some step.Exit) is = absurd (false≢true (rw is at stable))
      by_phase before (Some step.Transition) is = absurd (false≢true (rw is at stable))
      by_phase before (Some step.Entry) is = absurd (false≢true (rw is at stable))

  disabled_by : (d : Disabling) (l : Past) → m ≡ d.machine → disables d m (next_of p m l) ≡ true → is_disabled_by p d l ≡ true
  disabled_by d l same by_next = subst (λ n. (if is_stable n l then disables d n (settled_of p n l) else disables d n (settled_of p n l) || disables d n (next_of p n l)) ≡ true) same (by_stable (is_stable m l) refl)
    where
      by_stable : (b : Bool) → is_stable m l ≡ b → (if b then disables d m (settled_of p m l) else disables d m (settled_of p m l) || disables d m (next_of p m l)) ≡ true
      by_stable true is = ap (disables d m) (settled_is_next l is) ∙ by_next
      by_stable false is = or_right (disables d m (settled_of p m l)) (disables d m (next_of p m l)) by_next

  disabled_by_settled : (d : Disabling) (l : Past) → m ≡ d.machine → disables d m (settled_of p m l) ≡ true → is_disabled_by p d l ≡ true
  disabled_by_settled d l same by_mode = subst (λ n. (if is_stable n l then disables d n (settled_of p n l) else disables d n (settled_of p n l) || disables d n (next_of p n l)) ≡ true) same (by_stable (is_stable m l))
    where
      by_stable : (b : Bool) → (if b then disables d m (settled_of p m l) else disables d m (settled_of p m l) || disables d m (next_of p m l)) ≡ true
      by_stable true = by_mode
      by_stable false = or_left (disables d m (settled_of p m l)) (disables d m (next_of p m l)) by_mode

  disabled_settled : (e : ℕ) (v : EventPlan) (l : Past) → slice_get p.events e ≡ Some v → mode_disables v.disabled m (settled_of p m l) ≡ true → is_disabled p e l ≡ true
  disabled_settled e v l there disabling = by_disabled v.disabled disabling (ap (λ (o : Option EventPlan). option_map_or (λ (w : EventPlan). w.disabled) o None) there)
    where
      by_disabled : (o : Option Disabling) → mode_disables o m (settled_of p m l) ≡ true → disabling_of p e ≡ o → is_disabled p e l ≡ true
      by_disabled None never is = absurd (false≢true never)
      by_disabled (Some d) by_mode is = let same : d.machine ≡ m = eqb-true d.machine m (and_parts (d.machine == m) _ by_mode).0 in rw is (disabled_by_settled d l (sym same) by_mode)

  disabled_next : (e : ℕ) (v : EventPlan) (l : Past) → slice_get p.events e ≡ Some v → mode_disables v.disabled m (next_of p m l) ≡ true → is_disabled p e l ≡ true
  disabled_next e v l there disabling = by_disabled v.disabled disabling (ap (λ (o : Option EventPlan). option_map_or (λ (w : EventPlan). w.disabled) o None) there)
    where
      by_disabled : (o : Option Disabling) → mode_disables o m (next_of p m l) ≡ true → disabling_of p e ≡ o → is_disabled p e l ≡ true
      by_disabled None never is = absurd (false≢true never)
      by_disabled (Some d) by_next is = let same : d.machine ≡ m = eqb-true d.machine m (and_parts (d.machine == m) _ by_next).0 in rw is (disabled_by d l (sym same) by_next)

  -- ---- one entry more

  admitted_more : (a : Actor) (d : Deed) (event : Option ℕ) (l : Past) (e : ℕ) → (admission_allows p l event d ≡ true → is_disabled p e l ≡ true) → admission_allows p l event d ≡ true
      → is_disabled p e l ≡ true → admitted_runs e l ≡ false → admitted_runs e (noting a d event ∷ l) ≡ false
  admitted_more a (deed.Admit true) event l e f allows disabled before = by_event (same_number event (Some e)) refl
    where
      by_event : (b : Bool) → same_number event (Some e) ≡ b → admitted_runs e (noting a (deed.Admit true) event ∷ l) ≡ false
      by_event false is = rw is before
      by_event true is =
          let allowed : admission_allows p l (Some e) (deed.Admit true) ≡ true = subst (λ o. admission_allows p l o (deed.Admit true) ≡ true) (option_same event (Some e) is) allows in
          absurd (false≢true (sym (ap not disabled) ∙ allowed))
  admitted_more a deed.End event l e f allows disabled before = by_event (same_number event (Some e)) refl
    where
      by_event : (b : Bool) → same_number event (Some e) ≡ b → admitted_runs e (noting a deed.End event ∷ l) ≡ false
      by_event false is = rw is before
      by_event true is = rw is refl
  admitted_more a d event l e f allows disabled before = before

  quiet_in_more : (mode : ℕ) (n : Noted) (l : Past) → ((e : ℕ) (v : EventPlan) → slice_get p.events e ≡ Some v → mode_disables v.disabled m mode ≡ true → is_disabled p e l ≡ true)
      → admission_allows p l n.event n.entry.deed ≡ true → QuietIn mode l → QuietIn mode (n ∷ l)
  quiet_in_more mode n l are_disabled allows quiet e v there by_mode =
      let disabled = are_disabled e v there by_mode in
      admitted_more n.entry.actor n.entry.deed n.event l e (λ _. disabled) allows disabled (quiet e v there by_mode)

  quiet_more : (n : Noted) (l : Past) → next_of p m (n ∷ l) ≡ next_of p m l → admission_allows p l n.event n.entry.deed ≡ true → Quiet l → Quiet (n ∷ l)
  quiet_more n l same allows quiet = subst (λ mode. QuietIn mode (n ∷ l)) (sym same) (quiet_in_more (next_of p m l) n l (λ e v there by_next. disabled_next e v l there by_next) allows quiet)

  next_same : (n : Noted) (l : Past) → is_close (phase_of m n) ≡ false → next_of p m (n ∷ l) ≡ next_of p m l
  next_same n l other = by_phase (phase_of m n) refl
    where
      by_phase : (o : Option Step) → phase_of m n ≡ o → next_of p m (n ∷ l) ≡ next_of p m l
      by_phase None is = rw is refl
      by_phase (Some (step.Close mode)) is = absurd (false≢true (sym (rw is at other)))
      by_phase (Some step.Exit) is = rw is refl
      by_phase (Some step.Transition) is = rw is refl
      by_phase (Some step.Entry) is = rw is refl
      by_phase (Some step.Stable) is = rw is refl

  -- ---- histories

  quiet_first : (h : History) → IsLegal p h → closes_of m (noted h) ≡ 0 → Quiet (noted h)
  quiet_first [] legal none = λ e v there by_next. refl
  quiet_first (e ∷ h) legal none = by_test (quiet_first h legal.0) (is_close (phase_of m (note h e))) refl none
    where
      by_test : (closes_of m (noted h) ≡ 0 → Quiet (noted h)) → (b : Bool) → is_close (phase_of m (note h e)) ≡ b → (if b then suc (closes_of m (noted h)) else closes_of m (noted h)) ≡ 0 → Quiet (noted (e ∷ h))
      by_test before true is zeroes = absurd (cc zeroes)
      by_test before false is zeroes = quiet_more (note h e) (noted h) (next_same (note h e) (noted h) is) legal.1.answers.admission (before zeroes)

  -- what comes after a phase that is no Close, or is an Exit of a machine that waits
  after : (l : Past) → waits_of p m ≡ true → (is_close (Some (stage_of m l)) ≡ false → Quiet l) → (stage s : Step) → stage_of m l ≡ stage → phase_after p m l stage s ≡ true → is_close (Some s) ≡ false → Quiet l
  after l waits before (step.Close mode) step.Exit is may other = quiet_of l (rw waits at may)
  after l waits before step.Exit step.Transition is may other = before (ap (λ x. is_close (Some x)) is)
  after l waits before step.Transition step.Entry is may other = before (ap (λ x. is_close (Some x)) is)
  after l waits before step.Entry step.Stable is may other = before (ap (λ x. is_close (Some x)) is)
  after l waits before step.Stable (step.Close mode) is may other = absurd (false≢true (sym other))
  after l waits before stage s is may other = absurd (false≢true may)

  -- the phase that an entry is may come
  phase_comes : (l : Past) (a : Actor) (d : Deed) (event : Option ℕ) (s : Step) → phase_of m (noting a d event) ≡ Some s → modes_allow p l a d ≡ true → phase_after p m l (stage_of m l) s ≡ true
  phase_comes l (Machine n) (deed.Phase t) event s is allows = by_machine (m == n) refl
    where
      by_machine : (b : Bool) → (m == n) ≡ b → phase_after p m l (stage_of m l) s ≡ true
      by_machine false other = absurd (cc (rw other at is))
      by_machine true same =
          let phase : t ≡ s = let e = rw same at is in cc e in
          let machine : n ≡ m = sym (eqb-true m n same) in
          subst (λ x. phase_after p m l (stage_of m l) x ≡ true) phase (subst (λ k. phase_after p k l (stage_of k l) t ≡ true) machine allows)
  phase_comes l (Machine n) d event s is allows = no_phase (m == n) is
    where
      no_phase : (b : Bool) → (if b then None else None) ≡ Some s → phase_after p m l (stage_of m l) s ≡ true
      no_phase true e = absurd (cc e)
      no_phase false e = absurd (cc e)
  phase_comes l Env d event s is allows = absurd (cc is)
  phase_comes l (Act k) d event s is allows = absurd (cc is)

  quiet_waiting : waits_of p m ≡ true → (h : History) → IsLegal p h → is_close (Some (stage_of m (noted h))) ≡ false → Quiet (noted h)
  quiet_waiting waits [] legal other = λ e v there by_next. refl
  quiet_waiting waits (e ∷ h) legal other = by_phase (quiet_waiting waits h legal.0) (phase_of m (note h e)) refl
    where
      by_phase : (is_close (Some (stage_of m (noted h))) ≡ false → Quiet (noted h)) → (o : Option Step) → phase_of m (note h e) ≡ o → Quiet (noted (e ∷ h))
      by_phase before None is = quiet_more (note h e) (noted h) (next_same (note h e) (noted h) (ap is_close is)) legal.1.answers.admission (before (rw is at other))
      by_phase before (Some s) is =
          let left : is_close (Some s) ≡ false = rw is at other in
          quiet_more (note h e) (noted h) (next_same (note h e) (noted h) (ap is_close is ∙ left)) legal.1.answers.admission
          (after (noted h) waits before (stage_of m (noted h)) s refl (phase_comes (noted h) e.actor e.deed (note h e).event s is legal.1.answers.modes) left)

  -- ---- the settled mode

  settled_at : (n : Noted) (l : Past) (b : Bool) → is_stable_phase (phase_of m n) ≡ b → settled_of p m (n ∷ l) ≡ (if b then next_of p m l else settled_of p m l)
  settled_at n l b is = ap (λ c. if c then next_of p m l else settled_of p m l) is

  -- no Close ends what was so of the settled mode, and a Stable makes the next mode the settled one
  settled_quiet : waits_of p m ≡ true → (h : History) → IsLegal p h → QuietIn (settled_of p m (noted h)) (noted h)
  settled_quiet waits [] legal = λ e v there by_mode. refl
  settled_quiet waits (e ∷ h) legal = by_phase (settled_quiet waits h legal.0) (phase_of m (note h e)) refl
    where
      goes_on : QuietIn (settled_of p m (noted h)) (noted h) → is_stable_phase (phase_of m (note h e)) ≡ false → QuietIn (settled_of p m (noted (e ∷ h))) (noted (e ∷ h))
      goes_on before other = subst (λ mode. QuietIn mode (noted (e ∷ h))) (sym (settled_at (note h e) (noted h) false other))
          (quiet_in_more (settled_of p m (noted h)) (note h e) (noted h) (λ i v there by_mode. disabled_settled i v (noted h) there by_mode) legal.1.answers.admission before)

      by_phase : QuietIn (settled_of p m (noted h)) (noted h) → (o : Option Step) → phase_of m (note h e) ≡ o → QuietIn (settled_of p m (noted (e ∷ h))) (noted (e ∷ h))
      by_phase before (Some step.Stable) is = subst (λ mode. QuietIn mode (noted (e ∷ h))) (sym (settled_at (note h e) (noted h) true (ap is_stable_phase is)))
          (quiet_in_more (next_of p m (noted h)) (note h e) (noted h) (λ i v there by_mode. disabled_next i v (noted h) there by_mode) legal.1.answers.admission
          (after (noted h) waits (quiet_waiting waits h legal.0) (stage_of m (noted h)) step.Stable refl (phase_comes (noted h) e.actor e.deed (note h e).event step.Stable is legal.1.answers.modes) refl))
      by_phase before (Some (step.Close mode)) is = goes_on before (ap is_stable_phase is)
      by_phase before (Some step.Exit) is = goes_on before (ap is_stable_phase is)
      by_phase before (Some step.Transition) is = goes_on before (ap is_stable_phase is)
      by_phase before (Some step.Entry) is = goes_on before (ap is_stable_phase is)
      by_phase before None is = goes_on before (ap is_stable_phase is)

  -- ---- before the first Close both modes are the initial one

  unclosed : (n : Noted) (l : Past) → closes_of m (n ∷ l) ≡ 0 → (is_close (phase_of m n) ≡ false) × (closes_of m l ≡ 0)
  unclosed n l none = by_test (is_close (phase_of m n)) refl none
    where
      by_test : (b : Bool) → is_close (phase_of m n) ≡ b → (if b then suc (closes_of m l) else closes_of m l) ≡ 0 → (is_close (phase_of m n) ≡ false) × (closes_of m l ≡ 0)
      by_test true is zeroes = absurd (cc zeroes)
      by_test false is zeroes = (is, zeroes)

  first_next : (l : Past) → closes_of m l ≡ 0 → next_of p m l ≡ initial_of p m
  first_next [] none = refl
  first_next (n ∷ l) none = let parts = unclosed n l none in next_same n l parts.0 ∙ first_next l parts.1

  first_settled : (l : Past) → closes_of m l ≡ 0 → settled_of p m l ≡ initial_of p m
  first_settled [] none = refl
  first_settled (n ∷ l) none = by_test (first_next l (unclosed n l none).1) (first_settled l (unclosed n l none).1) (is_stable_phase (phase_of m n)) refl
    where
      by_test : next_of p m l ≡ initial_of p m → settled_of p m l ≡ initial_of p m → (b : Bool) → is_stable_phase (phase_of m n) ≡ b → settled_of p m (n ∷ l) ≡ initial_of p m
      by_test next settled true is = settled_at n l true is ∙ next
      by_test next settled false is = settled_at n l false is ∙ settled

  -- ---- a disabled event is disabled by the one mode or the other

  module _ (l : Past) (settled : QuietIn (settled_of p m l) l) (next : QuietIn (next_of p m l) l) where
    none_disabled : (e : ℕ) → disabler_of p e ≡ Some m → is_disabled p e l ≡ true → admitted_runs e l ≡ false
    none_disabled e owner disabled = by_event (slice_get p.events e) refl
      where
        by_mode : (v : EventPlan) (d : Disabling) → slice_get p.events e ≡ Some v → v.disabled ≡ Some d → (stable a b : Bool) → disables d m (settled_of p m l) ≡ a → disables d m (next_of p m l) ≡ b
            → (if stable then a else a || b) ≡ true → admitted_runs e l ≡ false
        by_mode v d there is true true b by_settled by_next one = settled e v there (ap (λ o. mode_disables o m (settled_of p m l)) is ∙ by_settled)
        by_mode v d there is false true b by_settled by_next one = settled e v there (ap (λ o. mode_disables o m (settled_of p m l)) is ∙ by_settled)
        by_mode v d there is false false true by_settled by_next one = next e v there (ap (λ o. mode_disables o m (next_of p m l)) is ∙ by_next)
        by_mode v d there is true false b by_settled by_next one = absurd (false≢true one)
        by_mode v d there is false false false by_settled by_next one = absurd (false≢true one)

        by_disabling : (v : EventPlan) (o : Option Disabling) → slice_get p.events e ≡ Some v → v.disabled ≡ o → disabling_of p e ≡ o → admitted_runs e l ≡ false
        by_disabling v None there is found = absurd (cc (rw found at owner))
        by_disabling v (Some d) there is found =
            let machine : d.machine ≡ m = same_Some d.machine m (rw found at owner) in
            let by_plan : is_disabled_by p d l ≡ true = rw found at disabled in
            by_mode v d there is (is_stable m l) (disables d m (settled_of p m l)) (disables d m (next_of p m l)) refl refl
            (subst (λ n. (if is_stable n l then disables d n (settled_of p n l) else disables d n (settled_of p n l) || disables d n (next_of p n l)) ≡ true) machine by_plan)

        by_event : (o : Option EventPlan) → slice_get p.events e ≡ o → admitted_runs e l ≡ false
        by_event None there = let found : disabling_of p e ≡ None = ap (λ (o : Option EventPlan). option_map_or (λ (w : EventPlan). w.disabled) o None) there in absurd (cc (rw found at owner))
        by_event (Some v) there = by_disabling v v.disabled there refl (ap (λ (o : Option EventPlan). option_map_or (λ (w : EventPlan). w.disabled) o None) there)

pub waiting : (p : Plan) (h : History) (m e : ℕ) → IsLegal p h → waits_of p m ≡ true → is_close (Some (stage_of m (noted h))) ≡ false → disabler_of p e ≡ Some m
    → is_disabled p e (noted h) ≡ true → admitted_runs e (noted h) ≡ false
waiting p h m e legal waits other = none_disabled p m (noted h) (settled_quiet p m waits h legal) (quiet_waiting p m waits h legal other) e

pub before_the_first : (p : Plan) (h : History) (m e : ℕ) → IsLegal p h → closes_of m (noted h) ≡ 0 → disabler_of p e ≡ Some m → is_disabled p e (noted h) ≡ true → admitted_runs e (noted h) ≡ false
before_the_first p h m e legal none =
    let first = quiet_first p m h legal none in
    none_disabled p m (noted h) (subst (λ mode. QuietIn p m mode (noted h)) (first_next p m (noted h) none ∙ sym (first_settled p m (noted h) none)) first) first e
