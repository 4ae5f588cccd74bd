-- At rest, when no activation runs, no event is due, and each machine is stable and has begun every accepted switch.
use Rattle.std.proofs.Common.{◌≡◌, ℕ, ◌<◌, ◌≤◌, ◌⊎◌, inl, inr, Bool, true, false, ◌&&◌, ◌||◌, not, ◌==◌, refl, sym, ◌∙◌, ap, subst, arith, [], length, nat_lt, nat_le, Option, Some, None}
use Rattle.bus_semantics.specs.Common.{list_any, slice_get, option_map_or, and_parts, or_right, or_parts, eqb-true, ltb-false, false≢true, false_from_ne_true, ActKey, Step, same_number}
use Rattle.bus_semantics.specs.Common.{empty_value, Plan, every_from, server_of, queue_of, caller_of, kind_of, disabling_of, runnable_of_event, instance_of, History, runs, noted}
use Rattle.bus_semantics.specs.Common.{serves_directly, start_fits, to_start, requests_of, starts_of, has_unstarted, stage_of, next_of, waits_of, admitted_runs, mode_disables}
use Rattle.bus_semantics.specs.Common.{none_runs_disabled, owes, owes_moment, is_start_by, started_in_phase, is_done, all_done, first_unbegun, phase_after, is_due, follows_last, phase_owes}
use Rattle.bus_semantics.specs.Common.{never_started, IsLegal, direct_key, caller_has_asked, plain_key, keys_of, event_runs, is_free, IsStuck, IsAtRest, machine_is_quiet, IsQuiet}
use Rattle.bus_semantics.specs.Common.{kind_sound, disabling_sound, may_be_disabled, event_sound, times_mapped, IsSound}
use Rattle.rte_value.specs.declared.kinds.Step.TheVariants as step
use Rattle.bus_laws.specs.Common.{ServerPlan, EventPlan, EventKind, Invoked, ModeSwitch, Moment, Disabling, Mapping, Task, Machine, Act}
use Rattle.bus_laws.proofs.Thinning.{every_at, Found, found_where, option_test}
use Rattle.bus_laws.proofs.Local.{proper_legal}
use Rattle.bus_laws.proofs.OneEvent.{server_of_runnable, kind_at, serves_invoked}
use Rattle.no_stall.proofs.Premises.{Laws}
use Rattle.no_stall.proofs.Lists.{any_among, all_from, all_positions, every_made, among_at}
use Rattle.no_stall.proofs.Tried.{start_stuck, machine_stuck}
use Rattle.no_stall.proofs.Keys.{key_direct, own_fits, not_directly}
use Rattle.no_stall.proofs.Starting.{resting_asked, start_follows, phase_follows}
use Rattle.history_laws.proofs.Bounds.{phase_small}
use Rattle.history_laws.proofs.EventFacts.{undisabled}
use Rattle.no_stall.proofs.Sums.{none_unstarted}
use Rattle.no_stall.proofs.Tasks.{mapped}
use Rattle.no_stall.proofs.Requested.{queued_starts}
use Rattle.no_stall.proofs.Admitted.{admitted}
use Rattle.no_stall.proofs.Done.{started_or_due, done_or_runs, IsRunning}

module _ (p : Plan) (m : Mapping) (sound : IsSound p m) (laws : Laws p m) (h : History) (legal : IsLegal p h) (rest : IsAtRest p m h) (none : (k : ActKey) → runs k h ≡ true → ⊥) where
  off : (k : ActKey) → runs k h ≡ false
  off k = false_from_ne_true (runs k h) (none k)

  free : (t : Task) → is_free p h t ≡ true
  free t = by_any (list_any (event_runs p h) t.events) refl
    where
      by_event : (e : ℕ) → (o : Option ℕ) → runnable_of_event p e ≡ o → event_runs p h e ≡ true → ⊥
      by_event e None is on = false≢true (rw is at on)
      by_event e (Some r) is on = let still = off (plain_key r) in false≢true (rw (is, still) at on)

      by_any : (b : Bool) → list_any (event_runs p h) t.events ≡ b → is_free p h t ≡ true
      by_any false idle = ap not idle
      by_any true busy = let one = any_among (event_runs p h) t.events busy in absurd (by_event one.item (runnable_of_event p one.item) refl one.passes)

  module _ (e : ℕ) (v : EventPlan) (there : slice_get p.events e ≡ Some v) where
    starts : runnable_of_event p e ≡ Some v.runnable
    starts = rw there refl

    kind_is : kind_of p e ≡ v.kind
    kind_is = kind_at p e v there

    sounds : event_sound p e v ≡ true
    sounds = every_at (event_sound p) 0 p.events (and_parts (every_from 0 (event_sound p) p.events) (nat_le (length p.events) 16384) sound.events).0 e e v (omega arith) there

    kind_fits : kind_sound p e v.runnable (instance_of p v.runnable) v.kind ≡ true
    kind_fits = (and_parts (kind_sound p e v.runnable (instance_of p v.runnable) v.kind) _ (and_parts (nat_lt v.runnable (length p.runnables)) _ sounds).1).0

    -- ---- no event is due

    -- one that is no server's
    not_due_own : (kind : EventKind) → v.kind ≡ kind → ((s : ℕ) → kind ≡ Invoked s → ⊥) → times_mapped p kind ≡ 1 → start_fits p kind None [] ≡ true → is_due p (Act (plain_key v.runnable)) e (noted h) ≡ true → ⊥
    not_due_own kind is other once fit due =
        let t = mapped p m sound e v there (ap (times_mapped p) is ∙ once) in
        start_follows p h (plain_key v.runnable) e None empty_value
        (own_fits p m sound e v.runnable starts (λ s invoked. absurd (other s (sym is ∙ sym kind_is ∙ invoked))))
        starts (off (plain_key v.runnable)) refl (ap (λ (k : EventKind). start_fits p k None []) (kind_is ∙ is) ∙ fit) refl due
        (start_stuck p m h rest t.task e v.runnable (among_at m.tasks t.place t.task t.found) t.mapped (free t.task) starts)

    -- a server's
    not_due_served : (s : ℕ) → v.kind ≡ Invoked s → is_due p (Act (plain_key v.runnable)) e (noted h) ≡ true → ⊥
    not_due_served s is due = by_queue server.item.queue refl
      where
        server : Found ServerPlan p.servers s (λ w. (w.event == e) && ((w.runnable == v.runnable) && same_number (Some w.instance) (instance_of p v.runnable)))
        server = found_where p.servers s _ (rw is at kind_fits)

        event_same : server.item.event ≡ e
        event_same = eqb-true server.item.event e (and_parts (server.item.event == e) _ server.holds).0

        runnable_same : server.item.runnable ≡ v.runnable
        runnable_same = eqb-true server.item.runnable v.runnable (and_parts (server.item.runnable == v.runnable) _ (and_parts (server.item.event == e) _ server.holds).1).0

        kind : kind_of p e ≡ Invoked s
        kind = kind_is ∙ is

        more : has_unstarted (λ q. same_number (server_of p q) (Some s)) (noted h) ≡ true
        more = rw kind at due

        -- at a point of a direct server each request has started
        all_started : server.item.queue ≡ None → (q : ℕ) → server_of p q ≡ Some s → length (requests_of (λ r. q == r) (noted h)) ≤ starts_of (λ r. q == r) (noted h)
        all_started queue q joined = by_test (has_unstarted (λ r. q == r) (noted h)) refl
          where
            d : ActKey
            d = record { runnable = server.item.runnable; point = Some q }

            key : direct_key p q ≡ Some d
            key = key_direct p m sound q s server.item joined server.found queue

            by_caller : (o : Option ℕ) → caller_of p q ≡ o → caller_has_asked p h d ≡ true → ⊥
            by_caller None caller has = false≢true (rw caller at has)
            by_caller (Some r) caller has = let silent = resting_asked (plain_key r) h (off (plain_key r)) in false≢true (rw (caller, silent) at has)

            by_test : (b : Bool) → has_unstarted (λ r. q == r) (noted h) ≡ b → length (requests_of (λ r. q == r) (noted h)) ≤ starts_of (λ r. q == r) (noted h)
            by_test false is = ltb-false (starts_of (λ r. q == r) (noted h)) (length (requests_of (λ r. q == r) (noted h))) is
            by_test true is = absurd (by_caller (caller_of p q) refl (laws.unstarted h q d legal key is))

        by_queue : (o : Option ℕ) → server.item.queue ≡ o → ⊥
        by_queue None queue = none_unstarted p s (noted h) (all_started queue) more
        by_queue (Some most) queue =
            let queued : queue_of p s ≡ Some most = ap (λ (o : Option ServerPlan). option_map_or (λ (w : ServerPlan). w.queue) o None) server.found ∙ queue in
            let t = mapped p m sound e v there (rw (is, queued) refl) in
            let stuck = start_stuck p m h rest t.task e v.runnable (among_at m.tasks t.place t.task t.found) t.mapped (free t.task) starts in
            queued_starts p m sound h s server.item most server.found queue (off (plain_key server.item.runnable)) more
            (subst (λ n. IsStuck p h (Act (plain_key server.item.runnable), to_start n)) (sym event_same) (subst (λ n. IsStuck p h (Act (plain_key n), to_start e)) (sym runnable_same) stuck))

    not_due : is_due p (Act (plain_key v.runnable)) e (noted h) ≡ false
    not_due = by_kind v.kind refl
      where
        undue : (is_due p (Act (plain_key v.runnable)) e (noted h) ≡ true → ⊥) → is_due p (Act (plain_key v.runnable)) e (noted h) ≡ false
        undue never = false_from_ne_true (is_due p (Act (plain_key v.runnable)) e (noted h)) never

        by_kind : (k : EventKind) → v.kind ≡ k → is_due p (Act (plain_key v.runnable)) e (noted h) ≡ false
        by_kind (Invoked s) is = undue (not_due_served s is)
        by_kind k is = undue (not_due_own k is (λ s invoked. absurd (cc invoked)) refl refl)

    -- ---- an event with disabled modes is admitted to run only while it runs

    undirect : ((s : ℕ) → v.kind ≡ Invoked s → ⊥) → serves_directly p (plain_key v.runnable) ≡ false
    undirect other = by_served (server_of_runnable p v.runnable) refl
      where
        by_served : (o : Option ℕ) → server_of_runnable p v.runnable ≡ o → serves_directly p (plain_key v.runnable) ≡ false
        by_served None unserved = not_directly p m sound v.runnable None unserved
        by_served (Some s) served = absurd (other s (sym kind_is ∙ serves_invoked p m sound e s v.runnable starts served))

    none_admitted : (i mode : ℕ) → mode_disables v.disabled i mode ≡ true → admitted_runs e (noted h) ≡ false
    none_admitted i mode disabled = false_from_ne_true (admitted_runs e (noted h)) running
      where
        by_disabled : (o : Option Disabling) → v.disabled ≡ o → mode_disables o i mode ≡ true → disabling_sound p (instance_of p v.runnable) v.kind o ≡ true → (s : ℕ) → v.kind ≡ Invoked s → ⊥
        by_disabled None is disables fits s invoked = false≢true disables
        by_disabled (Some d) is disables fits s invoked = false≢true (sym (ap may_be_disabled invoked) ∙ (and_parts (may_be_disabled v.kind) _ fits).0)

        disabling_fits : disabling_sound p (instance_of p v.runnable) v.kind v.disabled ≡ true
        disabling_fits = (and_parts (disabling_sound p (instance_of p v.runnable) v.kind v.disabled) _ (and_parts (kind_sound p e v.runnable (instance_of p v.runnable) v.kind) _ (and_parts (nat_lt v.runnable (length p.runnables)) _ sounds).1).1).0

        running : admitted_runs e (noted h) ≡ true → ⊥
        running is = none (plain_key v.runnable) (admitted p m sound laws e v.runnable starts (undirect (by_disabled v.disabled refl disabled disabling_fits)) h legal is).running

    -- ---- what a phase owes is done

    owed_done : (i : ℕ) → owes p i (noted h) v.kind ≡ true → is_done i e (noted h) ≡ true
    owed_done i owed = by_kind v.kind refl owed
      where
        by_switch : (n : ℕ) (moment : Moment) → v.kind ≡ ModeSwitch n moment → (i == n) ≡ true → owes_moment p i (noted h) moment ≡ true → is_done i e (noted h) ≡ true
        by_switch n moment is same owing = by_run (done_or_runs p m sound laws e v.runnable starts plainly enabled i h legal started)
          where
            plainly : serves_directly p (plain_key v.runnable) ≡ false
            plainly = undirect (λ s invoked. absurd (cc (is, invoked)))

            enabled : disabling_of p e ≡ None
            enabled = undisabled p m sound e (ap may_be_disabled (kind_is ∙ is))

            kind : kind_of p e ≡ ModeSwitch i moment
            kind = kind_is ∙ is ∙ ap (λ (x : ℕ). ModeSwitch x moment) (sym (eqb-true i n same))

            undue : (follows_last (is_start_by e) (phase_owes p i moment) (noted h) ≡ false) × ((never_started e (noted h) && owes_moment p i [] moment) ≡ false)
            undue = or_parts (follows_last (is_start_by e) (phase_owes p i moment) (noted h)) (never_started e (noted h) && owes_moment p i [] moment) (rw kind at not_due)

            started : started_in_phase i e (noted h) ≡ true
            started = started_or_due p i e moment (noted h) owing undue.0 undue.1

            by_run : (is_done i e (noted h) ≡ true) ⊎ IsRunning p m sound laws e v.runnable starts plainly enabled i h → is_done i e (noted h) ≡ true
            by_run (inl done) = done
            by_run (inr on) = absurd (none (plain_key v.runnable) on.running)

        by_kind : (k : EventKind) → v.kind ≡ k → owes p i (noted h) k ≡ true → is_done i e (noted h) ≡ true
        by_kind (ModeSwitch n moment) is owed = let parts = and_parts (i == n) (owes_moment p i (noted h) moment) owed in by_switch n moment is parts.0 parts.1
        by_kind k is owed = absurd (false≢true owed)

  -- ---- machines

  done_all : (i : ℕ) → all_done p i (noted h) ≡ true
  done_all i = every_made (λ e (v : EventPlan). not (owes p i (noted h) v.kind) || is_done i e (noted h)) 0 p.events
      (λ j k v at found. by_owed k v (subst (λ n. slice_get p.events n ≡ Some v) (omega arith) found) (owes p i (noted h) v.kind) refl)
    where
      by_owed : (e : ℕ) (v : EventPlan) → slice_get p.events e ≡ Some v → (b : Bool) → owes p i (noted h) v.kind ≡ b → (not b || is_done i e (noted h)) ≡ true
      by_owed e v there false is = refl
      by_owed e v there true is = owed_done e v there i is

  none_disabled : (i : ℕ) → none_runs_disabled p i (noted h) ≡ true
  none_disabled i = every_made (λ e (v : EventPlan). not (mode_disables v.disabled i (next_of p i (noted h))) || not (admitted_runs e (noted h))) 0 p.events
      (λ j k v at found. by_disabled k v (subst (λ n. slice_get p.events n ≡ Some v) (omega arith) found) (mode_disables v.disabled i (next_of p i (noted h))) refl)
    where
      by_disabled : (e : ℕ) (v : EventPlan) → slice_get p.events e ≡ Some v → (b : Bool) → mode_disables v.disabled i (next_of p i (noted h)) ≡ b → (not b || not (admitted_runs e (noted h))) ≡ true
      by_disabled e v there false is = refl
      by_disabled e v there true is = ap not (none_admitted e v there i (next_of p i (noted h)) is)

  quiet_machine : (i : ℕ) → i < length p.machines → machine_is_quiet i (noted h) ≡ true
  quiet_machine i less = by_stage (stage_of i (noted h)) refl
    where
      goes_on : (s t : Step) → stage_of i (noted h) ≡ s → phase_after p i (noted h) s t ≡ true → ⊥
      goes_on s t is may =
          let comes : phase_after p i (noted h) (stage_of i (noted h)) t ≡ true = ap (λ x. phase_after p i (noted h) x t) is ∙ may in
          phase_follows p h i t less (phase_small p (Machine i) (noted h) t (proper_legal p h legal) comes) comes (machine_stuck p m h rest i less)

      by_unbegun : stage_of i (noted h) ≡ step.Stable → (o : Option ℕ) → first_unbegun i (noted h) ≡ o → machine_is_quiet i (noted h) ≡ true
      by_unbegun stable None is = rw (stable, is) refl
      by_unbegun stable (Some mode) is = absurd (goes_on step.Stable (step.Close mode) stable (option_test (first_unbegun i (noted h)) (Some mode) is))

      by_stage : (s : Step) → stage_of i (noted h) ≡ s → machine_is_quiet i (noted h) ≡ true
      by_stage step.Stable is = by_unbegun is (first_unbegun i (noted h)) refl
      by_stage (step.Close mode) is = absurd (goes_on (step.Close mode) step.Exit is (or_right (not (waits_of p i)) (none_runs_disabled p i (noted h)) (none_disabled i)))
      by_stage step.Exit is = absurd (goes_on step.Exit step.Transition is (done_all i))
      by_stage step.Transition is = absurd (goes_on step.Transition step.Entry is (done_all i))
      by_stage step.Entry is = absurd (goes_on step.Entry step.Stable is (done_all i))

  pub quiet : IsQuiet p h
  quiet = record {
    none = all_from (λ k. not (runs k h)) (keys_of p) (λ k there. ap not (off k));
    due = every_made (λ e (v : EventPlan). not (is_due p (Act (plain_key v.runnable)) e (noted h))) 0 p.events (λ j k v at found. ap not (not_due k v (subst (λ n. slice_get p.events n ≡ Some v) (omega arith) found)));
    machines = all_positions (λ n. machine_is_quiet n (noted h)) (length p.machines) quiet_machine;
  }
