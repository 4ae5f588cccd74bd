-- A start that is due, of a key that does not run, may follow; so may a phase.
use Rattle.std.proofs.Common.{◌≡◌, ℕ, ◌<◌, Bool, true, false, ◌&&◌, not, if◌then◌else◌, refl, sym, ap, [], ◌∷◌, length, nat_lt, Option, Some, None}
use Rattle.bus_semantics.specs.Common.{and_from, lt-ltb, false≢true, slice_get_within, ActKey, Step, Value, words_of, same_number, Plan, kind_of, runnable_of_event, instance_of, to_start}
use Rattle.bus_semantics.specs.Common.{to_move_on, History, is_of, is_over, runs, noted, key_fits, event_fits, start_fits, phase_fits, starts_request, stage_of, phase_after, is_due}
use Rattle.bus_semantics.specs.Common.{accepted_point, asked_last, is_held_back, caller_has_asked, may_start, IsStuck}
use Rattle.bus_laws.specs.Common.{EventPlan, Machine, Act, Deed}
use Rattle.bus_semantics.specs.declared.entries.Deed.TheVariants as deed
use Rattle.bus_laws.proofs.Thinning.{option_test, sought_where}

over_accepts : (d : Deed) → is_over d ≡ true → accepted_point d ≡ None
over_accepts (deed.Ask q value code) e = absurd (false≢true e)
over_accepts d e = refl

-- the last deed of what does not run is no ask
pub resting_asked : (k : ActKey) (h : History) → runs k h ≡ false → asked_last k h ≡ None
resting_asked k [] off = refl
resting_asked k (e ∷ h) off = by_own (resting_asked k h) (is_of k e) refl
  where
    by_over : (b : Bool) → is_over e.deed ≡ b → (if b then false else true) ≡ false → accepted_point e.deed ≡ None
    by_over true is off = over_accepts e.deed is
    by_over false is off = absurd (false≢true (sym off))

    by_own : (runs k h ≡ false → asked_last k h ≡ None) → (b : Bool) → is_of k e ≡ b → asked_last k (e ∷ h) ≡ None
    by_own before true is = let off_now : (if is_over e.deed then false else true) ≡ false = rw is at off in rw is (by_over (is_over e.deed) refl off_now)
    by_own before false is = let off_then : runs k h ≡ false = rw is at off in rw is (before off_then)

module _ (p : Plan) (h : History) where
  not_held_back : (k : ActKey) → asked_last k h ≡ None → is_held_back p h k ≡ false
  not_held_back k none = rw none refl

  pub start_follows : (k : ActKey) (e : ℕ) (point : Option ℕ) (value : Value) → key_fits p k ≡ true → runnable_of_event p e ≡ Some k.runnable → runs k h ≡ false → caller_has_asked p h k ≡ true
      → start_fits p (kind_of p e) point (words_of value) ≡ true → starts_request p (Act k) point (words_of value) (noted h) ≡ true → is_due p (Act k) e (noted h) ≡ true → IsStuck p h (Act k, to_start e) → ⊥
  start_follows k e point value fit own off asked start_fit request due stuck = stuck (record { actor = Act k; deed = deed.Start e point value }) refl (record {
    fit = and_from (key_fits p k && event_fits p (instance_of p k.runnable) e) (start_fits p (kind_of p e) point (words_of value)) (and_from (key_fits p k) (event_fits p (instance_of p k.runnable) e) fit event_fit) start_fit;
    actor = and_from (may_start p h k e) (not (is_held_back p h k))
        (and_from (same_number (runnable_of_event p e) (Some k.runnable) && not (runs k h)) (caller_has_asked p h k)
        (and_from (same_number (runnable_of_event p e) (Some k.runnable)) (not (runs k h)) (option_test (runnable_of_event p e) (Some k.runnable) own) (ap not off)) asked)
        (ap not (not_held_back k (resting_asked k h off)));
    answers = record { unqueued = refl; queued = refl; calls = request; areas = refl; modes = refl; admission = refl; due = due };
  })
    where
      home : same_number (instance_of p k.runnable) (instance_of p k.runnable) ≡ true
      home = option_test (instance_of p k.runnable) (instance_of p k.runnable) refl

      event_fit : event_fits p (instance_of p k.runnable) e ≡ true
      event_fit = let v = sought_where p.events e (λ (u : EventPlan). Some u.runnable) k.runnable own in
          and_from (nat_lt e (length p.events)) _ (lt-ltb e (length p.events) (slice_get_within p.events e v.item v.found)) (rw own home)

  pub phase_follows : (i : ℕ) (s : Step) → i < length p.machines → phase_fits p (Machine i) s ≡ true → phase_after p i (noted h) (stage_of i (noted h)) s ≡ true → IsStuck p h (Machine i, to_move_on) → ⊥
  phase_follows i s less fit may stuck = stuck (record { actor = Machine i; deed = deed.Phase s }) refl (record {
    fit = and_from (nat_lt i (length p.machines) && true) (phase_fits p (Machine i) s) (and_from (nat_lt i (length p.machines)) true (lt-ltb i (length p.machines) less) refl) fit;
    actor = refl;
    answers = record { unqueued = refl; queued = refl; calls = refl; areas = refl; modes = may; admission = refl; due = refl };
  })
