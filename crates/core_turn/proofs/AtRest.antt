-- If each core rests, the whole is at rest.
use Rattle.std.proofs.Common.{◌≡◌, ℕ, zero, suc, ◌<◌, true, false, ◌==◌, if◌then◌else◌, refl, sym, ◌∙◌, ap, subst, arith, List, [], ◌∷◌, ◌++◌, length, Bool, Option, Some, None}
use Rattle.std.specs.Prelude.{nat_le}
use Rattle.bus_semantics.specs.Common.{slice_get, and_parts, eq-eqb, eqb-true, leb-true, false≢true, slice_get_within, ActKey, Plan, positions, caller_of, runnable_of_event, Wanted, History}
use Rattle.bus_semantics.specs.Common.{runs, next_wish, direct_key, Try, plain_key, option_list, gathered, plain_keys, direct_keys, goes_on_tries, direct_try, direct_tries, machine_tries}
use Rattle.bus_semantics.specs.Common.{task_tries, IsStuck, AllStuck, IsAtRest, is_in, IsSound}
use Rattle.bus_laws.specs.Common.{Act, PointPlan, Mapping, Task}
use Rattle.bus_laws.proofs.Thinning.{sought_where}
use Rattle.history_laws.specs.Callers.{CallerWaits}
use Rattle.history_laws.specs.Running.{GoesOn}
use Rattle.history_laws.proofs.Keys.{wish_runs}
use Rattle.task_slots.specs.Slots.{starts_at}
use Rattle.task_slots.proofs.Onward.{gathered_on}
use Rattle.core_turn.specs.Cores.{tasks_of_core}
use Rattle.core_turn.specs.Resting.{calls_of, calls_by, calls_at, direct_calls, tries_of_task, machines_of, CoreRests}
use Rattle.core_turn.proofs.Places.{IsAmong, deeper, passing, mapped_from, in_kept}
use Rattle.core_turn.proofs.Mapped.{InTask, task_within, in_its_task, starts_listed}
use Rattle.core_turn.proofs.Resting.{stuck_on, stuck_first, stuck_last, stuck_each, stuck_at, stuck_wish, wish_stuck, optional_stuck, plain_mapped, asked_runs, DirectTry, direct_tries_are}
use Rattle.core_turn.proofs.Resting.{direct_try_stuck}

-- a number below another stands among its positions
position_at : (n q : ℕ) → q < n → IsAmong (positions n) q
position_at zero q less = absurd (omega arith)
position_at (suc n) q less = by_test (q == n) refl (λ below. position_at n q below)
  where
    in_last : {X : Type 0} (xs : List X) (x : X) → IsAmong (xs ++ x ∷ []) x
    in_last [] x = record { place = 0; found = refl }
    in_last (y ∷ xs) x = let at = in_last xs x in record { place = suc at.place; found = at.found }

    on : {X : Type 0} (y x : X) (xs : List X) (i : ℕ) → slice_get xs i ≡ Some x → slice_get (xs ++ y ∷ []) i ≡ Some x
    on y x [] i e = absurd (cc e)
    on y x (z ∷ xs) zero e = e
    on y x (z ∷ xs) (suc i) e = on y x xs i e

    by_test : (b : Bool) → (q == n) ≡ b → (q < n → IsAmong (positions n) q) → IsAmong (positions n ++ n ∷ []) q
    by_test true same rest = subst (λ x. IsAmong (positions n ++ n ∷ []) x) (sym (eqb-true q n same)) (in_last (positions n) n)
    by_test false other rest =
        let apart : (q ≡ n) → ⊥ = λ e. false≢true (sym other ∙ eq-eqb q n e) in
        let below : q < n = omega (arith, apart) in
        let at = rest below in
        record { place = at.place; found = on n q (positions n) at.place at.found }

-- what stands in a mapped list, or is gathered from options
option_there : {X Y : Type 0} (f : X → Option Y) (xs : List X) (i : ℕ) (y : Y) → slice_get (gathered (λ x. option_list (f x)) xs) i ≡ Some y → (x : X) × IsAmong xs x × (f x ≡ Some y)
option_there f [] i y e = absurd (cc e)
option_there f (x ∷ xs) i y e = by_option (f x) refl i e (λ j found. option_there f xs j y found)
  where
    by_option : (o : Option _) → f x ≡ o → (i : ℕ) → slice_get (option_list o ++ gathered (λ x. option_list (f x)) xs) i ≡ Some y
        → ((j : ℕ) → slice_get (gathered (λ x. option_list (f x)) xs) j ≡ Some y → (z : _) × IsAmong xs z × (f z ≡ Some y)) → (z : _) × IsAmong (x ∷ xs) z × (f z ≡ Some y)
    by_option None is i e more = let rest = more i e in (rest.0, deeper x xs rest.0 rest.1, rest.2)
    by_option (Some z) is zero e more = (x, record { place = 0; found = refl }, is ∙ e)
    by_option (Some z) is (suc i) e more = let rest = more i e in (rest.0, deeper x xs rest.0 rest.1, rest.2)

module _ (p : Plan) (m : Mapping) (sound : IsSound p m) (h : History) (goes_on : (k : ActKey) → runs k h ≡ true → GoesOn p h k)
    (running_waits : (q : ℕ) (k : ActKey) → direct_key p q ≡ Some k → runs k h ≡ true → CallerWaits p q k h)
    (rests : (n : ℕ) → n < m.cores → CoreRests p m h n) where
  -- ---- the task of what runs

  record Home (r : ℕ) : Type 0 where
    event : ℕ
    starts_it : runnable_of_event p event ≡ Some r
    task : InTask m event

  home : (r : ℕ) → runs (plain_key r) h ≡ true → Home r
  home r goes =
      let a = goes_on (plain_key r) goes in
      record { event = a.activation.event; starts_it = a.own; task = in_its_task p m sound a.activation.event (plain_mapped p m sound (plain_key r) a.activation.event a.key refl a.own) }

  of_core : (n : ℕ) → n < m.cores → AllStuck p h (gathered (tries_of_task p h) (tasks_of_core m n))
  of_core n within = stuck_first p h (gathered (tries_of_task p h) (tasks_of_core m n)) (machines_of p n) (rests n within)

  each_task : (i : ℕ) (t : Task) → slice_get m.tasks i ≡ Some t → t.core < m.cores → AllStuck p h (tries_of_task p h t)
  each_task i t found within =
      let at = in_kept (λ (u : Task). u.core == t.core) m.tasks i t found (eq-eqb t.core t.core refl) in
      stuck_at p h (tries_of_task p h) (tasks_of_core m t.core) at.place t at.found (of_core t.core within)

  calls_rest : (t : Task) → AllStuck p h (tries_of_task p h t) → AllStuck p h (gathered (calls_by p h) t.events)
  calls_rest t all = stuck_first p h (gathered (calls_by p h) t.events) (direct_calls p h t.events) (stuck_first p h (gathered (calls_by p h) t.events ++ direct_calls p h t.events) (task_tries p h t) all)

  direct_rest : (t : Task) → AllStuck p h (tries_of_task p h t) → AllStuck p h (direct_calls p h t.events)
  direct_rest t all = stuck_last p h (gathered (calls_by p h) t.events) (direct_calls p h t.events) (stuck_first p h (gathered (calls_by p h) t.events ++ direct_calls p h t.events) (task_tries p h t) all)

  -- ---- plain keys

  goes_on_stuck : (r : ℕ) (w : Wanted) → next_wish p h (plain_key r) ≡ Some w → IsStuck p h (Act (plain_key r), w)
  goes_on_stuck r w next =
      let at = home r (wish_runs p (plain_key r) h w next) in
      let t = at.task.task in
      let stuck = calls_rest t (each_task at.task.at.place t at.task.at.found at.task.core) in
      let e = passing (λ d. d == at.event) t.events at.task.listed in
      let by = stuck_at p h (calls_by p h) t.events e.at.place e.item e.at.found stuck in
      let starts_it : runnable_of_event p e.item ≡ Some r = ap (runnable_of_event p) (eqb-true e.item at.event e.passes) ∙ at.starts_it in
      wish_stuck p h (plain_key r) (next_wish p h (plain_key r)) w next (optional_stuck p h (λ r. calls_of p h (plain_key r)) (runnable_of_event p e.item) r starts_it by)

  -- ---- direct ones

  -- what is tried at a point where a running activation calls
  at_point : (q r : ℕ) → caller_of p q ≡ Some r → runs (plain_key r) h ≡ true → AllStuck p h (calls_at p h q)
  at_point q r calls running =
      let at = home r running in
      let t = at.task.task in
      let all = direct_rest t (each_task at.task.at.place t at.task.at.found at.task.core) in
      let here : starts_at p (caller_of p q) t.events ≡ true = ap (λ o. starts_at p o t.events) calls ∙ starts_listed p m sound at.event r t.events at.starts_it at.task.listed in
      let place = position_at (length p.points) q (inside q r calls) in
      let one = stuck_at p h (λ x. if starts_at p (caller_of p x) t.events then calls_at p h x else []) (positions (length p.points)) place.place q place.found all in
      subst (λ b. AllStuck p h (if b then calls_at p h q else [])) here one
    where
      inside : (q r : ℕ) → caller_of p q ≡ Some r → q < length p.points
      inside q r calls = slice_get_within p.points q _ (sought_where p.points q (λ (x : PointPlan). x.runnable) r calls).found

  direct_stuck_at : (q : ℕ) (d : ActKey) → direct_key p q ≡ Some d → (w : Wanted) → next_wish p h d ≡ Some w → IsStuck p h (Act d, w)
  direct_stuck_at q d key w next =
      let waits = running_waits q d key (wish_runs p d h w next) in
      let all = at_point q waits.caller waits.calls (asked_runs (plain_key waits.caller) h q waits.asked) in
      wish_stuck p h d (next_wish p h d) w next (optional_stuck p h (calls_of p h) (direct_key p q) d key (stuck_first p h (gathered (calls_of p h) (option_list (direct_key p q))) (direct_try p h q) all))

  point_tries : (q : ℕ) → AllStuck p h (direct_try p h q)
  point_tries q = direct_tries_are p h q (λ t made. of_try t made)
    where
      of_try : (t : Try) → DirectTry p h q t → IsStuck p h t
      of_try t made =
          let all = at_point q made.caller made.calls (asked_runs (plain_key made.caller) h q made.asked) in
          let tries = stuck_last p h (gathered (calls_of p h) (option_list (direct_key p q))) (direct_try p h q) all in
          direct_try_stuck p h q t made tries

  -- ---- all of it

  keys_stuck : AllStuck p h (goes_on_tries p h)
  keys_stuck = subst (AllStuck p h) (sym (gathered_on (λ k. gathered (λ w. (Act k, w) ∷ []) (option_list (next_wish p h k))) (plain_keys p) (direct_keys p)))
      (stuck_on p h (gathered (calls_of p h) (plain_keys p)) (gathered (calls_of p h) (direct_keys p))
      (stuck_each p h (calls_of p h) (plain_keys p) (λ i k found. of_plain i k found))
      (stuck_each p h (calls_of p h) (direct_keys p) (λ i k found. of_direct i k found)))
    where
      of_plain : (i : ℕ) (k : ActKey) → slice_get (plain_keys p) i ≡ Some k → AllStuck p h (calls_of p h k)
      of_plain i k found =
          let from = mapped_from plain_key (positions (length p.runnables)) i k found in
          subst (λ j. AllStuck p h (calls_of p h j)) from.is (stuck_wish p h (plain_key from.from) (next_wish p h (plain_key from.from)) (λ w next. goes_on_stuck from.from w next))

      of_direct : (i : ℕ) (k : ActKey) → slice_get (direct_keys p) i ≡ Some k → AllStuck p h (calls_of p h k)
      of_direct i k found =
          let from = option_there (direct_key p) (positions (length p.points)) i k found in
          stuck_wish p h k (next_wish p h k) (λ w next. direct_stuck_at from.0 k from.2 w next)

  direct_stuck : AllStuck p h (direct_tries p h)
  direct_stuck = stuck_each p h (direct_try p h) (positions (length p.points)) (λ i q found. point_tries q)

  some_core : 0 < m.cores
  some_core =
      let first : is_in 1 8 m.cores ≡ true = (and_parts (is_in 1 8 m.cores) _ sound.tasks).0 in
      let least = leb-true 1 m.cores (and_parts (nat_le 1 m.cores) _ first).0 in
      omega arith

  machines_stuck : AllStuck p h (machine_tries p)
  machines_stuck = stuck_last p h (gathered (tries_of_task p h) (tasks_of_core m 0)) (machines_of p 0) (rests 0 some_core)

  starts_stuck : AllStuck p h (gathered (task_tries p h) m.tasks)
  starts_stuck = stuck_each p h (task_tries p h) m.tasks (λ i t found.
      stuck_last p h (gathered (calls_by p h) t.events ++ direct_calls p h t.events) (task_tries p h t) (each_task i t found (task_within p m sound i t found)))

  pub at_rest : IsAtRest p m h
  at_rest =
      stuck_on p h (goes_on_tries p h ++ direct_tries p h ++ machine_tries p) (gathered (task_tries p h) m.tasks)
      (stuck_on p h (goes_on_tries p h ++ direct_tries p h) (machine_tries p) (stuck_on p h (goes_on_tries p h) (direct_tries p h) keys_stuck direct_stuck) machines_stuck)
      starts_stuck
