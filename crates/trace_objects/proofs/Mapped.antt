-- Each event of a task is mapped, and starts a runnable by its plain key.
use Rattle.std.proofs.Common.{◌≡◌, ℕ, suc, ◌<◌, ◌≤◌, ◌==◌, inl, inr, Bool, true, false, ◌&&◌, if◌then◌else◌, refl, sym, ap, subst, arith, List, [], ◌∷◌, length, Option, Some, None}
use Rattle.std.specs.Prelude.{is_none, is_some, nat_le, nat_lt}
use Rattle.bus_semantics.specs.Common.{list_all, slice_get, option_map_or, and_parts, eq-eqb, eqb-true, ltb-true, Plan, positions, every_from, queue_of, runnable_of_event, count, key_fits}
use Rattle.bus_semantics.specs.Common.{is_name, is_in, IsSound, mapped_events, tasks_of, times_mapped, plain_key}
use Rattle.bus_laws.specs.Common.{EventKind, Invoked, EventPlan, Mapping, Task}
use Rattle.bus_laws.proofs.OneEvent.{kind_at}
use Rattle.bus_laws.proofs.Thinning.{every_at}
use Rattle.history_laws.proofs.Lists.{there_is}
use Rattle.no_stall.proofs.Lists.{Among, among_at, among_gathered, all_at}
use Rattle.no_stall.proofs.Keys.{own_fits}
use Rattle.trace_objects.specs.Unrest.{is_mapped}

-- what stands in a list is counted there
counted : (e : ℕ) (xs : List ℕ) → Among e xs → 1 ≤ count (λ d. d == e) xs
counted e [] never = absurd never
counted e (x ∷ xs) (inl same) = by_test (x == e) (eq-eqb x e same)
  where
    by_test : (b : Bool) → b ≡ true → 1 ≤ (if b then suc (count (λ d. d == e) xs) else count (λ d. d == e) xs)
    by_test true is = omega arith
    by_test false is = absurd (cc is)
counted e (x ∷ xs) (inr rest) = by_test (x == e) (counted e xs rest)
  where
    by_test : (b : Bool) → 1 ≤ count (λ d. d == e) xs → 1 ≤ (if b then suc (count (λ d. d == e) xs) else count (λ d. d == e) xs)
    by_test true some = omega arith
    by_test false some = some

-- an event with its runnable, which is in a task
pub record MappedEvent (p : Plan) (e : ℕ) : Type 0 where
  pub within : e < length p.events
  pub runnable : ℕ
  pub own : runnable_of_event p e ≡ Some runnable
  pub once : is_mapped p e ≡ true

module _ (p : Plan) (m : Mapping) (sound : IsSound p m) where
  abbrev of_task : Task → Bool
  of_task t = nat_lt t.core m.cores && (is_name t.name && list_all (λ e. nat_lt e (length p.events)) t.events)

  abbrev of_event : ℕ → EventPlan → Bool
  of_event e v = count (λ d. d == e) (mapped_events m) == times_mapped p v.kind

  -- the tests of the mapping that count here
  record Tests : Type 0 where
    tasks : list_all of_task m.tasks ≡ true
    events : every_from 0 of_event p.events ≡ true

  tests : Tests
  tests =
      let first = and_parts (is_in 1 8 m.cores) _ sound.tasks in
      let second = and_parts (nat_le (length m.tasks) 256) _ first.1 in
      let third = and_parts (list_all of_task m.tasks) _ second.1 in
      let fourth = and_parts (every_from 0 _ m.tasks) _ third.1 in
      let fifth = and_parts (every_from 0 of_event p.events) (list_all (λ r. nat_le (length (tasks_of p m r)) 1) (positions (length p.runnables))) fourth.1 in
      record { tasks = third.0; events = fifth.0 }

  at_most_once : (k : EventKind) → 1 ≤ times_mapped p k → (times_mapped p k == 1) ≡ true
  at_most_once (Invoked s) some = by_queue (queue_of p s) some
    where
      by_queue : (o : Option ℕ) → 1 ≤ (if is_some o then 1 else 0) → ((if is_some o then 1 else 0) == 1) ≡ true
      by_queue None some = absurd (omega arith)
      by_queue (Some most) some = refl
  at_most_once k some = refl

  -- a server whose event is mapped has a queue
  queued : (s : ℕ) → (times_mapped p (Invoked s) == 1) ≡ true → is_none (queue_of p s) ≡ false
  queued s once = by_queue (queue_of p s) once
    where
      by_queue : (o : Option ℕ) → ((if is_some o then 1 else 0) == 1) ≡ true → is_none o ≡ false
      by_queue None once = absurd (cc once)
      by_queue (Some most) once = refl

  -- each event of a task is mapped
  pub mapped_event : (i : ℕ) (t : Task) → slice_get m.tasks i ≡ Some t → (e : ℕ) → Among e t.events → MappedEvent p e
  mapped_event i t found e among =
      let here = among_at m.tasks i t found in
      let fits = and_parts (is_name t.name) (list_all (λ e. nat_lt e (length p.events)) t.events) (and_parts (nat_lt t.core m.cores) _ (all_at of_task t m.tasks tests.tasks here)).1 in
      let less = ltb-true e (length p.events) (all_at (λ e. nat_lt e (length p.events)) e t.events fits.1 among) in
      let v = there_is p.events e less in
      let times = eqb-true (count (λ d. d == e) (mapped_events m)) (times_mapped p v.0.kind) (every_at of_event 0 p.events tests.events e e v.0 (omega arith) v.1) in
      let some = counted e (mapped_events m) (among_gathered (λ (u : Task). u.events) t e m.tasks here among) in
      let kind = kind_at p e v.0 v.1 in
      record {
        within = less;
        runnable = v.0.runnable;
        own = ap (λ (o : Option EventPlan). option_map_or (λ (w : EventPlan). Some w.runnable) o None) v.1;
        once = subst (λ k. (times_mapped p k == 1) ≡ true) (sym kind) (at_most_once v.0.kind (omega (arith, times, some)));
      }

  -- the runnable of an event that is mapped serves no direct calls
  pub own_key : (e r : ℕ) → is_mapped p e ≡ true → runnable_of_event p e ≡ Some r → key_fits p (plain_key r) ≡ true
  own_key e r once own = own_fits p m sound e r own (λ s is. queued s (subst (λ k. (times_mapped p k == 1) ≡ true) is once))
