-- In which task an event is, and where a runnable of one task waits for a server of another.
use Rattle.std.proofs.Common.{◌≡◌, ℕ, ◌+◌, inl, Bool, true, false, ◌&&◌, ◌||◌, not, ◌==◌, if◌then◌else◌, refl, ◌∙◌, subst, arith, List, [], ◌∷◌, length, nat_lt, nat_le, Option, Some, None}
use Rattle.bus_semantics.specs.Common.{list_all, list_any, slice_get, and_from, and_parts, eqb-true, eq-eqb, false≢true, slice_get_within, same_number, Plan, look, every_from, positions}
use Rattle.bus_semantics.specs.Common.{server_of, caller_of, runnable_of_event, count, is_in, same_numbers, limits_fit, is_name, mapped_events, times_mapped, tasks_of, waits_for, IsSound}
use Rattle.bus_laws.specs.Common.{PointPlan, ServerPlan, EventPlan, Mapping, Task}
use Rattle.bus_laws.proofs.Thinning.{every_at, option_test, found_where, sought_where}
use Rattle.history_laws.specs.Wishes.{is_awaited}
use Rattle.no_stall.proofs.Lists.{Among, among_gathered, among_positions, among_at, any_from, all_at, counted, gathered_from, place_of}

-- the task in which an event is
pub record InTask (m : Mapping) (e : ℕ) : Type 0 where
  pub task : Task
  pub place : ℕ
  pub found : slice_get m.tasks place ≡ Some task
  pub mapped : Among e task.events

-- an event of the runnable is in the task
abbrev pub IsIn : Plan → Mapping → (task : ℕ) → (runnable : ℕ) → Type 0
IsIn p m c r = list_any (λ k. k == c) (tasks_of p m r) ≡ true

-- the task, if an event of the runnable is in it
abbrev own : Plan → Mapping → (runnable : ℕ) → (task : ℕ) → List ℕ
own p m r n = look m.tasks n (λ (t : Task). if list_any (λ e. same_number (runnable_of_event p e) (Some r)) t.events then n ∷ [] else []) []

fifth : (a b c d e f : Bool) → (a && (b && (c && (d && (e && f))))) ≡ true → e ≡ true
fifth true true true true e f is = (and_parts e f is).0
fifth false b c d e f is = absurd (false≢true is)
fifth true false c d e f is = absurd (false≢true is)
fifth true true false d e f is = absurd (false≢true is)
fifth true true true false e f is = absurd (false≢true is)

abbrev few : PointPlan → Bool
few t = nat_le (length t.ins + length t.outs) 16 && (list_all limits_fit t.ins && list_all limits_fit t.outs)

module _ (p : Plan) (m : Mapping) (sound : IsSound p m) where
  pub mapped : (e : ℕ) (v : EventPlan) → slice_get p.events e ≡ Some v → times_mapped p v.kind ≡ 1 → InTask m e
  mapped e v there once =
      let each = fifth (is_in 1 8 m.cores) (nat_le (length m.tasks) 256) (list_all (λ (t : Task). nat_lt t.core m.cores && (is_name t.name && list_all (λ e. nat_lt e (length p.events)) t.events)) m.tasks)
      (every_from 0 (λ i (a : Task). every_from 0 (λ j (c : Task). (i == j) || not (same_numbers a.name c.name)) m.tasks) m.tasks)
      (every_from 0 (λ e (v : EventPlan). count (λ d. d == e) (mapped_events m) == times_mapped p v.kind) p.events) (list_all (λ r. nat_le (length (tasks_of p m r)) 1) (positions (length p.runnables))) sound.tasks in
      let is = every_at (λ e (v : EventPlan). count (λ d. d == e) (mapped_events m) == times_mapped p v.kind) 0 p.events each e e v (omega arith) there in
      let one : count (λ d. d == e) (mapped_events m) ≡ 1 = eqb-true (count (λ d. d == e) (mapped_events m)) (times_mapped p v.kind) is ∙ once in
      let source = gathered_from (λ (t : Task). t.events) e m.tasks (counted e (mapped_events m) one) in
      let place = place_of source.item m.tasks source.among in
      record { task = source.item; place = place.0; found = place.1; mapped = source.gives }

  pub is_in_task : (e r : ℕ) (t : Task) (c : ℕ) → slice_get m.tasks c ≡ Some t → Among e t.events → runnable_of_event p e ≡ Some r → IsIn p m c r
  is_in_task e r t c found among runs = any_from (λ k. k == c) c (tasks_of p m r) (among_gathered (own p m r) c c (positions (length m.tasks)) (among_positions c (length m.tasks) (slice_get_within m.tasks c t found)) here) (eq-eqb c c refl)
    where
      some : list_any (λ e. same_number (runnable_of_event p e) (Some r)) t.events ≡ true
      some = any_from (λ e. same_number (runnable_of_event p e) (Some r)) e t.events among (option_test (runnable_of_event p e) (Some r) runs)

      here : Among c (own p m r c)
      here = rw (found, some) (inl refl)

  -- a server at a point exists
  pub server_exists : (q s : ℕ) → server_of p q ≡ Some s → (v : ServerPlan) × (slice_get p.servers s ≡ Some v)
  server_exists q s joined =
      let t = sought_where p.points q (λ (u : PointPlan). u.server) s joined in
      let here : PointPlan = record { runnable = t.item.runnable; name = t.item.name; server = Some s; asynchronous = t.item.asynchronous; ins = t.item.ins; outs = t.item.outs } in
      let same : t.item ≡ here = λ i. record { runnable = t.item.runnable; name = t.item.name; server = t.number i; asynchronous = t.item.asynchronous; ins = t.item.ins; outs = t.item.outs } in
      let is_there : Among here p.points = subst (λ (u : PointPlan). Among u p.points) same (among_at p.points q t.item t.found) in
      let fits = all_at (λ (u : PointPlan). few u && _) here p.points (and_parts _ _ sound.operations).1 is_there in
      let v = found_where p.servers s _ (and_parts (few here) _ fits).1 in
      (v.item, v.found)

  -- a runnable that calls and waits for a server with a queue
  pub edge : (q s a c r : ℕ) (v : ServerPlan) (most : ℕ) → is_awaited p q ≡ true → caller_of p q ≡ Some r → server_of p q ≡ Some s → slice_get p.servers s ≡ Some v → v.queue ≡ Some most
      → IsIn p m a r → IsIn p m c v.runnable → waits_for p m a c ≡ true
  edge q s a c r v most waits own joined there queue calls serves = by_point (slice_get p.points q) refl
    where
      by_point : (o : Option PointPlan) → slice_get p.points q ≡ o → waits_for p m a c ≡ true
      by_point None none = absurd (false≢true (rw none at waits))
      by_point (Some t) some =
          let sync : not t.asynchronous ≡ true = rw some at waits in
          let caller : t.runnable ≡ Some r = rw some at own in
          let server : t.server ≡ Some s = rw some at joined in
          any_from _ t p.points (among_at p.points q t some) (rw (caller, server, there, queue) (and_from (not t.asynchronous) _ sync (and_from (list_any (λ k. k == a) (tasks_of p m r)) _ calls serves)))
