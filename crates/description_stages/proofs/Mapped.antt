-- The mapping and its rules, where programs are held elsewhere.
use Rattle.std.proofs.Common.{◌≡◌, ℕ, zero, suc, ◌+◌, List, [], ◌∷◌, ◌++◌, map, filter, length, codes, nat_eq, bytes_eq, slice_get, true, false, not, ◌&&◌, ◌||◌, is_some, if◌then◌else◌}
use Rattle.std.proofs.Common.{Option, Some, None, option_map, option_and_then, refl, sym, ap, subst, ◌∙◌}
use Rattle.bus_semantics.specs.Common.{flat_map, list_any, position_from, option_map_or, option_or, AccessKind}
use Rattle.runnable_lang.specs.declared.program.AccessKind.TheVariants as kind
use Rattle.plan_definitions.specs.Common.{Access, Component, Event, EventKind, OperationInvoked, Runnable, Description, MappedEvent, first_of, unless, End, Flat, end_at, provider_of}
use Rattle.plan_definitions.specs.Common.{pair_number, same_pair, from, component_of, instance_named, invocation_of, invokes, is_mapped, mapped_as, named_by, names, event_text, mapped_text}
use Rattle.plan_definitions.specs.Common.{of_events, runnable_text, IsAfter, IsOfTasks, are_same, badly_mapped_in, is_mapped_well, keeps_direct, may_be_direct, not_direct_in, serves_outside}
use Rattle.plan_definitions.specs.Common.{spread_in, task_of_server, tasks_behind, tasks_from, tasks_of, tasks_of_event, unnamed, waits_by, waits_for, Chain, ReachesItself, Waits}
use Rattle.plan_definitions.specs.Common.{by_position, mapping_of, number_of}
use Rattle.description_types.specs.declared.description.Task as declared_task
use Rattle.component_model.specs.Programs.{component_tree, runnable_tree}
use Rattle.plan_definitions.specs.MappingRefusals.{path_of, IsRefusal}
use Rattle.plan_definitions.specs.MappingRules.{in_instances}
use Rattle.description_stages.proofs.Held.{at_place, held_as, look, look_on, look_within, on_first, running}
use Rattle.description_stages.proofs.Parts.{component_of-again, events_of-again, found}

accesses_of : (r s : Runnable) → runnable_tree r ≡ runnable_tree s → r.accesses ≡ s.accesses
accesses_of r s e = ap (λ t. t.accesses) e

module _ (d : Description) (cs : List Component) (same : map component_tree d.components ≡ map component_tree cs) (f : Flat) where
  -- what is found of an event, and of a runnable, of the component of an instance
  pub at_events : {X : Type 0} (n : ℕ) (g : List Event → Option X) → option_and_then (λ c. g c.behavior.events) (component_of d f n) ≡ option_and_then (λ c. g c.behavior.events) (component_of (held_as d cs) f n)
  at_events n g = look_on component_tree (λ c. g c.behavior.events) (λ c. g c.behavior.events) (λ a b e. ap (λ t. g t.behavior.events) e) (component_of d f n) (component_of (held_as d cs) f n) (component_of-again d cs same f n)

  pub at_runnable : (n m : ℕ) → option_map runnable_tree (option_and_then (λ c. slice_get c.behavior.runnables m) (component_of d f n))
      ≡ option_map runnable_tree (option_and_then (λ c. slice_get c.behavior.runnables m) (component_of (held_as d cs) f n))
  at_runnable n m = look_within component_tree runnable_tree (λ c. slice_get c.behavior.runnables m)
      (λ a b e. at_place runnable_tree a.behavior.runnables b.behavior.runnables (ap (λ t. t.behavior.runnables) e) m) (component_of d f n) (component_of (held_as d cs) f n) (component_of-again d cs same f n)

  -- ---- mapped events

  named_by-again : (x : MappedEvent) → named_by d f x ≡ named_by (held_as d cs) f x
  named_by-again x = λ i. option_and_then (λ n. option_map (λ m. (n, m)) (at_events n (λ es. position_from (λ e. bytes_eq x.event e.short_name) 0 es) i)) (instance_named f x.instance)

  names-again : (e : ℕ × ℕ) (x : MappedEvent) → names d f e x ≡ names (held_as d cs) f e x
  names-again e x = ap (λ o. option_map_or (same_pair e) o false) (named_by-again x)

  mapped_as-again : (e : ℕ × ℕ) → mapped_as d f e ≡ mapped_as (held_as d cs) f e
  mapped_as-again e = λ i. filter (λ x. names-again e x i) d.mapping.events

  pub is_mapped-again : (e : ℕ × ℕ) → is_mapped d f e ≡ is_mapped (held_as d cs) f e
  is_mapped-again e = λ i. list_any (λ x. names-again e x i) d.mapping.events

  tasks_of_event-again : (e : ℕ × ℕ) → tasks_of_event d f e ≡ tasks_of_event (held_as d cs) f e
  tasks_of_event-again e = ap (map (λ x. x.task)) (mapped_as-again e)

  tasks_from-again : (n r m : ℕ) (es : List Event) → tasks_from d f n r m es ≡ tasks_from (held_as d cs) f n r m es
  tasks_from-again n r m [] = refl
  tasks_from-again n r m (e ∷ es) = λ i. (if nat_eq r e.runnable then tasks_of_event-again (n, m) i else []) ++ tasks_from-again n r (m + 1) es i

  tasks_of-again : (r : ℕ × ℕ) → tasks_of d f r ≡ tasks_of (held_as d cs) f r
  tasks_of-again r = look component_tree (λ c. tasks_from d f r.0 r.1 0 c.behavior.events) (λ c. tasks_from (held_as d cs) f r.0 r.1 0 c.behavior.events) []
      (λ a b e. λ i. tasks_from-again r.0 r.1 0 ((e i).behavior.events) i) (component_of d f r.0) (component_of (held_as d cs) f r.0) (component_of-again d cs same f r.0)

  pub invocation_of-again : (n k m : ℕ) → invocation_of d f n k m ≡ invocation_of (held_as d cs) f n k m
  invocation_of-again n k m = at_events n (λ es. position_from (λ e. invokes k m e.kind) 0 es)

  -- ---- waits

  task_of_server-again : (n k m : ℕ) → task_of_server d f n k m ≡ task_of_server (held_as d cs) f n k m
  task_of_server-again n k m = λ i. option_map_or (λ x. tasks_of_event-again (n, x) i) (invocation_of-again n k m i) []

  tasks_behind-again : (e : End) → tasks_behind d f e ≡ tasks_behind (held_as d cs) f e
  tasks_behind-again e = λ i. option_map_or (λ s. task_of_server-again s e.port e.element i) e.instance []

  waits_by-again : (n : ℕ) (a : Access) → waits_by d f n a ≡ waits_by (held_as d cs) f n a
  waits_by-again n a = by a.kind
    where
      by : (k : AccessKind) → waits_by d f n (record { kind = k; port = a.port; item = a.item }) ≡ waits_by (held_as d cs) f n (record { kind = k; port = a.port; item = a.item })
      by kind.Call = λ i. option_map_or (λ e. tasks_behind-again e i) (provider_of f.joins (end_at (Some n) a.port a.item)) []
      by _ = refl

  waits_for-again : (r : ℕ × ℕ) → waits_for d f r ≡ waits_for (held_as d cs) f r
  waits_for-again r = look runnable_tree (λ x. flat_map (waits_by d f r.0) x.accesses) (λ x. flat_map (waits_by (held_as d cs) f r.0) x.accesses) []
      (λ x y e. λ i. flat_map (λ a. waits_by-again r.0 a i) (accesses_of x y e i))
      (option_and_then (λ c. slice_get c.behavior.runnables r.1) (component_of d f r.0)) (option_and_then (λ c. slice_get c.behavior.runnables r.1) (component_of (held_as d cs) f r.0)) (at_runnable r.0 r.1)

  waits_as : (a b : ℕ) → Waits d f a b → Waits (held_as d cs) f a b
  waits_as a b w = record {
    runnable = w.runnable;
    in_task = subst (λ ts. list_any (λ t. nat_eq t a) ts ≡ true) (tasks_of-again w.runnable) w.in_task;
    for_task = subst (λ ts. list_any (λ t. nat_eq t b) ts ≡ true) (waits_for-again w.runnable) w.for_task;
  }

  chain_as : (n a c : ℕ) → Chain d f n a c → Chain (held_as d cs) f n a c
  chain_as zero a c e = e
  chain_as (suc n) a c (b, waits, rest) = (b, waits_as a b waits, chain_as n b c rest)

  reaches_as : ReachesItself d f → ReachesItself (held_as d cs) f
  reaches_as (t, n, chain) = (t, n, chain_as (suc n) t t chain)

  -- ---- the rules

  unnamed-again : unnamed d f ≡ unnamed (held_as d cs) f
  unnamed-again = λ i. first_of (λ k x. unless (is_some (named_by-again x i)) k) 0 d.mapping.events

  in_instances-again : {X : Type 0} (g h : ℕ → Component → Option X) → ((n : ℕ) (a b : Component) → component_tree a ≡ component_tree b → g n a ≡ h n b) → in_instances g d f ≡ in_instances h (held_as d cs) f
  in_instances-again g h blind = λ i. first_of (λ n x. look_on component_tree (g n) (h n) (blind n) (slice_get d.components x.component) (slice_get cs x.component) (found d cs same x.component) i) 0 f.instances

  badly_mapped-again : (n : ℕ) (a b : Component) → component_tree a ≡ component_tree b → badly_mapped_in d f n a ≡ badly_mapped_in (held_as d cs) f n b
  badly_mapped-again n a b e = λ i. first_of (λ m v. unless (is_mapped_well v.kind (length (mapped_as-again (n, m) i))) (n, m)) 0 ((e i).behavior.events)

  spread-again : (n : ℕ) (a b : Component) → component_tree a ≡ component_tree b → spread_in d f n a ≡ spread_in (held_as d cs) f n b
  spread-again n a b e = on_first runnable_tree (λ m r. unless (are_same (tasks_of d f (n, m))) (n, m)) (λ m r. unless (are_same (tasks_of (held_as d cs) f (n, m))) (n, m))
      (λ m r s same. ap (λ ts. unless (are_same ts) (n, m)) (tasks_of-again (n, m))) 0 a.behavior.runnables b.behavior.runnables (ap (λ t. t.behavior.runnables) e)

  may_be_direct-again : (r s : Runnable) → runnable_tree r ≡ runnable_tree s → may_be_direct r ≡ may_be_direct s
  may_be_direct-again r s e = ap (λ t. may_be_direct (running r.program t)) e

  keeps_direct-again : (n : ℕ) (a b : Component) → component_tree a ≡ component_tree b → (m : ℕ) (v : Event) → keeps_direct d f n a m v ≡ keeps_direct (held_as d cs) f n b m v
  keeps_direct-again n a b e m v = by v.kind
    where
      by : (k : EventKind) → keeps_direct d f n a m (record { short_name = v.short_name; runnable = v.runnable; kind = k; disabled_in_modes = v.disabled_in_modes })
          ≡ keeps_direct (held_as d cs) f n b m (record { short_name = v.short_name; runnable = v.runnable; kind = k; disabled_in_modes = v.disabled_in_modes })
      by (OperationInvoked k o) = λ i. is_mapped-again (n, m) i || (look runnable_tree may_be_direct may_be_direct false may_be_direct-again (slice_get a.behavior.runnables v.runnable) (slice_get b.behavior.runnables v.runnable)
          (at_place runnable_tree a.behavior.runnables b.behavior.runnables (ap (λ t. t.behavior.runnables) e) v.runnable) i && not (serves_outside f n k o))
      by _ = refl

  not_direct-again : (n : ℕ) (a b : Component) → component_tree a ≡ component_tree b → not_direct_in d f n a ≡ not_direct_in (held_as d cs) f n b
  not_direct-again n a b e = λ i. first_of (λ m v. unless (keeps_direct-again n a b e m v i) (n, m)) 0 ((e i).behavior.events)

  event_text-again : (e : ℕ × ℕ) → event_text d f e ≡ event_text (held_as d cs) f e
  event_text-again e = ap (λ o. (path_of f e.0 ++ codes ".") ++ option_map_or (λ v. v.short_name) o (codes "")) (at_events e.0 (λ es. slice_get es e.1))

  runnable_text-again : (r : ℕ × ℕ) → runnable_text d f r ≡ runnable_text (held_as d cs) f r
  runnable_text-again r = ap (λ t. (path_of f r.0 ++ codes ":") ++ t) (look runnable_tree (λ v. v.short_name) (λ v. v.short_name) (codes "") (λ x y e. ap (λ t. t.short_name) e)
      (option_and_then (λ c. slice_get c.behavior.runnables r.1) (component_of d f r.0)) (option_and_then (λ c. slice_get c.behavior.runnables r.1) (component_of (held_as d cs) f r.0)) (at_runnable r.0 r.1))

  pub of_events-again : of_events d f ≡ of_events (held_as d cs) f
  of_events-again = λ i. option_or (option_map (λ k. (25, mapped_text k)) (unnamed-again i))
      (option_or (option_map (λ e. (26, event_text-again e i)) (in_instances-again (badly_mapped_in d f) (badly_mapped_in (held_as d cs) f) badly_mapped-again i))
      (option_or (option_map (λ r. (27, runnable_text-again r i)) (in_instances-again (spread_in d f) (spread_in (held_as d cs) f) spread-again i))
      (option_map (λ e. (28, event_text-again e i)) (in_instances-again (not_direct_in d f) (not_direct_in (held_as d cs) f) not_direct-again i))))

  -- ---- the mapping

  number_of-again : (x : MappedEvent) → number_of d f x ≡ number_of (held_as d cs) f x
  number_of-again x = λ i. option_map_or (λ e. pair_number (events_of-again d cs same f i) e ∷ []) (named_by-again x i) []

  pub mapping_of-again : mapping_of d f ≡ mapping_of (held_as d cs) f
  mapping_of-again = λ i. record {
    cores = d.mapping.cores;
    tasks = from 0 (λ t (task : declared_task.Task). record { name = task.short_name; core = task.core; events = flat_map (λ x. number_of-again x i) (by_position (filter (λ x. nat_eq t x.task) d.mapping.events)) } ∷ []) d.mapping.tasks;
  }

-- ---- rule 29, and the refusal; the way back is the way there

module _ (d : Description) (cs : List Component) (same : map component_tree d.components ≡ map component_tree cs) (f : Flat) where
  of_tasks_as : (o : Option (ℕ × List ℕ)) → IsOfTasks d f o → IsOfTasks (held_as d cs) f o
  of_tasks_as None none = λ reaches. none (reaches_as (held_as d cs) d.components (sym same) f reaches)
  of_tasks_as (Some x) (is, reaches) = (is, reaches_as d cs same f reaches)

  pub refusal_as : (o : Option (ℕ × List ℕ)) → IsRefusal d f o → IsRefusal (held_as d cs) f o
  refusal_as o is = by (of_events d f) (of_events (held_as d cs) f) (of_events-again d cs same f) is
    where
      by : (a b : Option (ℕ × List ℕ)) → a ≡ b → IsAfter a (IsOfTasks d f) o → IsAfter b (IsOfTasks (held_as d cs) f) o
      by None None e is = of_tasks_as o is
      by None (Some y) e is = absurd cc
      by (Some x) None e is = absurd cc
      by (Some x) (Some y) e is = is ∙ e
