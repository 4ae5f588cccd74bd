-- The tasks of the mapping fit the plan: what is mapped is there, as often as it is owed, and a runnable's events are in one task.
use Rattle.std.proofs.Common.{◌≡◌, ℕ, zero, suc, ◌+◌, ◌<◌, ◌≤◌, Bool, true, false, cond, nat_eq, bytes_eq, refl, sym, ◌∙◌, ap, subst, arith, List, [], ◌∷◌, filter, length, Option, Some}
use Rattle.std.proofs.Common.{None, option_map, option_and_then}
use Rattle.bus_semantics.specs.Common.{slice_get, position_from, list_any, option_map_or, eqb-true, eq-eqb, and_parts, ltb-true, same_Some, slice_get_within, same_number, look}
use Rattle.bus_semantics.specs.Common.{runnable_of_event}
use Rattle.plan_definitions.specs.Common.{Component, Event, Description, MappedEvent, Flat, instance_named, event_named, named_by, names, mapped_as, tasks_of_event, tasks_from, by_position}
use Rattle.plan_definitions.specs.Common.{number_of, events_in, task_at, mapping_of, same_pair, pair_number, from, component_of, events_of, runnables_of, event_of, events, runnables}
use Rattle.plan_definitions.specs.Common.{IsWhole}
use Rattle.description_types.specs.declared.description.Task as declared_task
use Rattle.bus_laws.specs.Common.{BusPlan, ElemPlan, EventPlan, Mapping, Task}
use Rattle.bus_semantics.specs.Plan as plan
use Rattle.bus_semantics.specs.Sound as sound
use Rattle.plan_definitions.specs.MappingRules as mapped_rules
use Rattle.bus_laws.proofs.Thinning.{option_same}
use Rattle.sound_plans.proofs.Places.{not_some, any_at, position_at, looked}
use Rattle.sound_plans.proofs.Members.{Has, has_flat, has_map, has_kept, kept_has, order_has, has_first, has_last, tasks_one, gathered_few}
use Rattle.sound_plans.proofs.Parts.{Home, home_component, component_home, one_at, event_there, RunnableAt, runnable_at, numbers_apart, itself, event_count, runnable_count}
use Rattle.sound_plans.proofs.Rules.{planned, spread_kept, event_formed}

module _ (d : Description) (f : Flat) where
  -- ---- what a mapped event names is there

  pub record NamedEvent (y : ℕ × ℕ) : Type 0 where
    pub c : Component
    pub home : Home d f y.0 c
    pub event : Event
    pub there : slice_get c.behavior.events y.1 ≡ Some event

  pub named_event : (x : MappedEvent) (y : ℕ × ℕ) → named_by d f x ≡ Some y → NamedEvent y
  named_event x y e = by (instance_named f x.instance) e
    where
      by_place : (i : ℕ) (c : Component) → Home d f i c → (o : Option ℕ) → position_from (λ (v : Event). bytes_eq x.event v.short_name) 0 c.behavior.events ≡ o → option_map {U = ℕ × ℕ} (λ m. (i, m)) o ≡ Some y → NamedEvent y
      by_place i c h None at e = not_some y e
      by_place i c h (Some m) at e =
          let same : (i, m) ≡ y = same_Some (i, m) y e in
          let w = position_at (λ (v : Event). bytes_eq x.event v.short_name) 0 c.behavior.events m at in
          let place : 0 + w.place ≡ m = same_Some (0 + w.place) m (sym w.is ∙ at) in
          let here : w.place ≡ m = omega arith in
          subst NamedEvent same (record { c = c; home = h; event = w.item; there = ap (slice_get c.behavior.events) (sym here) ∙ w.there })

      by_component : (i : ℕ) (o : Option Component) → component_of d f i ≡ o → option_map {U = ℕ × ℕ} (λ m. (i, m)) (option_and_then (λ (c : Component). position_from (λ (v : Event). bytes_eq x.event v.short_name) 0 c.behavior.events) o) ≡ Some y → NamedEvent y
      by_component i None is e = not_some y e
      by_component i (Some c) is e = by_place i c (component_home d f i c is) (position_from (λ (v : Event). bytes_eq x.event v.short_name) 0 c.behavior.events) refl e

      by : (o : Option ℕ) → option_and_then (event_named d f x.event) o ≡ Some y → NamedEvent y
      by None e = not_some y e
      by (Some i) e = by_component i (component_of d f i) refl e

  -- an event in a task is a mapped one
  pub record MappedIn (t e : ℕ) : Type 0 where
    pub mapped : MappedEvent
    pub has : Has MappedEvent d.mapping.events mapped
    pub task : mapped.task ≡ t
    pub names : ℕ × ℕ
    pub named : named_by d f mapped ≡ Some names
    pub number : pair_number (events_of d f) names ≡ e

  pub mapped_in : (t e : ℕ) → Has ℕ (events_in d f t) e → MappedIn t e
  mapped_in t e h =
      let x = has_flat (number_of d f) (by_position (filter (λ (v : MappedEvent). nat_eq t v.task) d.mapping.events)) e h in
      let y = kept_has (λ (v : MappedEvent). nat_eq t v.task) d.mapping.events x.item (order_has (λ (v : MappedEvent). v.position) (filter (λ (v : MappedEvent). nat_eq t v.task) d.mapping.events) x.item x.has) in
      by x.item y.0 (sym (eqb-true t x.item.task y.1)) (named_by d f x.item) refl x.inside.place x.inside.there
    where
      by : (v : MappedEvent) → Has MappedEvent d.mapping.events v → v.task ≡ t → (o : Option (ℕ × ℕ)) → named_by d f v ≡ o → (k : ℕ) → slice_get (option_map_or (λ (z : ℕ × ℕ). pair_number (events_of d f) z ∷ []) o []) k ≡ Some e → MappedIn t e
      by v has task None is k at = absurd (cc at)
      by v has task (Some z) is zero at = record { mapped = v; has = has; task = task; names = z; named = is; number = same_Some (pair_number (events_of d f) z) e at }
      by v has task (Some z) is (suc k) at = absurd (cc at)

  -- the tasks of an event's runnable have that of the event
  from_has : (i r n m : ℕ) (es : List Event) (e : Event) (t : ℕ) → slice_get es m ≡ Some e → e.runnable ≡ r → Has ℕ (tasks_of_event d f (i, n + m)) t → Has ℕ (tasks_from d f i r n es) t
  from_has i r n m [] e t at is h = absurd (cc at)
  from_has i r n zero (x ∷ es) e t at is h =
      let same : x ≡ e = same_Some x e at in
      let started : nat_eq r x.runnable ≡ true = eq-eqb r x.runnable (sym is ∙ ap (λ (v : Event). v.runnable) (sym same)) in
      let place : n + 0 ≡ n = omega arith in
      has_first (cond (nat_eq r x.runnable) (tasks_of_event d f (i, n)) []) (tasks_from d f i r (n + 1) es) t
      (subst (λ b. Has ℕ (cond b (tasks_of_event d f (i, n)) []) t) (sym started) (subst (λ k. Has ℕ (tasks_of_event d f (i, k)) t) place h))
  from_has i r n (suc m) (x ∷ es) e t at is h =
      let place : n + suc m ≡ n + 1 + m = omega arith in
      has_last (cond (nat_eq r x.runnable) (tasks_of_event d f (i, n)) []) (tasks_from d f i r (n + 1) es) t
      (from_has i r (n + 1) m es e t at is (subst (λ k. Has ℕ (tasks_of_event d f (i, k)) t) place h))

  pub task_of_event : (v : MappedEvent) (y : ℕ × ℕ) → Has MappedEvent d.mapping.events v → named_by d f v ≡ Some y → Has ℕ (tasks_of_event d f y) v.task
  task_of_event v y has named =
      has_map (λ (x : MappedEvent). x.task) (mapped_as d f y) v
      (has_kept (names d f y) d.mapping.events v has (ap (λ o. option_map_or (same_pair y) o false) named ∙ itself d f event_count y))

  pub task_of_runnable : (i : ℕ) (c : Component) → Home d f i c → (m : ℕ) (e : Event) (r t : ℕ) → slice_get c.behavior.events m ≡ Some e → e.runnable ≡ r → Has ℕ (tasks_of_event d f (i, m)) t → Has ℕ (mapped_rules.tasks_of d f (i, r)) t
  task_of_runnable i c home m e r t at is h =
      let none : m ≡ 0 + m = omega arith in
      subst (λ o. Has ℕ (option_map_or (λ (x : Component). tasks_from d f i r 0 x.behavior.events) o []) t) (sym (home_component d f i c home))
      (from_has i r 0 m c.behavior.events e t at is (subst (λ k. Has ℕ (tasks_of_event d f (i, k)) t) none h))

module _ (d : Description) (f : Flat) (p : BusPlan) (m : Mapping) (w : IsWhole d f p m) (es : List ElemPlan) where
  abbrev pub tasks : List Task
  tasks = from 0 (λ t (task : declared_task.Task). task_at d f t task ∷ []) d.mapping.tasks

  -- the runnable that an event starts, from the event that a pair names
  pub started_runnable : (y : ℕ × ℕ) (x : NamedEvent d f y) → runnable_of_event (planned d f es) (pair_number (events_of d f) y) ≡ Some (pair_number (runnables_of d f) (y.0, x.event.runnable))
  started_runnable y x = looked (events d f) (pair_number (events_of d f) y) (event_of d f y.0 x.event) (λ (v : EventPlan). Some v.runnable) None (event_there d f y.0 x.c x.home y.1 x.event x.there)

  pub starts_within : (i : ℕ) (c : Component) → Home d f i c → (k : ℕ) (e : Event) → slice_get c.behavior.events k ≡ Some e → e.runnable < length c.behavior.runnables
  starts_within i c home k e at = ltb-true e.runnable (length c.behavior.runnables) (and_parts _ _ (event_formed d f p m w home.instance.component c home.has k e at)).0

  -- a task with an event of a runnable is one of those that the rules name
  pub holds_event : (r : ℕ) (v : plan.Runnable) (x : RunnableAt d f r v) (n : ℕ) (t : Task) → slice_get tasks n ≡ Some t → list_any (λ e. same_number (runnable_of_event (planned d f es) e) (Some r)) t.events ≡ true
      → Has ℕ (mapped_rules.tasks_of d f (x.i, x.m)) n
  holds_event r v x n t at any =
      let e = any_at (λ e. same_number (runnable_of_event (planned d f es) e) (Some r)) t.events any in
      let one = one_at (λ k (task : declared_task.Task). task_at d f k task) 0 d.mapping.tasks n t at in
      let none : 0 + n ≡ n = omega arith in
      let inside : t.events ≡ events_in d f n = ap (λ (u : Task). u.events) one.is ∙ ap (events_in d f) none in
      let y = mapped_in d f n e.item (record { place = e.place; there = ap (λ ks. slice_get ks e.place) (sym inside) ∙ e.there }) in
      let z = named_event d f y.mapped y.names y.named in
      let same : pair_number (runnables_of d f) (y.names.0, z.event.runnable) ≡ pair_number (runnables_of d f) (x.i, x.m) =
      same_Some (pair_number (runnables_of d f) (y.names.0, z.event.runnable)) (pair_number (runnables_of d f) (x.i, x.m))
      (sym (started_runnable y.names z) ∙ ap (runnable_of_event (planned d f es)) y.number ∙ option_same (runnable_of_event (planned d f es) e.item) (Some r) e.passes ∙ ap (λ k. Some k) (sym x.number)) in
      let apart = numbers_apart d f runnable_count y.names.0 x.i z.c x.c z.home x.home z.event.runnable x.m (starts_within y.names.0 z.c z.home y.names.1 z.event z.there) (slice_get_within x.c.behavior.runnables x.m x.runnable x.there) same in
      subst (λ i. Has ℕ (mapped_rules.tasks_of d f (i, x.m)) n) apart.0
      (task_of_runnable d f y.names.0 z.c z.home y.names.1 z.event x.m n z.there apart.1
      (subst (λ k. Has ℕ (tasks_of_event d f y.names) k) y.task (task_of_event d f y.mapped y.names y.has y.named)))

  -- ---- a runnable's events are in one task

  pub in_one_task : (r : ℕ) (v : plan.Runnable) → slice_get (runnables d f) r ≡ Some v → length (sound.tasks_of (planned d f es) (mapping_of d f) r) ≤ 1
  in_one_task r v at = gathered_few shown small (length tasks) (λ a b l k s t. one a b s t)
    where
      x : RunnableAt d f r v
      x = runnable_at d f r v at

      shown : ℕ → List ℕ
      shown n = look tasks n (λ (t : Task). cond (list_any (λ e. same_number (runnable_of_event (planned d f es) e) (Some r)) t.events) (n ∷ []) []) []

      few : (n : ℕ) (b : Bool) → length (cond b (n ∷ []) []) ≤ 1
      few n true = omega arith
      few n false = omega arith

      small : (n : ℕ) → length (shown n) ≤ 1
      small n = by (slice_get tasks n)
        where
          by : (o : Option Task) → length (option_map_or (λ (t : Task). cond (list_any (λ e. same_number (runnable_of_event (planned d f es) e) (Some r)) t.events) (n ∷ []) []) o []) ≤ 1
          by None = omega arith
          by (Some t) = few n (list_any (λ e. same_number (runnable_of_event (planned d f es) e) (Some r)) t.events)

      shows : (n : ℕ) → 0 < length (shown n) → Has ℕ (mapped_rules.tasks_of d f (x.i, x.m)) n
      shows n l = by (slice_get tasks n) refl l
        where
          flag : (t : Task) → slice_get tasks n ≡ Some t → (b : Bool) → list_any (λ e. same_number (runnable_of_event (planned d f es) e) (Some r)) t.events ≡ b → 0 < length (cond b (n ∷ []) []) → Has ℕ (mapped_rules.tasks_of d f (x.i, x.m)) n
          flag t at true is l = holds_event r v x n t at is
          flag t at false is l = absurd (omega arith)

          by : (o : Option Task) → slice_get tasks n ≡ o → 0 < length (option_map_or (λ (t : Task). cond (list_any (λ e. same_number (runnable_of_event (planned d f es) e) (Some r)) t.events) (n ∷ []) []) o []) → Has ℕ (mapped_rules.tasks_of d f (x.i, x.m)) n
          by None at l = absurd (omega arith)
          by (Some t) at l = flag t at (list_any (λ e. same_number (runnable_of_event (planned d f es) e) (Some r)) t.events) refl l

      one : (a b : ℕ) → 0 < length (shown a) → 0 < length (shown b) → a ≡ b
      one a b s t = tasks_one (mapped_rules.tasks_of d f (x.i, x.m)) a b (spread_kept d f p m w x.i x.c x.home x.m x.runnable x.there) (shows a s) (shows b t)
