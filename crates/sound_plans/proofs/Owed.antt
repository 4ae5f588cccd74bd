-- Each event is mapped as often as it is owed; the whole mapping fits.
use Rattle.std.proofs.Common.{◌≡◌, ℕ, ◌+◌, ◌<◌, ◌≤◌, Bool, true, false, cond, ◌&&◌, ◌||◌, not, ◌==◌, nat_eq, refl, sym, ◌∙◌, ap, subst, arith, List, [], ◌∷◌, map, filter, length, Option, Some, None}
use Rattle.std.specs.Prelude.{nat_lt, nat_le, is_some}
use Rattle.bus_semantics.specs.Common.{slice_get, list_all, list_any, option_map_or, and_from, and_parts, eq-eqb, eqb-true, le-leb, leb-true, lt-ltb, ltb-true, or_left, or_right}
use Rattle.bus_semantics.specs.Common.{slice_get_within, count, plan_of, every_from, positions, gathered, mapped_events, times_mapped, is_name, is_in, same_numbers}
use Rattle.std.specs.Cmp.{both_ways}
use Rattle.description_types.specs.declared.component.EventKind as declared_kind
use Rattle.description_types.specs.declared.component.EventKind.TheVariants as declared_event
use Rattle.plan_definitions.specs.Common.{Description, MappedEvent, Flat, named_by, names, mapped_as, is_mapped, is_mapped_well, by_position, number_of, events_in, task_at, mapping_of}
use Rattle.plan_definitions.specs.Common.{same_pair, pair_number, from, events_of, events, runnables, server_at, servers, is_numbered_mapped, queue_length_of, server_number, IsWhole}
use Rattle.description_types.specs.declared.description.Task as declared_task
use Rattle.bus_laws.specs.Common.{BusPlan, ElemPlan, EventPlan, ServerPlan, Mapping, Task}
use Rattle.bus_semantics.specs.Plan as plan
use Rattle.bus_semantics.specs.Sound as sound
use Rattle.plan_definitions.specs.Started.{kind_of}
use Rattle.plan_definitions.specs.Services as services
use Rattle.plan_definitions.specs.WellFormed as formed
use Rattle.plan_definitions.proofs.Lists.{same_numbers_is, there}
use Rattle.sound_plans.proofs.Places.{all_if, all_at, every_if, looked, mapped}
use Rattle.sound_plans.proofs.Members.{position_at_plan, names_apart, count_append, count_flat, added_same, added_kept, added_order, spread, spread_all}
use Rattle.sound_plans.proofs.Parts.{one_at, OneAt, length-one_each, EventAt, event_at, event_there, numbers_apart, number_there, same_pairs, event_count}
use Rattle.sound_plans.proofs.Rules.{planned, plan_is, mapped_kept}
use Rattle.sound_plans.proofs.Serving.{server_there}
use Rattle.sound_plans.proofs.Tasks.{NamedEvent, named_event, mapped_in, tasks, in_one_task}

-- something is kept where something passes
pub any_kept : {X : Type 0} (test : X → Bool) (xs : List X) → length (filter test xs) ≤ 1 → cond (list_any test xs) 1 0 ≡ length (filter test xs)
any_kept test [] few = refl
any_kept {X} test (x ∷ xs) few = by (λ l. any_kept test xs l) (test x) few
  where
    by : (length (filter test xs) ≤ 1 → cond (list_any test xs) 1 0 ≡ length (filter test xs)) → (b : Bool) → length (cond b (x ∷ filter test xs) (filter test xs)) ≤ 1
        → cond (b || list_any test xs) 1 0 ≡ length (cond b (x ∷ filter test xs) (filter test xs))
    by rest true l = omega arith
    by rest false l = rest l

-- the queue of a server is there where its event is mapped
pub queue_mapped : (d : Description) (f : Flat) (i k n number : ℕ) → is_some (services.queue_of d f i k n number) ≡ is_numbered_mapped d f number
queue_mapped d f i k n number = by (is_numbered_mapped d f number)
  where
    by : (b : Bool) → is_some (cond b (Some (queue_length_of d f (Some i) k n)) None) ≡ b
    by true = refl
    by false = refl

module _ (d : Description) (f : Flat) (p : BusPlan) (m : Mapping) (w : IsWhole d f p m) (es : List ElemPlan) where
  tasks_formed : (nat_le (length d.mapping.tasks) 256 ≡ true) × (formed.names_fit (map (λ (t : declared_task.Task). t.short_name) d.mapping.tasks) ≡ true) × (list_all (λ (t : declared_task.Task). nat_lt t.core d.mapping.cores) d.mapping.tasks ≡ true)
      × (list_all (λ (x : MappedEvent). nat_lt x.task (length d.mapping.tasks)) d.mapping.events ≡ true)
  tasks_formed =
      let a = and_parts (nat_le (length d.mapping.tasks) 256) _ (and_parts (is_in 1 8 d.mapping.cores) _ w.well_formed.mapping).1 in
      let b = and_parts (formed.names_fit (map (λ (t : declared_task.Task). t.short_name) d.mapping.tasks)) _ a.1 in
      let c = and_parts (list_all (λ (t : declared_task.Task). nat_lt t.core d.mapping.cores) d.mapping.tasks) _ b.1 in
      (a.0, b.0, c.0, c.1)

  task_below : (j : ℕ) (y : MappedEvent) → slice_get d.mapping.events j ≡ Some y → (0 ≤ y.task) × (y.task < 0 + length d.mapping.tasks)
  task_below j y at =
      let less : y.task < length d.mapping.tasks = ltb-true y.task (length d.mapping.tasks) (all_at (λ (x : MappedEvent). nat_lt x.task (length d.mapping.tasks)) d.mapping.events j y tasks_formed.3 at) in
      (omega arith, omega arith)

  -- ---- how often an event is mapped

  module _ (e : ℕ) (v : EventPlan) (x : EventAt d f e v) where
    mine : ℕ × ℕ
    mine = (x.i, x.m)

    within : x.m < length x.c.behavior.events
    within = slice_get_within x.c.behavior.events x.m x.event x.there

    same_number_as : (z : ℕ × ℕ) → NamedEvent d f z → (pair_number (events_of d f) z == e) ≡ same_pair mine z
    unfolding mine
    same_number_as z h = both_ways (pair_number (events_of d f) z == e) (same_pair (x.i, x.m) z)
        (λ is. let same = numbers_apart d f event_count z.0 x.i h.c x.c h.home x.home z.1 x.m (slice_get_within h.c.behavior.events z.1 h.event h.there) within (eqb-true (pair_number (events_of d f) z) e is ∙ sym x.number) in
        and_from (nat_eq x.i z.0) (nat_eq x.m z.1) (eq-eqb x.i z.0 (sym same.0)) (eq-eqb x.m z.1 (sym same.1)))
        (λ is. let same = same_pairs d f event_count (x.i, x.m) z is in
        eq-eqb (pair_number (events_of d f) z) e ((λ j. pair_number (events_of d f) (sym same.0 j, sym same.1 j)) ∙ x.number))

    one_number : (y : MappedEvent) → count (λ k. k == e) (number_of d f y) ≡ cond (names d f mine y) 1 0
    one_number y = by (named_by d f y) refl
      where
        by : (o : Option (ℕ × ℕ)) → named_by d f y ≡ o → count (λ k. k == e) (option_map_or (λ (z : ℕ × ℕ). pair_number (events_of d f) z ∷ []) o []) ≡ cond (option_map_or (same_pair mine) o false) 1 0
        by None is = refl
        by (Some z) is = ap (λ b. cond b 1 0) (same_number_as z (named_event d f y z is))

    in_tasks : (n : ℕ) (ts : List declared_task.Task) → count (λ k. k == e) (gathered (λ (t : Task). t.events) (from n (λ t task. task_at d f t task ∷ []) ts))
        ≡ spread (λ y. count (λ k. k == e) (number_of d f y)) (λ (y : MappedEvent). y.task) n (length ts) d.mapping.events
    unfolding spread
    in_tasks n [] = refl
    in_tasks n (t ∷ ts) =
        count_append (λ k. k == e) (events_in d f n) (gathered (λ (t : Task). t.events) (from (n + 1) (λ t task. task_at d f t task ∷ []) ts))
        ∙ (λ j. (count_flat (λ k. k == e) (number_of d f) (by_position (filter (λ (y : MappedEvent). nat_eq n y.task) d.mapping.events))
        ∙ added_order (λ y. count (λ k. k == e) (number_of d f y)) (λ (y : MappedEvent). y.position) (filter (λ (y : MappedEvent). nat_eq n y.task) d.mapping.events)) j + in_tasks (n + 1) ts j)

    pub times : count (λ k. k == e) (mapped_events (mapping_of d f)) ≡ length (mapped_as d f (x.i, x.m))
    unfolding mine
    times = in_tasks 0 d.mapping.tasks
        ∙ spread_all (λ y. count (λ k. k == e) (number_of d f y)) (λ (y : MappedEvent). y.task) 0 (length d.mapping.tasks) d.mapping.events task_below
        ∙ added_same (λ y. count (λ k. k == e) (number_of d f y)) (λ y. cond (names d f (x.i, x.m) y) 1 0) d.mapping.events (λ k y at. one_number y)
        ∙ added_kept (names d f (x.i, x.m)) d.mapping.events

    -- ---- how often it is owed

    numbered : is_numbered_mapped d f (pair_number (events_of d f) (x.i, x.m)) ≡ is_mapped d f (x.i, x.m)
    numbered = ap (λ o. option_map_or (is_mapped d f) o false) (number_there d f event_count x.i x.c x.home x.m within)

    owed_kind : (kind : declared_kind.EventKind) → x.event.kind ≡ kind → is_mapped_well kind (length (mapped_as d f (x.i, x.m))) ≡ true → times_mapped (planned d f es) (kind_of d f x.i kind) ≡ length (mapped_as d f (x.i, x.m))
    owed_kind (declared_event.Timing period) is well = sym (eqb-true (length (mapped_as d f (x.i, x.m))) 1 well)
    owed_kind declared_event.Init is well = sym (eqb-true (length (mapped_as d f (x.i, x.m))) 1 well)
    owed_kind (declared_event.DataReceived k n) is well = sym (eqb-true (length (mapped_as d f (x.i, x.m))) 1 well)
    owed_kind (declared_event.OperationInvoked k n) is well =
        let at = server_there d f p m w x.i x.c x.home k n x.m x.event x.there is in
        let queue : plan.queue_of (planned d f es) (server_number d f (Some x.i, Some k, n)) ≡ services.queue_of d f x.i k n (pair_number (events_of d f) (x.i, x.m)) =
        looked (servers d f) (server_number d f (Some x.i, Some k, n)) (server_at d f x.i k n x.m) (λ (v : ServerPlan). v.queue) None at in
        ap (λ o. cond (is_some o) 1 0) queue ∙ ap (λ b. cond b 1 0) (queue_mapped d f x.i k n (pair_number (events_of d f) (x.i, x.m)) ∙ numbered)
        ∙ any_kept (names d f (x.i, x.m)) d.mapping.events (leb-true (length (mapped_as d f (x.i, x.m))) 1 well)
    owed_kind (declared_event.CallReturns k n) is well = sym (eqb-true (length (mapped_as d f (x.i, x.m))) 1 well)
    owed_kind (declared_event.ModeSwitch k when) is well = sym (eqb-true (length (mapped_as d f (x.i, x.m))) 1 well)
    owed_kind (declared_event.ModeSwitchedAck k) is well = sym (eqb-true (length (mapped_as d f (x.i, x.m))) 1 well)

    pub owed : (count (λ k. k == e) (mapped_events (mapping_of d f)) == times_mapped (planned d f es) v.kind) ≡ true
    owed = eq-eqb (count (λ k. k == e) (mapped_events (mapping_of d f))) (times_mapped (planned d f es) v.kind)
        (times ∙ sym (ap (λ (u : EventPlan). times_mapped (planned d f es) u.kind) x.is ∙ owed_kind x.event.kind refl (mapped_kept d f p m w x.i x.c x.home x.m x.event x.there)))

  -- ---- the whole

  name_at : (k : ℕ) (t : declared_task.Task) → slice_get d.mapping.tasks k ≡ Some t → slice_get (map (λ (t : declared_task.Task). t.short_name) d.mapping.tasks) k ≡ Some t.short_name
  name_at k t at = mapped (λ (t : declared_task.Task). t.short_name) d.mapping.tasks k t at

  each_task : (k : ℕ) (t : Task) → slice_get (tasks d f p m w es) k ≡ Some t → (nat_lt t.core d.mapping.cores && (is_name t.name && list_all (λ e. nat_lt e (length (events d f))) t.events)) ≡ true
  each_task k t at =
      let one = one_at (λ k (task : declared_task.Task). task_at d f k task) 0 d.mapping.tasks k t at in
      let core : nat_lt t.core d.mapping.cores ≡ true = subst (λ (u : Task). nat_lt u.core d.mapping.cores ≡ true) (sym one.is) (all_at (λ (t : declared_task.Task). nat_lt t.core d.mapping.cores) d.mapping.tasks k one.item tasks_formed.2 one.there) in
      let name : is_name t.name ≡ true = subst (λ (u : Task). is_name u.name ≡ true) (sym one.is) (all_at is_name (map (λ (t : declared_task.Task). t.short_name) d.mapping.tasks) k one.item.short_name
      (and_parts (list_all is_name (map (λ (t : declared_task.Task). t.short_name) d.mapping.tasks)) _ tasks_formed.1).0 (name_at k one.item one.there)) in
      and_from (nat_lt t.core d.mapping.cores) (is_name t.name && list_all (λ e. nat_lt e (length (events d f))) t.events) core
      (and_from (is_name t.name) (list_all (λ e. nat_lt e (length (events d f))) t.events) name
      (all_if (λ e. nat_lt e (length (events d f))) t.events (λ j e there. event_below (0 + k) j e (ap (λ (u : Task). slice_get u.events j) (sym one.is) ∙ there))))
    where
      event_below : (n j e : ℕ) → slice_get (events_in d f n) j ≡ Some e → nat_lt e (length (events d f)) ≡ true
      event_below n j e there =
          let y = mapped_in d f n e (record { place = j; there = there }) in
          let z = named_event d f y.mapped y.names y.named in
          let at = event_there d f y.names.0 z.c z.home y.names.1 z.event z.there in
          let less = slice_get_within (events d f) (pair_number (events_of d f) y.names) _ at in
          subst (λ k. nat_lt k (length (events d f)) ≡ true) y.number (lt-ltb (pair_number (events_of d f) y.names) (length (events d f)) less)

  names_differ : (i : ℕ) (a : Task) → slice_get (tasks d f p m w es) i ≡ Some a → (j : ℕ) (c : Task) → slice_get (tasks d f p m w es) j ≡ Some c → ((i == j) || not (same_numbers a.name c.name)) ≡ true
  names_differ i a s j c t = by (same_numbers a.name c.name) refl
    where
      x : OneAt (λ k (task : declared_task.Task). task_at d f k task) 0 d.mapping.tasks i a
      x = one_at (λ k (task : declared_task.Task). task_at d f k task) 0 d.mapping.tasks i a s

      y : OneAt (λ k (task : declared_task.Task). task_at d f k task) 0 d.mapping.tasks j c
      y = one_at (λ k (task : declared_task.Task). task_at d f k task) 0 d.mapping.tasks j c t

      by : (b : Bool) → same_numbers a.name c.name ≡ b → ((i == j) || not b) ≡ true
      by false is = or_right (i == j) true refl
      by true is =
          let same : x.item.short_name ≡ y.item.short_name = ap (λ (u : Task). u.name) (sym x.is) ∙ same_numbers_is a.name c.name is ∙ ap (λ (u : Task). u.name) y.is in
          or_left (i == j) false (eq-eqb i j (names_apart (map (λ (t : declared_task.Task). t.short_name) d.mapping.tasks) i j x.item.short_name
          (and_parts (list_all is_name (map (λ (t : declared_task.Task). t.short_name) d.mapping.tasks)) (formed.distinct (map (λ (t : declared_task.Task). t.short_name) d.mapping.tasks)) tasks_formed.1).1
          (name_at i x.item x.there) (name_at j y.item y.there ∙ ap (λ n. Some n) (sym same))))

  pub mapping_sound : sound.mapping_fits (planned d f es) (mapping_of d f) ≡ true
  mapping_sound =
      let ts = tasks d f p m w es in
      and_from (is_in 1 8 d.mapping.cores) _ (and_parts (is_in 1 8 d.mapping.cores) _ w.well_formed.mapping).0
      (and_from (nat_le (length ts) 256) _ (subst (λ n. nat_le n 256 ≡ true) (sym (length-one_each (λ k (task : declared_task.Task). task_at d f k task) 0 d.mapping.tasks)) tasks_formed.0)
      (and_from (list_all (λ (t : Task). nat_lt t.core d.mapping.cores && (is_name t.name && list_all (λ e. nat_lt e (length (events d f))) t.events)) ts) _
      (all_if (λ (t : Task). nat_lt t.core d.mapping.cores && (is_name t.name && list_all (λ e. nat_lt e (length (events d f))) t.events)) ts each_task)
      (and_from (every_from 0 (λ i (a : Task). every_from 0 (λ j (c : Task). (i == j) || not (same_numbers a.name c.name)) ts) ts) _
      (every_if (λ i (a : Task). every_from 0 (λ j (c : Task). (i == j) || not (same_numbers a.name c.name)) ts) 0 ts
      (λ i a s. let none : i ≡ 0 + i = omega arith in subst (λ k. every_from 0 (λ j (c : Task). (k == j) || not (same_numbers a.name c.name)) ts ≡ true) none
      (every_if (λ j (c : Task). (i == j) || not (same_numbers a.name c.name)) 0 ts
      (λ j c t. let nought : j ≡ 0 + j = omega arith in subst (λ k. ((i == k) || not (same_numbers a.name c.name)) ≡ true) nought (names_differ i a s j c t)))))
      (and_from (every_from 0 (λ e (v : EventPlan). count (λ k. k == e) (mapped_events (mapping_of d f)) == times_mapped (planned d f es) v.kind) (events d f)) _
      (every_if (λ e (v : EventPlan). count (λ k. k == e) (mapped_events (mapping_of d f)) == times_mapped (planned d f es) v.kind) 0 (events d f)
      (λ e v at. let none : e ≡ 0 + e = omega arith in subst (λ k. (count (λ j. j == k) (mapped_events (mapping_of d f)) == times_mapped (planned d f es) v.kind) ≡ true) none (owed e v (event_at d f e v at))))
      (all_if (λ r. nat_le (length (sound.tasks_of (planned d f es) (mapping_of d f) r)) 1) (positions (length (runnables d f)))
      (λ k r at. let found = there (runnables d f) r (position_at_plan (length (runnables d f)) k r at) in
      le-leb (length (sound.tasks_of (planned d f es) (mapping_of d f) r)) 1 (in_one_task d f p m w es r found.0 found.1)))))))

pub tasks_sound : (d : Description) (f : Flat) (p : BusPlan) (m : Mapping) → IsWhole d f p m → sound.mapping_fits (plan_of p) m ≡ true
tasks_sound d f p m w = (λ j. sound.mapping_fits (plan_is d f p w.is_plan j) (w.is_mapping j)) ∙ mapping_sound d f p m w p.elements
