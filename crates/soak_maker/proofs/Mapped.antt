-- Rules 25 to 29: the mapping of events to tasks.
use Rattle.std.proofs.Common.{◌≡◌, ◌<◌, ◌≤◌, ◌+◌, ◌%◌, ℕ, zero, suc, Bool, true, false, not, cond, ◌&&◌, ◌||◌, ◌==◌, nat_eq, List, [], ◌∷◌, ◌++◌, map, filter, flat_map, length, slice_get}
use Rattle.std.proofs.Common.{codes, bytes_eq, is_some, Option, Some, None, option_map, option_and_then, ◌⊎◌, inl, inr, refl, sym, ap, subst, ◌∙◌, arith, eqb-true, true≢false, mod-lt}
use Rattle.std.proofs.Common.{append-nil, find}
use Rattle.bus_semantics.specs.Common.{list_any, position_from, option_map_or, option_or, none-some}
use Rattle.plan_definitions.specs.Common.{Component, Description, MappedEvent, End, Flat, Instance, Join, Among, unless, provider_of, same_end, same_pair, event_named, instance_named}
use Rattle.plan_definitions.specs.Common.{invokes, is_mapped, mapped_as, named_by, names, event_text, mapped_text, of_events, runnable_text, Chain, ReachesItself, Waits, are_same}
use Rattle.plan_definitions.specs.Common.{badly_mapped, badly_mapped_in, is_mapped_well, not_direct, not_direct_in, serves_outside, spread, spread_in, tasks_behind, tasks_from, tasks_of}
use Rattle.plan_definitions.specs.Common.{tasks_of_event, unnamed, waits_by, waits_for, component_of}
use Rattle.description_types.specs.declared.component.EventKind.TheVariants as event
use Rattle.description_stages.proofs.Held.{Shared}
use Rattle.soak_maker.proofs.Lists.{AllAt, all_told, at_start, first_none, get_first, get_second, get_third, length-three, one_passes, position_is, three_at}
use Rattle.soak_maker.proofs.Names.{acc_named, c_named, p_named}
use Rattle.soak_maker.proofs.Soaked.{acc_name, c_name, consumer_tree, holding, in_task, p_name, producer_tree, server_tree, soaked}
use Rattle.soak_maker.proofs.Flat.{end_at, named, soak_instances, soak_joins}
use Rattle.soak_maker.proofs.Joins.{provided_by, provider_for}
use Rattle.plan_definitions.proofs.Keys.{same_end_is}

and_true : (b : Bool) → (b && true) ≡ b
and_true true = refl
and_true false = refl

-- one of a list passes where the filtered one is not empty
some_passes : {X : Type 0} (t : X → Bool) (xs : List X) (y : X) → filter t xs ≡ y ∷ [] → list_any t xs ≡ true
some_passes t [] y e = absurd (cc)
some_passes t (x ∷ xs) y e = by (t x) refl e (λ f. some_passes t xs y f)
  where
    by : (b : Bool) → t x ≡ b → cond b (x ∷ filter t xs) (filter t xs) ≡ y ∷ [] → (filter t xs ≡ y ∷ [] → list_any t xs ≡ true) → (t x || list_any t xs) ≡ true
    by true is f rest = ap (λ c. c || list_any t xs) is
    by false is f rest = ap (λ c. c || list_any t xs) is ∙ rest f

-- what is found among joins provides
found_in : (js : List Join) (e y : End) → provider_of js e ≡ Some y → (j : Join) × Among j js × (same_end j.required e ≡ true) × (j.provided ≡ y)
found_in [] e y is = absurd (none-some y is)
found_in (j ∷ js) e y is = by (same_end j.required e) refl is (λ f. found_in js e y f)
  where
    by : (b : Bool) → same_end j.required e ≡ b → option_map (λ (k : Join). k.provided) (cond b (Some j) (find (λ k. same_end k.required e) js)) ≡ Some y
        → (provider_of js e ≡ Some y → (k : Join) × Among k js × (same_end k.required e ≡ true) × (k.provided ≡ y)) → (k : Join) × Among k (j ∷ js) × (same_end k.required e ≡ true) × (k.provided ≡ y)
    by true same f rest = (j, inl refl, same, cc)
    by false same f rest = let r = rest f in (r.0, inr r.1, r.2, r.3)

module _ (n : ℕ) (few : n ≤ 64) (p q s : Shared) (js : List Join) where
  abbrev soak : Description
  soak = soaked n p q s

  abbrev made_flat : Flat
  made_flat = record { instances = soak_instances n; joins = js }

  abbrev events : List MappedEvent
  events = soak.mapping.events

  -- ---- instances and their components

  producer_at : (i : ℕ) → i < n → component_of soak made_flat i ≡ Some (holding producer_tree p)
  producer_at i h = ap (option_and_then (λ (x : Instance). slice_get soak.components x.component)) (get_first n (λ i. named (p_name i) 0) (λ i. named (c_name i) 1) (named acc_name 2) i h)

  consumer_at : (i : ℕ) → i < n → component_of soak made_flat (n + i) ≡ Some (holding consumer_tree q)
  consumer_at i h = ap (option_and_then (λ (x : Instance). slice_get soak.components x.component)) (get_second n (λ i. named (p_name i) 0) (λ i. named (c_name i) 1) (named acc_name 2) i h)

  server_at : component_of soak made_flat (n + n) ≡ Some (holding server_tree s)
  server_at = ap (option_and_then (λ (x : Instance). slice_get soak.components x.component)) (get_third n (λ i. named (p_name i) 0) (λ i. named (c_name i) 1) (named acc_name 2))

  -- the instance of a name
  abbrev IsOf : List ℕ → ℕ → ℕ → Instance → Type 0
  IsOf name m k x = bytes_eq name x.path ≡ nat_eq m k

  instance_is : (name : List ℕ) (m : ℕ) → ((j : ℕ) → j < n → IsOf name m j (named (p_name j) 0)) → ((j : ℕ) → j < n → IsOf name m (n + j) (named (c_name j) 1)) → IsOf name m (n + n) (named acc_name 2) → m < n + n + 1
      → instance_named made_flat name ≡ Some m
  instance_is name m a b c less = position_is (λ x. bytes_eq name x.path) 0 m (soak_instances n) (three_at (IsOf name m) n (λ i. named (p_name i) 0) (λ i. named (c_name i) 1) (named acc_name 2) a b c)
      (omega arith) (let e = length-three n (λ i. named (p_name i) 0) (λ i. named (c_name i) 1) (named acc_name 2) in omega (arith, e, less))

  event_is : (m : ℕ) (c : Component) → component_of soak made_flat m ≡ Some c → position_from (λ e. bytes_eq (codes "Ev") e.short_name) 0 c.behavior.events ≡ Some 0 → event_named soak made_flat (codes "Ev") m ≡ Some (m, 0)
  event_is m c at is = ap (λ o. option_map (λ k. (m, k)) (option_and_then (λ (d : Component). position_from (λ e. bytes_eq (codes "Ev") e.short_name) 0 d.behavior.events) o)) at ∙ ap (option_map (λ k. (m, k))) is

  -- each mapped event names the one event of the instance at its position
  abbrev IsNamedAt : ℕ → MappedEvent → Type 0
  IsNamedAt k x = named_by soak made_flat x ≡ Some (k, 0)

  producing_named : (i : ℕ) → i < n → IsNamedAt i (in_task (p_name i) (i % 4) i)
  producing_named i h = let tests = p_named n few i h in
      ap (option_and_then (event_named soak made_flat (codes "Ev"))) (instance_is (p_name i) i tests.0 tests.1 tests.2 (omega (arith, h))) ∙ event_is i (holding producer_tree p) (producer_at i h) refl

  consuming_named : (i : ℕ) → i < n → IsNamedAt (n + i) (in_task (c_name i) (4 + (i % 4 + 1) % 4) i)
  consuming_named i h = let tests = c_named n few i h in
      ap (option_and_then (event_named soak made_flat (codes "Ev"))) (instance_is (c_name i) (n + i) tests.0 tests.1 tests.2 (omega (arith, h))) ∙ event_is (n + i) (holding consumer_tree q) (consumer_at i h) refl

  serving_named : IsNamedAt (n + n) (in_task acc_name 8 0)
  serving_named = let tests = acc_named n few in
      ap (option_and_then (event_named soak made_flat (codes "Ev"))) (instance_is acc_name (n + n) tests.0 tests.1 tests.2 (omega arith)) ∙ event_is (n + n) (holding server_tree s) server_at refl

  all_named : AllAt IsNamedAt 0 events
  all_named = three_at IsNamedAt n (λ i. in_task (p_name i) (i % 4) i) (λ i. in_task (c_name i) (4 + (i % 4 + 1) % 4) i) (in_task acc_name 8 0) producing_named consuming_named serving_named

  -- rule 25
  named_keep : unnamed soak made_flat ≡ None
  named_keep = first_none (λ k x. unless (is_some (named_by soak made_flat x)) k) 0 events
      (all_told IsNamedAt (λ k x. ◌≡◌ {A = Option ℕ} (unless (is_some (named_by soak made_flat x)) k) None) (λ k x e. ap (λ o. unless (is_some o) k) e) 0 events all_named)

  -- ---- what is mapped as an event

  one_mapped : (k : ℕ) (x : MappedEvent) → slice_get events k ≡ Some x → mapped_as soak made_flat (k, 0) ≡ x ∷ []
  one_mapped k x at = one_passes (names soak made_flat (k, 0)) 0 k events x
      (all_told IsNamedAt (λ j y. names soak made_flat (k, 0) y ≡ nat_eq k j) (λ j y e. ap (λ o. option_map_or (same_pair (k, 0)) o false) e ∙ and_true (nat_eq k j)) 0 events all_named) k (omega arith) at

  producer_mapped : (i : ℕ) → i < n → mapped_as soak made_flat (i, 0) ≡ in_task (p_name i) (i % 4) i ∷ []
  producer_mapped i h = one_mapped i (in_task (p_name i) (i % 4) i) (get_first n (λ i. in_task (p_name i) (i % 4) i) (λ i. in_task (c_name i) (4 + (i % 4 + 1) % 4) i) (in_task acc_name 8 0) i h)

  consumer_mapped : (i : ℕ) → i < n → mapped_as soak made_flat (n + i, 0) ≡ in_task (c_name i) (4 + (i % 4 + 1) % 4) i ∷ []
  consumer_mapped i h = one_mapped (n + i) (in_task (c_name i) (4 + (i % 4 + 1) % 4) i) (get_second n (λ i. in_task (p_name i) (i % 4) i) (λ i. in_task (c_name i) (4 + (i % 4 + 1) % 4) i) (in_task acc_name 8 0) i h)

  server_mapped : mapped_as soak made_flat (n + n, 0) ≡ in_task acc_name 8 0 ∷ []
  server_mapped = one_mapped (n + n) (in_task acc_name 8 0) (get_third n (λ i. in_task (p_name i) (i % 4) i) (λ i. in_task (c_name i) (4 + (i % 4 + 1) % 4) i) (in_task acc_name 8 0))

  -- rule 26
  mapped_keep : badly_mapped soak made_flat ≡ None
  mapped_keep = first_none (λ i (x : Instance). option_and_then (badly_mapped_in soak made_flat i) (slice_get soak.components x.component)) 0 (soak_instances n)
      (three_at (λ i (x : Instance). option_and_then (badly_mapped_in soak made_flat i) (slice_get soak.components x.component) ≡ None) n (λ i. named (p_name i) 0) (λ i. named (c_name i) 1) (named acc_name 2)
      (λ i h. ap (λ xs. option_or (unless (length xs == 1) (i, 0)) None) (producer_mapped i h))
      (λ i h. ap (λ xs. option_or (unless (length xs == 1) (n + i, 0)) None) (consumer_mapped i h))
      (ap (λ xs. option_or (unless (is_mapped_well (event.OperationInvoked 0 0) (length xs)) (n + n, 0)) None) server_mapped))

  -- ---- the tasks of a runnable

  abbrev tasks_from_one : Component → ℕ → List ℕ
  tasks_from_one c k = tasks_from soak made_flat k 0 0 c.behavior.events

  tasks_are : (k : ℕ) (c : Component) (x : MappedEvent) → component_of soak made_flat k ≡ Some c → mapped_as soak made_flat (k, 0) ≡ x ∷ [] → tasks_from_one c k ≡ map (λ (y : MappedEvent). y.task) (mapped_as soak made_flat (k, 0)) ++ [] → tasks_of soak made_flat (k, 0) ≡ x.task ∷ []
  tasks_are k c x at mapped is = ap (λ o. option_map_or (λ (d : Component). tasks_from_one d k) o []) at ∙ is ∙ ap (λ xs. map (λ (y : MappedEvent). y.task) xs ++ []) mapped

  producer_tasks : (i : ℕ) → i < n → tasks_of soak made_flat (i, 0) ≡ i % 4 ∷ []
  producer_tasks i h = tasks_are i (holding producer_tree p) (in_task (p_name i) (i % 4) i) (producer_at i h) (producer_mapped i h) refl

  consumer_tasks : (i : ℕ) → i < n → tasks_of soak made_flat (n + i, 0) ≡ (4 + (i % 4 + 1) % 4) ∷ []
  consumer_tasks i h = tasks_are (n + i) (holding consumer_tree q) (in_task (c_name i) (4 + (i % 4 + 1) % 4) i) (consumer_at i h) (consumer_mapped i h) refl

  server_tasks : tasks_of soak made_flat (n + n, 0) ≡ 8 ∷ []
  server_tasks = tasks_are (n + n) (holding server_tree s) (in_task acc_name 8 0) server_at server_mapped refl

  -- rule 27
  spread_keep : spread soak made_flat ≡ None
  spread_keep = first_none (λ i (x : Instance). option_and_then (spread_in soak made_flat i) (slice_get soak.components x.component)) 0 (soak_instances n)
      (three_at (λ i (x : Instance). option_and_then (spread_in soak made_flat i) (slice_get soak.components x.component) ≡ None) n (λ i. named (p_name i) 0) (λ i. named (c_name i) 1) (named acc_name 2)
      (λ i h. ap (λ ts. option_or (unless (are_same ts) (i, 0)) None) (producer_tasks i h))
      (λ i h. ap (λ ts. option_or (unless (are_same ts) (n + i, 0)) None) (consumer_tasks i h))
      (ap (λ ts. option_or (unless (are_same ts) (n + n, 0)) None) server_tasks))

  -- rule 28
  server_is_mapped : is_mapped soak made_flat (n + n, 0) ≡ true
  server_is_mapped = some_passes (names soak made_flat (n + n, 0)) events (in_task acc_name 8 0) server_mapped

  direct_keep : not_direct soak made_flat ≡ None
  direct_keep = first_none (λ i (x : Instance). option_and_then (not_direct_in soak made_flat i) (slice_get soak.components x.component)) 0 (soak_instances n)
      (three_at (λ i (x : Instance). option_and_then (not_direct_in soak made_flat i) (slice_get soak.components x.component) ≡ None) n (λ i. named (p_name i) 0) (λ i. named (c_name i) 1) (named acc_name 2)
      (λ i h. refl) (λ i h. refl)
      (ap (λ b. option_or (unless (b || (false && not (serves_outside made_flat (n + n) 0 0))) (n + n, 0)) None) server_is_mapped))

  pub events_keep : of_events soak made_flat ≡ None
  events_keep = λ i. option_or (option_map (λ k. (25, mapped_text k)) (named_keep i))
      (option_or (option_map (λ e. (26, event_text soak made_flat e)) (mapped_keep i))
      (option_or (option_map (λ r. (27, runnable_text soak made_flat r)) (spread_keep i)) (option_map (λ e. (28, event_text soak made_flat e)) (direct_keep i))))

  -- ---- rule 29: tasks wait for the server's alone, and that one for none

  waits_from : (k m : ℕ) (c : Component) → component_of soak made_flat k ≡ Some c → waits_for soak made_flat (k, m) ≡ option_map_or (λ x. flat_map (waits_by soak made_flat k) x.accesses) (slice_get c.behavior.runnables m) []
  waits_from k m c at = ap (λ o. option_map_or (λ x. flat_map (waits_by soak made_flat k) x.accesses) (option_and_then (λ (d : Component). slice_get d.behavior.runnables m) o) []) at

  server_behind : tasks_behind soak made_flat (end_at (n + n) 0) ≡ 8 ∷ []
  server_behind =
      ap (λ o. option_map_or (λ m. tasks_of_event soak made_flat (n + n, m)) (option_and_then (λ (c : Component). position_from (λ e. invokes 0 0 e.kind) 0 c.behavior.events) o) []) server_at
      ∙ ap (map (λ (x : MappedEvent). x.task)) server_mapped

  only_one : (a b : ℕ) → list_any (λ t. nat_eq t b) (a ∷ []) ≡ true → b ≡ a
  only_one a b e = by (nat_eq a b) refl e
    where
      by : (c : Bool) → nat_eq a b ≡ c → (c || false) ≡ true → b ≡ a
      by true is f = sym (eqb-true a b is)
      by false is f = absurd (true≢false (sym f))

  none_waits : (b : ℕ) (ts : List ℕ) → ts ≡ [] → list_any (λ t. nat_eq t b) ts ≡ true → ⊥
  none_waits b ts none e = true≢false (sym e ∙ ap (list_any (λ t. nat_eq t b)) none)

  abbrev IsWho : ℕ → Type 0
  IsWho k = ((i : ℕ) × (i < n) × (k ≡ i)) ⊎ (((i : ℕ) × (i < n) × (k ≡ n + i)) ⊎ (k ≡ n + n))

  who_is : (k : ℕ) (x : Instance) → slice_get (soak_instances n) k ≡ Some x → IsWho k
  who_is k x is = at_start (λ m (y : Instance). IsWho m) (soak_instances n)
      (three_at (λ m (y : Instance). IsWho m) n (λ i. named (p_name i) 0) (λ i. named (c_name i) 1) (named acc_name 2) (λ i h. inl (i, h, refl)) (λ i h. inr (inl (i, h, refl))) (inr (inr refl))) k x is

  module _ (all : (j : Join) → Among j js → Among j (soak_joins n)) where
    called : (i b : ℕ) (o : Option End) → provider_of js (end_at i 1) ≡ o → list_any (λ t. nat_eq t b) (option_map_or (tasks_behind soak made_flat) o []) ≡ true → b ≡ 8
    called i b None is e = absurd (true≢false (sym e))
    called i b (Some y) is e =
        let (j, among, same, provides) = found_in js (end_at i 1) y is in
        let y_is : y ≡ end_at (n + n) 0 = sym provides ∙ (provided_by n p q s js all j among ∙ ap (provider_for n) (same_end_is j.required (end_at i 1) same)) in
        only_one 8 b (sym (ap (list_any (λ t. nat_eq t b)) (ap (tasks_behind soak made_flat) y_is ∙ server_behind)) ∙ e)

    producer_waits : (i m a b : ℕ) → i < n → list_any (λ t. nat_eq t a) (tasks_of soak made_flat (i, m)) ≡ true → list_any (λ t. nat_eq t b) (waits_for soak made_flat (i, m)) ≡ true → (a < 4) × (b ≡ 8)
    producer_waits i zero a b h here there =
        let task = only_one (i % 4) a (sym (ap (list_any (λ t. nat_eq t a)) (producer_tasks i h)) ∙ here) in
        let waited = waits_from i 0 (holding producer_tree p) (producer_at i h) ∙ append-nil (option_map_or (tasks_behind soak made_flat) (provider_of js (end_at i 1)) []) in
        (subst (λ k. k < 4) (sym task) (mod-lt i (omega arith)), called i b (provider_of js (end_at i 1)) refl (sym (ap (list_any (λ t. nat_eq t b)) waited) ∙ there))
    producer_waits i (suc m) a b h here there = absurd (none_waits b (waits_for soak made_flat (i, suc m)) (waits_from i (suc m) (holding producer_tree p) (producer_at i h)) there)

    consumer_waits : (i m b : ℕ) → i < n → list_any (λ t. nat_eq t b) (waits_for soak made_flat (n + i, m)) ≡ true → ⊥
    consumer_waits i zero b h there = none_waits b (waits_for soak made_flat (n + i, 0)) (waits_from (n + i) 0 (holding consumer_tree q) (consumer_at i h)) there
    consumer_waits i (suc m) b h there = none_waits b (waits_for soak made_flat (n + i, suc m)) (waits_from (n + i) (suc m) (holding consumer_tree q) (consumer_at i h)) there

    server_waits : (m b : ℕ) → list_any (λ t. nat_eq t b) (waits_for soak made_flat (n + n, m)) ≡ true → ⊥
    server_waits zero b there = none_waits b (waits_for soak made_flat (n + n, 0)) (waits_from (n + n) 0 (holding server_tree s) server_at) there
    server_waits (suc m) b there = none_waits b (waits_for soak made_flat (n + n, suc m)) (waits_from (n + n) (suc m) (holding server_tree s) server_at) there

    waits_is : (k m a b : ℕ) → list_any (λ t. nat_eq t a) (tasks_of soak made_flat (k, m)) ≡ true → list_any (λ t. nat_eq t b) (waits_for soak made_flat (k, m)) ≡ true → (a < 4) × (b ≡ 8)
    waits_is k m a b here there = by (slice_get (soak_instances n) k) refl
      where
        who : IsWho k → (a < 4) × (b ≡ 8)
        who (inl (i, h, e)) = producer_waits i m a b h (subst (λ l. list_any (λ t. nat_eq t a) (tasks_of soak made_flat (l, m)) ≡ true) e here) (subst (λ l. list_any (λ t. nat_eq t b) (waits_for soak made_flat (l, m)) ≡ true) e there)
        who (inr (inl (i, h, e))) = absurd (consumer_waits i m b h (subst (λ l. list_any (λ t. nat_eq t b) (waits_for soak made_flat (l, m)) ≡ true) e there))
        who (inr (inr e)) = absurd (server_waits m b (subst (λ l. list_any (λ t. nat_eq t b) (waits_for soak made_flat (l, m)) ≡ true) e there))

        by : (o : Option Instance) → slice_get (soak_instances n) k ≡ o → (a < 4) × (b ≡ 8)
        by None none = absurd (none_waits b (waits_for soak made_flat (k, m))
            (ap (λ o. option_map_or (λ x. flat_map (waits_by soak made_flat k) x.accesses) (option_and_then (λ (d : Component). slice_get d.behavior.runnables m) (option_and_then (λ (x : Instance). slice_get soak.components x.component) o)) []) none) there)
        by (Some x) is = who (who_is k x is)

    waits : (a b : ℕ) → Waits soak made_flat a b → (a < 4) × (b ≡ 8)
    waits a b x = waits_is x.runnable.0 x.runnable.1 a b x.in_task x.for_task

    chain_ends : (m a c : ℕ) → Chain soak made_flat (suc m) a c → (a < 4) × (c ≡ 8)
    chain_ends zero a c (b, one, rest) = let w = waits a b one in (w.0, sym rest ∙ w.1)
    chain_ends (suc m) a c (b, one, rest) = let w = waits a b one in let more = chain_ends m b c rest in let less = more.0 in let last = w.1 in absurd (omega (arith, less, last))

    pub none_reaches_itself : ReachesItself soak made_flat → ⊥
    none_reaches_itself (t, m, chain) = let (less, last) = chain_ends m t t chain in omega (arith, less, last)
