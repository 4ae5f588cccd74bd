-- The events of instances, and those that are mapped.
use Rattle.std.proofs.Common.{◌≡◌, ℕ, suc, ◌+◌, List, [], ◌∷◌, ◌++◌, map, filter, length, Bool, true, false, cond, not, ◌||◌, ◌==◌, nat_eq, bytes_eq, Option, Some, None, Bor, option_map}
use Rattle.std.proofs.Common.{option_and_then, refl, ap, ◌∙◌, arith}
use Rattle.bus_semantics.specs.Common.{eqb-true, list_any, flat_map, position_from, option_map_or}
use Rattle.plan_definitions.specs.Common.{Component, Event, Description, MappedEvent, Flat, same_pair, from, event_names, mapped_as, named_by, names, is_mapped, tasks_of_event, tasks_from}
use Rattle.mapping_rules.specs.Groups.{values_at}
use Rattle.mapping_rules.specs.Listed.{task_of, tasks_at}
use Rattle.mapping_rules.specs.Naming.{names_of}
use Rattle.mapping_rules.proofs.Named.{same_place}

module _ (name : List ℕ) (i : ℕ) where
  pub event_found : (p : List (Bor (List ℕ))) (o : Option Component) → Some (names_of p) ≡ option_map event_names o
      → option_map {U = ℕ × ℕ} (λ m. (i, m)) (position_from (λ b. bytes_eq name b.now) 0 p)
      ≡ option_map {U = ℕ × ℕ} (λ m. (i, m)) (option_and_then (λ c. position_from (λ e. bytes_eq name e.short_name) 0 c.behavior.events) o)
  event_found p None is = cc
  event_found p (Some c) is = ap (option_map {U = ℕ × ℕ} (λ m. (i, m))) (same_place (bytes_eq name) (λ b. b.now) (λ e. e.short_name) p c.behavior.events cc)

  pub event_absent : (o : Option Component) → None ≡ option_map event_names o
      → None ≡ option_map {U = ℕ × ℕ} (λ m. (i, m)) (option_and_then (λ c. position_from (λ e. bytes_eq name e.short_name) 0 c.behavior.events) o)
  event_absent None is = refl
  event_absent (Some c) is = cc

-- the tasks of an event, from all that are mapped
module _ (d : Description) (f : Flat) (e : ℕ × ℕ) where
  one_task : (o : Option (ℕ × ℕ)) (x : MappedEvent) (es : List ((ℕ × ℕ) × ℕ)) (xs : List MappedEvent) → values_at (same_pair e) es ≡ map (λ y. y.task) xs
      → values_at (same_pair e) (option_map_or (λ y. (y, x.task) ∷ []) o [] ++ es) ≡ map (λ y. y.task) (cond (option_map_or (same_pair e) o false) (x ∷ xs) xs)
  one_task None x es xs so_far = so_far
  one_task (Some y) x es xs so_far = by (same_pair e y)
    where
      by : (b : Bool) → map (λ z. z.1) (cond b ((y, x.task) ∷ filter (λ z. same_pair e z.0) es) (filter (λ z. same_pair e z.0) es)) ≡ map (λ y. y.task) (cond b (x ∷ xs) xs)
      by true = ap (λ l. x.task ∷ l) so_far
      by false = so_far

  pub tasks_listed : (xs : List MappedEvent) → values_at (same_pair e) (flat_map (task_of d f) xs) ≡ map (λ x. x.task) (filter (names d f e) xs)
  tasks_listed [] = refl
  tasks_listed (x ∷ xs) = one_task (named_by d f x) x (flat_map (task_of d f) xs) (filter (names d f e) xs) (tasks_listed xs)

  not_zero : (n : ℕ) → true ≡ not (suc n == 0)
  not_zero n = by (suc n == 0) refl
    where
      by : (b : Bool) → (suc n == 0) ≡ b → true ≡ not b
      by true h = let none = eqb-true (suc n) 0 h in absurd (omega arith)
      by false h = refl

  any_kept : (xs : List MappedEvent) → list_any (names d f e) xs ≡ not (length (map (λ x. x.task) (filter (names d f e) xs)) == 0)
  any_kept [] = refl
  any_kept (x ∷ xs) = by (names d f e x) (any_kept xs)
    where
      by : (b : Bool) → list_any (names d f e) xs ≡ not (length (map (λ x. x.task) (filter (names d f e) xs)) == 0)
          → (b || list_any (names d f e) xs) ≡ not (length (map (λ x. x.task) (cond b (x ∷ filter (names d f e) xs) (filter (names d f e) xs))) == 0)
      by true so_far = not_zero (length (map (λ x. x.task) (filter (names d f e) xs)))
      by false so_far = so_far

  pub mapped_where : is_mapped d f e ≡ not (length (tasks_of_event d f e) == 0)
  mapped_where = any_kept d.mapping.events

-- an event has a task for each time that it is mapped
pub times_mapped : (d : Description) (f : Flat) (e : ℕ × ℕ) → length (tasks_of_event d f e) ≡ length (mapped_as d f e)
times_mapped d f e = counted (mapped_as d f e)
  where
    counted : (xs : List MappedEvent) → length (map (λ x. x.task) xs) ≡ length xs
    counted [] = refl
    counted (x ∷ xs) = ap suc (counted xs)

-- the tasks of the events that start a runnable
module _ (d : Description) (f : Flat) (i r : ℕ) where
  values-append : (xs ys : List (ℕ × ℕ)) → values_at (nat_eq r) (xs ++ ys) ≡ values_at (nat_eq r) xs ++ values_at (nat_eq r) ys
  values-append [] ys = refl
  values-append (x ∷ xs) ys = by (nat_eq r x.0) (values-append xs ys)
    where
      by : (b : Bool) → values_at (nat_eq r) (xs ++ ys) ≡ values_at (nat_eq r) xs ++ values_at (nat_eq r) ys
          → map (λ (z : ℕ × ℕ). z.1) (cond b (x ∷ filter (λ (z : ℕ × ℕ). nat_eq r z.0) (xs ++ ys)) (filter (λ (z : ℕ × ℕ). nat_eq r z.0) (xs ++ ys)))
          ≡ map (λ (z : ℕ × ℕ). z.1) (cond b (x ∷ filter (λ (z : ℕ × ℕ). nat_eq r z.0) xs) (filter (λ (z : ℕ × ℕ). nat_eq r z.0) xs)) ++ values_at (nat_eq r) ys
      by true so_far = ap (λ l. x.1 ∷ l) so_far
      by false so_far = so_far

  either : (b : Bool) (ts : List ℕ) → ts ≡ cond b ts ts
  either true ts = refl
  either false ts = refl

  of_one : (k : ℕ) (ts : List ℕ) → values_at (nat_eq r) (map (λ (t : ℕ). (k, t)) ts) ≡ cond (nat_eq r k) ts []
  of_one k [] = either (nat_eq r k) []
  of_one k (t ∷ ts) = by (nat_eq r k) (of_one k ts)
    where
      by : (b : Bool) → values_at (nat_eq r) (map (λ (t : ℕ). (k, t)) ts) ≡ cond b ts []
          → map (λ (z : ℕ × ℕ). z.1) (cond b ((k, t) ∷ filter (λ (z : ℕ × ℕ). nat_eq r z.0) (map (λ (t : ℕ). (k, t)) ts)) (filter (λ (z : ℕ × ℕ). nat_eq r z.0) (map (λ (t : ℕ). (k, t)) ts))) ≡ cond b (t ∷ ts) []
      by true so_far = ap (λ l. t ∷ l) so_far
      by false so_far = so_far

  pub tasks_of_runnable : (m : ℕ) (es : List Event) → values_at (nat_eq r) (from m (tasks_at d f i) es) ≡ tasks_from d f i r m es
  tasks_of_runnable m [] = refl
  tasks_of_runnable m (e ∷ es) = values-append (tasks_at d f i m e) (from (m + 1) (tasks_at d f i) es)
      ∙ (λ j. of_one e.runnable (tasks_of_event d f (i, m)) j ++ tasks_of_runnable (m + 1) es j)
