-- The events of a task, from the entries of all tasks.
use Rattle.std.proofs.Common.{◌≡◌, ℕ, ◌+◌, List, [], ◌∷◌, ◌++◌, map, filter, Bool, true, false, cond, nat_eq, nat_le, Option, Some, None, option_map, refl, ap, ◌∙◌}
use Rattle.bus_semantics.specs.Common.{flat_map, option_map_or}
use Rattle.plan_definitions.specs.Common.{Description, MappedEvent, Flat, pair_number, from, events_of, named_by, in_order, put, events_in, number_of, task_at}
use Rattle.description_types.specs.declared.description.Task as declared_task
use Rattle.mapping_rules.specs.Groups.{values_at}
use Rattle.mapping_rules.specs.Placing.{in_task, numbers_of, placed_at, task_entry, task_with}

-- a list in order is so after each member is replaced by one with the same number
module _ {X Y : Type 0} (n : Y → ℕ) (g : X → Y) where
  put_of_map : (x : X) (xs : List X) → put n (g x) (map g xs) ≡ map g (put (λ x. n (g x)) x xs)
  put_of_map x [] = refl
  put_of_map x (y ∷ ys) = by (nat_le (n (g x)) (n (g y))) (put_of_map x ys)
    where
      by : (b : Bool) → put n (g x) (map g ys) ≡ map g (put (λ x. n (g x)) x ys) → cond b (g x ∷ g y ∷ map g ys) (g y ∷ put n (g x) (map g ys)) ≡ map g (cond b (x ∷ y ∷ ys) (y ∷ put (λ x. n (g x)) x ys))
      by true so_far = refl
      by false so_far = ap (λ zs. g y ∷ zs) so_far

  order_of_map : (xs : List X) → in_order n (map g xs) ≡ map g (in_order (λ x. n (g x)) xs)
  order_of_map [] = refl
  order_of_map (x ∷ xs) = ap (put n (g x)) (order_of_map xs) ∙ put_of_map x (in_order (λ x. n (g x)) xs)

module _ (d : Description) (f : Flat) where
  of_task : (t : ℕ) (xs : List MappedEvent) → values_at (nat_eq t) (map (task_entry d f) xs) ≡ map (placed_at d f) (filter (λ x. nat_eq t x.task) xs)
  of_task t [] = refl
  of_task t (x ∷ xs) = by (nat_eq t x.task) (of_task t xs)
    where
      by : (b : Bool) → values_at (nat_eq t) (map (task_entry d f) xs) ≡ map (placed_at d f) (filter (λ x. nat_eq t x.task) xs)
          → map (λ (z : ℕ × (ℕ × Option ℕ)). z.1) (cond b (task_entry d f x ∷ filter (λ (z : ℕ × (ℕ × Option ℕ)). nat_eq t z.0) (map (task_entry d f) xs)) (filter (λ (z : ℕ × (ℕ × Option ℕ)). nat_eq t z.0) (map (task_entry d f) xs)))
          ≡ map (placed_at d f) (cond b (x ∷ filter (λ x. nat_eq t x.task) xs) (filter (λ x. nat_eq t x.task) xs))
      by true so_far = ap (λ zs. placed_at d f x ∷ zs) so_far
      by false so_far = so_far

  number_is : (o : Option (ℕ × ℕ)) → option_map_or {T = ℕ} (λ n. n ∷ []) (option_map (pair_number (events_of d f)) o) [] ≡ option_map_or (λ e. pair_number (events_of d f) e ∷ []) o []
  number_is None = refl
  number_is (Some e) = refl

  numbers_are : (xs : List MappedEvent) → flat_map numbers_of (map (placed_at d f) xs) ≡ flat_map (number_of d f) xs
  numbers_are [] = refl
  numbers_are (x ∷ xs) = λ j. number_is (named_by d f x) j ++ numbers_are xs j

  events_are : (t : ℕ) → in_task (values_at (nat_eq t) (map (task_entry d f) d.mapping.events)) ≡ events_in d f t
  events_are t = ap in_task (of_task t d.mapping.events) ∙ ap (flat_map numbers_of) (order_of_map (λ p. p.0) (placed_at d f) (filter (λ x. nat_eq t x.task) d.mapping.events))
      ∙ numbers_are (in_order (λ x. x.position) (filter (λ x. nat_eq t x.task) d.mapping.events))

  pub tasks_are : (entries : List (ℕ × (ℕ × Option ℕ))) → entries ≡ map (task_entry d f) d.mapping.events → (n : ℕ) (tasks : List declared_task.Task)
      → from n (λ t task. task_with entries t task ∷ []) tasks ≡ from n (λ t task. task_at d f t task ∷ []) tasks
  tasks_are entries is n [] = refl
  tasks_are entries is n (task ∷ tasks) = λ j. one j ∷ tasks_are entries is (n + 1) tasks j
    where
      one : task_with entries n task ≡ task_at d f n task
      one = λ j. record { name = task.short_name; core = task.core; events = (ap (λ l. in_task (values_at (nat_eq n) l)) is ∙ events_are n) j }
