-- The tasks have an order, or one waits for itself (rule 29).
use Rattle.std.proofs.Common.{◌≡◌, ℕ, zero, suc, ◌+◌, List, [], ◌∷◌, ◌++◌, map, filter, Bool, true, false, cond, nat_eq, Option, Some, None, ◌⊎◌, inl, inr, ⊎_elim, refl, sym, subst, true≢false}
use Rattle.bus_semantics.specs.Common.{eqb-true, or_cases, or_left, or_right, list_any, option_map_or}
use Rattle.plan_definitions.specs.Common.{Component, Event, Description, MappedEvent, Flat, Among, names, Chain, HaveOrder, ReachesItself, Waits, tasks_from, tasks_of, tasks_of_event}
use Rattle.plan_definitions.specs.Common.{component_of}
use Rattle.mapping_rules.proofs.Reached.{found_wait, wait_found}
use Rattle.mapping_rules.specs.Waiting.{has_wait}
use Rattle.outcome_laws.proofs.Graphs.{Steps, circle_or_order}

module _ (d : Description) (f : Flat) where
  abbrev tasks : List ℕ
  tasks = map (λ (x : MappedEvent). x.task) d.mapping.events

  abbrev has : ℕ → List ℕ → Bool
  has a ts = list_any (λ t. nat_eq t a) ts

  -- ---- a task of a runnable is one of the mapping

  of_mapped : (test : MappedEvent → Bool) (xs : List MappedEvent) (a : ℕ) → has a (map (λ (x : MappedEvent). x.task) (filter test xs)) ≡ true → Among a (map (λ (x : MappedEvent). x.task) xs)
  of_mapped test [] a h = absurd (true≢false (sym h))
  of_mapped test (x ∷ xs) a h = by (test x) (of_mapped test xs a) h
    where
      by : (b : Bool) → (has a (map (λ (x : MappedEvent). x.task) (filter test xs)) ≡ true → Among a (map (λ (x : MappedEvent). x.task) xs))
          → has a (map (λ (x : MappedEvent). x.task) (cond b (x ∷ filter test xs) (filter test xs))) ≡ true → Among a (map (λ (x : MappedEvent). x.task) (x ∷ xs))
      by true rest h = ⊎_elim (λ here. inl (sym (eqb-true x.task a here))) (λ later. inr (rest later)) (or_cases (nat_eq x.task a) (has a (map (λ (x : MappedEvent). x.task) (filter test xs))) h)
      by false rest h = inr (rest h)

  of_event : (e : ℕ × ℕ) (a : ℕ) → has a (tasks_of_event d f e) ≡ true → Among a tasks
  of_event e a h = of_mapped (names d f e) d.mapping.events a h

  has-append : (a : ℕ) (xs ys : List ℕ) → has a (xs ++ ys) ≡ true → (has a xs ≡ true) ⊎ (has a ys ≡ true)
  has-append a [] ys h = inr h
  has-append a (x ∷ xs) ys h = ⊎_elim (λ here. inl (or_left (nat_eq x a) (has a xs) here)) (λ later. ⊎_elim (λ l. inl (right l)) (λ r. inr r) (has-append a xs ys later)) (or_cases (nat_eq x a) (has a (xs ++ ys)) h)
    where
      right : has a xs ≡ true → has a (x ∷ xs) ≡ true
      right h = or_right (nat_eq x a) (has a xs) h

  of_events : (i r m : ℕ) (es : List Event) (a : ℕ) → has a (tasks_from d f i r m es) ≡ true → Among a tasks
  of_events i r m [] a h = absurd (true≢false (sym h))
  of_events i r m (e ∷ es) a h = ⊎_elim (λ here. by (nat_eq r e.runnable) here) (λ later. of_events i r (m + 1) es a later) (has-append a (cond (nat_eq r e.runnable) (tasks_of_event d f (i, m)) []) (tasks_from d f i r (m + 1) es) h)
    where
      by : (b : Bool) → has a (cond b (tasks_of_event d f (i, m)) []) ≡ true → Among a tasks
      by true h = of_event (i, m) a h
      by false h = absurd (true≢false (sym h))

  of_runnable : (r : ℕ × ℕ) (a : ℕ) → has a (tasks_of d f r) ≡ true → Among a tasks
  of_runnable r a h = by (component_of d f r.0) h
    where
      by : (o : Option Component) → has a (option_map_or (λ (c : Component). tasks_from d f r.0 r.1 0 c.behavior.events) o []) ≡ true → Among a tasks
      by None h = absurd (true≢false (sym h))
      by (Some c) h = of_events r.0 r.1 0 c.behavior.events a h

  -- ---- waits as edges

  abbrev waits : ℕ → ℕ → Bool
  waits a b = has_wait d f (a, b)

  known : (a b : ℕ) → waits a b ≡ true → Among a tasks
  known a b h = let w = wait_found (a, b) d f h in of_runnable w.runnable a w.in_task

  one_more : (n a m c : ℕ) → Chain d f n a m → Waits d f m c → Chain d f (suc n) a c
  one_more zero a m c same w = (c, subst (λ x. Waits d f x c) (sym same) w, refl)
  one_more (suc n) a m c (b, first, rest) w = (b, first, one_more n b m c rest w)

  chain_of : (n a c : ℕ) → Steps waits n a c → Chain d f (suc n) a c
  chain_of zero a c h = (c, wait_found (a, c) d f h, refl)
  chain_of (suc n) a c (m, s, h) = one_more (suc n) a m c (chain_of n a m s) (wait_found (m, c) d f h)

  pub order_or_circle : HaveOrder d f ⊎ ReachesItself d f
  order_or_circle = ⊎_elim (λ circle. inr (circle.0, circle.1.0, chain_of circle.1.0 circle.0 circle.0 circle.1.1))
      (λ order. inl (order.0, (λ a b w. order.1 a b (found_wait (a, b) d f w)))) (circle_or_order waits tasks known)
