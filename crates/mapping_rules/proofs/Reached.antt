-- The edges that are found are the waits of tasks for tasks.
use Rattle.std.proofs.Common.{◌≡◌, ℕ, zero, suc, ◌+◌, ◌<◌, List, [], ◌∷◌, ◌++◌, Bool, true, false, ◌||◌, ◌&&◌, nat_eq, slice_get, Option, Some, None, option_and_then, inl, inr, ⊎_elim, refl}
use Rattle.std.proofs.Common.{sym, ap, ◌∙◌, true≢false, arith}
use Rattle.bus_semantics.specs.Common.{eq-eqb, or_cases, or_left, or_right, and_parts, and_from, list_any, flat_map, option_map_or}
use Rattle.std.proofs.Math.Bool.{and-false}
use Rattle.plan_definitions.specs.Common.{Access, Component, Runnable, Description, Flat, Instance, Among, same_pair, component_of, Chain, HaveOrder, ReachesItself, TellsOrder, Waits}
use Rattle.plan_definitions.specs.Common.{tasks_from, waits_by}
use Rattle.mapping_rules.specs.Edges.{HaveCircle, HaveRanks, IsDecided, Way}
use Rattle.mapping_rules.specs.Waiting.{any_at, has_wait, leads, pairs, waits_in}
use Rattle.plan_definitions.proofs.Keys.{same_pair_is}

module _ {X : Type 0} (test : ℕ → X → Bool) where
  any_found : (n : ℕ) (xs : List X) → any_at test n xs ≡ true → (i : ℕ) × (j : ℕ) × (x : X) × (j ≡ n + i) × (slice_get xs i ≡ Some x) × (test j x ≡ true)
  any_found n [] h = cc
  any_found n (x ∷ xs) h = ⊎_elim (λ here. (0, n, x, omega arith, refl, here)) (λ later. let r = any_found (n + 1) xs later in (suc r.0, r.1, r.2, omega arith, r.4, r.5)) (or_cases (test n x) (any_at test (n + 1) xs) h)

  any_there : (n : ℕ) (xs : List X) (i j : ℕ) (x : X) → j ≡ n + i → slice_get xs i ≡ Some x → test j x ≡ true → any_at test n xs ≡ true
  any_there n [] i j x same at h = cc
  any_there n (y ∷ xs) zero j x same at h = or_left (test n y) (any_at test (n + 1) xs) (ap (λ k. test k y) number ∙ ap (test j) member ∙ h)
    where
      number : n ≡ j
      number = omega arith

      member : y ≡ x
      member = cc
  any_there n (y ∷ xs) (suc i) j x same at h = or_right (test n y) (any_at test (n + 1) xs) (any_there (n + 1) xs i j x (omega arith) at h)

module _ (e : ℕ × ℕ) where
  abbrev starts : List ℕ → Bool
  starts ts = list_any (λ t. nat_eq t e.0) ts

  abbrev ends : List ℕ → Bool
  ends ts = list_any (λ t. nat_eq t e.1) ts

  front : (p q r : Bool) → ((p && q) || (p && r)) ≡ (p && (q || r))
  front true q r = refl
  front false q r = refl

  back : (p r w : Bool) → ((p && w) || (r && w)) ≡ ((p || r) && w)
  back true true true = refl
  back true true false = refl
  back true false true = refl
  back true false false = refl
  back false r w = refl

  any-append : (xs ys : List ℕ) → ends (xs ++ ys) ≡ (ends xs || ends ys)
  any-append [] ys = refl
  any-append (x ∷ xs) ys = ap (λ b. nat_eq x e.1 || b) (any-append xs ys) ∙ grouped (nat_eq x e.1) (ends xs) (ends ys)
    where
      grouped : (p q r : Bool) → (p || (q || r)) ≡ ((p || q) || r)
      grouped true q r = refl
      grouped false q r = refl

  leads_is : (t n : ℕ) (us : List ℕ) → any_at (λ k u. same_pair (t, u) e) n us ≡ (nat_eq t e.0 && ends us)
  leads_is t n [] = sym (and-false (nat_eq t e.0))
  leads_is t n (u ∷ us) = ap (λ b. (nat_eq t e.0 && nat_eq u e.1) || b) (leads_is t (n + 1) us) ∙ front (nat_eq t e.0) (nat_eq u e.1) (ends us)

  pairs_are : (n : ℕ) (ts us : List ℕ) → any_at (λ k t. leads e t us) n ts ≡ (starts ts && ends us)
  pairs_are n [] us = refl
  pairs_are n (t ∷ ts) us = (λ j. leads_is t 0 us j || pairs_are (n + 1) ts us j) ∙ back (nat_eq t e.0) (starts ts) (ends us)

  module _ (d : Description) (f : Flat) (i : ℕ) (ts : List ℕ) where
    runnable_waits : (n : ℕ) (xs : List Access) → any_at (λ k a. pairs e ts (waits_by d f i a)) n xs ≡ (starts ts && ends (flat_map (waits_by d f i) xs))
    runnable_waits n [] = sym (and-false (starts ts))
    runnable_waits n (a ∷ xs) = (λ j. pairs_are 0 ts (waits_by d f i a) j || runnable_waits (n + 1) xs j) ∙ front (starts ts) (ends (waits_by d f i a)) (ends (flat_map (waits_by d f i) xs))
        ∙ ap (λ b. starts ts && b) (sym (any-append (waits_by d f i a) (flat_map (waits_by d f i) xs)))

  module _ (d : Description) (f : Flat) where
    abbrev of_runnable : ℕ → Component → ℕ → Runnable → Bool
    of_runnable i c m r = any_at (λ k a. pairs e (tasks_from d f i m 0 c.behavior.events) (waits_by d f i a)) 0 r.accesses

    abbrev of_instance : ℕ → Instance → Bool
    of_instance i x = option_map_or (waits_in d f e i) (slice_get d.components x.component) false

    -- a runnable of a component waits
    wait_here : (i : ℕ) (c : Component) → component_of d f i ≡ Some c → waits_in d f e i c ≡ true → Waits d f e.0 e.1
    wait_here i c is h =
        let r = any_found (of_runnable i c) 0 c.behavior.runnables h in
        let number : r.1 ≡ r.0 = omega arith in
        let parts = and_parts (starts (tasks_from d f i r.1 0 c.behavior.events)) (ends (flat_map (waits_by d f i) r.2.accesses)) (sym (runnable_waits d f i (tasks_from d f i r.1 0 c.behavior.events) 0 r.2.accesses) ∙ r.5) in
        record {
          runnable = (i, r.1);
          in_task = ap (λ (o : Option Component). starts (option_map_or (λ (c : Component). tasks_from d f i r.1 0 c.behavior.events) o [])) is ∙ parts.0;
          for_task = ap (λ (o : Option Component). ends (option_map_or (λ (x : Runnable). flat_map (waits_by d f i) x.accesses) (option_and_then (λ (c : Component). slice_get c.behavior.runnables r.1) o) [])) is
              ∙ ap (λ (o : Option Runnable). ends (option_map_or (λ (x : Runnable). flat_map (waits_by d f i) x.accesses) o [])) (ap (slice_get c.behavior.runnables) number ∙ r.4) ∙ parts.1;
        }

    wait_in : (i : ℕ) (x : Instance) (o : Option Component) → slice_get f.instances i ≡ Some x → slice_get d.components x.component ≡ o → option_map_or (waits_in d f e i) o false ≡ true → Waits d f e.0 e.1
    wait_in i x None at is h = cc
    wait_in i x (Some c) at is h = wait_here i c (ap (option_and_then (λ (x : Instance). slice_get d.components x.component)) at ∙ is) h

    pub wait_found : has_wait d f e ≡ true → Waits d f e.0 e.1
    wait_found h =
        let r = any_found of_instance 0 f.instances h in
        let number : r.1 ≡ r.0 = omega arith in
        wait_in r.1 r.2 (slice_get d.components r.2.component) (ap (slice_get f.instances) number ∙ r.4) refl r.5

    there_in : (i m : ℕ) (x : Instance) (c : Component) (r : Runnable) → slice_get f.instances i ≡ Some x → slice_get d.components x.component ≡ Some c → slice_get c.behavior.runnables m ≡ Some r
        → starts (tasks_from d f i m 0 c.behavior.events) ≡ true → ends (flat_map (waits_by d f i) r.accesses) ≡ true → has_wait d f e ≡ true
    there_in i m x c r at is there starts_so ends_so =
        any_there of_instance 0 f.instances i i x (omega arith) at (ap (λ (o : Option Component). option_map_or (waits_in d f e i) o false) is
        ∙ any_there (of_runnable i c) 0 c.behavior.runnables m m r (omega arith) there (runnable_waits d f i (tasks_from d f i m 0 c.behavior.events) 0 r.accesses ∙ and_from _ _ starts_so ends_so))

    by_runnable : (i m : ℕ) (x : Instance) (c : Component) (o : Option Runnable) → slice_get f.instances i ≡ Some x → slice_get d.components x.component ≡ Some c → slice_get c.behavior.runnables m ≡ o
        → starts (tasks_from d f i m 0 c.behavior.events) ≡ true → ends (option_map_or (λ (x : Runnable). flat_map (waits_by d f i) x.accesses) o []) ≡ true → has_wait d f e ≡ true
    by_runnable i m x c None at is there starts_so ends_so = cc
    by_runnable i m x c (Some r) at is there starts_so ends_so = there_in i m x c r at is there starts_so ends_so

    by_component : (i m : ℕ) (x : Instance) (o : Option Component) → slice_get f.instances i ≡ Some x → slice_get d.components x.component ≡ o
        → starts (option_map_or (λ (c : Component). tasks_from d f i m 0 c.behavior.events) o []) ≡ true
        → ends (option_map_or (λ (x : Runnable). flat_map (waits_by d f i) x.accesses) (option_and_then (λ (c : Component). slice_get c.behavior.runnables m) o) []) ≡ true → has_wait d f e ≡ true
    by_component i m x None at is starts_so ends_so = cc
    by_component i m x (Some c) at is starts_so ends_so = by_runnable i m x c (slice_get c.behavior.runnables m) at is refl starts_so ends_so

    by_instance : (i m : ℕ) (o : Option Instance) → slice_get f.instances i ≡ o
        → starts (option_map_or (λ (c : Component). tasks_from d f i m 0 c.behavior.events) (option_and_then (λ (x : Instance). slice_get d.components x.component) o) []) ≡ true
        → ends (option_map_or (λ (x : Runnable). flat_map (waits_by d f i) x.accesses)
        (option_and_then (λ (c : Component). slice_get c.behavior.runnables m) (option_and_then (λ (x : Instance). slice_get d.components x.component) o)) []) ≡ true → has_wait d f e ≡ true
    by_instance i m None at starts_so ends_so = cc
    by_instance i m (Some x) at starts_so ends_so = by_component i m x (slice_get d.components x.component) at refl starts_so ends_so

    pub found_wait : Waits d f e.0 e.1 → has_wait d f e ≡ true
    found_wait w = by_instance w.runnable.0 w.runnable.1 (slice_get f.instances w.runnable.0) refl w.in_task w.for_task

among_any : (e : ℕ × ℕ) (xs : List (ℕ × ℕ)) → Among e xs → list_any (same_pair e) xs ≡ true
among_any e [] h = absurd h
among_any e (x ∷ xs) (inl is) = or_left (same_pair e x) (list_any (same_pair e) xs) (and_from (nat_eq e.0 x.0) (nat_eq e.1 x.1) (eq-eqb e.0 x.0 (ap (λ z. z.0) is)) (eq-eqb e.1 x.1 (ap (λ z. z.1) is)))
among_any e (x ∷ xs) (inr h) = or_right (same_pair e x) (list_any (same_pair e) xs) (among_any e xs h)

any_among : (e : ℕ × ℕ) (xs : List (ℕ × ℕ)) → list_any (same_pair e) xs ≡ true → Among e xs
any_among e [] h = cc
any_among e (x ∷ xs) h = ⊎_elim (λ here. inl (same_pair_is e x here)) (λ later. inr (any_among e xs later)) (or_cases (same_pair e x) (list_any (same_pair e) xs) h)

module _ (d : Description) (f : Flat) (edges : List (ℕ × ℕ)) (are : (e : ℕ × ℕ) → list_any (same_pair e) edges ≡ has_wait d f e) where
  waits_at : (a b : ℕ) → Among (a, b) edges → Waits d f a b
  waits_at a b h = wait_found (a, b) d f (sym (are (a, b)) ∙ among_any (a, b) edges h)

  pub ordered : HaveRanks edges → HaveOrder d f
  ordered r = (r.0, (λ a b w. r.1 (a, b) (any_among (a, b) edges (are (a, b) ∙ found_wait (a, b) d f w))))

  chain_of : (n a c : ℕ) → Way edges n a c → Chain d f n a c
  chain_of zero a c w = w
  chain_of (suc n) a c w = (w.0, waits_at a w.0 w.1, chain_of n w.0 c w.2)

  pub reaches : HaveCircle edges → ReachesItself d f
  reaches c = (c.0, c.1, chain_of (suc c.1) c.0 c.0 c.2)

module _ (d : Description) (f : Flat) (order : HaveOrder d f) where
  rises : (n a c : ℕ) → Chain d f n a c → order.0 a + n < order.0 c + 1
  rises zero a c w = let same : order.0 a ≡ order.0 c = ap order.0 w in omega arith
  rises (suc n) a c w = let first = order.1 a w.0 w.1 in let rest = rises n w.0 c w.2 in omega arith

  pub never_reaches : ReachesItself d f → ⊥
  never_reaches r = let up = rises (suc r.1) r.0 r.0 r.2 in omega arith

pub order_decided : (d : Description) (f : Flat) (edges : List (ℕ × ℕ)) → ((e : ℕ × ℕ) → list_any (same_pair e) edges ≡ has_wait d f e) → (answer : Bool) → IsDecided answer edges → TellsOrder answer d f
order_decided d f edges are true h = ordered d f edges are h
order_decided d f edges are false h = reaches d f edges are h

pub order_kept : (d : Description) (f : Flat) (answer : Bool) → answer ≡ true → TellsOrder answer d f → HaveOrder d f
order_kept d f true is h = h
order_kept d f false is h = absurd (true≢false (sym is))

pub circle_kept : (d : Description) (f : Flat) (answer : Bool) → answer ≡ false → TellsOrder answer d f → ReachesItself d f
circle_kept d f true is h = absurd (true≢false is)
circle_kept d f false is h = h
