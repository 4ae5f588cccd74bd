-- What instances have: runnables, events and areas stand in the plan by instance and position, and have the numbers of their places.
use Rattle.std.proofs.Common.{◌≡◌, ℕ, zero, suc, ◌+◌, ◌<◌, true, nat_eq, refl, sym, ◌∙◌, ap, subst, arith, List, [], ◌∷◌, map, length, Option, Some, None, option_and_then}
use Rattle.bus_semantics.specs.Common.{slice_get, option_map_or, unwrap_or, eqb-true, eq-eqb, and_from, and_parts, same_Some, slice_get_within, length-map, Runnable}
use Rattle.plan_definitions.specs.Common.{Component, Event, Description, Flat, Instance, same_pair, pair_number, from, positions, component_of, of_instances, numbered, runnables_of}
use Rattle.plan_definitions.specs.Common.{events_of, areas_of, event_of, events_of_component, events, runnable_of, runnables_of_component, runnables, area_of, areas}
use Rattle.description_types.specs.declared.component.Runnable as declared_runnable
use Rattle.bus_laws.specs.Common.{AreaPlan, EventPlan}
use Rattle.plan_definitions.proofs.Lists.{many_positions, position_there}
use Rattle.sound_plans.proofs.Places.{found, before, In, in_from, reach, before_same, mapped, map_at}

-- ---- lists with one item for each

module _ {X Y : Type 0} (h : ℕ → X → Y) where
  pub one_each : (n : ℕ) (xs : List X) (k : ℕ) (x : X) → slice_get xs k ≡ Some x → slice_get (from n (λ m y. h m y ∷ []) xs) k ≡ Some (h (n + k) x)
  one_each n [] k x e = absurd (cc e)
  one_each n (y ∷ xs) zero x e = let same : y ≡ x = cc in let place : n ≡ n + 0 = omega arith in λ j. Some (h (place j) (same j))
  one_each n (y ∷ xs) (suc k) x e = let place : n + 1 + k ≡ n + suc k = omega arith in one_each (n + 1) xs k x e ∙ ap (λ m. Some (h m x)) place

  pub record OneAt (n : ℕ) (xs : List X) (k : ℕ) (y : Y) : Type 0 where
    pub item : X
    pub there : slice_get xs k ≡ Some item
    pub is : y ≡ h (n + k) item

  pub one_at : (n : ℕ) (xs : List X) (k : ℕ) (y : Y) → slice_get (from n (λ m z. h m z ∷ []) xs) k ≡ Some y → OneAt n xs k y
  one_at n [] k y e = absurd (cc e)
  one_at n (x ∷ xs) zero y e = let place : n ≡ n + 0 = omega arith in let first : y ≡ h n x = cc in record { item = x; there = refl; is = first ∙ ap (λ m. h m x) place }
  one_at n (x ∷ xs) (suc k) y e =
      let deeper = one_at (n + 1) xs k y e in
      let place : n + 1 + k ≡ n + suc k = omega arith in
      record { item = deeper.item; there = deeper.there; is = deeper.is ∙ ap (λ m. h m deeper.item) place }

  pub length-one_each : (n : ℕ) (xs : List X) → length (from n (λ m y. h m y ∷ []) xs) ≡ length xs
  length-one_each n [] = refl
  length-one_each n (x ∷ xs) = ap (λ m. suc m) (length-one_each (n + 1) xs)

-- ---- what is counted of a component, and the pairs of instances with it

abbrev pub runnable_count : Component → ℕ
runnable_count c = length c.behavior.runnables

abbrev pub event_count : Component → ℕ
event_count c = length c.behavior.events

abbrev pub area_count : Component → ℕ
area_count c = length c.behavior.exclusive_areas

abbrev pub pairs_of : (Component → ℕ) → Description → Flat → List (ℕ × ℕ)
pairs_of count d f = from 0 (λ i x. numbered i (option_map_or count (slice_get d.components x.component) 0)) f.instances

module _ (d : Description) (f : Flat) where
  -- ---- instances

  -- the instance of a number, with its component
  pub record Home (i : ℕ) (c : Component) : Type 0 where
    pub instance : Instance
    pub there : slice_get f.instances i ≡ Some instance
    pub has : slice_get d.components instance.component ≡ Some c

  pub home_component : (i : ℕ) (c : Component) → Home i c → component_of d f i ≡ Some c
  home_component i c h = ap (option_and_then (λ x. slice_get d.components x.component)) h.there ∙ h.has

  pub component_home : (i : ℕ) (c : Component) → component_of d f i ≡ Some c → Home i c
  component_home i c e = by (slice_get f.instances i) refl e
    where
      by : (o : Option Instance) → slice_get f.instances i ≡ o → option_and_then (λ x. slice_get d.components x.component) o ≡ Some c → Home i c
      by None is e = absurd (cc e)
      by (Some x) is e = record { instance = x; there = is; has = e }

  pub same_home : (i : ℕ) (a c : Component) → Home i a → Home i c → a ≡ c
  same_home i a c g h = same_Some a c (sym (home_component i a g) ∙ home_component i c h)

  module _ {X : Type 0} (g : ℕ → Component → List X) where
    pub spread : ℕ → Instance → List X
    spread i x = option_map_or (g i) (slice_get d.components x.component) []

    -- where those of an instance begin
    pub start : ℕ → ℕ
    start i = before spread 0 f.instances i

    pub record OfInstance (k : ℕ) (y : X) : Type 0 where
      pub i : ℕ
      pub c : Component
      pub home : Home i c
      pub place : ℕ
      pub inside : slice_get (g i c) place ≡ Some y
      pub sum : k ≡ start i + place

    pub of_instance : (k : ℕ) (y : X) → slice_get (of_instances g d f) k ≡ Some y → OfInstance k y
    unfolding spread start
    of_instance k y e = by (in_from spread 0 f.instances k y e)
      where
        by_component : (w : In Instance X spread 0 f.instances k y) (o : Option Component) → slice_get d.components w.item.component ≡ o → slice_get (option_map_or (g w.at) o []) w.place ≡ Some y → OfInstance k y
        by_component w None is e = absurd (cc e)
        by_component w (Some c) is e = record { i = w.at; c = c; home = record { instance = w.item; there = w.there; has = is }; place = w.place; inside = e; sum = w.sum }

        by : In Instance X spread 0 f.instances k y → OfInstance k y
        by w = let place : 0 + w.at ≡ w.at = omega arith in by_component w (slice_get d.components w.item.component) refl (subst (λ m. slice_get (spread m w.item) w.place ≡ Some y) place w.inside)

    pub to_instance : (i : ℕ) (c : Component) → Home i c → (place : ℕ) (y : X) → slice_get (g i c) place ≡ Some y → slice_get (of_instances g d f) (start i + place) ≡ Some y
    unfolding spread start
    to_instance i c h place y e =
        let none : i ≡ 0 + i = omega arith in
        reach spread 0 f.instances i h.instance place y h.there
        (subst (λ m. slice_get (spread m h.instance) place ≡ Some y) none (subst (λ o. slice_get (option_map_or (g i) o []) place ≡ Some y) (sym h.has) e))

  pub same_start : {X Y : Type 0} (g : ℕ → Component → List X) (h : ℕ → Component → List Y) → ((i : ℕ) (c : Component) → length (g i c) ≡ length (h i c)) → (i : ℕ) → start g i ≡ start h i
  unfolding start spread
  same_start {X} {Y} g h same i = before_same (spread g) (spread h) (λ m x. by m (slice_get d.components x.component)) 0 f.instances i
    where
      by : (m : ℕ) (o : Option Component) → length (option_map_or (g m) o []) ≡ length (option_map_or (h m) o [])
      by m None = refl
      by m (Some c) = same m c

  -- ---- pairs

  pub pairs_in : (Component → ℕ) → ℕ → Component → List (ℕ × ℕ)
  pairs_in count i c = numbered i (count c)

  pub pairs_are : (count : Component → ℕ) → pairs_of count d f ≡ of_instances (pairs_in count) d f
  unfolding pairs_in
  pairs_are count = λ j. from 0 (λ i x. by i (slice_get d.components x.component) j) f.instances
    where
      by : (i : ℕ) (o : Option Component) → numbered i (option_map_or (count) o 0) ≡ option_map_or (λ c. numbered i (count c)) o []
      by i None = refl
      by i (Some c) = refl

  pub numbered_at : (i n m : ℕ) → m < n → slice_get (numbered i n) m ≡ Some (i, m)
  numbered_at i n m l = mapped (λ (k : ℕ). (i, k)) (positions 0 n) m (0 + m) (position_there 0 n m l) ∙ (let place : 0 + m ≡ m = omega arith in ap (λ (k : ℕ). Some (i, k)) place)

  pub at_numbered : (i n m : ℕ) (y : ℕ × ℕ) → slice_get (numbered i n) m ≡ Some y → (m < n) × (y ≡ (i, m))
  at_numbered i n m y e =
      let within : m < length (numbered i n) = slice_get_within (numbered i n) m y e in
      let long : length (numbered i n) ≡ n = length-map (positions 0 n) (λ (k : ℕ). (i, k)) ∙ many_positions 0 n in
      let less : m < n = omega arith in
      (less, same_Some y (i, m) (sym e ∙ numbered_at i n m less))

  module _ (count : Component → ℕ) where
    pub pair_there : (i : ℕ) (c : Component) → Home i c → (m : ℕ) → m < count c → slice_get (pairs_of count d f) (start (pairs_in count) i + m) ≡ Some (i, m)
    unfolding pairs_in
    pair_there i c h m l = ap (λ ps. slice_get ps (start (pairs_in count) i + m)) (pairs_are count) ∙ to_instance (pairs_in count) i c h m (i, m) (numbered_at i (count c) m l)

    pub record PairAt (k : ℕ) (y : ℕ × ℕ) : Type 0 where
      pub c : Component
      pub home : Home y.0 c
      pub within : y.1 < count c
      pub sum : k ≡ start (pairs_in count) y.0 + y.1

    pub pair_at : (k : ℕ) (y : ℕ × ℕ) → slice_get (pairs_of count d f) k ≡ Some y → PairAt k y
    unfolding pairs_in
    pair_at k y e =
        let w = of_instance (pairs_in count) k y (ap (λ ps. slice_get ps k) (sym (pairs_are count)) ∙ e) in
        let at = at_numbered w.i (count w.c) w.place y w.inside in
        let first : w.i ≡ y.0 = ap (λ (z : ℕ × ℕ). z.0) (sym at.1) in
        let second : w.place ≡ y.1 = ap (λ (z : ℕ × ℕ). z.1) (sym at.1) in
        record { c = w.c; home = subst (λ n. Home n w.c) first w.home; within = subst (λ n. n < count w.c) second at.0; sum = w.sum ∙ (λ j. start (pairs_in count) (first j) + second j) }

    pub same_pairs : (a b : ℕ × ℕ) → same_pair a b ≡ true → (a.0 ≡ b.0) × (a.1 ≡ b.1)
    same_pairs a b e = let two = and_parts (nat_eq a.0 b.0) (nat_eq a.1 b.1) e in (eqb-true a.0 b.0 two.0, eqb-true a.1 b.1 two.1)

    pub itself : (a : ℕ × ℕ) → same_pair a a ≡ true
    itself a = and_from (nat_eq a.0 a.0) (nat_eq a.1 a.1) (eq-eqb a.0 a.0 refl) (eq-eqb a.1 a.1 refl)

    -- the number of what an instance has is its place
    pub number_is : (i : ℕ) (c : Component) → Home i c → (m : ℕ) → m < count c → pair_number (pairs_of count d f) (i, m) ≡ start (pairs_in count) i + m
    number_is i c h m l =
        let w = found (same_pair (i, m)) 0 (pairs_of count d f) (start (pairs_in count) i + m) (i, m) (pair_there i c h m l) (itself (i, m)) in
        let at = pair_at w.place w.item w.there in
        let same = same_pairs (i, m) w.item w.passes in
        let s = at.sum in
        let first : start (pairs_in count) i ≡ start (pairs_in count) w.item.0 = ap (start (pairs_in count)) same.0 in
        let second : m ≡ w.item.1 = same.1 in
        let none : 0 + w.place ≡ start (pairs_in count) i + m = omega arith in
        ap (λ o. unwrap_or o 0) w.is ∙ none

    pub number_there : (i : ℕ) (c : Component) → Home i c → (m : ℕ) → m < count c → slice_get (pairs_of count d f) (pair_number (pairs_of count d f) (i, m)) ≡ Some (i, m)
    number_there i c h m l = ap (slice_get (pairs_of count d f)) (number_is i c h m l) ∙ pair_there i c h m l

    -- no two have one number
    pub numbers_apart : (i j : ℕ) (a c : Component) → Home i a → Home j c → (m n : ℕ) → m < count a → n < count c
        → pair_number (pairs_of count d f) (i, m) ≡ pair_number (pairs_of count d f) (j, n) → (i ≡ j) × (m ≡ n)
    numbers_apart i j a c g h m n l k e =
        let same : (i, m) ≡ (j, n) = same_Some (i, m) (j, n) (sym (number_there i a g m l) ∙ ap (slice_get (pairs_of count d f)) e ∙ number_there j c h n k) in
        (ap (λ (z : ℕ × ℕ). z.0) same, ap (λ (z : ℕ × ℕ). z.1) same)

  -- ---- events

  same_events : (i : ℕ) (c : Component) → length (pairs_in event_count i c) ≡ length (events_of_component d f i c)
  unfolding pairs_in
  same_events i c = length-map (positions 0 (length c.behavior.events)) (λ (m : ℕ). (i, m)) ∙ many_positions 0 (length c.behavior.events) ∙ sym (length-map c.behavior.events (event_of d f i))

  pub record EventAt (k : ℕ) (v : EventPlan) : Type 0 where
    pub i : ℕ
    pub c : Component
    pub home : Home i c
    pub m : ℕ
    pub event : Event
    pub there : slice_get c.behavior.events m ≡ Some event
    pub is : v ≡ event_of d f i event
    pub number : pair_number (events_of d f) (i, m) ≡ k

  pub event_at : (k : ℕ) (v : EventPlan) → slice_get (events d f) k ≡ Some v → EventAt k v
  event_at k v e =
      let w = of_instance (events_of_component d f) k v e in
      let at = map_at (event_of d f w.i) w.c.behavior.events w.place v w.inside in
      let within = slice_get_within w.c.behavior.events w.place at.item at.there in
      let s = w.sum in let begins = same_start (pairs_in event_count) (events_of_component d f) same_events w.i in
      let n = number_is event_count w.i w.c w.home w.place within in
      record { i = w.i; c = w.c; home = w.home; m = w.place; event = at.item; there = at.there; is = at.is; number = omega arith }

  pub event_there : (i : ℕ) (c : Component) → Home i c → (m : ℕ) (e : Event) → slice_get c.behavior.events m ≡ Some e → slice_get (events d f) (pair_number (events_of d f) (i, m)) ≡ Some (event_of d f i e)
  event_there i c h m e at =
      let n = number_is event_count i c h m (slice_get_within c.behavior.events m e at) in
      let begins = same_start (pairs_in event_count) (events_of_component d f) same_events i in
      let place : start (events_of_component d f) i + m ≡ pair_number (events_of d f) (i, m) = omega arith in
      subst (λ k. slice_get (events d f) k ≡ Some (event_of d f i e)) place (to_instance (events_of_component d f) i c h m (event_of d f i e) (mapped (event_of d f i) c.behavior.events m e at))

  -- ---- runnables

  same_runnables : (i : ℕ) (c : Component) → length (pairs_in runnable_count i c) ≡ length (runnables_of_component d f i c)
  unfolding pairs_in
  same_runnables i c = length-map (positions 0 (length c.behavior.runnables)) (λ (m : ℕ). (i, m)) ∙ many_positions 0 (length c.behavior.runnables) ∙ sym (length-one_each (runnable_of d f i c) 0 c.behavior.runnables)

  pub record RunnableAt (k : ℕ) (v : Runnable) : Type 0 where
    pub i : ℕ
    pub c : Component
    pub home : Home i c
    pub m : ℕ
    pub runnable : declared_runnable.Runnable
    pub there : slice_get c.behavior.runnables m ≡ Some runnable
    pub is : v ≡ runnable_of d f i c m runnable
    pub number : pair_number (runnables_of d f) (i, m) ≡ k

  pub runnable_at : (k : ℕ) (v : Runnable) → slice_get (runnables d f) k ≡ Some v → RunnableAt k v
  runnable_at k v e =
      let w = of_instance (runnables_of_component d f) k v e in
      let at = one_at (runnable_of d f w.i w.c) 0 w.c.behavior.runnables w.place v w.inside in
      let within = slice_get_within w.c.behavior.runnables w.place at.item at.there in
      let s = w.sum in let begins = same_start (pairs_in runnable_count) (runnables_of_component d f) same_runnables w.i in
      let n = number_is runnable_count w.i w.c w.home w.place within in
      let place : 0 + w.place ≡ w.place = omega arith in
      record { i = w.i; c = w.c; home = w.home; m = w.place; runnable = at.item; there = at.there; is = at.is ∙ ap (λ m. runnable_of d f w.i w.c m at.item) place; number = omega arith }

  pub runnable_there : (i : ℕ) (c : Component) → Home i c → (m : ℕ) (r : declared_runnable.Runnable) → slice_get c.behavior.runnables m ≡ Some r
      → slice_get (runnables d f) (pair_number (runnables_of d f) (i, m)) ≡ Some (runnable_of d f i c m r)
  runnable_there i c h m r at =
      let n = number_is runnable_count i c h m (slice_get_within c.behavior.runnables m r at) in
      let begins = same_start (pairs_in runnable_count) (runnables_of_component d f) same_runnables i in
      let place : start (runnables_of_component d f) i + m ≡ pair_number (runnables_of d f) (i, m) = omega arith in
      let none : 0 + m ≡ m = omega arith in
      subst (λ k. slice_get (runnables d f) k ≡ Some (runnable_of d f i c m r)) place (to_instance (runnables_of_component d f) i c h m (runnable_of d f i c m r)
      (one_each (runnable_of d f i c) 0 c.behavior.runnables m r at ∙ ap (λ k. Some (runnable_of d f i c k r)) none))

  -- ---- areas

  areas_in : ℕ → Component → List AreaPlan
  areas_in i c = map (area_of i) c.behavior.exclusive_areas

  same_areas : (i : ℕ) (c : Component) → length (pairs_in area_count i c) ≡ length (areas_in i c)
  unfolding pairs_in areas_in
  same_areas i c = length-map (positions 0 (length c.behavior.exclusive_areas)) (λ (m : ℕ). (i, m)) ∙ many_positions 0 (length c.behavior.exclusive_areas) ∙ sym (length-map c.behavior.exclusive_areas (area_of i))

  areas_are : areas d f ≡ of_instances areas_in d f
  unfolding areas_in
  areas_are = λ j. from 0 (λ i x. by i (slice_get d.components x.component) j) f.instances
    where
      by : (i : ℕ) (o : Option Component) → map (area_of i) (option_map_or (λ c. c.behavior.exclusive_areas) o []) ≡ option_map_or (λ c. map (area_of i) c.behavior.exclusive_areas) o []
      by i None = refl
      by i (Some c) = refl

  pub area_there : (i : ℕ) (c : Component) → Home i c → (m : ℕ) (name : List ℕ) → slice_get c.behavior.exclusive_areas m ≡ Some name → slice_get (areas d f) (pair_number (areas_of d f) (i, m)) ≡ Some (area_of i name)
  unfolding areas_in
  area_there i c h m name at =
      let n = number_is area_count i c h m (slice_get_within c.behavior.exclusive_areas m name at) in
      let begins = same_start (pairs_in area_count) areas_in same_areas i in
      let place : start areas_in i + m ≡ pair_number (areas_of d f) (i, m) = omega arith in
      subst (λ k. slice_get (areas d f) k ≡ Some (area_of i name)) place (ap (λ ps. slice_get ps (start areas_in i + m)) areas_are ∙ to_instance areas_in i c h m (area_of i name) (mapped (area_of i) c.behavior.exclusive_areas m name at))
