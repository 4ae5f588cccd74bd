-- Rule 30: the plan is small.
use Rattle.std.proofs.Common.{◌≡◌, ◌<◌, ◌≤◌, ◌+◌, ◌*◌, ℕ, zero, suc, Bool, true, false, cond, ◌&&◌, ◌||◌, nat_eq, nat_le, List, [], ◌∷◌, filter, length, slice_get, slice_index_or, sum_by}
use Rattle.std.proofs.Common.{Option, Some, None, refl, sym, subst, arith, if◌then◌else◌, true≢false, find, length-append, le-ltb, leb-true}
use Rattle.bus_semantics.specs.Common.{list_all, option_map_or, unwrap_or, length-map}
use Rattle.std.proofs.lemmas.List.Sums.{sum_by-le}
use Rattle.plan_definitions.specs.Common.{ComSpec, Component, Port, Description, Flat, Instance, Join, callings, callings_of_component, head_at, heads, leader_of, kind_of, leaders}
use Rattle.plan_definitions.specs.Common.{is_element, is_machine, is_server, keys_of, of_kind, pair_number, from, invocation_of, areas_of, component_of, counted_at, events_of, numbered}
use Rattle.plan_definitions.specs.Common.{is_queued, com_spec_of, port_of, ports_of, queue_length_of, is_numbered_mapped, sites, sites_of_instance, elements_of}
use Rattle.plan_definitions.specs.declared.part.Part.TheVariants.{Areas, Events}
use Rattle.plan_definitions.specs.declared.site.Site.{Site}
use Rattle.plan_definitions.specs.declared.site.SiteKind.{SiteKind}
use Rattle.plan_definitions.specs.declared.site.SiteKind.TheVariants.{Element, Variable, Server, Machine, ModePort}
use Rattle.description_stages.specs.Sizes.{is_past, things_of, waiting_at}
use Rattle.description_stages.proofs.Held.{Shared}
use Rattle.soak_maker.proofs.Lists.{AllAt, at_start, length-three, three_at}
use Rattle.soak_maker.proofs.Soaked.{acc_name, c_name, p_name, soaked}
use Rattle.soak_maker.proofs.Flat.{named, soak_instances, then_some}

-- ---- lists

few_from : {X Y : Type 0} (g : ℕ → X → List Y) (k : ℕ) (xs : List X) → AllAt (λ i x. length (g i x) ≤ 4) k xs → length (from k g xs) ≤ length xs * 4
few_from g k [] all = omega arith
few_from g k (x ∷ xs) all = let whole = length-append (g k x) (from (k + 1) g xs) in let one = all.0 in let more = few_from g (k + 1) xs all.1 in omega (arith, whole, one, more)

few_filtered : {X : Type 0} (t : X → Bool) (xs : List X) → length (filter t xs) ≤ length xs
few_filtered t [] = omega arith
few_filtered t (x ∷ xs) = by (t x) (few_filtered t xs)
  where
    by : (b : Bool) → length (filter t xs) ≤ length xs → length (cond b (x ∷ filter t xs) (filter t xs)) ≤ suc (length xs)
    by true h = omega (arith, h)
    by false h = omega (arith, h)

few_heads : (leaders : List ℕ) (k : ℕ) → AllAt (λ i l. length (head_at i l) ≤ 4) k leaders
few_heads [] k = tt
few_heads (l ∷ ls) k = (by (nat_eq l k), few_heads ls (k + 1))
  where
    by : (b : Bool) → length (if b then k ∷ [] else []) ≤ 4
    by true = omega arith
    by false = omega arith

all_get : {X : Type 0} (t : X → Bool) (xs : List X) (k : ℕ) (x : X) → list_all t xs ≡ true → slice_get xs k ≡ Some x → t x ≡ true
all_get t [] k x e is = absurd cc
all_get t (y ∷ ys) zero x e is = let same : y ≡ x = cc in subst (λ z. t z ≡ true) same (first (t y) (list_all t ys) e)
  where
    first : (a b : Bool) → (a && b) ≡ true → a ≡ true
    first true b f = refl
    first false b f = f
all_get t (y ∷ ys) (suc k) x e is = all_get t ys k x (second (t y) (list_all t ys) e) is
  where
    second : (a b : Bool) → (a && b) ≡ true → b ≡ true
    second true b f = f
    second false b f = absurd (true≢false (sym f))

found_at : {X : Type 0} (t : X → Bool) (xs : List X) (x : X) → find t xs ≡ Some x → (k : ℕ) × (slice_get xs k ≡ Some x)
found_at t [] x e = absurd cc
found_at t (y ∷ ys) x e = by (t y) e (λ f. found_at t ys x f)
  where
    by : (b : Bool) → cond b (Some y) (find t ys) ≡ Some x → (find t ys ≡ Some x → (k : ℕ) × (slice_get ys k ≡ Some x)) → (k : ℕ) × (slice_get (y ∷ ys) k ≡ Some x)
    by true f rest = (0, f)
    by false f rest = let r = rest f in (suc r.0, r.1)

-- ---- how many may wait at a port

abbrev short : ComSpec → Bool
short c = nat_le c.queue_length 64

abbrev short_queues : Port → Bool
short_queues port = list_all short port.com_specs

if_few : (b : Bool) (m : ℕ) → m ≤ 64 → (if b then m else 0) ≤ 64
if_few true m h = h
if_few false m h = omega arith

if_some_few : (b : Bool) (m : ℕ) → m ≤ 64 → unwrap_or (if b then Some m else None) 0 ≤ 64
if_some_few true m h = h
if_some_few false m h = omega arith

module _ (n : ℕ) (few : n ≤ 64) (p q s : Shared) (js : List Join) where
  abbrev soak : Description
  soak = soaked n p q s

  abbrev made_flat : Flat
  made_flat = record { instances = soak_instances n; joins = js }

  component_short : (c : Component) (m : ℕ) → slice_get soak.components m ≡ Some c → list_all short_queues c.ports ≡ true
  component_short c m is = at_start (λ k (d : Component). list_all short_queues d.ports ≡ true) soak.components (refl, (refl, (refl, tt))) m c is

  ports_short : (owner : Option ℕ) → list_all short_queues (ports_of soak made_flat owner) ≡ true
  ports_short None = refl
  ports_short (Some i) = by (component_of soak made_flat i) refl
    where
      by : (o : Option Component) → component_of soak made_flat i ≡ o → list_all short_queues (option_map_or (λ (c : Component). c.ports) o []) ≡ true
      by None e = refl
      by (Some c) e = let (x, found, is) = then_some (λ (y : Instance). slice_get soak.components y.component) (slice_get made_flat.instances i) c e in component_short c x.component is

  queue_few : (owner : Option ℕ) (k item : ℕ) → queue_length_of soak made_flat owner k item ≤ 64
  queue_few owner k item = by (com_spec_of soak made_flat owner k item) refl
    where
      by : (o : Option ComSpec) → com_spec_of soak made_flat owner k item ≡ o → option_map_or (λ (c : ComSpec). c.queue_length) o 1 ≤ 64
      by None e = omega arith
      by (Some c) e =
          let (port, at, is) = then_some (λ (y : Port). find (λ (t : ComSpec). nat_eq t.element item) y.com_specs) (port_of soak made_flat owner k) c e in
          let (m, got) = found_at (λ (t : ComSpec). nat_eq t.element item) port.com_specs c is in
          leb-true c.queue_length 64 (all_get short port.com_specs m c (all_get short_queues (ports_of soak made_flat owner) k port (ports_short owner) at) got)

  abbrev kinded : Site → SiteKind → Site
  kinded x kind = record { owner = x.owner; port = x.port; item = x.item; kind = kind }

  waiting_by : (x : Site) (kind : SiteKind) → waiting_at soak made_flat (kinded x kind) ≤ 64
  waiting_by x (Element true) = omega arith
  waiting_by x (Element false) = if_few (is_queued (kind_of soak made_flat (kinded x (Element false)))) (queue_length_of soak made_flat x.owner (unwrap_or x.port 0) x.item) (queue_few x.owner (unwrap_or x.port 0) x.item)
  waiting_by x Variable = omega arith
  waiting_by x Server = let i = unwrap_or x.owner 0 in let k = unwrap_or x.port 0 in
      if_some_few (is_numbered_mapped soak made_flat (pair_number (events_of soak made_flat) (i, unwrap_or (invocation_of soak made_flat i k x.item) 0))) (queue_length_of soak made_flat (Some i) k x.item) (queue_few (Some i) k x.item)
  waiting_by x Machine = queue_few x.owner (unwrap_or x.port 0) 0
  waiting_by x ModePort = omega arith

  waiting_few : (x : Site) → waiting_at soak made_flat x ≤ 64
  waiting_few x = waiting_by x x.kind

  -- ---- how many there are

  -- what each instance has at most four of
  of_each : {Y : Type 0} (g : ℕ → Instance → List Y) → ((i : ℕ) → i < n → length (g i (named (p_name i) 0)) ≤ 4) → ((i : ℕ) → i < n → length (g (n + i) (named (c_name i) 1)) ≤ 4) → length (g (n + n) (named acc_name 2)) ≤ 4
      → length (from 0 g (soak_instances n)) ≤ 516
  of_each g a b c =
      let each = few_from g 0 (soak_instances n) (three_at (λ i (x : Instance). length (g i x) ≤ 4) n (λ i. named (p_name i) 0) (λ i. named (c_name i) 1) (named acc_name 2) a b c) in
      let all = length-three n (λ i. named (p_name i) 0) (λ i. named (c_name i) 1) (named acc_name 2) in
      omega (arith, each, all, few)

  one : 1 ≤ 4
  one = omega arith

  two : 2 ≤ 4
  two = omega arith

  none : 0 ≤ 4
  none = omega arith

  few_sites : length (sites soak made_flat) ≤ 516
  few_sites = let own = of_each (sites_of_instance soak) (λ i h. two) (λ i h. two) two in let whole = length-append (from 0 (sites_of_instance soak) (soak_instances n)) [] in omega (arith, own, whole)

  few_areas : length (areas_of soak made_flat) ≤ 516
  few_areas = of_each (λ i x. numbered i (counted_at Areas soak x)) (λ i h. none) (λ i h. one) none

  few_events : length (events_of soak made_flat) ≤ 516
  few_events = of_each (λ i x. numbered i (counted_at Events soak x)) (λ i h. one) (λ i h. one) one

  few_callings : length (callings soak made_flat) ≤ 516
  few_callings =
      let own = of_each (λ i x. option_map_or (callings_of_component i) (slice_get soak.components x.component) []) (λ i h. one) (λ i h. none) none in
      let whole = length-append (from 0 (λ i (x : Instance). option_map_or (callings_of_component i) (slice_get soak.components x.component) []) (soak_instances n)) [] in
      omega (arith, own, whole)

  few_of : (wanted : SiteKind → Bool) → length (of_kind wanted soak made_flat) ≤ 516
  few_of wanted = let kept = few_filtered (λ x. wanted x.kind) (sites soak made_flat) in let all = few_sites in omega (arith, kept, all)

  few_groups : length (heads (leaders soak made_flat)) ≤ 2064
  few_groups =
      let each = few_from head_at 0 (leaders soak made_flat) (few_heads (leaders soak made_flat) 0) in
      let all = length-map (elements_of soak made_flat) (leader_of made_flat.joins (keys_of (elements_of soak made_flat))) in
      let elements = few_of is_element in
      omega (arith, each, all, elements)

  few_things : things_of soak made_flat ≤ 16384
  few_things = let groups = few_groups in let servers = few_of is_server in let areas = few_areas in let machines = few_of is_machine in omega (arith, groups, servers, areas, machines)

  few_waiting : sum_by (waiting_at soak made_flat) (sites soak made_flat) ≤ 65536
  few_waiting = let sum = sum_by-le (waiting_at soak made_flat) 64 (sites soak made_flat) (λ k d h. waiting_few (slice_index_or (sites soak made_flat) k d)) in let all = few_sites in omega (arith, sum, all)

  pub small : is_past soak made_flat ≡ false
  small =
      let events = few_events in let points = few_callings in
      λ i. (le-ltb 16384 (things_of soak made_flat) few_things i || le-ltb 16384 (length (events_of soak made_flat)) (omega (arith, events)) i)
      || (le-ltb 65536 (sum_by (waiting_at soak made_flat) (sites soak made_flat)) few_waiting i || le-ltb 262144 (length (callings soak made_flat)) (omega (arith, points)) i)
