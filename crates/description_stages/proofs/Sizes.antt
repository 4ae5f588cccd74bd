-- The plan counts what is listed.
use Rattle.std.proofs.Common.{◌≡◌, ℕ, zero, suc, ◌+◌, List, [], ◌∷◌, ◌++◌, length, length-append, map, filter, slice_get, Bool, true, false, ◌&&◌, ◌||◌, nat_lt, if◌then◌else◌, Option, Some}
use Rattle.std.proofs.Common.{None, option_map, refl, sym, ap, ◌∙◌, arith}
use Rattle.std.proofs.lemmas.List.Sums.{sum_by-cons}
use Rattle.bus_semantics.specs.Common.{sum_by, option_map_or, unwrap_or}
use Rattle.plan_definitions.specs.Common.{Interface, InterfaceKind, SenderReceiver, ClientServer, ModeSwitch, Component, Port, PortKind, Description, Flat, Instance, is_element, is_machine}
use Rattle.plan_definitions.specs.Common.{is_server, from, positions, areas_of, events_of, numbered, count_at, kind_at, provides_at, root_ports, site, sites, sites_at, sites_of_component}
use Rattle.plan_definitions.specs.Common.{sites_of_instance, sites_of_ports, sites_with, variables_of, machines_of, servers_of, Elem, element_of, group_of, kind_of, leaders, queue_of}
use Rattle.plan_definitions.specs.Common.{groups, heads, machine_at, callings, point_of, server_of, event_of, events, areas, areas_at, named_areas, plan_of, is_queued, is_too_large}
use Rattle.plan_definitions.specs.Common.{received, requested, things}
use Rattle.bus_semantics.specs.declared.plan.ElemKind.{ElemKind}
use Rattle.bus_semantics.specs.declared.plan.MachinePlan.{MachinePlan}
use Rattle.bus_semantics.specs.declared.plan.ServerPlan.{ServerPlan}
use Rattle.bus_semantics.specs.declared.plan.ElemKind.TheVariants as elem
use Rattle.plan_definitions.specs.declared.site.Site.{Site}
use Rattle.plan_definitions.specs.declared.site.SiteKind.{SiteKind}
use Rattle.plan_definitions.specs.declared.site.SiteKind.TheVariants.{Element, Variable, Server, Machine, ModePort}
use Rattle.description_stages.specs.Sizes.{is_past, things_of, waiting_at}
use Rattle.plan_definitions.proofs.Lists.{many_positions}

-- ---- lengths

as_long : {X Y : Type 0} (f : X → Y) (xs : List X) → length (map f xs) ≡ length xs
as_long f [] = refl
as_long f (x ∷ xs) = ap suc (as_long f xs)

length_from : {X Y : Type 0} (g : ℕ → X → List Y) (h : X → ℕ) → ((i : ℕ) (x : X) → length (g i x) ≡ h x) → (i : ℕ) (xs : List X) → length (from i g xs) ≡ sum_by h xs
length_from g h each i [] = refl
length_from g h each i (x ∷ xs) = length-append (g i x) (from (i + 1) g xs) ∙ ((λ j. each i x j + length_from g h each (i + 1) xs j) ∙ sym (sum_by-cons h x xs))

groups_listed : (ls : List ℕ) → length (groups ls) ≡ length (heads ls)
groups_listed ls = as_long _ (positions 0 (length (heads ls))) ∙ many_positions 0 (length (heads ls))

module _ (d : Description) (f : Flat) where
  areas_listed : length (areas d f) ≡ length (areas_of d f)
  areas_listed = length_from (λ i x. named_areas i (areas_at d x)) (λ x. length (areas_at d x)) (λ i x. as_long _ (areas_at d x)) 0 f.instances
      ∙ sym (length_from (λ i x. numbered i (option_map_or (λ c. length c.behavior.exclusive_areas) (slice_get d.components x.component) 0)) (λ x. length (areas_at d x)) (λ i x. as_long _ (positions 0 (option_map_or (λ c. length c.behavior.exclusive_areas) (slice_get d.components x.component) 0)) ∙ (many_positions 0 (option_map_or (λ c. length c.behavior.exclusive_areas) (slice_get d.components x.component) 0) ∙ by (slice_get d.components x.component))) 0 f.instances)
    where
      by : (o : Option Component) → option_map_or (λ c. length c.behavior.exclusive_areas) o 0 ≡ length (option_map_or (λ c. c.behavior.exclusive_areas) o [])
      by None = refl
      by (Some c) = refl

  events_listed : length (events d f) ≡ length (events_of d f)
  events_listed = length_from (λ i x. option_map_or (λ c. map (event_of d f i) c.behavior.events) (slice_get d.components x.component) []) (λ x. option_map_or (λ c. length c.behavior.events) (slice_get d.components x.component) 0) (λ i x. by i (slice_get d.components x.component)) 0 f.instances
      ∙ sym (length_from (λ i x. numbered i (option_map_or (λ c. length c.behavior.events) (slice_get d.components x.component) 0)) (λ x. option_map_or (λ c. length c.behavior.events) (slice_get d.components x.component) 0) (λ i x. as_long _ (positions 0 (option_map_or (λ c. length c.behavior.events) (slice_get d.components x.component) 0)) ∙ many_positions 0 (option_map_or (λ c. length c.behavior.events) (slice_get d.components x.component) 0)) 0 f.instances)
    where
      by : (i : ℕ) (o : Option Component) → length (option_map_or (λ c. map (event_of d f i) c.behavior.events) o []) ≡ option_map_or (λ c. length c.behavior.events) o 0
      by i None = refl
      by i (Some c) = as_long (event_of d f i) c.behavior.events

  things_counted : things (plan_of d f) ≡ things_of d f
  things_counted = λ i. groups_listed (leaders d f) i + (as_long (server_of d f) (servers_of d f) i + (areas_listed i + (as_long (λ (s : Site). machine_at d f s.owner (unwrap_or s.port 0)) (machines_of d f) i + 1)))

-- ---- queues: a variable stands at no port

abbrev Fair : Site → Type 0
Fair s = s.kind ≡ Variable → s.port ≡ None

abbrev AllFair : List Site → Type 0
AllFair [] = Unit {0}
AllFair (s ∷ ss) = Fair s × AllFair ss

both_fair : (xs ys : List Site) → AllFair xs → AllFair ys → AllFair (xs ++ ys)
both_fair [] ys a b = b
both_fair (x ∷ xs) ys (a, more) b = (a, both_fair xs ys more b)

from_fair : {X : Type 0} (g : ℕ → X → List Site) → ((i : ℕ) (x : X) → AllFair (g i x)) → (i : ℕ) (xs : List X) → AllFair (from i g xs)
from_fair g each i [] = tt
from_fair g each i (x ∷ xs) = both_fair (g i x) (from (i + 1) g xs) (each i x) (from_fair g each (i + 1) xs)

places_fair : (F : ℕ → Site) → ((n : ℕ) → Fair (F n)) → (i n : ℕ) → AllFair (map F (positions i n))
places_fair F each i zero = tt
places_fair F each i (suc n) = (each i, places_fair F each (i + 1) n)

no_variable : (owner : Option ℕ) (side : PortKind) (kind : InterfaceKind) → kind_at owner side kind ≡ Variable → ⊥
no_variable owner side (SenderReceiver es) e = cc
no_variable owner side (ClientServer os) e = cc
no_variable owner side (ModeSwitch m) e = by (provides_at owner side) e
  where
    by : (b : Bool) → (if b then Machine else ModePort) ≡ Variable → ⊥
    by true e = cc
    by false e = cc

module _ (d : Description) where
  port_fair : (owner : Option ℕ) (k : ℕ) (port : Port) → AllFair (sites_at d.types owner k port)
  port_fair owner k port = by (slice_get d.types.interfaces port.interface)
    where
      by : (o : Option Interface) → AllFair (option_map_or (λ (x : SiteKind × ℕ). sites_with owner k x.0 x.1) (option_map (λ i. (kind_at owner port.kind i.kind, count_at owner port.kind i.kind)) o) [])
      by None = tt
      by (Some i) = places_fair (λ n. site owner (Some k) n (kind_at owner port.kind i.kind)) (λ n e. absurd (no_variable owner port.kind i.kind e)) 0 (count_at owner port.kind i.kind)

  ports_fair : (owner : Option ℕ) (ports : List Port) → AllFair (sites_of_ports d.types owner ports)
  ports_fair owner ports = from_fair (sites_at d.types owner) (port_fair owner) 0 ports

  sites_fair : (f : Flat) → AllFair (sites d f)
  sites_fair f = both_fair (from 0 (sites_of_instance d) f.instances) (sites_of_ports d.types None (root_ports d)) (from_fair (sites_of_instance d) instance_fair 0 f.instances) (ports_fair None (root_ports d))
    where
      instance_fair : (i : ℕ) (x : Instance) → AllFair (sites_of_instance d i x)
      instance_fair i x = by (slice_get d.components x.component)
        where
          by : (o : Option Component) → AllFair (option_map_or (sites_of_component d.types i) o [])
          by None = tt
          by (Some c) = both_fair (sites_of_ports d.types (Some i) c.ports) (variables_of i (length c.behavior.variables)) (ports_fair (Some i) c.ports)
              (places_fair (λ n. site (Some i) None n Variable) (λ n e. refl) 0 (length c.behavior.variables))

module _ (d : Description) (f : Flat) where
  abbrev in_all : List Site → ℕ
  in_all ss = sum_by received (map (λ s. element_of d f (group_of d f s) s) (filter (λ s. is_element s.kind) ss))
      + (sum_by requested (map (server_of d f) (filter (λ s. is_server s.kind) ss)) + sum_by (λ m. m.queue) (map (λ s. machine_at d f s.owner (unwrap_or s.port 0)) (filter (λ s. is_machine s.kind) ss)))

  -- an element by how it is kept
  required : (g : ℕ) (owner port : Option ℕ) (item : ℕ) → received (element_of d f g (record { owner = owner; port = port; item = item; kind = Element false })) ≡ waiting_at d f (record { owner = owner; port = port; item = item; kind = Element false })
  required g owner None item = refl
  required g owner (Some k) item = by (kind_of d f (record { owner = owner; port = Some k; item = item; kind = Element false })) refl
    where
      by : (kind : ElemKind) → kind_of d f (record { owner = owner; port = Some k; item = item; kind = Element false }) ≡ kind
          → received (element_of d f g (record { owner = owner; port = Some k; item = item; kind = Element false })) ≡ waiting_at d f (record { owner = owner; port = Some k; item = item; kind = Element false })
      by elem.Unqueued e = rw e refl
      by elem.Queued e = rw e refl
      by elem.Variable e = rw e refl

  -- a variable, which stands at no port
  kept : (g : ℕ) (owner port : Option ℕ) (item : ℕ) → port ≡ None → received (element_of d f g (record { owner = owner; port = port; item = item; kind = Variable })) ≡ 0
  kept g owner None item none = refl
  kept g owner (Some k) item none = absurd cc

  provided : (g : ℕ) (owner port : Option ℕ) (item : ℕ) → received (element_of d f g (record { owner = owner; port = port; item = item; kind = Element true })) ≡ 0
  provided g owner port item = by (is_queued (kind_of d f at)) (queue_of d f at)
    where
      at : Site
      at = record { owner = owner; port = port; item = item; kind = Element true }

      by : (b : Bool) (length : ℕ) → ◌≡◌ {A = ℕ} (if b && false then length else 0) 0
      by true length = refl
      by false length = refl

  -- one site more, of a kind
  abbrev of : Site → SiteKind → Option ℕ → Site
  of s kind port = record { owner = s.owner; port = port; item = s.item; kind = kind }

  module _ (ss : List Site) (rest : in_all ss ≡ sum_by (waiting_at d f) ss) where
    es : List Elem
    es = map (λ t. element_of d f (group_of d f t) t) (filter (λ t. is_element t.kind) ss)

    vs : List ServerPlan
    vs = map (server_of d f) (filter (λ t. is_server t.kind) ss)

    ms : List MachinePlan
    ms = map (λ t. machine_at d f t.owner (unwrap_or t.port 0)) (filter (λ t. is_machine t.kind) ss)

    with_element : (x : Site) → received (element_of d f (group_of d f x) x) ≡ waiting_at d f x
        → sum_by received (element_of d f (group_of d f x) x ∷ es) + (sum_by requested vs + sum_by (λ m. m.queue) ms) ≡ sum_by (waiting_at d f) (x ∷ ss)
    unfolding es vs ms
    with_element x is = let first = sum_by-cons received (element_of d f (group_of d f x) x) es in let whole = sum_by-cons (waiting_at d f) x ss in let others = rest in omega (arith, first, whole, is, others)

    with_server : (x : Site) → requested (server_of d f x) ≡ waiting_at d f x
        → sum_by received es + (sum_by requested (server_of d f x ∷ vs) + sum_by (λ m. m.queue) ms) ≡ sum_by (waiting_at d f) (x ∷ ss)
    unfolding es vs ms
    with_server x is = let first = sum_by-cons requested (server_of d f x) vs in let whole = sum_by-cons (waiting_at d f) x ss in let others = rest in omega (arith, first, whole, is, others)

    with_machine : (x : Site) → (machine_at d f x.owner (unwrap_or x.port 0)).queue ≡ waiting_at d f x
        → sum_by received es + (sum_by requested vs + sum_by (λ m. m.queue) (machine_at d f x.owner (unwrap_or x.port 0) ∷ ms)) ≡ sum_by (waiting_at d f) (x ∷ ss)
    unfolding es vs ms
    with_machine x is = let first = sum_by-cons (λ (m : MachinePlan). m.queue) (machine_at d f x.owner (unwrap_or x.port 0)) ms in let whole = sum_by-cons (waiting_at d f) x ss in let others = rest in omega (arith, first, whole, is, others)

    with_nothing : (x : Site) → waiting_at d f x ≡ 0 → in_all ss ≡ sum_by (waiting_at d f) (x ∷ ss)
    with_nothing x is = let whole = sum_by-cons (waiting_at d f) x ss in let others = rest in omega (arith, whole, is, others)

    one_more : (s : Site) (kind : SiteKind) (port : Option ℕ) → (kind ≡ Variable → port ≡ None) → in_all (of s kind port ∷ ss) ≡ sum_by (waiting_at d f) (of s kind port ∷ ss)
    unfolding es vs ms
    one_more s (Element false) port fair = with_element (of s (Element false) port) (required (group_of d f (of s (Element false) port)) s.owner port s.item)
    one_more s (Element true) port fair = with_element (of s (Element true) port) (provided (group_of d f (of s (Element true) port)) s.owner port s.item)
    one_more s Variable port fair = with_element (of s Variable port) (kept (group_of d f (of s Variable port)) s.owner port s.item (fair refl))
    one_more s Server port fair = with_server (of s Server port) refl
    one_more s Machine port fair = with_machine (of s Machine port) refl
    one_more s ModePort port fair = with_nothing (of s ModePort port) refl

  counted_alike : (ss : List Site) → AllFair ss → in_all ss ≡ sum_by (waiting_at d f) ss
  counted_alike [] fair = refl
  counted_alike (s ∷ ss) (one, more) = one_more ss (counted_alike ss more) s s.kind s.port one

-- the law
pub plan_counts : (d : Description) (f : Flat) → is_too_large (plan_of d f) ≡ is_past d f
plan_counts d f = λ i. (nat_lt 16384 (things_counted d f i) || nat_lt 16384 (events_listed d f i)) || (nat_lt 65536 (counted_alike d f (sites d f) (sites_fair d f) i) || nat_lt 262144 (as_long (point_of d f) (callings d f) i))
