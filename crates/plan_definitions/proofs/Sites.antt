-- What a plan numbers: each site is an item of a port of its owner or a variable of it, each such item is a site, and no two sites
-- have one key.
use Rattle.std.proofs.Common.{◌≡◌, ℕ, ◌+◌, ◌<◌, List, [], length, Option, Some, None, option_map, option_and_then, ◌⊎◌, inl, inr, ⊎_elim, refl, sym, ap, subst, ◌∙◌, arith, slice_get}
use Rattle.std.specs.Option.{option_map_or}
use Rattle.plan_definitions.specs.Common.{Interface, TypeTable, Component, Port, Description, Flat, Instance, Among, Site, SiteKind, key_of, from, positions, component_of, count_at, kind_at}
use Rattle.plan_definitions.specs.Common.{root_ports, shape_at, site, sites, sites_at, sites_of_component, sites_of_instance, sites_of_ports, sites_with, variables_of, port_of, ports_of}
use Rattle.plan_definitions.specs.declared.site.SiteKind.TheVariants.{Variable}
use Rattle.plan_definitions.proofs.Apart.{Apart, apart_append, apart_from, apart_positions}
use Rattle.plan_definitions.proofs.Lists.{cases, in_from, in_positions, left, mapped, out_from, out_positions, right, unmapped}

-- an item of a port
pub record AtPort (d : Description) (f : Flat) (s : Site) : Type 0 where
  pub k : ℕ
  pub port : Port
  pub interface : Interface
  pub at : s.port ≡ Some k
  pub has_port : port_of d f s.owner k ≡ Some port
  pub has_interface : slice_get d.types.interfaces port.interface ≡ Some interface
  pub kind : s.kind ≡ kind_at s.owner port.kind interface.kind
  pub within : s.item < count_at s.owner port.kind interface.kind

pub record IsVariable (d : Description) (f : Flat) (s : Site) : Type 0 where
  pub i : ℕ
  pub component : Component
  pub owner : s.owner ≡ Some i
  pub no_port : s.port ≡ None
  pub kind : s.kind ≡ Variable
  pub has_component : component_of d f i ≡ Some component
  pub within : s.item < length component.behavior.variables

-- a site, by its port
pub with_port : (P : Site → Type 0) (s : Site) (o : Option ℕ) → s.port ≡ o → P (site s.owner o s.item s.kind) → P s
with_port P s o is h = subst (λ q. P (site s.owner q s.item s.kind)) (sym is) h

-- ---- the sites of ports

record InPorts (types : TypeTable) (owner : Option ℕ) (ports : List Port) (s : Site) : Type 0 where
  k : ℕ
  n : ℕ
  port : Port
  interface : Interface
  there : slice_get ports k ≡ Some port
  has_interface : slice_get types.interfaces port.interface ≡ Some interface
  within : n < count_at owner port.kind interface.kind
  is : s ≡ site owner (Some k) n (kind_at owner port.kind interface.kind)

in_with : (owner : Option ℕ) (k : ℕ) (kind : SiteKind) (count : ℕ) (s : Site) → Among s (sites_with owner k kind count) → (n : ℕ) × (n < count) × (s ≡ site owner (Some k) n kind)
in_with owner k kind count s among =
    let p = unmapped (λ n. site owner (Some k) n kind) (positions 0 count) s among in
    let q = out_positions 0 count p.0 p.1 in
    (p.0, omega (arith, q.1, q.2), p.2)

with_in : (owner : Option ℕ) (k : ℕ) (kind : SiteKind) (count n : ℕ) → n < count → Among (site owner (Some k) n kind) (sites_with owner k kind count)
with_in owner k kind count n lt =
    let z : 0 + n ≡ n = omega arith in
    mapped (λ m. site owner (Some k) m kind) (positions 0 count) n (subst (λ m. Among m (positions 0 count)) z (in_positions 0 count n lt))

module _ (types : TypeTable) (owner : Option ℕ) where
  in_ports : (ports : List Port) (s : Site) → Among s (sites_of_ports types owner ports) → InPorts types owner ports s
  in_ports ports s among = let p = out_from (sites_at types owner) 0 ports s among in by p.0 p.1 p.2 (slice_get types.interfaces p.1.interface) refl p.3
    where
      by : (k : ℕ) (port : Port) → slice_get ports k ≡ Some port → (o : Option Interface) → slice_get types.interfaces port.interface ≡ o
          → Among s (option_map_or (λ (x : SiteKind × ℕ). sites_with owner (0 + k) x.0 x.1) (option_map (λ (i : Interface). (kind_at owner port.kind i.kind, count_at owner port.kind i.kind)) o) []) → InPorts types owner ports s
      by k port there None none h = absurd h
      by k port there (Some i) some h =
          let q = in_with owner (0 + k) (kind_at owner port.kind i.kind) (count_at owner port.kind i.kind) s h in
          let z : 0 + k ≡ k = omega arith in
          record { k = k; n = q.0; port = port; interface = i; there = there; has_interface = some; within = q.1; is = q.2 ∙ ap (λ m. site owner (Some m) q.0 (kind_at owner port.kind i.kind)) z }

  ports_in : (ports : List Port) (k : ℕ) (port : Port) (i : Interface) (n : ℕ) → slice_get ports k ≡ Some port → slice_get types.interfaces port.interface ≡ Some i → n < count_at owner port.kind i.kind
      → Among (site owner (Some k) n (kind_at owner port.kind i.kind)) (sites_of_ports types owner ports)
  ports_in ports k port i n there has lt =
      let z : k ≡ 0 + k = omega arith in
      in_from (sites_at types owner) 0 ports k port (site owner (Some k) n (kind_at owner port.kind i.kind)) there
      (subst (λ o. Among (site owner (Some k) n (kind_at owner port.kind i.kind)) (option_map_or (λ (x : SiteKind × ℕ). sites_with owner (0 + k) x.0 x.1) (option_map (λ (j : Interface). (kind_at owner port.kind j.kind, count_at owner port.kind j.kind)) o) [])) (sym has)
      (subst (λ m. Among (site owner (Some k) n (kind_at owner port.kind i.kind)) (sites_with owner m (kind_at owner port.kind i.kind) (count_at owner port.kind i.kind))) z
      (with_in owner k (kind_at owner port.kind i.kind) (count_at owner port.kind i.kind) n lt)))

  apart_port : (k : ℕ) (port : Port) → Apart key_of (sites_at types owner k port)
  apart_port k port = by (shape_at types owner port)
    where
      by : (o : Option (SiteKind × ℕ)) → Apart key_of (option_map_or (λ (x : SiteKind × ℕ). sites_with owner k x.0 x.1) o [])
      by None = tt
      by (Some x) = apart_positions key_of (λ n. site owner (Some k) n x.0) (λ m n same. ap (λ z. z.2) same) 0 x.1

  pub port_is : (k : ℕ) (port : Port) (s : Site) → Among s (sites_at types owner k port) → s.port ≡ Some k
  port_is k port s among = by (shape_at types owner port) among
    where
      by : (o : Option (SiteKind × ℕ)) → Among s (option_map_or (λ (x : SiteKind × ℕ). sites_with owner k x.0 x.1) o []) → s.port ≡ Some k
      by None h = absurd h
      by (Some x) h = let q = in_with owner k x.0 x.1 s h in ap (λ z. z.port) q.2

  apart_ports : (ports : List Port) → Apart key_of (sites_of_ports types owner ports)
  apart_ports ports = apart_from key_of (sites_at types owner) (λ k s. s.port ≡ Some k) port_is tells apart_port 0 ports
    where
      tells : (m n : ℕ) (x y : Site) → x.port ≡ Some m → y.port ≡ Some n → key_of x ≡ key_of y → m ≡ n
      tells m n x y a b same = let e : x.port ≡ y.port = ap (λ z. z.1) same in cc

in_variables : (i count : ℕ) (s : Site) → Among s (variables_of i count) → (n : ℕ) × (n < count) × (s ≡ site (Some i) None n Variable)
in_variables i count s among =
    let p = unmapped (λ n. site (Some i) None n Variable) (positions 0 count) s among in
    let q = out_positions 0 count p.0 p.1 in
    (p.0, omega (arith, q.1, q.2), p.2)

-- ---- each site, and each item of a port

module _ (d : Description) (f : Flat) where
  at_port : (owner : Option ℕ) (ports : List Port) (s : Site) → ports_of d f owner ≡ ports → InPorts d.types owner ports s → AtPort d f s
  at_port owner ports s are p = subst (AtPort d f) (sym p.is) (record {
    k = p.k;
    port = p.port;
    interface = p.interface;
    at = refl;
    has_port = ap (λ l. slice_get l p.k) are ∙ p.there;
    has_interface = p.has_interface;
    kind = refl;
    within = p.within;
  })

  component_is : (i : ℕ) (x : Instance) (c : Component) → slice_get f.instances i ≡ Some x → slice_get d.components x.component ≡ Some c → component_of d f i ≡ Some c
  component_is i x c there has = ap (λ o. option_and_then (λ (y : Instance). slice_get d.components y.component) o) there ∙ has

  pub is_site : (s : Site) → Among s (sites d f) → AtPort d f s ⊎ IsVariable d f s
  is_site s among = ⊎_elim
      (λ of_instances. let p = out_from (sites_of_instance d) 0 f.instances s of_instances in
      let z : 0 + p.0 ≡ p.0 = omega arith in
      instance_site p.0 p.1 p.2 (slice_get d.components p.1.component) refl (subst (λ i. Among s (sites_of_instance d i p.1)) z p.3))
      (λ of_root. inl (at_port None (root_ports d) s refl (in_ports d.types None (root_ports d) s of_root)))
      (cases s (from 0 (sites_of_instance d) f.instances) (sites_of_ports d.types None (root_ports d)) among)
    where
      instance_site : (i : ℕ) (x : Instance) → slice_get f.instances i ≡ Some x → (o : Option Component) → slice_get d.components x.component ≡ o
          → Among s (option_map_or (sites_of_component d.types i) o []) → AtPort d f s ⊎ IsVariable d f s
      instance_site i x there None none h = absurd h
      instance_site i x there (Some c) some h = ⊎_elim
          (λ of_ports. inl (at_port (Some i) c.ports s (ap (λ o. option_map_or (λ (y : Component). y.ports) o []) (component_is i x c there some)) (in_ports d.types (Some i) c.ports s of_ports)))
          (λ of_variables. let q = in_variables i (length c.behavior.variables) s of_variables in
          inr (subst (IsVariable d f) (sym q.2) (record { i = i; component = c; owner = refl; no_port = refl; kind = refl; has_component = component_is i x c there some; within = q.1 })))
          (cases s (sites_of_ports d.types (Some i) c.ports) (variables_of i (length c.behavior.variables)) h)

  pub site_is : (owner : Option ℕ) (k : ℕ) (port : Port) (i : Interface) (n : ℕ) → port_of d f owner k ≡ Some port → slice_get d.types.interfaces port.interface ≡ Some i → n < count_at owner port.kind i.kind
      → Among (site owner (Some k) n (kind_at owner port.kind i.kind)) (sites d f)
  site_is None k port i n there has lt = right (site None (Some k) n (kind_at None port.kind i.kind)) (from 0 (sites_of_instance d) f.instances) (sites_of_ports d.types None (root_ports d)) (ports_in d.types None (root_ports d) k port i n there has lt)
  site_is (Some j) k port i n there has lt = left s (from 0 (sites_of_instance d) f.instances) (sites_of_ports d.types None (root_ports d)) (by (slice_get f.instances j) refl there)
    where
      s : Site
      s = site (Some j) (Some k) n (kind_at (Some j) port.kind i.kind)

      by_component : (x : Instance) → slice_get f.instances j ≡ Some x → (o : Option Component) → slice_get d.components x.component ≡ o → slice_get (option_map_or (λ (y : Component). y.ports) o []) k ≡ Some port
          → Among (site (Some j) (Some k) n (kind_at (Some j) port.kind i.kind)) (from 0 (sites_of_instance d) f.instances)
      by_component x is None none h = cc
      by_component x is (Some c) some h =
          let z : j ≡ 0 + j = omega arith in
          in_from (sites_of_instance d) 0 f.instances j x (site (Some j) (Some k) n (kind_at (Some j) port.kind i.kind)) is
          (subst (λ m. Among (site (Some j) (Some k) n (kind_at (Some j) port.kind i.kind)) (sites_of_instance d m x)) z
          (subst (λ o. Among (site (Some j) (Some k) n (kind_at (Some j) port.kind i.kind)) (option_map_or (sites_of_component d.types j) o [])) (sym some)
          (left (site (Some j) (Some k) n (kind_at (Some j) port.kind i.kind)) (sites_of_ports d.types (Some j) c.ports) (variables_of j (length c.behavior.variables))
          (ports_in d.types (Some j) c.ports k port i n h has lt))))

      by : (o : Option Instance) → slice_get f.instances j ≡ o → slice_get (option_map_or (λ (y : Component). y.ports) (option_and_then (λ (y : Instance). slice_get d.components y.component) o) []) k ≡ Some port
          → Among (site (Some j) (Some k) n (kind_at (Some j) port.kind i.kind)) (from 0 (sites_of_instance d) f.instances)
      by None is h = cc
      by (Some x) is h = by_component x is (slice_get d.components x.component) refl h

  -- ---- no two sites have one key

  apart_component : (i : ℕ) (o : Option Component) → Apart key_of (option_map_or (sites_of_component d.types i) o [])
  apart_component i None = tt
  apart_component i (Some c) = apart_append key_of (sites_of_ports d.types (Some i) c.ports) (variables_of i (length c.behavior.variables)) (apart_ports d.types (Some i) c.ports)
      (apart_positions key_of (λ n. site (Some i) None n Variable) (λ m n same. ap (λ z. z.2) same) 0 (length c.behavior.variables)) differ
    where
      differ : (x y : Site) → Among x (sites_of_ports d.types (Some i) c.ports) → Among y (variables_of i (length c.behavior.variables)) → key_of x ≡ key_of y → ⊥
      differ x y h g same =
          let p = in_ports d.types (Some i) c.ports x h in
          let q = in_variables i (length c.behavior.variables) y g in
          let a : x.port ≡ Some p.k = ap (λ z. z.port) p.is in
          let b : y.port ≡ None = ap (λ z. z.port) q.2 in
          let e : x.port ≡ y.port = ap (λ z. z.1) same in
          cc

  owner_is : (i : ℕ) (x : Instance) (s : Site) → Among s (sites_of_instance d i x) → s.owner ≡ Some i
  owner_is i x s among = by (slice_get d.components x.component) among
    where
      by : (o : Option Component) → Among s (option_map_or (sites_of_component d.types i) o []) → s.owner ≡ Some i
      by None h = absurd h
      by (Some c) h = ⊎_elim (λ l. let p = in_ports d.types (Some i) c.ports s l in ap (λ z. z.owner) p.is) (λ r. let q = in_variables i (length c.behavior.variables) s r in ap (λ z. z.owner) q.2)
          (cases s (sites_of_ports d.types (Some i) c.ports) (variables_of i (length c.behavior.variables)) h)

  pub sites_apart : Apart key_of (sites d f)
  sites_apart = apart_append key_of (from 0 (sites_of_instance d) f.instances) (sites_of_ports d.types None (root_ports d))
      (apart_from key_of (sites_of_instance d) (λ i s. s.owner ≡ Some i) owner_is tells (λ i x. apart_component i (slice_get d.components x.component)) 0 f.instances)
      (apart_ports d.types None (root_ports d)) differ
    where
      tells : (m n : ℕ) (x y : Site) → x.owner ≡ Some m → y.owner ≡ Some n → key_of x ≡ key_of y → m ≡ n
      tells m n x y a b same = let e : x.owner ≡ y.owner = ap (λ z. z.0) same in cc

      differ : (x y : Site) → Among x (from 0 (sites_of_instance d) f.instances) → Among y (sites_of_ports d.types None (root_ports d)) → key_of x ≡ key_of y → ⊥
      differ x y h g same =
          let p = out_from (sites_of_instance d) 0 f.instances x h in
          let a : x.owner ≡ Some (0 + p.0) = owner_is (0 + p.0) p.1 x p.3 in
          let q = in_ports d.types None (root_ports d) y g in
          let b : y.owner ≡ None = ap (λ z. z.owner) q.is in
          let e : x.owner ≡ y.owner = ap (λ z. z.0) same in
          cc
