-- The sites of a description: items of ports, and variables.
use Rattle.std.proofs.Common.{◌≡◌, ℕ, ◌<◌, List, [], length, slice_get, Option, Some, None, option_map, option_and_then, ◌⊎◌, inl, inr, ⊎_elim, refl, sym, ap, subst, ◌∙◌, arith}
use Rattle.std.specs.Option.{option_map_or}
use Rattle.plan_definitions.specs.Common.{Interface, Component, Port, Description, Flat, Instance, Among, positions, from, component_of, kind_at, count_at, site, sites_with, sites_at}
use Rattle.plan_definitions.specs.Common.{sites_of_ports, variables_of, sites_of_component, sites_of_instance, root_ports, sites, ports_of}
use Rattle.plan_definitions.specs.declared.site.Site.{Site}
use Rattle.plan_definitions.specs.declared.site.SiteKind.{SiteKind}
use Rattle.plan_definitions.specs.declared.site.SiteKind.TheVariants.{Variable}
use Rattle.plan_definitions.proofs.Lists.{cases, left, right}
use Rattle.sound_plans.proofs.Lists.{mapped, map_has, pieces, in_pieces, position_in, in_positions}

-- an interface of a port of an owner, an instance or the environment
pub record PortAt (d : Description) (f : Flat) (owner : Option ℕ) (k : ℕ) : Type 0 where
  pub port : Port
  pub interface : Interface
  pub at_port : slice_get (ports_of d f owner) k ≡ Some port
  pub at_interface : slice_get d.types.interfaces port.interface ≡ Some interface

-- a component of an instance
pub record ComponentAt (d : Description) (f : Flat) (i : ℕ) : Type 0 where
  pub instance : Instance
  pub component : Component
  pub at_instance : slice_get f.instances i ≡ Some instance
  pub at_component : slice_get d.components instance.component ≡ Some component

pub component_is : (d : Description) (f : Flat) (i : ℕ) (at : ComponentAt d f i) → component_of d f i ≡ Some at.component
component_is d f i at = ap (option_and_then (λ (x : Instance). slice_get d.components x.component)) at.at_instance ∙ at.at_component

pub ports_are : (d : Description) (f : Flat) (i : ℕ) (at : ComponentAt d f i) → ports_of d f (Some i) ≡ at.component.ports
ports_are d f i at = ap (λ o. option_map_or (λ (c : Component). c.ports) o []) (component_is d f i at)

-- what an item of a port is
pub record ItemAt (d : Description) (f : Flat) (s : Site) : Type 0 where
  pub k : ℕ
  pub here : PortAt d f s.owner k
  pub is_port : s.port ≡ Some k
  pub below : s.item < count_at s.owner here.port.kind here.interface.kind
  pub is_kind : s.kind ≡ kind_at s.owner here.port.kind here.interface.kind

pub record VariableAt (d : Description) (f : Flat) (s : Site) : Type 0 where
  pub i : ℕ
  pub here : ComponentAt d f i
  pub is_owner : s.owner ≡ Some i
  pub no_port : s.port ≡ None
  pub below : s.item < length here.component.behavior.variables
  pub is_kind : s.kind ≡ Variable

module _ (d : Description) (f : Flat) where
  -- a site of a port of an owner whose ports are these
  pub port_item : (owner : Option ℕ) (ports : List Port) (s : Site) → ports_of d f owner ≡ ports → Among s (sites_of_ports d.types owner ports) → (s.owner ≡ owner) × ItemAt d f s
  port_item owner ports s are h = by (slice_get d.types.interfaces p.1.interface) refl p.3
    where
      p : (k : ℕ) × (port : Port) × (slice_get ports k ≡ Some port) × Among s (sites_at d.types owner k port)
      p = pieces (sites_at d.types owner) ports s h

      by : (o : Option Interface) → slice_get d.types.interfaces p.1.interface ≡ o
          → Among s (option_map_or (λ (x : SiteKind × ℕ). sites_with owner p.0 x.0 x.1) (option_map (λ (i : Interface). (kind_at owner p.1.kind i.kind, count_at owner p.1.kind i.kind)) (slice_get d.types.interfaces p.1.interface)) [])
          → (s.owner ≡ owner) × ItemAt d f s
      by None none among = absurd (subst (λ (o : Option Interface). Among s (option_map_or (λ (x : SiteKind × ℕ). sites_with owner p.0 x.0 x.1) (option_map (λ (i : Interface). (kind_at owner p.1.kind i.kind, count_at owner p.1.kind i.kind)) o) [])) none among)
      by (Some i) some among =
          let listed = subst (λ (o : Option Interface). Among s (option_map_or (λ (x : SiteKind × ℕ). sites_with owner p.0 x.0 x.1) (option_map (λ (i : Interface). (kind_at owner p.1.kind i.kind, count_at owner p.1.kind i.kind)) o) [])) some among in
          let m = mapped (λ n. site owner (Some p.0) n (kind_at owner p.1.kind i.kind)) s (positions 0 (count_at owner p.1.kind i.kind)) listed in
          let e = m.2 in
          let owned : s.owner ≡ owner = ap (λ (s : Site). s.owner) e in
          let item : s.item ≡ m.0 = ap (λ (s : Site). s.item) e in
          let bound = (position_in m.0 0 (count_at owner p.1.kind i.kind) m.1).1 in
          let low : s.item < count_at owner p.1.kind i.kind = omega (arith, bound, item) in (
            owned,
            record {
              k = p.0;
              here = record { port = p.1; interface = i; at_port = ap (λ o. slice_get (ports_of d f o) p.0) owned ∙ ap (λ l. slice_get l p.0) are ∙ p.2; at_interface = some };
              is_port = ap (λ (s : Site). s.port) e;
              below = subst (λ o. s.item < count_at o p.1.kind i.kind) (sym owned) low;
              is_kind = ap (λ (s : Site). s.kind) e ∙ ap (λ o. kind_at o p.1.kind i.kind) (sym owned);
            },
          )

  pub variable_item : (i : ℕ) (at : ComponentAt d f i) (s : Site) → Among s (variables_of i (length at.component.behavior.variables)) → VariableAt d f s
  variable_item i at s h =
      let m = mapped (λ n. site (Some i) None n Variable) s (positions 0 (length at.component.behavior.variables)) h in
      let e = m.2 in
      let item : s.item ≡ m.0 = ap (λ (s : Site). s.item) e in
      let bound = (position_in m.0 0 (length at.component.behavior.variables) m.1).1 in
      record {
        i = i;
        here = at;
        is_owner = ap (λ (s : Site). s.owner) e;
        no_port = ap (λ (s : Site). s.port) e;
        below = omega (arith, bound, item);
        is_kind = ap (λ (s : Site). s.kind) e;
      }

  -- those of an instance
  pub of_instance : (i : ℕ) (x : Instance) (s : Site) → slice_get f.instances i ≡ Some x → Among s (sites_of_instance d i x) → (s.owner ≡ Some i) × (ItemAt d f s ⊎ VariableAt d f s)
  of_instance i x s at h = by (slice_get d.components x.component) refl h
    where
      by : (o : Option Component) → slice_get d.components x.component ≡ o → Among s (option_map_or (sites_of_component d.types i) (slice_get d.components x.component) []) → (s.owner ≡ Some i) × (ItemAt d f s ⊎ VariableAt d f s)
      by None none among = absurd (subst (λ o. Among s (option_map_or (sites_of_component d.types i) o [])) none among)
      by (Some c) some among =
          let here : ComponentAt d f i = record { instance = x; component = c; at_instance = at; at_component = some } in
          let listed = subst (λ o. Among s (option_map_or (sites_of_component d.types i) o [])) some among in
          ⊎_elim
          (λ l. let r = port_item (Some i) c.ports s (ports_are d f i here) l in (r.0, inl r.1))
          (λ r. let v = variable_item i here s r in (ap (λ (s : Site). s.owner) (mapped (λ n. site (Some i) None n Variable) s (positions 0 (length c.behavior.variables)) r).2, inr v))
          (cases s (sites_of_ports d.types (Some i) c.ports) (variables_of i (length c.behavior.variables)) listed)

  pub site_is : (s : Site) → Among s (sites d f) → ItemAt d f s ⊎ VariableAt d f s
  site_is s h = ⊎_elim
      (λ l. let p = pieces (sites_of_instance d) f.instances s l in (of_instance p.0 p.1 s p.2 p.3).1)
      (λ r. inl (port_item None (root_ports d) s refl r).1)
      (cases s (from 0 (sites_of_instance d) f.instances) (sites_of_ports d.types None (root_ports d)) h)

  -- ---- and each of these is a site

  in_ports : (owner : Option ℕ) (ports : List Port) (k n : ℕ) (port : Port) (i : Interface) → slice_get ports k ≡ Some port → slice_get d.types.interfaces port.interface ≡ Some i → n < count_at owner port.kind i.kind
      → Among (site owner (Some k) n (kind_at owner port.kind i.kind)) (sites_of_ports d.types owner ports)
  in_ports owner ports k n port i at some below =
      in_pieces (sites_at d.types owner) ports k port (site owner (Some k) n (kind_at owner port.kind i.kind)) at
      (subst (λ (o : Option Interface). Among (site owner (Some k) n (kind_at owner port.kind i.kind)) (option_map_or (λ (x : SiteKind × ℕ). sites_with owner k x.0 x.1) (option_map (λ (i : Interface). (kind_at owner port.kind i.kind, count_at owner port.kind i.kind)) o) [])) (sym some)
      (map_has (λ n. site owner (Some k) n (kind_at owner port.kind i.kind)) n (positions 0 (count_at owner port.kind i.kind)) (in_positions n 0 (count_at owner port.kind i.kind) (omega arith) (omega arith))))

  pub root_has : (k n : ℕ) (here : PortAt d f None k) → n < count_at None here.port.kind here.interface.kind → Among (site None (Some k) n (kind_at None here.port.kind here.interface.kind)) (sites d f)
  root_has k n here below =
      right (site None (Some k) n (kind_at None here.port.kind here.interface.kind)) (from 0 (sites_of_instance d) f.instances) (sites_of_ports d.types None (root_ports d))
      (in_ports None (root_ports d) k n here.port here.interface here.at_port here.at_interface below)

  pub instance_has : (i k n : ℕ) (at : ComponentAt d f i) (here : PortAt d f (Some i) k) → n < count_at (Some i) here.port.kind here.interface.kind → Among (site (Some i) (Some k) n (kind_at (Some i) here.port.kind here.interface.kind)) (sites d f)
  instance_has i k n at here below =
      let it = site (Some i) (Some k) n (kind_at (Some i) here.port.kind here.interface.kind) in
      let listed = in_ports (Some i) at.component.ports k n here.port here.interface (ap (λ l. slice_get l k) (sym (ports_are d f i at)) ∙ here.at_port) here.at_interface below in
      left it (from 0 (sites_of_instance d) f.instances) (sites_of_ports d.types None (root_ports d))
      (in_pieces (sites_of_instance d) f.instances i at.instance it at.at_instance
      (subst (λ o. Among it (option_map_or (sites_of_component d.types i) o [])) (sym at.at_component)
      (left it (sites_of_ports d.types (Some i) at.component.ports) (variables_of i (length at.component.behavior.variables)) listed)))
