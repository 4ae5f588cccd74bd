-- Who owns what: instances that there are, or the environment.
use Rattle.std.proofs.Common.{◌≡◌, ℕ, ◌<◌, [], length, slice_get, Option, Some, None, ⊎_elim, refl, sym, subst}
use Rattle.bus_semantics.specs.Common.{slice_get_within, option_map_or}
use Rattle.plan_definitions.specs.Common.{Component, Port, Description, Flat, Instance, Among, component_of, sites, ports_of}
use Rattle.plan_definitions.specs.declared.site.Site.{Site}
use Rattle.sound_plans.proofs.Lists.{and_then_some}
use Rattle.sound_plans.proofs.Sites.{PortAt, ComponentAt, ItemAt, VariableAt, site_is}

abbrev pub Owns : Flat → Option ℕ → Type 0
Owns f None = Unit {0}
Owns f (Some i) = i < length f.instances

module _ (d : Description) (f : Flat) where
  with_port : (o : Option Component) (k : ℕ) (port : Port) → slice_get (option_map_or (λ (c : Component). c.ports) o []) k ≡ Some port → (c : Component) × (o ≡ Some c)
  with_port None k port h = cc
  with_port (Some c) k port h = (c, refl)

  -- an owner that has a port is there
  pub component_at : (i k : ℕ) (port : Port) → slice_get (ports_of d f (Some i)) k ≡ Some port → ComponentAt d f i
  component_at i k port h =
      let c = with_port (component_of d f i) k port h in
      let x = and_then_some (λ (x : Instance). slice_get d.components x.component) (slice_get f.instances i) c.0 c.1 in
      record { instance = x.0; component = c.0; at_instance = x.1; at_component = x.2 }

  pub instance_owns : (i : ℕ) → ComponentAt d f i → Owns f (Some i)
  instance_owns i at = slice_get_within f.instances i at.instance at.at_instance

  pub port_owns : (o : Option ℕ) (k : ℕ) → PortAt d f o k → Owns f o
  port_owns None k here = tt
  port_owns (Some i) k here = instance_owns i (component_at i k here.port here.at_port)

  pub site_owns : (s : Site) → Among s (sites d f) → Owns f s.owner
  site_owns s h = ⊎_elim
      (λ (item : ItemAt d f s). port_owns s.owner item.k item.here)
      (λ (v : VariableAt d f s). subst (Owns f) (sym v.is_owner) (instance_owns v.i v.here))
      (site_is d f s h)
