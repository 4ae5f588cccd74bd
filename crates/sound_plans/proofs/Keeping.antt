-- What parts of a well-formed description keep.
use Rattle.std.proofs.Common.{◌≡◌, ℕ, List, [], map, true, slice_get, Option, Some, None, refl}
use Rattle.bus_semantics.specs.Common.{and_parts, list_all, option_map_or, is_name}
use Rattle.plan_definitions.specs.Common.{Interface, TypeTable, Component, Event, Port, Runnable, Variable, Composition, Description, Prototype, Flat, root_ports, component_of, ports_of}
use Rattle.plan_definitions.specs.Common.{distinct, names_fit, type_fits, group_fits, kind_fits, port_fits, ports_fit, variable_fits, runnable_fits, event_fits, serves_fit, component_fits}
use Rattle.plan_definitions.specs.Common.{prototype_fits, composition_fits, IsWellFormed}
use Rattle.plan_definitions.proofs.Lists.{at as get_among}
use Rattle.sound_plans.proofs.Lists.{all_at, and_then_some}

-- a list of names
pub record Names (ns : List (List ℕ)) : Type 0 where
  pub each : list_all is_name ns ≡ true
  pub once : distinct ns ≡ true

pub names_from : (ns : List (List ℕ)) → names_fit ns ≡ true → Names ns
names_from ns h = let p = and_parts (list_all is_name ns) (distinct ns) h in record { each = p.0; once = p.1 }

pub record ComponentKeeps (t : TypeTable) (c : Component) : Type 0 where
  pub ports : ports_fit t c.ports ≡ true
  pub areas : Names c.behavior.exclusive_areas
  pub variable_names : Names (map (λ (v : Variable). v.short_name) c.behavior.variables)
  pub variables : list_all (variable_fits t) c.behavior.variables ≡ true
  pub runnable_names : Names (map (λ (r : Runnable). r.short_name) c.behavior.runnables)
  pub runnables : list_all (runnable_fits t c) c.behavior.runnables ≡ true
  pub event_names : Names (map (λ (e : Event). e.short_name) c.behavior.events)
  pub events : list_all (event_fits t c) c.behavior.events ≡ true
  pub serves : serves_fit t c c.behavior.events [] ≡ true

pub component_keeps : (t : TypeTable) (c : Component) → component_fits t c ≡ true → ComponentKeeps t c
component_keeps t c h =
    let a = and_parts (ports_fit t c.ports) _ h in
    let b = and_parts (names_fit c.behavior.exclusive_areas) _ a.1 in
    let v = and_parts (names_fit (map (λ (v : Variable). v.short_name) c.behavior.variables)) _ b.1 in
    let w = and_parts (list_all (variable_fits t) c.behavior.variables) _ v.1 in
    let r = and_parts (names_fit (map (λ (r : Runnable). r.short_name) c.behavior.runnables)) _ w.1 in
    let s = and_parts (list_all (runnable_fits t c) c.behavior.runnables) _ r.1 in
    let e = and_parts (names_fit (map (λ (e : Event). e.short_name) c.behavior.events)) _ s.1 in
    let g = and_parts (list_all (event_fits t c) c.behavior.events) _ e.1 in
    record {
      ports = a.0;
      areas = names_from c.behavior.exclusive_areas b.0;
      variable_names = names_from (map (λ (v : Variable). v.short_name) c.behavior.variables) v.0;
      variables = w.0;
      runnable_names = names_from (map (λ (r : Runnable). r.short_name) c.behavior.runnables) r.0;
      runnables = s.0;
      event_names = names_from (map (λ (e : Event). e.short_name) c.behavior.events) e.0;
      events = g.0;
      serves = g.1;
    }

pub record CompositionKeeps (d : Description) (c : Composition) : Type 0 where
  pub ports : ports_fit d.types c.ports ≡ true
  pub prototype_names : Names (map (λ (p : Prototype). p.short_name) c.prototypes)
  pub prototypes : list_all (λ (p : Prototype). prototype_fits d p.of_type) c.prototypes ≡ true

pub composition_keeps : (d : Description) (c : Composition) → composition_fits d c ≡ true → CompositionKeeps d c
composition_keeps d c h =
    let a = and_parts (ports_fit d.types c.ports) _ h in
    let b = and_parts (names_fit (map (λ (p : Prototype). p.short_name) c.prototypes)) _ a.1 in
    record { ports = a.0; prototype_names = names_from (map (λ (p : Prototype). p.short_name) c.prototypes) b.0; prototypes = b.1 }

pub record PortsKeep (t : TypeTable) (ps : List Port) : Type 0 where
  pub names : Names (map (λ (p : Port). p.short_name) ps)
  pub each : list_all (port_fits t) ps ≡ true

pub ports_keep : (t : TypeTable) (ps : List Port) → ports_fit t ps ≡ true → PortsKeep t ps
ports_keep t ps h =
    let p = and_parts (names_fit (map (λ (p : Port). p.short_name) ps)) (list_all (port_fits t) ps) h in
    record { names = names_from (map (λ (p : Port). p.short_name) ps) p.0; each = p.1 }

module _ (d : Description) (whole : IsWellFormed d) where
  pub of_component : (k : ℕ) (c : Component) → slice_get d.components k ≡ Some c → ComponentKeeps d.types c
  of_component k c at = component_keeps d.types c (all_at (component_fits d.types) c d.components whole.components (get_among d.components k c at))

  pub of_composition : (k : ℕ) (c : Composition) → slice_get d.compositions k ≡ Some c → CompositionKeeps d c
  of_composition k c at = composition_keeps d c (all_at (composition_fits d) c d.compositions whole.compositions (get_among d.compositions k c at))

  pub of_group : (k : ℕ) (g : _) → slice_get d.types.mode_groups k ≡ Some g → group_fits g ≡ true
  of_group k g at =
      let a = and_parts (list_all type_fits d.types.data_types) _ whole.types in
      let b = and_parts (list_all group_fits d.types.mode_groups) _ a.1 in
      all_at group_fits g d.types.mode_groups b.0 (get_among d.types.mode_groups k g at)

  pub of_interface : (k : ℕ) (i : Interface) → slice_get d.types.interfaces k ≡ Some i → kind_fits d.types i.kind ≡ true
  of_interface k i at =
      let a = and_parts (list_all type_fits d.types.data_types) _ whole.types in
      let b = and_parts (list_all group_fits d.types.mode_groups) _ a.1 in
      all_at (λ (i : Interface). kind_fits d.types i.kind) i d.types.interfaces b.1 (get_among d.types.interfaces k i at)

  of_root : (o : Option Composition) → slice_get d.compositions d.root ≡ o → ports_fit d.types (option_map_or (λ (c : Composition). c.ports) o []) ≡ true
  of_root None at = refl
  of_root (Some c) at = (of_composition d.root c at).ports

  of_some : (o : Option Component) → ((c : Component) → o ≡ Some c → ports_fit d.types c.ports ≡ true) → ports_fit d.types (option_map_or (λ (c : Component). c.ports) o []) ≡ true
  of_some None each = refl
  of_some (Some c) each = each c refl

  -- the ports of each owner
  pub of_ports : (f : Flat) (owner : Option ℕ) → PortsKeep d.types (ports_of d f owner)
  of_ports f None = ports_keep d.types (root_ports d) (of_root (slice_get d.compositions d.root) refl)
  of_ports f (Some i) = ports_keep d.types (ports_of d f (Some i)) (of_some (component_of d f i) (λ c some. let x = and_then_some _ (slice_get f.instances i) c some in (of_component x.0.component c x.2).ports))
