-- What a description that is well formed keeps at the ports and variables of instances and of the environment.
use Rattle.std.proofs.Common.{◌≡◌, ℕ, List, [], length, map, true, ◌&&◌, nat_eq, nat_lt, Option, Some, None, option_map, option_and_then, refl, sym, ap, ◌∙◌, slice_get}
use Rattle.bus_semantics.specs.Common.{and_parts, eqb-true, ltb-true, find, list_all, option_map_or, is_in}
use Rattle.plan_definitions.specs.Common.{DataType, ComSpec, Interface, ModeGroup, Component, Port, Variable, Composition, Description, Flat, Instance, component_of, com_spec_of}
use Rattle.plan_definitions.specs.Common.{interface_of, port_of, queue_length_of, IsWellFormed, com_spec_fits, component_fits, composition_fits, group_fits, kind_fits, names_fit, port_fits}
use Rattle.plan_definitions.specs.Common.{ports_fit, type_fits, variable_fits}
use Rattle.plan_definitions.proofs.Lists.{all_at, at, found, there}

module _ (d : Description) (w : IsWellFormed d) where
  type_keeps : (n : ℕ) (t : DataType) → slice_get d.types.data_types n ≡ Some t → type_fits t ≡ true
  type_keeps n t is = all_at type_fits d.types.data_types (and_parts (list_all type_fits d.types.data_types) (list_all group_fits d.types.mode_groups && list_all (λ (i : Interface). kind_fits d.types i.kind) d.types.interfaces) w.types).0 t (at d.types.data_types n t is)

  -- a type at a position below the number of types
  pub some_type : (n : ℕ) → nat_lt n (length d.types.data_types) ≡ true → (t : DataType) × (slice_get d.types.data_types n ≡ Some t) × (type_fits t ≡ true)
  some_type n lt = let p = there d.types.data_types n (ltb-true n (length d.types.data_types) lt) in (p.0, p.1, type_keeps n p.0 p.1)

  pub some_group : (n : ℕ) → nat_lt n (length d.types.mode_groups) ≡ true → (g : ModeGroup) × (slice_get d.types.mode_groups n ≡ Some g) × (group_fits g ≡ true)
  some_group n lt =
      let p = there d.types.mode_groups n (ltb-true n (length d.types.mode_groups) lt) in
      let later = and_parts (list_all type_fits d.types.data_types) (list_all group_fits d.types.mode_groups && list_all (λ (i : Interface). kind_fits d.types i.kind) d.types.interfaces) w.types in
      let groups = and_parts (list_all group_fits d.types.mode_groups) (list_all (λ (i : Interface). kind_fits d.types i.kind) d.types.interfaces) later.1 in
      (p.0, p.1, all_at group_fits d.types.mode_groups groups.0 p.0 (at d.types.mode_groups n p.0 p.1))

  ports_keep : (ps : List Port) → ports_fit d.types ps ≡ true → (k : ℕ) (port : Port) → slice_get ps k ≡ Some port → port_fits d.types port ≡ true
  ports_keep ps fit k port is = all_at (port_fits d.types) ps (and_parts (names_fit (map (λ (p : Port). p.short_name) ps)) (list_all (port_fits d.types) ps) fit).1 port (at ps k port is)

  module _ (c : Component) (fits : component_fits d.types c ≡ true) where
    component_ports : ports_fit d.types c.ports ≡ true
    component_ports = (and_parts (ports_fit d.types c.ports) _ fits).0

    pub variables_keep : list_all (variable_fits d.types) c.behavior.variables ≡ true
    variables_keep = (and_parts (list_all (variable_fits d.types) c.behavior.variables) _ (and_parts (names_fit (map (λ (v : Variable). v.short_name) c.behavior.variables)) _ (and_parts (names_fit c.behavior.exclusive_areas) _ (and_parts (ports_fit d.types c.ports) _ fits).1).1).1).0

  module _ (f : Flat) where
    pub component_keeps : (i : ℕ) (c : Component) → component_of d f i ≡ Some c → component_fits d.types c ≡ true
    component_keeps i c is = by (slice_get f.instances i) is
      where
        by : (o : Option Instance) → option_and_then (λ (x : Instance). slice_get d.components x.component) o ≡ Some c → component_fits d.types c ≡ true
        by None h = cc
        by (Some x) h = all_at (component_fits d.types) d.components w.components c (at d.components x.component c h)

    pub port_keeps : (owner : Option ℕ) (k : ℕ) (port : Port) → port_of d f owner k ≡ Some port → port_fits d.types port ≡ true
    port_keeps None k port is = by (slice_get d.compositions d.root) refl is
      where
        by : (o : Option Composition) → slice_get d.compositions d.root ≡ o → slice_get (option_map_or (λ (c : Composition). c.ports) o []) k ≡ Some port → port_fits d.types port ≡ true
        by None there h = cc
        by (Some c) there h =
            let fits = all_at (composition_fits d) d.compositions w.compositions c (at d.compositions d.root c there) in
            ports_keep c.ports (and_parts (ports_fit d.types c.ports) _ fits).0 k port h
    port_keeps (Some i) k port is = by (component_of d f i) refl is
      where
        by : (o : Option Component) → component_of d f i ≡ o → slice_get (option_map_or (λ (c : Component). c.ports) o []) k ≡ Some port → port_fits d.types port ≡ true
        by None there h = cc
        by (Some c) there h = ports_keep c.ports (component_ports c (component_keeps i c there)) k port h

    -- what a port says of an item fits
    pub com_spec_keeps : (owner : Option ℕ) (k item : ℕ) (port : Port) (s : ComSpec) → port_of d f owner k ≡ Some port → com_spec_of d f owner k item ≡ Some s → (com_spec_fits d.types port.interface s ≡ true) × (s.element ≡ item)
    com_spec_keeps owner k item port s there is =
        let h : find (λ (x : ComSpec). nat_eq x.element item) port.com_specs ≡ Some s = sym (ap (λ o. option_and_then (λ (p : Port). find (λ (x : ComSpec). nat_eq x.element item) p.com_specs) o) there) ∙ is in
        let p = found (λ (x : ComSpec). nat_eq x.element item) port.com_specs s h in
        let fits = and_parts (nat_lt port.interface (length d.types.interfaces)) (list_all (com_spec_fits d.types port.interface) port.com_specs) (port_keeps owner k port there) in
        (all_at (com_spec_fits d.types port.interface) port.com_specs fits.1 s p.0, eqb-true s.element item p.1)

    pub queue_keeps : (owner : Option ℕ) (k item : ℕ) (port : Port) → port_of d f owner k ≡ Some port → is_in 1 1024 (queue_length_of d f owner k item) ≡ true
    queue_keeps owner k item port there = by (com_spec_of d f owner k item) refl
      where
        by : (o : Option ComSpec) → com_spec_of d f owner k item ≡ o → is_in 1 1024 (option_map_or (λ (s : ComSpec). s.queue_length) o 1) ≡ true
        by None is = refl
        by (Some s) is = let p = com_spec_keeps owner k item port s there is in (and_parts (is_in 1 1024 s.queue_length) _ (and_parts (nat_lt s.element _) _ p.0).1).0

    pub interface_is : (owner : Option ℕ) (k : ℕ) (port : Port) (i : Interface) → port_of d f owner k ≡ Some port → slice_get d.types.interfaces port.interface ≡ Some i → interface_of d f owner k ≡ Some i.kind
    interface_is owner k port i there has = ap (option_map (λ (x : Interface). x.kind)) (ap (λ o. option_and_then (λ (p : Port). slice_get d.types.interfaces p.interface) o) there ∙ has)
