-- What a plan numbers, and what ports say, where programs are held elsewhere.
use Rattle.std.proofs.Common.{◌≡◌, ℕ, List, [], ◌++◌, map, filter, length, codes, nat_eq, slice_get, Bool, Option, Some, None, option_map, option_and_then, refl, ap}
use Rattle.bus_semantics.specs.Common.{find, option_map_or}
use Rattle.plan_definitions.specs.Common.{Component, Description, Flat, Instance, end_at, provider_of, Key, end_key, is_element, is_machine, is_mode_port, is_server, keys_of, number_in}
use Rattle.plan_definitions.specs.Common.{of_kind, from, areas_of, component_of, events_of, numbered, of_instances, runnables_of, root_ports, sites, sites_of_component, sites_of_ports}
use Rattle.plan_definitions.specs.Common.{com_spec_of, interface_of, item_name, item_text, port_of, ports_of, queue_length_of, site_name, variable_name, element_number, has_machine}
use Rattle.plan_definitions.specs.Common.{machine_for, machine_number, mode_port_number, mode_ports_of, server_number}
use Rattle.component_model.specs.Programs.{component_tree, runnable_tree}
use Rattle.plan_definitions.specs.declared.site.Site.{Site}
use Rattle.plan_definitions.specs.declared.site.SiteKind.{SiteKind}
use Rattle.description_stages.proofs.Held.{as_many, at_place, bare, held_as, look, look_on}

module _ (d : Description) (cs : List Component) (same : map component_tree d.components ≡ map component_tree cs) where
  pub found : (k : ℕ) → option_map component_tree (slice_get d.components k) ≡ option_map component_tree (slice_get cs k)
  found k = at_place component_tree d.components cs same k

  pub component_of-again : (f : Flat) (n : ℕ) → option_map component_tree (component_of d f n) ≡ option_map component_tree (component_of (held_as d cs) f n)
  component_of-again f n = by (slice_get f.instances n)
    where
      by : (o : Option Instance) → option_map component_tree (option_and_then (λ x. slice_get d.components x.component) o) ≡ option_map component_tree (option_and_then (λ x. slice_get cs x.component) o)
      by None = refl
      by (Some x) = found x.component

  -- what each instance has
  pub of_instances-again : {X : Type 0} (f : Flat) (g h : ℕ → Component → List X) → ((n : ℕ) (a b : Component) → component_tree a ≡ component_tree b → g n a ≡ h n b) → of_instances g d f ≡ of_instances h (held_as d cs) f
  of_instances-again f g h blind = λ i. from 0 (λ n x. look component_tree (g n) (h n) [] (blind n) (slice_get d.components x.component) (slice_get cs x.component) (found x.component) i) f.instances

  numbered-again : (f : Flat) (count : Component → ℕ) → ((a b : Component) → component_tree a ≡ component_tree b → count a ≡ count b)
      → from 0 (λ n x. numbered n (option_map_or count (slice_get d.components x.component) 0)) f.instances ≡ from 0 (λ n x. numbered n (option_map_or count (slice_get cs x.component) 0)) f.instances
  numbered-again f count blind = λ i. from 0 (λ n x. numbered n (look component_tree count count 0 blind (slice_get d.components x.component) (slice_get cs x.component) (found x.component) i)) f.instances

  pub runnables_of-again : (f : Flat) → runnables_of d f ≡ runnables_of (held_as d cs) f
  runnables_of-again f = numbered-again f (λ c. length c.behavior.runnables) (λ a b e. as_many runnable_tree a.behavior.runnables b.behavior.runnables (ap (λ t. t.behavior.runnables) e))

  pub events_of-again : (f : Flat) → events_of d f ≡ events_of (held_as d cs) f
  events_of-again f = numbered-again f (λ c. length c.behavior.events) (λ a b e. ap (λ t. length t.behavior.events) e)

  pub areas_of-again : (f : Flat) → areas_of d f ≡ areas_of (held_as d cs) f
  areas_of-again f = numbered-again f (λ c. length c.behavior.exclusive_areas) (λ a b e. ap (λ t. length t.behavior.exclusive_areas) e)

  pub sites-again : (f : Flat) → sites d f ≡ sites (held_as d cs) f
  sites-again f = λ i. from 0 (λ n x. look component_tree (sites_of_component d.types n) (sites_of_component d.types n) [] (λ a b e. ap (λ t. sites_of_component d.types n (bare t)) e)
      (slice_get d.components x.component) (slice_get cs x.component) (found x.component) i) f.instances ++ sites_of_ports d.types None (root_ports d)

  -- ---- the numbers of things

  pub of_kind-again : (wanted : SiteKind → Bool) (f : Flat) → of_kind wanted d f ≡ of_kind wanted (held_as d cs) f
  of_kind-again wanted f = ap (filter (λ s. wanted s.kind)) (sites-again f)

  pub mode_ports_of-again : (f : Flat) → mode_ports_of d f ≡ mode_ports_of (held_as d cs) f
  mode_ports_of-again f = ap (filter (has_machine f.joins)) (of_kind-again is_mode_port f)

  pub element_number-again : (f : Flat) (n : ℕ) (port : Option ℕ) (item : ℕ) → element_number d f n port item ≡ element_number (held_as d cs) f n port item
  element_number-again f n port item = ap (λ ss. number_in (keys_of ss) (Some n, port, item)) (of_kind-again is_element f)

  pub server_number-again : (f : Flat) (k : Key) → server_number d f k ≡ server_number (held_as d cs) f k
  server_number-again f k = ap (λ ss. number_in (keys_of ss) k) (of_kind-again is_server f)

  pub machine_number-again : (f : Flat) (k : Key) → machine_number d f k ≡ machine_number (held_as d cs) f k
  machine_number-again f k = ap (λ ss. number_in (keys_of ss) k) (of_kind-again is_machine f)

  pub mode_port_number-again : (f : Flat) (n k : ℕ) → mode_port_number d f n k ≡ mode_port_number (held_as d cs) f n k
  mode_port_number-again f n k = ap (λ ss. number_in (keys_of ss) (Some n, Some k, 0)) (mode_ports_of-again f)

  pub machine_for-again : (f : Flat) (owner : Option ℕ) (k : ℕ) → machine_for d f owner k ≡ machine_for (held_as d cs) f owner k
  machine_for-again f owner k = λ i. option_map_or (λ e. machine_number-again f (end_key e) i) (provider_of f.joins (end_at owner k 0)) 0

  -- ---- ports

  pub ports_of-again : (f : Flat) (owner : Option ℕ) → ports_of d f owner ≡ ports_of (held_as d cs) f owner
  ports_of-again f (Some n) = look component_tree (λ c. c.ports) (λ c. c.ports) [] (λ a b e. ap (λ t. t.ports) e) (component_of d f n) (component_of (held_as d cs) f n) (component_of-again f n)
  ports_of-again f None = refl

  port_of-again : (f : Flat) (owner : Option ℕ) (k : ℕ) → port_of d f owner k ≡ port_of (held_as d cs) f owner k
  port_of-again f owner k = ap (λ ps. slice_get ps k) (ports_of-again f owner)

  pub interface_of-again : (f : Flat) (owner : Option ℕ) (k : ℕ) → interface_of d f owner k ≡ interface_of (held_as d cs) f owner k
  interface_of-again f owner k = ap (λ p. option_map (λ n. n.kind) (option_and_then (λ port. slice_get d.types.interfaces port.interface) p)) (port_of-again f owner k)

  pub com_spec_of-again : (f : Flat) (owner : Option ℕ) (k item : ℕ) → com_spec_of d f owner k item ≡ com_spec_of (held_as d cs) f owner k item
  com_spec_of-again f owner k item = ap (λ p. option_and_then (λ port. find (λ s. nat_eq s.element item) port.com_specs) p) (port_of-again f owner k)

  pub queue_length_of-again : (f : Flat) (owner : Option ℕ) (k item : ℕ) → queue_length_of d f owner k item ≡ queue_length_of (held_as d cs) f owner k item
  queue_length_of-again f owner k item = ap (λ s. option_map_or (λ c. c.queue_length) s 1) (com_spec_of-again f owner k item)

  pub item_text-again : (f : Flat) (owner : Option ℕ) (k item : ℕ) → item_text d f owner k item ≡ item_text (held_as d cs) f owner k item
  item_text-again f owner k item = λ i. (option_map_or (λ port. port.short_name) (port_of-again f owner k i) [] ++ codes ".") ++ option_map_or (λ kind. item_name kind item) (interface_of-again f owner k i) []

  variable_name-again : (f : Flat) (owner : Option ℕ) (n : ℕ) → variable_name d f owner n ≡ variable_name (held_as d cs) f owner n
  variable_name-again f None n = refl
  variable_name-again f (Some k) n = ap (λ v. option_map_or (λ v. v.short_name) v [])
      (look_on component_tree (λ c. slice_get c.behavior.variables n) (λ c. slice_get c.behavior.variables n) (λ a b e. ap (λ t. slice_get t.behavior.variables n) e) (component_of d f k) (component_of (held_as d cs) f k) (component_of-again f k))

  pub site_name-again : (f : Flat) (s : Site) → site_name d f s ≡ site_name (held_as d cs) f s
  site_name-again f s = by s.port
    where
      by : (port : Option ℕ) → site_name d f (record { owner = s.owner; port = port; item = s.item; kind = s.kind }) ≡ site_name (held_as d cs) f (record { owner = s.owner; port = port; item = s.item; kind = s.kind })
      by None = variable_name-again f s.owner s.item
      by (Some k) = item_text-again f s.owner k s.item
