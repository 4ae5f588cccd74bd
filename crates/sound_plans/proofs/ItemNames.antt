-- The names of ports, items and variables are names.
use Rattle.std.proofs.Common.{◌≡◌, ℕ, ◌<◌, List, [], ◌++◌, map, length, slice_get, true, codes, Option, Some, option_map, option_and_then, ap, ◌∙◌}
use Rattle.bus_semantics.specs.Common.{and_parts, option_map_or, is_name, is_pair_name}
use Rattle.plan_definitions.specs.Common.{DataElement, Interface, InterfaceKind, SenderReceiver, ClientServer, ModeSwitch, Operation, TypeTable, Component, Port, Variable, Description, Flat}
use Rattle.plan_definitions.specs.Common.{interface_of, item_name, item_text, port_name, ports_of, site_name, variable_name, item_count, kind_fits, names_fit, IsWellFormed}
use Rattle.plan_definitions.specs.declared.site.Site.{Site}
use Rattle.plan_definitions.proofs.Lists.{at as get_among, there as get_some}
use Rattle.sound_plans.proofs.Keeping.{Names, names_from, of_component, of_interface, of_ports}
use Rattle.sound_plans.proofs.Lists.{all_at, map_has}
use Rattle.sound_plans.proofs.SiteKinds.{item_below}
use Rattle.sound_plans.proofs.Sites.{ItemAt, PortAt, VariableAt, component_is}
use Rattle.sound_plans.proofs.Texts.{pair_fits}

-- the name at a position of a list of named things
module _ {X : Type 0} (name : X → List ℕ) where
  pub name_at : (xs : List X) (k : ℕ) (x : X) → Names (map name xs) → slice_get xs k ≡ Some x → is_name (name x) ≡ true
  name_at xs k x names at = all_at is_name (name x) (map name xs) names.each (map_has name x xs (get_among xs k x at))

  pub names_at : (xs : List X) (k : ℕ) → Names (map name xs) → k < length xs → is_name (option_map_or name (slice_get xs k) []) ≡ true
  names_at xs k names below = let x = get_some xs k below in ap (λ o. is_name (option_map_or name o [])) x.1 ∙ name_at xs k x.0 names x.1

-- the items of an interface that fits
pub item_fits : (t : TypeTable) (k : InterfaceKind) (n : ℕ) → kind_fits t k ≡ true → n < item_count k → is_name (item_name k n) ≡ true
item_fits t (SenderReceiver es) n fits below =
    names_at (λ (e : DataElement). e.short_name) es n (names_from (map (λ (e : DataElement). e.short_name) es) (and_parts (names_fit (map (λ (e : DataElement). e.short_name) es)) _ fits).0) below
item_fits t (ClientServer os) n fits below =
    names_at (λ (o : Operation). o.short_name) os n (names_from (map (λ (o : Operation). o.short_name) os) (and_parts (names_fit (map (λ (o : Operation). o.short_name) os)) _ fits).0) below
item_fits t (ModeSwitch e) n fits below = (and_parts (is_name e.short_name) _ fits).0

module _ (d : Description) (f : Flat) where
  -- the text of an item of a port
  pub text_is : (owner : Option ℕ) (k n : ℕ) (here : PortAt d f owner k) → item_text d f owner k n ≡ (here.port.short_name ++ codes ".") ++ item_name here.interface.kind n
  text_is owner k n here =
      let port : port_name d f owner k ≡ here.port.short_name = ap (λ o. option_map_or (λ (port : Port). port.short_name) o []) here.at_port in
      let interface : interface_of d f owner k ≡ Some here.interface.kind =
      ap (λ o. option_map (λ (i : Interface). i.kind) (option_and_then (λ (port : Port). slice_get d.types.interfaces port.interface) o)) here.at_port
      ∙ ap (option_map (λ (i : Interface). i.kind)) here.at_interface in
      (λ j. (port j ++ codes ".") ++ option_map_or (λ kind. item_name kind n) (interface j) [])

  module _ (whole : IsWellFormed d) where
    pub port_named : (owner : Option ℕ) (k : ℕ) (here : PortAt d f owner k) → is_name here.port.short_name ≡ true
    port_named owner k here = name_at (λ (p : Port). p.short_name) (ports_of d f owner) k here.port (of_ports d whole f owner).names here.at_port

    pub item_named : (owner : Option ℕ) (k n : ℕ) (here : PortAt d f owner k) → n < item_count here.interface.kind → is_name (item_name here.interface.kind n) ≡ true
    item_named owner k n here below = item_fits d.types here.interface.kind n (of_interface d whole here.port.interface here.interface here.at_interface) below

    pub text_fits : (owner : Option ℕ) (k n : ℕ) (here : PortAt d f owner k) → n < item_count here.interface.kind → is_pair_name (item_text d f owner k n) ≡ true
    text_fits owner k n here below =
        ap is_pair_name (text_is owner k n here)
        ∙ pair_fits here.port.short_name (item_name here.interface.kind n) (port_named owner k here) (item_named owner k n here below)

    pub site_text_fits : (s : Site) (item : ItemAt d f s) → is_pair_name (item_text d f s.owner item.k s.item) ≡ true
    site_text_fits s item = text_fits s.owner item.k s.item item.here (item_below s.owner item.here.port.kind item.here.interface.kind s.item item.below)

  -- the name of a site: PORT.ITEM, or that of a variable
  pub item_site_name : (s : Site) (item : ItemAt d f s) → site_name d f s ≡ item_text d f s.owner item.k s.item
  item_site_name s item = ap (λ o. site_name d f (record s { port = o })) item.is_port

  pub variable_site_name : (s : Site) (v : VariableAt d f s) → site_name d f s ≡ option_map_or (λ (x : Variable). x.short_name) (slice_get v.here.component.behavior.variables s.item) []
  variable_site_name s v =
      ap (λ o. site_name d f (record s { port = o })) v.no_port
      ∙ ap (λ o. variable_name d f o s.item) v.is_owner
      ∙ ap (λ o. option_map_or (λ (x : Variable). x.short_name) (option_and_then (λ (c : Component). slice_get c.behavior.variables s.item) o) []) (component_is d f v.i v.here)

  pub variable_fits : (whole : IsWellFormed d) (s : Site) (v : VariableAt d f s) → is_name (site_name d f s) ≡ true
  variable_fits whole s v =
      ap is_name (variable_site_name s v)
      ∙ names_at (λ (x : Variable). x.short_name) v.here.component.behavior.variables s.item (of_component d whole v.here.instance.component v.here.component v.here.at_component).variable_names v.below
