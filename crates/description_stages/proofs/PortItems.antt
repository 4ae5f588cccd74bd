-- What a component declares, as the lists have it, and its ports and their items by the positions that the reading has.
use Rattle.std.proofs.Common.{◌≡◌, ℕ, List, [], map, length, Bool, true, ltb, codes, Option, Some, None, refl, sym, ap, subst, ◌∙◌, ◌⊎◌, inl, inr}
use Rattle.bus_semantics.specs.Common.{slice_get, slice_index_or, option_map, option_map_or, unwrap_or, false≢true, get_or_from_slice_get, none-some, same_Some, slice_get-map}
use Rattle.serde_json.specs.Data.{Data, null, array, Items}
use Rattle.serde_json.specs.Find.{get, get_item}
use Rattle.description_places.specs.declared.catalogs.ComponentLists.{ComponentLists}
use Rattle.description_places.specs.declared.catalogs.TypeNumber.TheVariants as of
use Rattle.declared_names.specs.declared.scopes.InterfaceNames.{InterfaceNames}
use Rattle.description_places.specs.Catalogs.{behavior_lists, catalog_of, component_lists, port_lists}
use Rattle.declared_names.specs.Components.{component_names, interface_of_port, item_in, position_beyond}
use Rattle.declared_names.specs.Names.{has_among, has_at, has_name, position_among, position_at, position_in, short_names}
use Rattle.declared_names.specs.Scopes.{interface_names, type_names}
use Rattle.declared_names.specs.Values.{items_at, text_at}
use Rattle.description_shapes.specs.declared.kind.Kind.TheVariants as of_kind
use Rattle.description_shapes.specs.declared.kind.Kind.TheVariants.{Description}
use Rattle.description_places.specs.Around.{type_around}
use Rattle.description_places.specs.Distinct.{stands_before}
use Rattle.description_shapes.specs.Keys.{optional}
use Rattle.description_places.specs.Owners.{component_of}
use Rattle.description_places.specs.References.{type_has}
use Rattle.description_shapes.specs.Shape.{holds}
use Rattle.description_shapes.specs.Spots.{Spot, Level, top, inside, inside_part}
use Rattle.plan_definitions.specs.Common.{TypeTable, Port, items_at as item_number, items_of_port}
use Rattle.component_model.specs.Ports.{port_reading}
use Rattle.component_model.specs.Types.{types_reading}
use Rattle.description_stages.proofs.Kept.{Kept, kept_part}
use Rattle.description_stages.proofs.Naming.{ByPlace}
use Rattle.description_stages.proofs.Ports.{item_below, port_interface}
use Rattle.description_stages.proofs.Positions.{in_list, InList, items_there, listed_at, low, made_at, nth_position}
use Rattle.description_stages.proofs.Shorts.{optional_value, Value}

-- ---- what a component declares

module _ (d : Data) (i : ℕ) (c : Data) (cs : Items) (here : get_item i cs ≡ Some c) (components : get (codes "components") d ≡ Some (array cs)) where
  abbrev interface_list : List (List ℕ)
  interface_list = short_names (items_at (codes "interfaces") d)

  component_there : slice_get (catalog_of d).prototypes.in_components i ≡ Some (component_lists interface_list c)
  component_there = made_at (component_lists interface_list) (codes "components") d cs i c components here

  -- a port of the component around
  pub port_owned : (name : List ℕ) (around : List Level) → type_around around ≡ Some (of.Component i) → type_has (catalog_of d) name (type_around around) ≡ true → has_name (short_names (items_at (codes "ports") c)) name ≡ true
  port_owned name around home h = sym (ap (type_has (catalog_of d) name) home ∙ ap (holds (λ (l : ComponentLists). has_name l.ports.names name)) component_there) ∙ h

  -- where one of its ports stands
  pub ports_by_place : (ps : Items) → get (codes "ports") c ≡ Some (array ps)
      → ByPlace (catalog_of d) of_kind.Ports of_kind.Port (inside (inside_part (inside top Description d (codes "components")) of_kind.Components (array cs) i) of_kind.Component c (codes "ports")) ps
  ports_by_place ps there j y is =
      ap (holds (λ (l : ComponentLists). stands_before l.ports.names (text_at (codes "shortName") y) j)) component_there
      ∙ ap (λ xs. stands_before (map (text_at (codes "shortName")) xs) (text_at (codes "shortName") y) j) (items_there (codes "ports") c ps there)

  module _ (b : Data) (behavior : get (codes "behavior") c ≡ Some b) where
    abbrev pub lists_with : ComponentLists
    lists_with = record { ports = port_lists interface_list c; behavior = behavior_lists b }

    pub lists_there : slice_get (catalog_of d).prototypes.in_components i ≡ Some lists_with
    lists_there = component_there ∙ ap (λ o. Some (record { ports = port_lists interface_list c; behavior = behavior_lists (unwrap_or o null) })) behavior

    pub owned_is : (test : ComponentLists → Bool) (around : List Level) → type_around around ≡ Some (of.Component i) → holds test (component_of (catalog_of d) (type_around around)) ≡ test lists_with
    owned_is test around home =
        ap (λ t. holds test (component_of (catalog_of d) t)) home ∙ ap (holds test) lists_there

    pub owned : (test : ComponentLists → Bool) (around : List Level) → type_around around ≡ Some (of.Component i) → holds test (component_of (catalog_of d) (type_around around)) ≡ true → test lists_with ≡ true
    owned test around home h = sym (owned_is test around home) ∙ h

-- ---- ports and their items

module _ (d c : Data) where
  abbrev table : TypeTable
  table = types_reading (type_names d) d

  abbrev scope : InterfaceNames
  scope = interface_names (type_names d).mode_groups d

  abbrev ports : List Data
  ports = items_at (codes "ports") c

  -- the port has a position
  pub port_low : (name : List ℕ) → has_name (short_names ports) name ≡ true → ltb (position_in (short_names ports) name) (length (map (port_reading scope) ports)) ≡ true
  port_low name h = low (text_at (codes "shortName")) (port_reading scope) ports name h

  -- an item of the port has a position among its items
  of_port : (o : Option Data) (item : List ℕ) → holds (λ n. has_at scope.items n item) (option_map (interface_of_port scope) o) ≡ true
      → ltb (position_beyond scope.items (option_map (interface_of_port scope) o) item) (option_map_or (λ (q : Port). item_number table q.interface) (option_map (port_reading scope) o) 0) ≡ true
  of_port None item h = absurd (false≢true h)
  of_port (Some x) item h = item_below d (interface_of_port scope x) item h

  abbrev pub HasItem : (name item : List ℕ) → Type 0
  HasItem name item = holds (λ n. has_at scope.items n item) (slice_get (map (interface_of_port scope) ports) (position_in (short_names ports) name)) ≡ true

  pub item_low : (b : Data) (name item : List ℕ) → HasItem name item
      → ltb (item_in scope (component_names scope c b) (position_in (short_names ports) name) item) (items_of_port table (map (port_reading scope) ports) (position_in (short_names ports) name)) ≡ true
  item_low b name item h =
      let n = position_in (short_names ports) name in
      ap (λ o. ltb (position_beyond scope.items o item) (items_of_port table (map (port_reading scope) ports) n)) (slice_get-map (interface_of_port scope) ports n)
      ∙ ap (λ o. ltb (position_beyond scope.items (option_map (interface_of_port scope) (slice_get ports n)) item) (option_map_or (λ (q : Port). item_number table q.interface) o 0)) (slice_get-map (port_reading scope) ports n)
      ∙ of_port (slice_get ports n) item (sym (ap (holds (λ n. has_at scope.items n item)) (slice_get-map (interface_of_port scope) ports n)) ∙ h)

  -- what the positions of a port and an item stand for
  abbrev pub item_text_at : (port item : ℕ) → List ℕ
  item_text_at port item = slice_index_or (slice_index_or scope.items (slice_index_or (map (interface_of_port scope) ports) port 0) []) item []

  in_names : (o : Option (List (List ℕ))) (ns : List (List ℕ)) (item : List ℕ) → ((ms : List (List ℕ)) → o ≡ Some ms → ns ≡ ms) → has_among o item ≡ true
      → slice_index_or ns (position_among o item) [] ≡ item
  in_names None ns item some h = absurd (false≢true h)
  in_names (Some ms) ns item some h = ap (λ ks. slice_index_or ks (position_in ms item) []) (some ms refl) ∙ nth_position ms item h

  at_interface : (o : Option ℕ) (port : ℕ) (item : List ℕ) → slice_get (map (interface_of_port scope) ports) port ≡ o → holds (λ n. has_at scope.items n item) o ≡ true
      → slice_index_or (slice_index_or scope.items (slice_index_or (map (interface_of_port scope) ports) port 0) []) (position_beyond scope.items o item) [] ≡ item
  at_interface None port item there h = absurd (false≢true h)
  at_interface (Some n) port item there h =
      ap (λ m. slice_index_or (slice_index_or scope.items m []) (position_at scope.items n item) []) (get_or_from_slice_get (map (interface_of_port scope) ports) port n 0 there)
      ∙ in_names (slice_get scope.items n) (slice_index_or scope.items n []) item (λ ms e. get_or_from_slice_get scope.items n ms [] e) h

  pub item_text : (b : Data) (name item : List ℕ) → HasItem name item
      → item_text_at (position_in (short_names ports) name) (item_in scope (component_names scope c b) (position_in (short_names ports) name) item) ≡ item
  item_text b name item h = at_interface (slice_get (map (interface_of_port scope) ports) (position_in (short_names ports) name)) (position_in (short_names ports) name) item refl h

-- ---- the port of a name, as it is kept

module _ (d : Data) (kept : Kept (catalog_of d) d Description top) (i : ℕ) (c : Data) (cs : Items)
    (kept_c : Kept (catalog_of d) c of_kind.Component (inside_part (inside top Description d (codes "components")) of_kind.Components (array cs) i)) where
  abbrev spot : Spot
  spot = inside_part (inside top Description d (codes "components")) of_kind.Components (array cs) i

  pub record PortAt (name : List ℕ) : Type 0 where
    pub value : Data
    pub there : slice_get (items_at (codes "ports") c) (position_in (short_names (items_at (codes "ports") c)) name) ≡ Some value
    pub interface : has_name (short_names (items_at (codes "interfaces") d)) (text_at (codes "interface") value) ≡ true

  pub port_at : (name : List ℕ) → has_name (short_names (items_at (codes "ports") c)) name ≡ true → PortAt name
  port_at name h = from_list (in_list (text_at (codes "shortName")) (codes "ports") c name h)
    where
      from_list : InList (text_at (codes "shortName")) (codes "ports") c name → PortAt name
      from_list o = from_value (optional_value (catalog_of d) c of_kind.Component spot 1 (optional "ports" of_kind.Ports) refl refl kept_c)
        where
          n : ℕ
          n = position_in (short_names (items_at (codes "ports") c)) name

          at_n : get_item n o.items ≡ Some o.found.value
          at_n = ap (λ xs. get_item (position_in (short_names xs) name) o.items) (items_there (codes "ports") c o.items o.there) ∙ o.found.there

          from_kept : Kept (catalog_of d) (array o.items) of_kind.Ports (inside spot of_kind.Component c (codes "ports")) → PortAt name
          from_kept kept_ps = record {
            value = o.found.value;
            there = ap (λ xs. slice_get xs n) (items_there (codes "ports") c o.items o.there) ∙ listed_at o.items n ∙ at_n;
            interface = port_interface d kept o.found.value (inside_part (inside spot of_kind.Component c (codes "ports")) of_kind.Ports (array o.items) n)
                (kept_part (catalog_of d) o.items of_kind.Ports (inside spot of_kind.Component c (codes "ports")) n o.found.value kept_ps at_n);
          }

          from_value : (get (codes "ports") c ≡ None) ⊎ Value (catalog_of d) c of_kind.Component spot (optional "ports" of_kind.Ports) → PortAt name
          from_value (inl e) = absurd (none-some (array o.items) (sym e ∙ o.there))
          from_value (inr v) = from_kept (subst (λ y. Kept (catalog_of d) y of_kind.Ports (inside spot of_kind.Component c (codes "ports"))) (same_Some v.value (array o.items) (sym v.there ∙ o.there)) v.kept)
