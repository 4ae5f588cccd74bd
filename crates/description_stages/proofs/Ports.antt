-- What the ports of components and compositions keep.
use Rattle.std.proofs.Common.{◌≡◌, ℕ, ◌^◌, List, [], ◌∷◌, map, length, Bool, true, false, ltb, cond, bytes_eq, codes, Option, Some, None, refl, sym, ap, subst, arith, ◌∙◌, ◌⊎◌, inl, inr}
use Rattle.bus_semantics.specs.Common.{list_all, slice_get, option_and_then, option_map, option_map_or, and_from, false≢true, slice_get-map, length-map, is_in}
use mathlib.Core.List.{map-map}
use Rattle.serde_json.specs.Data.{Data, array, Items}
use Rattle.serde_json.specs.Find.{as_number, as_u64, get}
use Rattle.description_shapes.specs.declared.kind.Kind.{Kind}
use Rattle.description_shapes.specs.declared.kind.Kind.TheVariants as of_kind
use Rattle.description_shapes.specs.declared.kind.Kind.TheVariants.{Description}
use Rattle.description_shapes.specs.Alternatives.{resolved}
use Rattle.description_places.specs.declared.catalogs.Catalog.{Catalog}
use Rattle.description_places.specs.Catalogs.{catalog_of}
use Rattle.description_shapes.specs.Forms.{form_of}
use Rattle.description_shapes.specs.Keys.{keys_of, needed, optional}
use Rattle.description_shapes.specs.Shape.{holds, is_within}
use Rattle.description_shapes.specs.Spots.{Spot, top, inside, inside_part}
use Rattle.plan_definitions.specs.Common.{Interface, SenderReceiver, ClientServer, ModeSwitch, TypeTable, Port, keeps_element, com_spec_fits, item_count, items_at as item_number, names_fit}
use Rattle.plan_definitions.specs.Common.{port_fits, ports_fit}
use Rattle.declared_names.specs.declared.scopes.InterfaceNames.{InterfaceNames}
use Rattle.declared_names.specs.declared.scopes.TypeNames.{TypeNames}
use Rattle.declared_names.specs.Components.{interface_of_port}
use Rattle.declared_names.specs.Names.{has_among, has_at, has_name, position_among, position_at, position_in, short_names}
use Rattle.declared_names.specs.Scopes.{interface_names, item_names, type_names}
use Rattle.declared_names.specs.Values.{below as under, items_at, listed, number_at, text_at, text_at_in}
use Rattle.component_model.specs.Ports.{com_spec_reading, port_reading}
use Rattle.component_model.specs.Types.{data_element_reading, interface_reading, mode_element_reading, operation_reading, types_reading}
use Rattle.description_stages.proofs.Shapes.{is_object}
use Rattle.description_stages.proofs.Kept.{Kept, kept_part, shape_here, found_here}
use Rattle.description_stages.proofs.Naming.{all_listed, ByPlace, Objects, on_list, short_names_fit}
use Rattle.description_stages.proofs.Positions.{low}
use Rattle.description_stages.proofs.Readings.{number_fits}
use Rattle.description_stages.proofs.Shorts.{needed_value, optional_value, text_there, Value}
use Rattle.description_stages.proofs.Unbroken.{all_at, ports_keep}

-- ---- the items of an interface as the typed reading has them

counted : (names : TypeNames) (x : Data) (a b : Bool)
    → item_count (cond a (ClientServer (map (operation_reading names) (items_at (codes "operations") x))) (cond b (ModeSwitch (mode_element_reading names x)) (SenderReceiver (map (data_element_reading names) (items_at (codes "dataElements") x)))))
    ≡ length (cond a (short_names (items_at (codes "operations") x)) (cond b (text_at_in (codes "modeGroup") (codes "shortName") x ∷ []) (short_names (items_at (codes "dataElements") x))))
counted names x true b = length-map (items_at (codes "operations") x) (operation_reading names) ∙ sym (length-map (items_at (codes "operations") x) (text_at (codes "shortName")))
counted names x false true = refl
counted names x false false = length-map (items_at (codes "dataElements") x) (data_element_reading names) ∙ sym (length-map (items_at (codes "dataElements") x) (text_at (codes "shortName")))

pub items_counted : (names : TypeNames) (x : Data) → item_count (interface_reading names x).kind ≡ length (item_names x)
items_counted names x = counted names x (bytes_eq (text_at (codes "kind") x) (codes "ClientServerInterface")) (bytes_eq (text_at (codes "kind") x) (codes "ModeSwitchInterface"))

-- ---- items, by the positions that the reading has

module _ (d : Data) where
  abbrev item_table : TypeTable
  item_table = types_reading (type_names d) d

  abbrev item_scope : InterfaceNames
  item_scope = interface_names (type_names d).mode_groups d

  of_interface : (o : Option Data) (item : List ℕ) → has_among (option_map item_names o) item ≡ true
      → ltb (position_among (option_map item_names o) item) (option_map_or (λ (i : Interface). item_count i.kind) (option_map (interface_reading (type_names d)) o) 0) ≡ true
  of_interface None item h = absurd (false≢true h)
  of_interface (Some x) item h = ap (ltb (position_in (item_names x) item)) (items_counted (type_names d) x) ∙ h

  -- an item that the interface at a position has
  pub item_below : (n : ℕ) (item : List ℕ) → has_at item_scope.items n item ≡ true → ltb (position_at item_scope.items n item) (item_number item_table n) ≡ true
  item_below n item h =
      let xs = items_at (codes "interfaces") d in
      ap (λ o. ltb (position_among o item) (item_number item_table n)) (slice_get-map item_names xs n)
      ∙ ap (λ o. ltb (position_among (option_map item_names (slice_get xs n)) item) (option_map_or (λ (i : Interface). item_count i.kind) o 0)) (slice_get-map (interface_reading (type_names d)) xs n)
      ∙ of_interface (slice_get xs n) item (sym (ap (λ o. has_among o item) (slice_get-map item_names xs n)) ∙ h)

module _ (d : Data) (kept : Kept (catalog_of d) d Description top) where
  abbrev lists : Catalog
  lists = catalog_of d

  abbrev interfaces : List Data
  interfaces = items_at (codes "interfaces") d

  abbrev table : TypeTable
  table = types_reading (type_names d) d

  abbrev scope : InterfaceNames
  scope = interface_names (type_names d).mode_groups d

  -- ---- ports

  -- the interface of a port is there
  pub port_interface : (x : Data) (s : Spot) → Kept lists x of_kind.Port s → has_name (short_names interfaces) (text_at (codes "interface") x) ≡ true
  port_interface x s kept_x =
      let v = needed_value lists x of_kind.Port s 2 (needed "interface" of_kind.InterfaceName) refl refl refl kept_x in
      subst (λ t. has_name (short_names interfaces) t ≡ true) (sym (text_there lists x of_kind.Port s (needed "interface" of_kind.InterfaceName) v))
      (found_here lists v.value of_kind.InterfaceName (inside s of_kind.Port x (codes "interface")) v.kept)

  queue_fits : (x : Data) (s : Spot) → Kept lists x of_kind.ComSpec s → is_in 1 1024 (number_at (2 ^ 32) 1 (codes "queueLength") x) ≡ true
  queue_fits x s kept_x = from_value (optional_value lists x of_kind.ComSpec s 3 (optional "queueLength" of_kind.QueueLength) refl refl kept_x)
    where
      from_value : (get (codes "queueLength") x ≡ None) ⊎ Value lists x of_kind.ComSpec s (optional "queueLength" of_kind.QueueLength) → is_in 1 1024 (number_at (2 ^ 32) 1 (codes "queueLength") x) ≡ true
      from_value (inl e) = ap (λ o. is_in 1 1024 (under (2 ^ 32) 1 (option_and_then as_u64 (option_and_then as_number o)))) e
      from_value (inr v) = number_fits (2 ^ 32) 1 1 1024 (option_and_then as_u64 (option_and_then as_number (get (codes "queueLength") x)))
          (subst (λ o. holds (is_within 1 1024) (option_and_then as_u64 (option_and_then as_number o)) ≡ true) (sym v.there) (shape_here lists v.value of_kind.QueueLength (inside s of_kind.ComSpec x (codes "queueLength")) v.kept)) (omega arith)

  com_specs_fit : (x : Data) (s : Spot) → Kept lists x of_kind.Port s → list_all (keeps_element table (port_reading scope x).interface) (port_reading scope x).com_specs ≡ true
      → list_all (com_spec_fits table (port_reading scope x).interface) (port_reading scope x).com_specs ≡ true
  com_specs_fit x s kept_x = on_list lists x of_kind.Port s 3 (optional "comSpecs" of_kind.ComSpecs) refl refl (λ v h. h) kept_x
      (λ xs. list_all (keeps_element table (port_reading scope x).interface) (map (com_spec_reading scope.items (interface_of_port scope x)) xs) ≡ true
      → list_all (com_spec_fits table (port_reading scope x).interface) (map (com_spec_reading scope.items (interface_of_port scope x)) xs) ≡ true) (λ h. refl)
      (λ ps there kept_ps keeps. all_listed (com_spec_fits table (port_reading scope x).interface) (com_spec_reading scope.items (interface_of_port scope x)) ps (λ i y is.
      let at = inside_part (inside s of_kind.Port x (codes "comSpecs")) of_kind.ComSpecs (array ps) i in
      let kept_y = kept_part lists ps of_kind.ComSpecs (inside s of_kind.Port x (codes "comSpecs")) i y kept_ps is in
      and_from _ _ (element_fits ps i y kept_y) (and_from _ _ (queue_fits y at kept_y)
      (all_at (keeps_element table (port_reading scope x).interface) (com_spec_reading scope.items (interface_of_port scope x)) ps i y keeps is))))
    where
      element_fits : (ps : Items) (i : ℕ) (y : Data) → Kept lists y of_kind.ComSpec (inside_part (inside s of_kind.Port x (codes "comSpecs")) of_kind.ComSpecs (array ps) i)
          → ltb (position_at scope.items (position_in (short_names interfaces) (text_at (codes "interface") x)) (text_at (codes "element") y)) (item_number table (position_in (short_names interfaces) (text_at (codes "interface") x))) ≡ true
      element_fits ps i y kept_y =
          let at = inside_part (inside s of_kind.Port x (codes "comSpecs")) of_kind.ComSpecs (array ps) i in
          let v = needed_value lists y of_kind.ComSpec at 0 (needed "element" of_kind.ComSpecItem) refl refl refl kept_y in
          let n = position_in (short_names interfaces) (text_at (codes "interface") x) in
          item_below d n (text_at (codes "element") y)
          (subst (λ t. has_at scope.items n t ≡ true) (sym (text_there lists y of_kind.ComSpec at (needed "element" of_kind.ComSpecItem) v))
          (found_here lists v.value of_kind.ComSpecItem (inside at of_kind.ComSpec y (codes "element")) v.kept))

  interface_low : (x : Data) (s : Spot) → Kept lists x of_kind.Port s → ltb (port_reading scope x).interface (length table.interfaces) ≡ true
  interface_low x s kept_x = low (text_at (codes "shortName")) (interface_reading (type_names d)) interfaces (text_at (codes "interface") x) (port_interface x s kept_x)

  ports_list : Objects of_kind.Ports of_kind.Port
  ports_list = record { parts = λ ps i. refl; short = λ x. refl }

  pub ports_law : (c : Data) (kind : Kind) (s : Spot) (n : ℕ) → is_object (form_of (resolved kind c)) ≡ true → slice_get (keys_of (resolved kind c)) n ≡ Some (optional "ports" of_kind.Ports) → Kept lists c kind s
      → ((ps : Items) → get (codes "ports") c ≡ Some (array ps) → ByPlace lists of_kind.Ports of_kind.Port (inside s (resolved kind c) c (codes "ports")) ps)
      → ports_keep table (map (port_reading scope) (items_at (codes "ports") c)) ≡ true → ports_fit table (map (port_reading scope) (items_at (codes "ports") c)) ≡ true
  ports_law c kind s n form is kept_c places = on_list lists c kind s n (optional "ports" of_kind.Ports) form is (λ v h. h) kept_c
      (λ xs. ports_keep table (map (port_reading scope) xs) ≡ true → ports_fit table (map (port_reading scope) xs) ≡ true) (λ h. refl)
      (λ ps there kept_ps keeps.
      let list = inside s (resolved kind c) c (codes "ports") in
      and_from _ _
      (ap names_fit (map-map (λ (p : Port). p.short_name) (port_reading scope) (listed ps)) ∙ short_names_fit lists of_kind.Ports of_kind.Port list ps ports_list (places ps there) kept_ps)
      (all_listed (port_fits table) (port_reading scope) ps (λ i x is.
      let at = inside_part list of_kind.Ports (array ps) i in
      let kept_x = kept_part lists ps of_kind.Ports list i x kept_ps is in
      and_from _ _ (interface_low x at kept_x)
      (com_specs_fit x at kept_x (all_at (λ (p : Port). list_all (keeps_element table p.interface) p.com_specs) (port_reading scope) ps i x keeps is)))))
