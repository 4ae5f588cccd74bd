-- What the types of a description keep.
use Rattle.std.proofs.Common.{◌≡◌, ℕ, ◌<◌, ◌^◌, List, [], map, length, true, ◌&&◌, ltb, codes, Some, None, refl, sym, ap, subst, arith, ◌∙◌, ◌⊎◌, inl, inr, ◌∷◌, cond, bytes_eq}
use Rattle.bus_semantics.specs.Common.{list_all, slice_get, option_and_then, unwrap_or, and_from, false≢true, length-map, is_in}
use mathlib.Core.List.{map-map}
use Rattle.serde_json.specs.Data.{Data, null, boolean, number, string, array, object, Items}
use Rattle.serde_json.specs.Find.{as_number, as_str, as_u64, get, get_item}
use Rattle.description_shapes.specs.declared.kind.Kind.{Kind}
use Rattle.description_shapes.specs.declared.kind.Kind.TheVariants as of_kind
use Rattle.description_shapes.specs.declared.kind.Kind.TheVariants.{Description}
use Rattle.description_places.specs.Distinct.{is_later, is_later_in, stands_before}
use Rattle.description_places.specs.declared.catalogs.Catalog.{Catalog}
use Rattle.description_places.specs.Catalogs.{catalog_of, mode_firsts}
use Rattle.description_places.specs.FirstPlaces.{first_places}
use Rattle.description_shapes.specs.Keys.{needed, optional}
use Rattle.description_shapes.specs.Names.{is_name}
use Rattle.description_shapes.specs.Shape.{holds, is_within, part_count}
use Rattle.description_shapes.specs.Spots.{Spot, top, inside, inside_part}
use Rattle.plan_definitions.specs.Common.{DataType, ApplicationError, DataElement, Interface, Operation, TypeTable, keeps_range, is_sound, operations_in, type_refusal, group_fits, kind_fits}
use Rattle.plan_definitions.specs.Common.{names_fit, operation_fits, type_fits, types_fit}
use Rattle.declared_names.specs.Names.{has_name, position_in, short_names, texts}
use Rattle.declared_names.specs.Scopes.{item_names, type_names}
use Rattle.declared_names.specs.Values.{items_at, listed, number_at, text_at, text_at_in, text_in}
use Rattle.component_model.specs.Types.{data_element_reading, data_type_reading, error_reading, interface_kind_reading, interface_reading, mode_element_reading, mode_group_reading}
use Rattle.component_model.specs.Types.{operation_reading, types_reading}
use Rattle.bus_semantics.specs.SoundNames as bus
use Rattle.description_stages.proofs.Kept.{Kept, kept_part, shape_here, repeated_here, found_here}
use Rattle.description_stages.proofs.Naming.{all_listed, name_fits, names_kept, Objects, on_list, short_names_fit}
use Rattle.description_stages.proofs.Positions.{first_placed, items_there, low, made_at}
use Rattle.description_stages.proofs.Readings.{counted_array, items_counted, number_fits}
use Rattle.description_stages.proofs.Shorts.{name_value, needed_value, short_name, text_there, Value}
use Rattle.description_stages.proofs.Unbroken.{all_at, types_kept}
use Rattle.description_stages.proofs.Words.{Found, interface_found, kept_as}

-- a number at a needed key of a range
pub ranged : (lists : Catalog) (x : Data) (kind range : Kind) (s : Spot) (key : List ℕ) (limit other least most : ℕ) → Value lists x kind s (record { name = key; is_needed = true; kind = range })
    → ((v : Data) (t : Spot) → Kept lists v range t → holds (is_within least most) (option_and_then as_u64 (as_number v)) ≡ true) → most < limit → is_in least most (number_at limit other key x) ≡ true
ranged lists x kind range s key limit other least most v shape low =
    number_fits limit other least most (option_and_then as_u64 (option_and_then as_number (get key x)))
    (subst (λ o. holds (is_within least most) (option_and_then as_u64 (option_and_then as_number o)) ≡ true) (sym v.there) (shape v.value _ v.kept)) low

-- the items of an interface, by its word
abbrev pub names_by : List ℕ → Data → List (List ℕ)
names_by word x =
    cond (bytes_eq word (codes "ClientServerInterface")) (short_names (items_at (codes "operations") x))
    (cond (bytes_eq word (codes "ModeSwitchInterface")) (text_at_in (codes "modeGroup") (codes "shortName") x ∷ []) (short_names (items_at (codes "dataElements") x)))

elements_list : Objects of_kind.DataElements of_kind.DataElement
elements_list = record { parts = λ ps i. refl; short = λ x. refl }

operations_list : Objects of_kind.Operations of_kind.Operation
operations_list = record { parts = λ ps i. refl; short = λ x. refl }

module _ (d : Data) (kept : Kept (catalog_of d) d Description top) where
  abbrev lists : Catalog
  lists = catalog_of d

  -- ---- data types

  words_fit : (x : Data) (s : Spot) → Kept lists x of_kind.DataType s → is_in 1 16 (number_at (2 ^ 8) 0 (codes "words") x) ≡ true
  words_fit x s kept = ranged lists x of_kind.DataType of_kind.WordCount s (codes "words") (2 ^ 8) 0 1 16 (needed_value lists x of_kind.DataType s 4 (needed "words" of_kind.WordCount) refl refl refl kept)
      (λ v t k. shape_here lists v of_kind.WordCount t k) (omega arith)

  data_types_fit : list_all keeps_range (map data_type_reading (items_at (codes "dataTypes") d)) ≡ true → list_all type_fits (map data_type_reading (items_at (codes "dataTypes") d)) ≡ true
  data_types_fit = on_list lists d Description top 0 (optional "dataTypes" of_kind.DataTypes) refl refl (λ v h. h) kept
      (λ xs. list_all keeps_range (map data_type_reading xs) ≡ true → list_all type_fits (map data_type_reading xs) ≡ true) (λ h. refl)
      (λ ps at kept h. all_listed type_fits data_type_reading ps (λ i x is. and_from _ _
      (words_fit x (inside_part (inside top Description d (codes "dataTypes")) of_kind.DataTypes (array ps) i) (kept_part lists ps of_kind.DataTypes (inside top Description d (codes "dataTypes")) i x kept is))
      (all_at keeps_range data_type_reading ps i x h is)))

  -- ---- mode groups

  modes_counted : (x : Data) (s : Spot) → Kept lists x of_kind.ModeGroup s → is_in 1 32 (length (texts (items_at (codes "modes") x))) ≡ true
  modes_counted x s kept = on_counted (needed_value lists x of_kind.ModeGroup s 1 (needed "modes" of_kind.DeclaredModes) refl refl refl kept)
    where
      on_counted : Value lists x of_kind.ModeGroup s (needed "modes" of_kind.DeclaredModes) → is_in 1 32 (length (texts (items_at (codes "modes") x))) ≡ true
      on_counted v = by_value v.value v.there (shape_here lists v.value of_kind.DeclaredModes (inside s of_kind.ModeGroup x (codes "modes")) v.kept)
        where
          by_value : (y : Data) → get (codes "modes") x ≡ Some y → holds (is_within 1 32) (part_count y) ≡ true → is_in 1 32 (length (texts (items_at (codes "modes") x))) ≡ true
          by_value null there h = absurd (false≢true h)
          by_value (boolean b) there h = absurd (false≢true h)
          by_value (number n) there h = absurd (false≢true h)
          by_value (string t) there h = absurd (false≢true h)
          by_value (array ps) there h = ap (λ xs. is_in 1 32 (length (texts xs))) (items_there (codes "modes") x ps there) ∙ ap (is_in 1 32) (length-map (listed ps) text_in ∙ items_counted ps) ∙ h
          by_value (object ms) there h = absurd (false≢true h)

  -- the mode groups, and one of them
  module _ (gs : Items) (groups : get (codes "modeGroups") d ≡ Some (array gs)) (g : ℕ) (x : Data) (there : get_item g gs ≡ Some x)
      (kept_x : Kept (catalog_of d) x of_kind.ModeGroup (inside_part (inside top Description d (codes "modeGroups")) of_kind.ModeGroups (array gs) g)) where
    abbrev group : Spot
    group = inside_part (inside top Description d (codes "modeGroups")) of_kind.ModeGroups (array gs) g

    firsts_there : slice_get lists.types.modes g ≡ Some (mode_firsts x)
    firsts_there = made_at mode_firsts (codes "modeGroups") d gs g x groups there

    modes_named : names_fit (texts (items_at (codes "modes") x)) ≡ true
    modes_named = on_list lists x of_kind.ModeGroup group 1 (needed "modes" of_kind.DeclaredModes) refl refl (counted_array 1 32) kept_x (λ xs. names_fit (texts xs) ≡ true) refl
        (λ ps at kept_ps. names_kept text_in ps (λ i y is.
        let spot = inside_part (inside group of_kind.ModeGroup x (codes "modes")) of_kind.DeclaredModes (array ps) i in
        let kept_y = kept_part lists ps of_kind.DeclaredModes (inside group of_kind.ModeGroup x (codes "modes")) i y kept_ps is in
        let name = name_value lists y of_kind.DeclaredMode spot refl kept_y in (
          sym (ap (λ o. is_later o i) firsts_there ∙ ap (λ xs. is_later_in (first_places (texts xs)) i) (items_there (codes "modes") x ps at) ∙ first_placed text_in ps i y is)
              ∙ repeated_here lists y of_kind.DeclaredMode spot kept_y,
          subst (λ z. is_name (text_in z) ≡ true) (sym name.is) name.fits_name,
        )))

    initial_found : ltb (position_in (texts (items_at (codes "modes") x)) (text_at (codes "initialMode") x)) (length (texts (items_at (codes "modes") x))) ≡ true
    initial_found =
        let v = needed_value lists x of_kind.ModeGroup group 2 (needed "initialMode" of_kind.InitialMode) refl refl refl kept_x in
        subst (λ t. has_name (texts (items_at (codes "modes") x)) t ≡ true) (sym (text_there lists x of_kind.ModeGroup group (needed "initialMode" of_kind.InitialMode) v))
        (found_here lists v.value of_kind.InitialMode (inside group of_kind.ModeGroup x (codes "initialMode")) v.kept)

  groups_fit : list_all group_fits (map mode_group_reading (items_at (codes "modeGroups") d)) ≡ true
  groups_fit = on_list lists d Description top 1 (optional "modeGroups" of_kind.ModeGroups) refl refl (λ v h. h) kept
      (λ xs. list_all group_fits (map mode_group_reading xs) ≡ true) refl
      (λ ps there kept_ps. all_listed group_fits mode_group_reading ps (λ i x is.
      let s = inside_part (inside top Description d (codes "modeGroups")) of_kind.ModeGroups (array ps) i in
      let kept_x = kept_part lists ps of_kind.ModeGroups (inside top Description d (codes "modeGroups")) i x kept_ps is in
      and_from _ _ (modes_counted x s kept_x) (and_from _ _ (modes_named ps there i x is kept_x) (initial_found ps there i x is kept_x))))

  -- ---- interfaces

  abbrev types : List DataType
  types = map data_type_reading (items_at (codes "dataTypes") d)

  pub typed : (x : Data) (kind : Kind) (s : Spot) → Value lists x kind s (needed "type" of_kind.TypeName) → ltb (position_in (type_names d).data_types (text_at (codes "type") x)) (length types) ≡ true
  typed x kind s v =
      subst (λ t. ltb (position_in (type_names d).data_types t) (length types) ≡ true) (sym (text_there lists x kind s (needed "type" of_kind.TypeName) v))
      (low (text_at (codes "shortName")) data_type_reading (items_at (codes "dataTypes") d) (text_in v.value) (found_here lists v.value of_kind.TypeName (inside s _ x (codes "type")) v.kept))

  -- an interface, one of them all
  module _ (xs : Items) (them : get (codes "interfaces") d ≡ Some (array xs)) (n : ℕ) (x : Data) (there : get_item n xs ≡ Some x) where
    abbrev s : Spot
    s = inside_part (inside top Description d (codes "interfaces")) of_kind.Interfaces (array xs) n

    items_are : (word : List ℕ) → text_at (codes "kind") x ≡ word → slice_get lists.interfaces.items n ≡ Some (names_by word x)
    items_are word e = made_at item_names (codes "interfaces") d xs n x them there ∙ ap (λ w. Some (names_by w x)) e

    elements_fit : text_at (codes "kind") x ≡ codes "SenderReceiverInterface" → Kept lists x of_kind.SenderReceiverInterface s
        → (names_fit (map (λ (e : DataElement). e.short_name) (map (data_element_reading (type_names d)) (items_at (codes "dataElements") x)))
        && list_all (λ (e : DataElement). ltb e.of_type (length types)) (map (data_element_reading (type_names d)) (items_at (codes "dataElements") x))) ≡ true
    elements_fit word_is kept_x = on_list lists x of_kind.SenderReceiverInterface s 2 (optional "dataElements" of_kind.DataElements) refl refl (λ v h. h) kept_x
        (λ xs. (names_fit (map (λ (e : DataElement). e.short_name) (map (data_element_reading (type_names d)) xs))
        && list_all (λ (e : DataElement). ltb e.of_type (length types)) (map (data_element_reading (type_names d)) xs)) ≡ true) refl
        (λ ps at kept_ps.
        let list = inside s of_kind.SenderReceiverInterface x (codes "dataElements") in
        and_from _ _
        (ap names_fit (map-map (λ (e : DataElement). e.short_name) (data_element_reading (type_names d)) (listed ps))
        ∙ short_names_fit lists of_kind.DataElements of_kind.DataElement list ps elements_list
        (λ i y is. ap (holds (λ ns. stands_before ns (text_at (codes "shortName") y) i)) (items_are (codes "SenderReceiverInterface") word_is) ∙ ap (λ ys. stands_before (map (text_at (codes "shortName")) ys) (text_at (codes "shortName") y) i) (items_there (codes "dataElements") x ps at)) kept_ps)
        (all_listed (λ (e : DataElement). ltb e.of_type (length types)) (data_element_reading (type_names d)) ps (λ i y is.
        typed y of_kind.DataElement (inside_part list of_kind.DataElements (array ps) i) (needed_value lists y of_kind.DataElement (inside_part list of_kind.DataElements (array ps) i) 1 (needed "type" of_kind.TypeName) refl refl refl (kept_part lists ps of_kind.DataElements list i y kept_ps is)))))

  codes_fit : (x : Data) (s : Spot) → Kept lists x of_kind.Operation s → list_all (λ (e : ApplicationError). is_in 1 63 e.code) (map error_reading (items_at (codes "errors") x)) ≡ true
  codes_fit x s kept_x = on_list lists x of_kind.Operation s 2 (optional "errors" of_kind.OperationErrors) refl refl (λ v h. h) kept_x
      (λ xs. list_all (λ (e : ApplicationError). is_in 1 63 e.code) (map error_reading xs) ≡ true) refl
      (λ ps there kept_ps. all_listed (λ (e : ApplicationError). is_in 1 63 e.code) error_reading ps (λ i y is.
      let list = inside s of_kind.Operation x (codes "errors") in
      let at = inside_part list of_kind.OperationErrors (array ps) i in
      ranged lists y of_kind.OperationError of_kind.ErrorNumber at (codes "code") (2 ^ 8) 0 1 63
      (needed_value lists y of_kind.OperationError at 1 (needed "code" of_kind.ErrorNumber) refl refl refl (kept_part lists ps of_kind.OperationErrors list i y kept_ps is))
      (λ v t k. shape_here lists v of_kind.ErrorNumber t k) (omega arith)))

  module _ (xs : Items) (them : get (codes "interfaces") d ≡ Some (array xs)) (n : ℕ) (x : Data) (there : get_item n xs ≡ Some x) where
    operations_fit : text_at (codes "kind") x ≡ codes "ClientServerInterface" → Kept lists x of_kind.ClientServerInterface (s xs them n x there)
        → list_all (is_sound types) (map (operation_reading (type_names d)) (items_at (codes "operations") x)) ≡ true
        → (names_fit (map (λ (o : Operation). o.short_name) (map (operation_reading (type_names d)) (items_at (codes "operations") x)))
        && list_all (operation_fits types) (map (operation_reading (type_names d)) (items_at (codes "operations") x))) ≡ true
    operations_fit word_is kept_x = on_list lists x of_kind.ClientServerInterface (s xs them n x there) 2 (optional "operations" of_kind.Operations) refl refl (λ v h. h) kept_x
        (λ xs. list_all (is_sound types) (map (operation_reading (type_names d)) xs) ≡ true → (names_fit (map (λ (o : Operation). o.short_name) (map (operation_reading (type_names d)) xs))
        && list_all (operation_fits types) (map (operation_reading (type_names d)) xs)) ≡ true) (λ h. refl)
        (λ ps at kept_ps sound.
        let list = inside (s xs them n x there) of_kind.ClientServerInterface x (codes "operations") in
        and_from _ _
        (ap names_fit (map-map (λ (o : Operation). o.short_name) (operation_reading (type_names d)) (listed ps))
        ∙ short_names_fit lists of_kind.Operations of_kind.Operation list ps operations_list
        (λ i y is. ap (holds (λ ns. stands_before ns (text_at (codes "shortName") y) i)) (items_are xs them n x there (codes "ClientServerInterface") word_is) ∙ ap (λ ys. stands_before (map (text_at (codes "shortName")) ys) (text_at (codes "shortName") y) i) (items_there (codes "operations") x ps at)) kept_ps)
        (all_listed (operation_fits types) (operation_reading (type_names d)) ps (λ i y is.
        and_from _ _ (all_at (is_sound types) (operation_reading (type_names d)) ps i y sound is)
        (codes_fit y (inside_part list of_kind.Operations (array ps) i) (kept_part lists ps of_kind.Operations list i y kept_ps is)))))

  mode_fits : (x : Data) (s : Spot) → Kept lists x of_kind.ModeSwitchInterface s
      → (bus.is_name (mode_element_reading (type_names d) x).short_name && ltb (mode_element_reading (type_names d) x).of_type (length (map mode_group_reading (items_at (codes "modeGroups") d)))) ≡ true
  mode_fits x s kept_x = from_element (needed_value lists x of_kind.ModeSwitchInterface s 2 (needed "modeGroup" of_kind.ModeElement) refl refl refl kept_x)
    where
      from_element : Value lists x of_kind.ModeSwitchInterface s (needed "modeGroup" of_kind.ModeElement)
          → (bus.is_name (mode_element_reading (type_names d) x).short_name && ltb (mode_element_reading (type_names d) x).of_type (length (map mode_group_reading (items_at (codes "modeGroups") d)))) ≡ true
      from_element m =
          let at = inside s of_kind.ModeSwitchInterface x (codes "modeGroup") in
          let short = short_name lists m.value of_kind.ModeElement at refl m.kept in
          let v = needed_value lists m.value of_kind.ModeElement at 1 (needed "type" of_kind.GroupName) refl refl refl m.kept in
          subst (λ o. (bus.is_name (unwrap_or (option_and_then as_str (option_and_then (get (codes "shortName")) o)) [])
          && ltb (position_in (type_names d).mode_groups (unwrap_or (option_and_then as_str (option_and_then (get (codes "type")) o)) [])) (length (map mode_group_reading (items_at (codes "modeGroups") d)))) ≡ true) (sym m.there)
          (and_from _ _ (name_fits (text_at (codes "shortName") m.value) short.fits_name)
          (subst (λ t. ltb (position_in (type_names d).mode_groups t) (length (map mode_group_reading (items_at (codes "modeGroups") d))) ≡ true) (sym (text_there lists m.value of_kind.ModeElement at (needed "type" of_kind.GroupName) v))
          (low (text_at (codes "shortName")) mode_group_reading (items_at (codes "modeGroups") d) (text_in v.value) (found_here lists v.value of_kind.GroupName (inside at of_kind.ModeElement m.value (codes "type")) v.kept))))

  abbrev table : TypeTable
  table = types_reading (type_names d) d

  interface_fits : (xs : Items) → get (codes "interfaces") d ≡ Some (array xs) → (n : ℕ) (x : Data) → get_item n xs ≡ Some x
      → Kept lists x of_kind.Interface (inside_part (inside top Description d (codes "interfaces")) of_kind.Interfaces (array xs) n)
      → list_all (is_sound types) (operations_in (interface_reading (type_names d) x).kind) ≡ true → kind_fits table (interface_reading (type_names d) x).kind ≡ true
  interface_fits xs them n x there kept_x = by_case (interface_found lists x spot kept_x)
    where
      spot : Spot
      spot = inside_part (inside top Description d (codes "interfaces")) of_kind.Interfaces (array xs) n

      at_word : (word : List ℕ) → text_at (codes "kind") x ≡ word → (list_all (is_sound types) (operations_in (interface_kind_reading (type_names d) word x)) ≡ true → kind_fits table (interface_kind_reading (type_names d) word x) ≡ true)
          → list_all (is_sound types) (operations_in (interface_reading (type_names d) x).kind) ≡ true → kind_fits table (interface_reading (type_names d) x).kind ≡ true
      at_word word e = subst (λ w. list_all (is_sound types) (operations_in (interface_kind_reading (type_names d) w x)) ≡ true → kind_fits table (interface_kind_reading (type_names d) w x) ≡ true) (sym e)

      by_case : Found x of_kind.Interface of_kind.SenderReceiverInterface (inside_part (inside top Description d (codes "interfaces")) of_kind.Interfaces (array xs) n) (codes "SenderReceiverInterface")
          ⊎ (Found x of_kind.Interface of_kind.ClientServerInterface (inside_part (inside top Description d (codes "interfaces")) of_kind.Interfaces (array xs) n) (codes "ClientServerInterface")
          ⊎ Found x of_kind.Interface of_kind.ModeSwitchInterface (inside_part (inside top Description d (codes "interfaces")) of_kind.Interfaces (array xs) n) (codes "ModeSwitchInterface"))
          → list_all (is_sound types) (operations_in (interface_reading (type_names d) x).kind) ≡ true → kind_fits table (interface_reading (type_names d) x).kind ≡ true
      by_case (inl f) = at_word (codes "SenderReceiverInterface") f.word_is (λ h. elements_fit xs them n x there f.word_is (kept_as lists x of_kind.Interface of_kind.SenderReceiverInterface spot f.seen kept_x))
      by_case (inr (inl f)) = at_word (codes "ClientServerInterface") f.word_is (λ h. operations_fit xs them n x there f.word_is (kept_as lists x of_kind.Interface of_kind.ClientServerInterface spot f.seen kept_x) h)
      by_case (inr (inr f)) = at_word (codes "ModeSwitchInterface") f.word_is (λ h. mode_fits x spot (kept_as lists x of_kind.Interface of_kind.ModeSwitchInterface spot f.seen kept_x))

  interfaces_fit : list_all (λ (x : Interface). list_all (is_sound types) (operations_in x.kind)) (map (interface_reading (type_names d)) (items_at (codes "interfaces") d)) ≡ true
      → list_all (λ (i : Interface). kind_fits table i.kind) (map (interface_reading (type_names d)) (items_at (codes "interfaces") d)) ≡ true
  interfaces_fit = on_list lists d Description top 2 (optional "interfaces" of_kind.Interfaces) refl refl (λ v h. h) kept
      (λ xs. list_all (λ (x : Interface). list_all (is_sound types) (operations_in x.kind)) (map (interface_reading (type_names d)) xs) ≡ true
      → list_all (λ (i : Interface). kind_fits table i.kind) (map (interface_reading (type_names d)) xs) ≡ true) (λ h. refl)
      (λ ps there kept_ps sound. all_listed (λ (i : Interface). kind_fits table i.kind) (interface_reading (type_names d)) ps (λ i x is.
      interface_fits ps there i x is (kept_part lists ps of_kind.Interfaces (inside top Description d (codes "interfaces")) i x kept_ps is)
      (all_at (λ (x : Interface). list_all (is_sound types) (operations_in x.kind)) (interface_reading (type_names d)) ps i x sound is)))

  pub types_law : type_refusal (types_reading (type_names d) d) ≡ None → types_fit (types_reading (type_names d) d) ≡ true
  types_law h = let rules = types_kept table h in and_from _ _ (data_types_fit rules.0) (and_from _ _ groups_fit (interfaces_fit rules.1))
