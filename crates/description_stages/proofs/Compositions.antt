-- What the compositions of a description keep.
use Rattle.std.proofs.Common.{◌≡◌, ℕ, List, map, length, Bool, true, false, ◌&&◌, ◌||◌, cond, ltb, codes, Some, refl, sym, ap, subst, ◌∙◌}
use Rattle.bus_semantics.specs.Common.{list_all, slice_get, and_from}
use mathlib.Core.List.{map-map}
use Rattle.serde_json.specs.Data.{Data, array, Items}
use Rattle.serde_json.specs.Find.{get, get_item}
use Rattle.description_shapes.specs.declared.kind.Kind.TheVariants as of_kind
use Rattle.description_shapes.specs.declared.kind.Kind.TheVariants.{Description}
use Rattle.description_places.specs.Distinct.{stands_before}
use Rattle.description_places.specs.declared.catalogs.Catalog.{Catalog}
use Rattle.description_places.specs.Catalogs.{catalog_of, composition_lists}
use Rattle.description_places.specs.declared.catalogs.CompositionLists.{CompositionLists}
use Rattle.description_shapes.specs.Keys.{needed, optional}
use Rattle.description_shapes.specs.Shape.{holds}
use Rattle.description_shapes.specs.Spots.{Spot, top, inside, inside_part}
use Rattle.plan_definitions.specs.Common.{TypeTable, Composition, Prototype, PrototypeType, names_fit, ports_fit}
use Rattle.description_types.specs.declared.description.PrototypeType.TheVariants as of
use Rattle.declared_names.specs.declared.scopes.InterfaceNames.{InterfaceNames}
use Rattle.declared_names.specs.Names.{has_name, position_in, short_names}
use Rattle.declared_names.specs.Scopes.{interface_names, prototype_names, type_names}
use Rattle.declared_names.specs.Values.{items_at, listed, text_at, text_in}
use Rattle.component_model.specs.Compositions.{composition_reading, prototype_reading, type_named}
use Rattle.component_model.specs.Types.{types_reading}
use Rattle.description_stages.proofs.Kept.{Kept, kept_part, found_here}
use Rattle.description_stages.proofs.Naming.{all_listed, ByPlace, Objects, on_list, short_names_fit}
use Rattle.description_stages.proofs.Ports.{ports_law}
use Rattle.description_stages.proofs.Positions.{items_there, low_in, made_at}
use Rattle.description_stages.proofs.Shorts.{needed_value, text_there}
use Rattle.description_stages.proofs.Unbroken.{all_at, ports_keep}

-- a prototype is of one of so many components or compositions
abbrev pub type_low : (components compositions : ℕ) → PrototypeType → Bool
type_low components compositions (of.Component n) = ltb n components
type_low components compositions (of.Composition n) = ltb n compositions

-- what `composition_fits` asks
abbrev pub fits_composition : TypeTable → (components compositions : ℕ) → Composition → Bool
fits_composition t m n c =
    ports_fit t c.ports
    && (names_fit (map (λ (p : Prototype). p.short_name) c.prototypes) && list_all (λ (p : Prototype). type_low m n p.of_type) c.prototypes)

prototypes_list : Objects of_kind.Prototypes of_kind.Prototype
prototypes_list = record { parts = λ ps i. refl; short = λ x. refl }

module _ (d : Data) (kept : Kept (catalog_of d) d Description top) where
  abbrev lists : Catalog
  lists = catalog_of d

  abbrev components : List Data
  components = items_at (codes "components") d

  abbrev compositions : List Data
  compositions = items_at (codes "compositions") d

  type_found : (name : List ℕ) → (has_name (short_names components) name || has_name (short_names compositions) name) ≡ true → type_low (length components) (length compositions) (type_named (prototype_names d) name) ≡ true
  type_found name h = by_test (has_name (short_names components) name) refl h
    where
      by_test : (b : Bool) → has_name (short_names components) name ≡ b → (b || has_name (short_names compositions) name) ≡ true → type_low (length components) (length compositions) (type_named (prototype_names d) name) ≡ true
      by_test true e k = ap (λ b. type_low (length components) (length compositions) (cond b (of.Component (position_in (short_names components) name)) (of.Composition (position_in (short_names compositions) name)))) e
          ∙ low_in (text_at (codes "shortName")) components name e
      by_test false e k = ap (λ b. type_low (length components) (length compositions) (cond b (of.Component (position_in (short_names components) name)) (of.Composition (position_in (short_names compositions) name)))) e
          ∙ low_in (text_at (codes "shortName")) compositions name k

  prototype_low : (x : Data) (s : Spot) → Kept lists x of_kind.Prototype s → type_low (length components) (length compositions) (type_named (prototype_names d) (text_at (codes "type") x)) ≡ true
  prototype_low x s kept_x =
      let v = needed_value lists x of_kind.Prototype s 1 (needed "type" of_kind.PrototypeTypeName) refl refl refl kept_x in
      subst (λ t. type_low (length components) (length compositions) (type_named (prototype_names d) t) ≡ true) (sym (text_there lists x of_kind.Prototype s (needed "type" of_kind.PrototypeTypeName) v))
      (type_found (text_in v.value) (found_here lists v.value of_kind.PrototypeTypeName (inside s of_kind.Prototype x (codes "type")) v.kept))

  -- a composition, one of them all
  module _ (cs : Items) (composed : get (codes "compositions") d ≡ Some (array cs)) (i : ℕ) (c : Data) (here : get_item i cs ≡ Some c) where
    abbrev made : Data → CompositionLists
    made = composition_lists (short_names (items_at (codes "interfaces") d)) (short_names components) (short_names compositions)

    composition_there : slice_get lists.prototypes.in_compositions i ≡ Some (made c)
    composition_there = made_at made (codes "compositions") d cs i c composed here

    abbrev at : Spot
    at = inside_part (inside top Description d (codes "compositions")) of_kind.Compositions (array cs) i

    prototypes_fit : Kept lists c of_kind.Composition at
        → (names_fit (map (λ (p : Prototype). p.short_name) (map (prototype_reading (prototype_names d)) (items_at (codes "prototypes") c)))
        && list_all (λ (p : Prototype). type_low (length components) (length compositions) p.of_type) (map (prototype_reading (prototype_names d)) (items_at (codes "prototypes") c))) ≡ true
    prototypes_fit kept_c = on_list lists c of_kind.Composition at 2 (optional "prototypes" of_kind.Prototypes) refl refl (λ v h. h) kept_c
        (λ xs. (names_fit (map (λ (p : Prototype). p.short_name) (map (prototype_reading (prototype_names d)) xs))
        && list_all (λ (p : Prototype). type_low (length components) (length compositions) p.of_type) (map (prototype_reading (prototype_names d)) xs)) ≡ true) refl
        (λ ps there kept_ps.
        let list = inside at of_kind.Composition c (codes "prototypes") in
        and_from _ _
        (ap names_fit (map-map (λ (p : Prototype). p.short_name) (prototype_reading (prototype_names d)) (listed ps))
        ∙ short_names_fit lists of_kind.Prototypes of_kind.Prototype list ps prototypes_list
        (λ j y is. ap (holds (λ (l : CompositionLists). stands_before l.prototypes (text_at (codes "shortName") y) j)) composition_there
        ∙ ap (λ xs. stands_before (map (text_at (codes "shortName")) xs) (text_at (codes "shortName") y) j) (items_there (codes "prototypes") c ps there)) kept_ps)
        (all_listed (λ (p : Prototype). type_low (length components) (length compositions) p.of_type) (prototype_reading (prototype_names d)) ps (λ j y is.
        prototype_low y (inside_part list of_kind.Prototypes (array ps) j) (kept_part lists ps of_kind.Prototypes list j y kept_ps is))))

    ports_by_place : (ps : Items) → get (codes "ports") c ≡ Some (array ps) → ByPlace lists of_kind.Ports of_kind.Port (inside at of_kind.Composition c (codes "ports")) ps
    ports_by_place ps there j y is =
        ap (holds (λ (l : CompositionLists). stands_before l.ports.names (text_at (codes "shortName") y) j)) composition_there
        ∙ ap (λ xs. stands_before (map (text_at (codes "shortName")) xs) (text_at (codes "shortName") y) j) (items_there (codes "ports") c ps there)

  abbrev table : TypeTable
  table = types_reading (type_names d) d

  abbrev interfaces : InterfaceNames
  interfaces = interface_names (type_names d).mode_groups d

  pub compositions_law : list_all (λ (c : Composition). ports_keep table c.ports) (map (composition_reading interfaces (prototype_names d)) compositions) ≡ true
      → list_all (fits_composition table (length components) (length compositions)) (map (composition_reading interfaces (prototype_names d)) compositions) ≡ true
  compositions_law = on_list lists d Description top 4 (optional "compositions" of_kind.Compositions) refl refl (λ v h. h) kept
      (λ xs. list_all (λ (c : Composition). ports_keep table c.ports) (map (composition_reading interfaces (prototype_names d)) xs) ≡ true
      → list_all (fits_composition table (length components) (length compositions)) (map (composition_reading interfaces (prototype_names d)) xs) ≡ true) (λ h. refl)
      (λ ps there kept_ps keeps. all_listed (fits_composition table (length components) (length compositions)) (composition_reading interfaces (prototype_names d)) ps (λ i x is.
      let list = inside top Description d (codes "compositions") in
      let spot = inside_part list of_kind.Compositions (array ps) i in
      let kept_x = kept_part lists ps of_kind.Compositions list i x kept_ps is in
      and_from _ _
      (ports_law d kept x of_kind.Composition spot 1 refl refl kept_x (ports_by_place ps there i x is) (all_at (λ (c : Composition). ports_keep table c.ports) (composition_reading interfaces (prototype_names d)) ps i x keeps is))
      (prototypes_fit ps there i x is kept_x)))
