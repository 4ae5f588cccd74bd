-- What a description that is read keeps, field by field.
use Rattle.std.proofs.Common.{◌≡◌, map, length, true, ltb, codes, sym, ap, subst, refl}
use Rattle.serde_json.specs.Data.{Data}
use Rattle.description_shapes.specs.declared.kind.Kind.TheVariants as of_kind
use Rattle.description_shapes.specs.declared.kind.Kind.TheVariants.{Description as Whole_kind}
use Rattle.description_places.specs.Catalogs.{catalog_of}
use Rattle.description_shapes.specs.Keys.{needed}
use Rattle.description_shapes.specs.Spots.{top, inside}
use Rattle.plan_definitions.specs.Common.{Description, component_fits, composition_fits, IsWellFormed, mapping_fits, prototype_fits, types_fit, Composition, Prototype, PrototypeType}
use Rattle.plan_definitions.specs.Common.{names_fit, ports_fit}
use Rattle.declared_names.specs.Names.{position_in, short_names}
use Rattle.declared_names.specs.Values.{items_at, text_at, text_in}
use Rattle.component_model.specs.Descriptions.{description_of, reading, DescriptionTree}
use Rattle.description_stages.proofs.Beginning.{Whole}
use Rattle.description_stages.proofs.Kept.{Kept, found_here}
use Rattle.description_stages.proofs.Mappings.{fits_mapping, mapping_law}
use Rattle.description_stages.proofs.Positions.{low}
use Rattle.description_stages.proofs.Shorts.{needed_value, text_there}
use Rattle.description_stages.proofs.Types.{types_law}
use Rattle.description_stages.proofs.Components.{components_from, components_law, EachFits}
use Rattle.description_stages.proofs.Compositions.{compositions_law, fits_composition, type_low}
use Rattle.description_stages.proofs.Unbroken.{initials_kept, ports_keep, types_kept}
use Rattle.description_stages.proofs.Lists.{list_all_more}
use Rattle.bus_semantics.specs.Common.{list_all, and_parts, and_from, length-map}
use Rattle.description_types.specs.declared.description.PrototypeType.TheVariants as of
use Rattle.component_model.specs.Programs.{component_reading, component_tree}
use Rattle.declared_names.specs.Scopes.{scope_of}

mapping : (d : Description) → Whole (description_of d) → mapping_fits d ≡ true
mapping d w = subst (λ m. fits_mapping m ≡ true) (sym (ap (λ (t : DescriptionTree). t.mapping) w.is_reading)) (mapping_law w.value w.kept)

root_law : (d : Data) → Kept (catalog_of d) d Whole_kind top → ltb (reading d).root (length (reading d).compositions) ≡ true
root_law d kept =
    let v = needed_value (catalog_of d) d Whole_kind top 5 (needed "root" of_kind.RootName) refl refl refl kept in
    subst (λ t. ltb (position_in (short_names (items_at (codes "compositions") d)) t) (length (reading d).compositions) ≡ true) (sym (text_there (catalog_of d) d Whole_kind top (needed "root" of_kind.RootName) v))
    (low (text_at (codes "shortName")) _ (items_at (codes "compositions") d) (text_in v.value) (found_here (catalog_of d) v.value of_kind.RootName (inside top Whole_kind d (codes "root")) v.kept))

root : (d : Description) → Whole (description_of d) → ltb d.root (length d.compositions) ≡ true
root d w = subst (λ (t : DescriptionTree). ltb t.root (length t.compositions) ≡ true) (sym w.is_reading) (root_law w.value w.kept)

types : (d : Description) → Whole (description_of d) → types_fit d.types ≡ true
types d w = subst (λ (t : DescriptionTree). types_fit t.types ≡ true) (sym w.is_reading) (types_law w.value w.kept w.types)

-- compositions, over the numbers of components and compositions
abbrev tree_fits : DescriptionTree → Type 0
tree_fits t = list_all (fits_composition t.types (length t.components) (length t.compositions)) t.compositions ≡ true

read_compositions : (d : Data) → Kept (catalog_of d) d Whole_kind top → list_all (λ (c : Composition). ports_keep (reading d).types c.ports) (reading d).compositions ≡ true → tree_fits (reading d)
read_compositions d kept h =
    subst (λ n. list_all (fits_composition (reading d).types n (length (reading d).compositions)) (reading d).compositions ≡ true) (sym (length-map (items_at (codes "components") d) (component_reading (scope_of d))))
    (subst (λ n. list_all (fits_composition (reading d).types (length (items_at (codes "components") d)) n) (reading d).compositions ≡ true) (sym (length-map (items_at (codes "compositions") d) _))
    (compositions_law d kept h))

low_so : (d : Description) (t : PrototypeType) → type_low (length d.components) (length d.compositions) t ≡ true → prototype_fits d t ≡ true
low_so d (of.Component n) h = h
low_so d (of.Composition n) h = h

fits_so : (d : Description) (c : Composition) → fits_composition d.types (length d.components) (length d.compositions) c ≡ true → composition_fits d c ≡ true
fits_so d c h =
    let parts = and_parts (ports_fit d.types c.ports) _ h in
    let more = and_parts (names_fit (map (λ (p : Prototype). p.short_name) c.prototypes)) _ parts.1 in
    and_from _ _ parts.0 (and_from _ _ more.0 (list_all_more (λ (p : Prototype). type_low (length d.components) (length d.compositions) p.of_type) (λ (p : Prototype). prototype_fits d p.of_type) (λ p. low_so d p.of_type) c.prototypes more.1))

compositions : (d : Description) → Whole (description_of d) → list_all (composition_fits d) d.compositions ≡ true
compositions d w =
    let of_tree : tree_fits (description_of d) = subst tree_fits (sym w.is_reading) (read_compositions w.value w.kept (initials_kept (reading w.value) w.initials).1) in
    list_all_more (fits_composition d.types (length d.components) (length d.compositions)) (composition_fits d) (fits_so d) d.compositions
    (subst (λ n. list_all (fits_composition d.types n (length d.compositions)) d.compositions ≡ true) (length-map d.components component_tree) of_tree)

components : (d : Description) → Whole (description_of d) → list_all (component_fits d.types) d.components ≡ true
components d w =
    let rules = (types_kept (reading w.value).types w.types).1 in
    let each : EachFits (reading w.value).types (reading w.value).components = components_law w.value w.kept rules (initials_kept (reading w.value) w.initials).0 in
    components_from d.types d.components (subst (λ (t : DescriptionTree). EachFits t.types t.components) (sym w.is_reading) each)

pub whole : (d : Description) → Whole (description_of d) → IsWellFormed d
whole d w = record { types = types d w; components = components d w; compositions = compositions d w; root = root d w; mapping = mapping d w }
