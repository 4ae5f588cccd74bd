-- The whole of a description that is read keeps what its parts do.
use Rattle.std.proofs.Common.{◌≡◌, ℕ, List, [], ◌∷◌, false, true, not, None, refl, ap}
use Rattle.bus_semantics.specs.Common.{All, list_all, and_from, All-head, All-tail}
use Rattle.serde_json.specs.Data.{Data}
use Rattle.description_places.specs.declared.catalogs.Catalog.{Catalog}
use Rattle.description_places.specs.Catalogs.{catalog_of}
use Rattle.description_shapes.specs.declared.kind.Kind.TheVariants.{Description}
use Rattle.description_places.specs.Distinct.{breaks_distinct}
use Rattle.description_places.specs.References.{breaks_references}
use Rattle.description_places.specs.Rules as base
use Rattle.description_shapes.specs.Rules.{breaks_names, breaks_shape, visits_of}
use Rattle.description_shapes.specs.Spots.{top}
use Rattle.description_shapes.specs.Visits.{Visit}
use Rattle.description_types.specs.Refusals.{of_rule, type_refusal}
use Rattle.description_types.specs.Lists.{first}
use Rattle.component_model.specs.Descriptions.{DescriptionTree, reading}
use Rattle.component_model.specs.Initials.{broken_initials, initial_place}
use Rattle.component_model.specs.Refusals.{IsRead, typed_refusal}
use Rattle.description_stages.proofs.Kept.{Kept, passes}
use Rattle.plan_definitions.proofs.Firsts.{or_none}

-- what `unbroken_descriptions` says
pub record Unbroken : Type 0 where
  pub shapes : (d : Data) → base.refusal d ≡ None → All (λ v. breaks_shape v ≡ false) (visits_of d)
  pub names : (d : Data) → base.refusal d ≡ None → All (λ v. breaks_names v ≡ false) (visits_of d)
  pub distinct : (d : Data) → base.refusal d ≡ None → All (λ v. breaks_distinct (catalog_of d) v ≡ false) (visits_of d)
  pub references : (d : Data) → base.refusal d ≡ None → All (λ v. breaks_references (catalog_of d) v ≡ false) (visits_of d)

all_pass : (lists : Catalog) (vs : List Visit) → All (λ v. breaks_shape v ≡ false) vs → All (λ v. breaks_names v ≡ false) vs → All (λ v. breaks_distinct lists v ≡ false) vs
    → All (λ v. breaks_references lists v ≡ false) vs → list_all (passes lists) vs ≡ true
all_pass lists [] a b c e = refl
all_pass lists (v ∷ vs) a b c e = and_from _ _
    (and_from _ _ (ap not (All-head (λ v. breaks_shape v ≡ false) v vs a)) (and_from _ _ (ap not (All-head (λ v. breaks_names v ≡ false) v vs b))
    (and_from _ _ (ap not (All-head (λ v. breaks_distinct lists v ≡ false) v vs c)) (ap not (All-head (λ v. breaks_references lists v ≡ false) v vs e)))))
    (all_pass lists vs (All-tail (λ v. breaks_shape v ≡ false) v vs a) (All-tail (λ v. breaks_names v ≡ false) v vs b) (All-tail (λ v. breaks_distinct lists v ≡ false) v vs c)
    (All-tail (λ v. breaks_references lists v ≡ false) v vs e))

pub whole_kept : Unbroken → (d : Data) → base.refusal d ≡ None → Kept (catalog_of d) d Description top
whole_kept laws d unbroken = record { passing = all_pass (catalog_of d) (visits_of d) (laws.shapes d unbroken) (laws.names d unbroken) (laws.distinct d unbroken) (laws.references d unbroken) }

-- what the typed reading of a description that is read comes from
pub record Whole (tree : DescriptionTree) : Type 0 where
  pub value : Data
  pub is_reading : tree ≡ reading value
  pub kept : Kept (catalog_of value) value Description top
  pub types : type_refusal (reading value).types ≡ None
  pub initials : first (of_rule 8 initial_place (broken_initials (reading value))) ≡ None

pub whole_of : Unbroken → (bytes : List ℕ) (tree : DescriptionTree) → IsRead bytes tree → Whole tree
whole_of laws bytes tree r =
    let parts = or_none (base.refusal r.value) (typed_refusal (reading r.value)) r.is_unbroken in
    let typed = or_none (type_refusal (reading r.value).types) (first (of_rule 8 initial_place (broken_initials (reading r.value)))) parts.1 in
    record {
      value = r.value;
      is_reading = r.is_reading;
      kept = whole_kept laws r.value parts.0;
      types = typed.0;
      initials = typed.1;
    }
