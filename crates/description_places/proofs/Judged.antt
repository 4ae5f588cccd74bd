-- Rules that are looked at together.
use Rattle.std.proofs.Common.{◌≡◌, ℕ, List, [], ◌∷◌, Bool, true, false, cond, ◌||◌, Option, Some, None, is_none, option_map, refl, sym}
use Rattle.std.specs.List.{find}
use Rattle.serde_json.specs.Data.{Data}
use Rattle.description_places.specs.Catalogs.{catalog_of}
use Rattle.description_places.specs.Distinct.{breaks_distinct}
use Rattle.description_places.specs.References.{breaks_references}
use Rattle.description_shapes.specs.Rules.{breaks_names, breaks_shape, breaks_shape_or_names, visits_of}
use Rattle.description_places.specs.Rules.{breaks_any, is_misnamed, least_of, refusal}
use Rattle.description_shapes.specs.Visits.{Visit, first_broken}

-- where no visit breaks one of two rules, none breaks either
module _ (a b : Visit → Bool) where
  none_of_both : (vs : List Visit) → first_broken (λ v. a v || b v) vs ≡ None → (first_broken a vs ≡ None) × (first_broken b vs ≡ None)
  none_of_both [] none = (refl, refl)
  none_of_both (v ∷ vs) none = by (λ rest. none_of_both vs rest) (a v) (b v) none
    where
      by : (first_broken (λ u. a u || b u) vs ≡ None → (first_broken a vs ≡ None) × (first_broken b vs ≡ None)) → (x y : Bool) → option_map (λ u. u.place) (cond (x || y) (Some v) (find (λ u. a u || b u) vs)) ≡ None
          → (option_map (λ u. u.place) (cond x (Some v) (find a vs)) ≡ None) × (option_map (λ u. u.place) (cond y (Some v) (find b vs)) ≡ None)
      by later true y none = absurd cc
      by later false true none = absurd cc
      by later false false none = later none

nothing : (o : Option (List ℕ)) → true ≡ is_none o → o ≡ None
nothing None is = refl
nothing (Some place) is = absurd cc

-- where no rule is broken, nothing is refused
pub unbroken_by_any : (d : Data) → true ≡ is_none (first_broken (breaks_any (catalog_of d)) (visits_of d)) → None ≡ refusal d
unbroken_by_any d is =
    let none = nothing (first_broken (breaks_any (catalog_of d)) (visits_of d)) is in
    let lists = catalog_of d in
    let each = none_of_both breaks_shape_or_names (is_misnamed lists) (visits_of d) none in
    let first = none_of_both breaks_shape breaks_names (visits_of d) each.0 in
    let last = none_of_both (breaks_distinct lists) (breaks_references lists) (visits_of d) each.1 in
    λ j. least_of 2 (sym first.0 j) (least_of 3 (sym first.1 j) (least_of 4 (sym last.0 j) (least_of 5 (sym last.1 j) None)))
