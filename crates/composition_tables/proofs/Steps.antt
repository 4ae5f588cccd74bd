-- Steps of a path.
use Rattle.std.proofs.Common.{◌≡◌, ℕ, ◌<◌, ◌≤◌, List, [], ◌∷◌, length, slice_get, Option, Some, None, option_map, option_and_then, ⊎_elim, refl, sym, ap, ◌∙◌}
use Rattle.std.proofs.lemmas.Bool.{cases_lt}
use Rattle.std.proofs.lemmas.Option.{slice_get_past}
use Rattle.std.specs.Option.{option_map_or}
use Rattle.description_types.specs.declared.description.Description.{Description}
use Rattle.description_types.specs.declared.description.Prototype.{Prototype}
use Rattle.description_types.specs.declared.description.PrototypeType.{PrototypeType}
use Rattle.description_types.specs.declared.description.PrototypeType.TheVariants.{Component, Composition}
use Rattle.description_types.specs.Members.{Among}
use Rattle.description_types.specs.Paths.{prototypes_of, type_in, type_at}
use Rattle.composition_tables.proofs.Members.{place, some_get}

module _ (d : Description) where
  -- the type in a composition is that of one of its prototypes
  pub step_is : (h q : ℕ) (t : PrototypeType) → type_in d (Composition h) q ≡ Some t → (p : Prototype) × (slice_get (prototypes_of d h) q ≡ Some p) × (p.of_type ≡ t)
  step_is h q t is = by (slice_get (prototypes_of d h) q) refl
    where
      by : (o : Option Prototype) → slice_get (prototypes_of d h) q ≡ o → (p : Prototype) × (slice_get (prototypes_of d h) q ≡ Some p) × (p.of_type ≡ t)
      by None none = let no : None ≡ Some t = sym (ap (option_map (λ x. x.of_type)) none) ∙ is in cc
      by (Some p) some = let typed : Some p.of_type ≡ Some t = sym (ap (option_map (λ x. x.of_type)) some) ∙ is in (p, some, cc)

  -- and the type of a prototype is in its composition
  pub step_of : (h : ℕ) (p : Prototype) → Among p (prototypes_of d h) → (q : ℕ) × (type_in d (Composition h) q ≡ Some p.of_type)
  step_of h p among =
      let k = place p (prototypes_of d h) among in
      (k.0, ap (option_map (λ x. x.of_type)) (some_get (prototypes_of d h) k.0 p k.1 (k.2 p)))

  -- only a declared composition has types in it
  pub holder_declared : (h q : ℕ) (t : PrototypeType) → type_in d (Composition h) q ≡ Some t → h < length d.compositions
  holder_declared h q t is = ⊎_elim (λ within. within) absent (cases_lt h (length d.compositions))
    where
      absent : length d.compositions ≤ h → h < length d.compositions
      absent past =
          let none : type_in d (Composition h) q ≡ None =
          ap (λ o. option_map (λ (p : Prototype). p.of_type) (slice_get (option_map_or (λ x. x.prototypes) o []) q)) (slice_get_past d.compositions h past) in
          let no : None ≡ Some t = sym none ∙ is in cc

  pub step_on : (t u v : PrototypeType) (q : ℕ) (path : List ℕ) → type_at d t path ≡ Some u → type_in d u q ≡ Some v → type_at d t (q ∷ path) ≡ Some v
  step_on t u v q path is step = ap (option_and_then (λ holder. type_in d holder q)) is ∙ step

  -- the last step of a path starts in a composition
  pub last_step : (t v : PrototypeType) (q : ℕ) (path : List ℕ) → type_at d t (q ∷ path) ≡ Some v → (h : ℕ) × (type_at d t path ≡ Some (Composition h)) × (type_in d (Composition h) q ≡ Some v)
  last_step t v q path is = by (type_at d t path) refl
    where
      by : (o : Option PrototypeType) → type_at d t path ≡ o → (h : ℕ) × (type_at d t path ≡ Some (Composition h)) × (type_in d (Composition h) q ≡ Some v)
      by None none = let no : None ≡ Some v = sym (ap (option_and_then (λ t. type_in d t q)) none) ∙ is in cc
      by (Some (Component k)) some = let no : None ≡ Some v = sym (ap (option_and_then (λ t. type_in d t q)) some) ∙ is in cc
      by (Some (Composition h)) some = (h, some, sym (ap (option_and_then (λ t. type_in d t q)) some) ∙ is)
