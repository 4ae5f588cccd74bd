-- The places of component instances (SWS_RTE: a software component instance is a prototype at the end of a path of
-- prototypes below the root).
use Rattle.std.specs.Prelude.{◌≡◌, ◌<◌, ℕ, zero, suc, List, [], ◌∷◌, Some, length}
use Rattle.std.specs.List.{flat_map, enumerate_from}
use Rattle.description_types.specs.declared.description.Description.{Description}
use Rattle.description_types.specs.declared.description.PrototypeType.{PrototypeType}
use Rattle.description_types.specs.declared.description.PrototypeType.TheVariants.{Component, Composition}
use Rattle.description_types.specs.Members.{sum_of}
use Rattle.description_types.specs.Paths.{prototypes_of, type_at}

-- where an instance stands: the positions of its prototypes, the innermost first, and its component
pub record Place : Type 0 where
  pub path : List ℕ
  pub component : ℕ

-- the places at or below a prototype at the end of the path
abbrev pub places_of : (ℕ → List ℕ → List Place) → PrototypeType → List ℕ → List Place
places_of deeper (Component k) path = record { path = path; component = k } ∷ []
places_of deeper (Composition c) path = deeper c path

-- the places at most n prototypes below the composition c at the end of the path: depth first, prototypes in declared order
abbrev pub places_below : Description → ℕ → ℕ → List ℕ → List Place
places_below d zero c path = []
places_below d (suc n) c path = flat_map (λ x. places_of (places_below d n) x.1.of_type (x.0 ∷ path)) (enumerate_from 0 (prototypes_of d c))

-- the places of all instances that stand at most 8 deep below the root, which rule 10 lets be all
abbrev pub places : Description → List Place
places d = places_below d 8 d.root []

-- how many there are
abbrev pub size_of : (ℕ → ℕ) → PrototypeType → ℕ
size_of deeper (Component k) = 1
size_of deeper (Composition c) = deeper c

abbrev pub size : Description → ℕ → ℕ → ℕ
size d zero c = 0
size d (suc n) c = sum_of (λ p. size_of (size d n) p.of_type) (prototypes_of d c)

-- an instance stands more than 8 prototypes deep
abbrev pub IsTooDeep : Description → Type 0
IsTooDeep d = (path : List ℕ) × (component : ℕ) × (type_at d (Composition d.root) path ≡ Some (Component component)) × (8 < length path)
