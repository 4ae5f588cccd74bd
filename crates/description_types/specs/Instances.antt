-- The component instances of a description, by their names.
use Rattle.std.specs.Prelude.{ℕ, List, [], ◌∷◌, ◌++◌, map, codes, Bool, Option, Some, slice_get, bytes_eq}
use Rattle.std.specs.List.{list_any}
use Rattle.std.specs.Option.{option_map_or}
use Rattle.description_types.specs.declared.description.Description.{Description}
use Rattle.description_types.specs.declared.description.PrototypeType.{PrototypeType}
use Rattle.description_types.specs.declared.description.PrototypeType.TheVariants.{Composition}
use Rattle.description_types.specs.declared.flat.Instance.{Instance}
use Rattle.description_types.specs.Paths.{prototypes_of, type_at}
use Rattle.description_types.specs.Places.{Place, places}

-- the name of the prototype q of what stands at the end of the path below the root
abbrev pub name_in : Description → Option PrototypeType → ℕ → List ℕ
name_in d (Some (Composition c)) q = option_map_or (λ p. p.short_name) (slice_get (prototypes_of d c) q) []
name_in d _ q = []

abbrev pub name_at : Description → List ℕ → ℕ → List ℕ
name_at d path q = name_in d (type_at d (Composition d.root) path) q

-- what goes before the name of a prototype at the end of the path
abbrev pub prefix_at : Description → List ℕ → List ℕ
prefix_at d [] = []
prefix_at d (q ∷ path) = (prefix_at d path ++ name_at d path q) ++ codes "/"

-- the names of a path, the outermost first, joined by `/`
abbrev pub written : Description → List ℕ → List ℕ
written d [] = []
written d (q ∷ path) = prefix_at d path ++ name_at d path q

-- the instance at a place
abbrev pub instance_at : Description → Place → Instance
instance_at d place = record { path = written d place.path; component = place.component }

abbrev pub instances : Description → List Instance
instances d = map (instance_at d) (places d)

-- a prototype of the root is named as the environment
abbrev pub names_env : Description → Bool
names_env d = list_any (λ p. bytes_eq p.short_name (codes "env")) (prototypes_of d d.root)
