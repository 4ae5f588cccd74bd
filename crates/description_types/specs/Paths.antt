-- Where a path of prototypes leads (Software Component Template: SwComponentPrototype). A path is a list of positions of
-- prototypes, the innermost first; the empty path stands still.
use Rattle.std.specs.Prelude.{◌≡◌, ℕ, ◌<◌, List, [], ◌∷◌, length, Bool, false, nat_eq, nat_lt, Option, Some, None, option_map, option_and_then, slice_get, if◌then◌else◌}
use Rattle.std.specs.List.{filter_map}
use Rattle.std.specs.Option.{option_map_or}
use Rattle.description_types.specs.declared.description.Description.{Description}
use Rattle.description_types.specs.Members.{Among}
use Rattle.description_types.specs.declared.description.Prototype.{Prototype}
use Rattle.description_types.specs.declared.description.PrototypeType.{PrototypeType}
use Rattle.description_types.specs.declared.description.PrototypeType.TheVariants.{Component, Composition}

-- the prototypes of the composition c, none past the last composition
abbrev pub prototypes_of : Description → ℕ → List Prototype
prototypes_of d c = option_map_or (λ x. x.prototypes) (slice_get d.compositions c) []

-- the type of the prototype q of what has a type
abbrev pub type_in : Description → PrototypeType → ℕ → Option PrototypeType
type_in d (Component k) q = None
type_in d (Composition c) q = option_map (λ p. p.of_type) (slice_get (prototypes_of d c) q)

-- the type of what stands at the end of the path, below what has a type
abbrev pub type_at : Description → PrototypeType → List ℕ → Option PrototypeType
type_at d t [] = Some t
type_at d t (q ∷ path) = option_and_then (λ holder. type_in d holder q) (type_at d t path)

-- a path leads from the composition c to the composition e
abbrev pub Leads : Description → ℕ → ℕ → Type 0
Leads d c e = (path : List ℕ) × (type_at d (Composition c) path ≡ Some (Composition e))

-- Rule 9 is broken by a composition that contains itself: a path of at least one prototype leads from it to itself.
abbrev pub ContainsItself : Description → ℕ → Type 0
ContainsItself d c = (last : ℕ) × (before : List ℕ) × (type_at d (Composition c) (last ∷ before) ≡ Some (Composition c))

abbrev pub is_composition : ℕ → PrototypeType → Bool
is_composition c (Component k) = false
is_composition c (Composition e) = nat_eq e c

-- the composition that is a prototype's type, if it is a declared one
abbrev pub declared_in : ℕ → PrototypeType → Option ℕ
declared_in count (Component k) = None
declared_in count (Composition e) = if nat_lt e count then Some e else None

abbrev pub declared_composition : Description → Prototype → Option ℕ
declared_composition d p = declared_in (length d.compositions) p.of_type

-- the declared compositions that the composition c holds
abbrev pub held_by : Description → ℕ → List ℕ
held_by d c = filter_map (declared_composition d) (prototypes_of d c)

-- a path leads to the declared composition e from one of these
abbrev pub IsReached : Description → List ℕ → ℕ → Type 0
IsReached d starts e = (start : ℕ) × Among start starts × Leads d start e × (e < length d.compositions)
