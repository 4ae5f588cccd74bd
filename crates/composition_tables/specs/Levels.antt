-- How deep compositions stand.
use Rattle.std.specs.Prelude.{◌≡◌, ◌<◌, ℕ, List, length, Bool, true, false, Some, ◌↔◌}
use Rattle.description_types.specs.declared.description.Description.{Description}
use Rattle.description_types.specs.declared.description.PrototypeType.{PrototypeType}
use Rattle.description_types.specs.declared.description.PrototypeType.TheVariants.{Component, Composition}
use Rattle.description_types.specs.Members.{Among}
use Rattle.description_types.specs.Paths.{type_at}

abbrev pub is_component : PrototypeType → Bool
is_component (Component k) = true
is_component (Composition e) = false

-- these are the declared compositions that stand n prototypes below the root
abbrev pub IsLevel : Description → ℕ → List ℕ → Type 0
IsLevel d n level = (e : ℕ) → Among e level ↔ ((path : List ℕ) × (length path ≡ n) × (type_at d (Composition d.root) path ≡ Some (Composition e)) × (e < length d.compositions))
