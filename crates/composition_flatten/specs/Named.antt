-- The instances with their paths written out, as they are listed.
use Rattle.std.specs.Prelude.{ℕ, zero, suc, List, [], ◌∷◌, ◌++◌, codes}
use Rattle.std.specs.List.{flat_map}
use Rattle.description_types.specs.declared.description.Description.{Description}
use Rattle.description_types.specs.declared.description.PrototypeType.{PrototypeType}
use Rattle.description_types.specs.declared.description.PrototypeType.TheVariants.{Component, Composition}
use Rattle.description_types.specs.declared.flat.Instance.{Instance}
use Rattle.description_types.specs.Paths.{prototypes_of}

-- those at or below a prototype whose path is written so
abbrev pub named_of : (ℕ → List ℕ → List Instance) → PrototypeType → List ℕ → List Instance
named_of deeper (Component k) path = record { path = path; component = k } ∷ []
named_of deeper (Composition c) path = deeper c (path ++ codes "/")

-- those at most n prototypes below the composition c, whose prototypes have this before their name
abbrev pub named_below : Description → ℕ → ℕ → List ℕ → List Instance
named_below d zero c prefix = []
named_below d (suc n) c prefix = flat_map (λ p. named_of (named_below d n) p.of_type (prefix ++ p.short_name)) (prototypes_of d c)
