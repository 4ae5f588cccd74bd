-- The compositions that stand in a description, as they are found.
use Rattle.std.specs.Prelude.{◌≡◌, ℕ, zero, suc, Some, ◌⊎◌}
use Rattle.description_types.specs.declared.description.Description.{Description}
use Rattle.description_types.specs.declared.description.PrototypeType.TheVariants.{Composition}
use Rattle.composition_tables.specs.declared.nodes.Node.{Node}
use Rattle.composition_tables.specs.Ends.{number_from, offset}
use Rattle.description_types.specs.Places.{size}
use Rattle.description_types.specs.Paths.{type_in}

-- A composition that stands at or below the composition c, whose first instance has the number `first`, at most n prototypes
-- down. Those without instances count as not there.
abbrev pub IsNode : Description → ℕ → ℕ → ℕ → Node → Type 0
IsNode d zero c first x = ⊥
IsNode d (suc n) c first x =
    (x ≡ record { depth = n; composition = c; first = first })
    ⊎ ((q : ℕ) × (e : ℕ) × (type_in d (Composition c) q ≡ Some (Composition e)) × (size d n e ≡ 0 → ⊥) × IsNode d n e (number_from first (offset d n c q)) x)

-- one that stands at or below the prototype q of the composition c
abbrev pub IsInnerNode : Description → ℕ → ℕ → ℕ → ℕ → Node → Type 0
IsInnerNode d n c first q x = (e : ℕ) × (type_in d (Composition c) q ≡ Some (Composition e)) × (size d n e ≡ 0 → ⊥) × IsNode d n e (number_from first (offset d n c q)) x
