-- What stands round a value.
use Rattle.std.specs.Prelude.{ℕ, zero, suc, List, [], ◌∷◌, Option, Some, None, option_and_then, unwrap_or}
use Rattle.std.specs.Option.{option_or}
use Rattle.serde_json.specs.Data.{Data, null}
use Rattle.serde_json.specs.Find.{get, as_number, as_u64}
use Rattle.description_shapes.specs.declared.kind.Kind.{Kind}
use Rattle.description_shapes.specs.declared.kind.Kind.TheVariants.{Anything, Component, Composition}
use Rattle.description_places.specs.declared.catalogs.TypeNumber.{TypeNumber}
use Rattle.description_places.specs.declared.catalogs.TypeNumber.TheVariants as of
use Rattle.description_shapes.specs.Spots.{Level}

-- the number at a key, 0 if there is none
abbrev pub number_at : List ℕ → Data → ℕ
number_at key d = unwrap_or (option_and_then as_u64 (option_and_then as_number (get key d))) 0

-- a value round another, which of its parts that stands in, and the kind of the innermost one; 0 is the innermost
abbrev pub value_at : ℕ → List Level → Data
value_at n [] = null
value_at zero (l ∷ ls) = l.value
value_at (suc n) (l ∷ ls) = value_at n ls

abbrev pub number_of : ℕ → List Level → ℕ
number_of n [] = 0
number_of zero (l ∷ ls) = l.number
number_of (suc n) (l ∷ ls) = number_of n ls

abbrev pub owner_of : List Level → Kind
owner_of [] = Anything
owner_of (l ∷ ls) = l.kind

-- the component or composition that a value stands in, by where it stands in its list
abbrev pub type_of : Kind → (number : ℕ) → Option TypeNumber
type_of Component number = Some (of.Component number)
type_of Composition number = Some (of.Composition number)
type_of _ number = None

abbrev pub type_around : List Level → Option TypeNumber
type_around [] = None
type_around (l ∷ ls) = option_or (type_of l.kind (number_of 0 ls)) (type_around ls)
