-- When data types are compatible (Software Component Template, compatibility of data types; profile: base type, limits and
-- word count are equal).
use Rattle.std.specs.Prelude.{ℕ, List, Bool, true, false, ◌&&◌, nat_eq, slice_get, Option, Some, None}
use Rattle.std.specs.Ordering.{int_eq}
use Rattle.description_types.specs.declared.base_type.BaseType.{BaseType}
use Rattle.description_types.specs.declared.base_type.BaseType.TheVariants.{Boolean, Uint8, Uint16, Uint32, Sint8, Sint16, Sint32}
use Rattle.description_types.specs.declared.base_type.DataType.{DataType}

-- two things that may be missing agree: both are missing, or both are there and alike
abbrev pub agree : {X : Type 0} → (X → X → Bool) → Option X → Option X → Bool
agree alike None None = true
agree alike (Some a) (Some b) = alike a b
agree alike _ _ = false

-- base types by number, to tell them apart
abbrev pub base_number : BaseType → ℕ
base_number Boolean = 0
base_number Uint8 = 1
base_number Uint16 = 2
base_number Uint32 = 3
base_number Sint8 = 4
base_number Sint16 = 5
base_number Sint32 = 6

abbrev pub are_compatible_types : DataType → DataType → Bool
are_compatible_types a b = nat_eq (base_number a.base) (base_number b.base)
    && (int_eq a.limits.low b.limits.low && (int_eq a.limits.high b.limits.high && nat_eq a.words b.words))

-- the types at two positions are compatible
abbrev pub types_agree : List DataType → ℕ → ℕ → Bool
types_agree types a b = agree are_compatible_types (slice_get types a) (slice_get types b)
