-- The ranges of the base types (AUTOSAR_SWS_PlatformTypes, 'Platform types').
use Rattle.std.specs.Prelude.{ℕ, ◌-◌, ◌^◌, pos, neg_ℤ, Bool, ◌&&◌, int_le}
use Rattle.rte_value.specs.declared.kinds.Limits.{Limits}
use Rattle.description_types.specs.declared.base_type.BaseType.{BaseType}
use Rattle.description_types.specs.declared.base_type.BaseType.TheVariants.{Boolean, Uint8, Uint16, Uint32, Sint8, Sint16, Sint32}
use Rattle.description_types.specs.declared.base_type.DataType.{DataType}

-- the words without a sign that so many bits hold, and those with one
abbrev pub unsigned : (bits : ℕ) → Limits
unsigned bits = record { low = pos 0; high = pos (2 ^ bits - 1) }

abbrev pub signed : (bits : ℕ) → Limits
signed bits = record { low = neg_ℤ (pos (2 ^ (bits - 1))); high = pos (2 ^ (bits - 1) - 1) }

-- the least and the greatest word of a base type
abbrev pub range_of : BaseType → Limits
range_of Boolean = unsigned 1
range_of Uint8 = unsigned 8
range_of Uint16 = unsigned 16
range_of Uint32 = unsigned 32
range_of Sint8 = signed 8
range_of Sint16 = signed 16
range_of Sint32 = signed 32

-- rule 6: the least word is at most the greatest, and both are in the base type's range
abbrev pub keeps_range : DataType → Bool
keeps_range t = int_le t.limits.low t.limits.high && (int_le (range_of t.base).low t.limits.low && int_le t.limits.high (range_of t.base).high)
