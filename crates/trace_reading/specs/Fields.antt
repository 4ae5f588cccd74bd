-- Fields that are numbers and values. None is a field that no item of a trace has.
use Rattle.std.specs.Prelude.{◌≡◌, ℕ, ℤ, ◌≤◌, ◌-◌, List, [], length, replicate, pos, Bool, true, false, ◌&&◌, nat_le, if◌then◌else◌, Option, Some, None}
use Rattle.std.proofs.Common.{refl, sym, ap}
use Rattle.bus_semantics.specs.Common.{leb-true, take-append_seam, Value, padded, is_byte, is_index, Letters}
use Rattle.line_fields.specs.Numbers.{are_held, is_number, is_value, number_in, words_in}

-- a position in a list of the plan
abbrev pub numbered : Option ℕ → Option ℕ
numbered None = None
numbered (Some n) = if is_index n then Some n else None

abbrev pub number_at : Letters → Option ℕ
number_at t = if is_number t && is_index (number_in t) then Some (number_in t) else None

abbrev pub code_at : Letters → Option ℕ
code_at t = if is_number t && is_byte (number_in t) then Some (number_in t) else None

-- ---- the value of these words

unfoldable pub value_with : (ws : List ℤ) → length ws ≤ 16 → Value
value_with ws few = record { words = padded ws; len = length ws; short = few; padded = ap padded (sym (take-append_seam ws (replicate (16 - length ws) (pos 0)))) }

abbrev pub value_by_length : (ws : List ℤ) (few : Bool) → nat_le (length ws) 16 ≡ few → Option Value
value_by_length ws true is = Some (value_with ws (leb-true (length ws) 16 is))
value_by_length ws false is = None

abbrev pub value_at : Letters → Option Value
value_at t = if is_value t && are_held (words_in t) then value_by_length (words_in t) (nat_le (length (words_in t)) 16) refl else None

abbrev pub no_value : Value
no_value = value_with [] (leb-true 0 16 refl)
