-- Numbers and values as scripts and traces write them: in decimal, with no leading zeros and no plus sign, and zero with no minus sign.
use Rattle.std.specs.Prelude.{ℕ, ℤ, pos, negsuc, List, [], ◌∷◌, map, length, nat_le, int_le, Bool, false, true, not, ◌&&◌, ◌||◌, ◌==◌, bytes_eq, codes, if◌then◌else◌}
use Rattle.bus_semantics.specs.Common.{list_all, is_in, Letters}
use Rattle.std.specs.Str.Parse.{digits_value, signed_digits_value}
use Rattle.line_fields.specs.Texts.{parts}

abbrev pub is_digit : ℕ → Bool
is_digit c = is_in 48 57 c

abbrev pub is_empty : Letters → Bool
is_empty [] = true
is_empty (c ∷ cs) = false

-- digits, of which the first is no 0 if there are more
abbrev pub is_number : Letters → Bool
is_number [] = false
is_number (c ∷ cs) = list_all is_digit (c ∷ cs) && (not (c == 48) || is_empty cs)

abbrev pub number_in : Letters → ℕ
number_in t = digits_value 10 t

-- the same after a minus sign, but for zero
abbrev pub is_negated : Letters → Bool
is_negated [] = false
is_negated (c ∷ cs) = is_number (c ∷ cs) && not (c == 48)

abbrev pub is_word : Letters → Bool
is_word [] = false
is_word (c ∷ cs) = if c == 45 then is_negated cs else is_number (c ∷ cs)

abbrev pub word_in : Letters → ℤ
word_in t = signed_digits_value 10 t

-- ---- values: words joined by commas, or a dash for none

abbrev pub is_value : Letters → Bool
is_value t = bytes_eq t (codes "-") || list_all is_word (parts 44 t)

abbrev pub words_in : Letters → List ℤ
words_in t = if bytes_eq t (codes "-") then [] else map word_in (parts 44 t)

-- at most 16 words, each of 64 bits
abbrev pub is_held : ℤ → Bool
is_held x = int_le (negsuc 9223372036854775807) x && int_le x (pos 9223372036854775807)

abbrev pub are_held : List ℤ → Bool
are_held ws = nat_le (length ws) 16 && list_all is_held ws
