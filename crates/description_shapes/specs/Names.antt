-- Which texts are names.
use Rattle.std.specs.Prelude.{ℕ, List, length, slice_index, Bool, true, false, ◌&&◌, ◌||◌, ◌==◌}
use Rattle.std.specs.List.{list_all}
use Rattle.description_shapes.specs.declared.form.Form.{Form}
use Rattle.description_shapes.specs.declared.form.Form.TheVariants as form
use Rattle.description_shapes.specs.Shape.{is_within}

-- A to Z, a to z
abbrev pub is_letter : ℕ → Bool
is_letter b = is_within 65 90 b || is_within 97 122 b

-- a letter, a digit or _
abbrev pub is_letter_or_digit : ℕ → Bool
is_letter_or_digit b = is_letter b || is_within 48 57 b || (b == 95)

-- 1 to 32 bytes: a letter, then letters, digits and _
abbrev pub is_name : List ℕ → Bool
is_name bs = is_within 1 32 (length bs) && is_letter (slice_index bs 0) && list_all is_letter_or_digit bs

abbrev pub is_name_form : Form → Bool
is_name_form form.Name = true
is_name_form _ = false
