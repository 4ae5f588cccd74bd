-- The parts of a text, its lines, and names with a dot between them, which are this project's own.
use Rattle.std.specs.Prelude.{ℕ, List, [], ◌∷◌, length, Bool, ◌&&◌, ◌==◌, if◌then◌else◌}
use Rattle.bus_semantics.specs.Common.{list_all, is_name, Letters}

abbrev pub onto_first : ℕ → List Letters → List Letters
onto_first c [] = (c ∷ []) ∷ []
onto_first c (t ∷ ts) = (c ∷ t) ∷ ts

-- each line ends by a newline, which may be missing after the last; the texts of the lines, without their newlines
abbrev pub lines_of : Letters → List Letters
lines_of [] = []
lines_of (c ∷ cs) = if c == 10 then [] ∷ lines_of cs else onto_first c (lines_of cs)

-- the parts between separators
abbrev pub parts : (separator : ℕ) → Letters → List Letters
parts s [] = [] ∷ []
parts s (c ∷ cs) = if c == s then [] ∷ parts s cs else onto_first c (parts s cs)

-- names with a dot between them
abbrev pub are_names : (count : ℕ) → Letters → Bool
are_names n t = (length (parts 46 t) == n) && list_all is_name (parts 46 t)

-- PORT.ELEMENT
abbrev pub is_pair_name : Letters → Bool
is_pair_name t = are_names 2 t
