-- A text cut at its first separator, and the fields of a line, which have one space between them.
use Rattle.std.specs.Prelude.{ℕ, zero, suc, [], ◌∷◌, ◌==◌, if◌then◌else◌, Option, Some, None, unwrap_or}
use Rattle.bus_semantics.specs.Spelling.{Letters}

-- what stands before the first separator: all if there is none
abbrev pub before : (separator : ℕ) → Letters → Letters
before s [] = []
before s (c ∷ cs) = if c == s then [] else c ∷ before s cs

-- and behind it
abbrev pub behind : (separator : ℕ) → Letters → Option Letters
behind s [] = None
behind s (c ∷ cs) = if c == s then Some cs else behind s cs

-- the field of a line at a place, counted from 0; empty if there are not so many
abbrev pub field : (place : ℕ) → Letters → Letters
field zero t = before 32 t
field (suc n) t = field n (unwrap_or (behind 32 t) [])
