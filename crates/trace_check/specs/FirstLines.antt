-- The first line of a text, which is this project's own.
use Rattle.std.specs.Prelude.{◌≡◌, ◌==◌, ◌++◌, ◌⊎◌, [], codes, not, true, Bool, Option, Some, None}
use Rattle.bus_semantics.specs.Common.{list_all, Letters, header}
use Rattle.bus_semantics.specs.declared.version.Version.{Version}

-- without a newline
abbrev pub is_unbroken : Letters → Bool
is_unbroken t = list_all (λ c. not (c == 10)) t

-- it ends by a newline and has no other
pub record Ends (line : Letters) : Type 0 where
  pub before : Letters
  pub is : line ≡ before ++ codes "\n"
  pub unbroken : is_unbroken before ≡ true

-- it is the text up to its first newline, or all of a text without one
abbrev pub IsFirstLine : (line more : Letters) → Type 0
IsFirstLine line more = Ends line ⊎ ((is_unbroken line ≡ true) × (more ≡ []))

-- the version whose header the line is; none if it is that of neither
abbrev pub IsHeaderOf : (line : Letters) → Option Version → Type 0
IsHeaderOf line (Some v) = line ≡ header v
IsHeaderOf line None = (v : Version) → line ≡ header v → ⊥
