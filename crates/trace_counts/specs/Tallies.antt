-- The numbers of a text, byte by byte. That they are those of the session that the text is of is proved (`Sessions`).
use Rattle.std.specs.Prelude.{ℕ, List, [], ◌∷◌, ◌==◌, if◌then◌else◌}
use Rattle.trace_counts.specs.declared.numbers.Numbers.{Numbers}
use Rattle.trace_counts.specs.declared.tally.Tally.{Tally}
use Rattle.trace_counts.specs.Lines.{closed, mark_of, nothing_begun, with_byte}
use Rattle.trace_counts.specs.Numbers.{counted, no_numbers}

abbrev pub nothing_told : Tally
nothing_told = record { line = nothing_begun; numbers = no_numbers }

-- a newline ends the line, a space the field
abbrev pub stepped : Tally → ℕ → Tally
stepped t byte =
    if byte == 10 then record { line = nothing_begun; numbers = counted (mark_of t.line) t.numbers }
    else (if byte == 32 then record { line = closed t.line; numbers = t.numbers }
    else record { line = with_byte t.line byte; numbers = t.numbers })

abbrev pub after : Tally → List ℕ → Tally
after t [] = t
after t (byte ∷ bytes) = after (stepped t byte) bytes

abbrev pub tally_of : List ℕ → Tally
tally_of bytes = after nothing_told bytes

abbrev pub numbers_in : List ℕ → Numbers
numbers_in bytes = (tally_of bytes).numbers
