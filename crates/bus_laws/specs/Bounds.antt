-- How many calls of the bus a run makes, by the answers that it uses.
use Rattle.std.specs.Prelude.{ℕ, ◌+◌, ◌<◌, ◌≤◌, List, length}
use Rattle.bus_semantics.specs.declared.entries.Deed.{Deed}
use Rattle.bus_semantics.specs.Programs.{Outcome, Stop, Go}

-- a run that was given these answers uses at most so many: it stops for want of one only if fewer were given, and else leaves those past that number
abbrev pub UsesAtMost : (calls : ℕ) → (given : List Deed) → Outcome → Type 0
UsesAtMost calls given (Stop w) = length given < calls
UsesAtMost calls given (Go s left) = length given ≤ calls + length left
