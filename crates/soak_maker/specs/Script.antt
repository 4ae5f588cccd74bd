-- The script with which a node is soaked: ten ticks and a run line, twenty times.
use Rattle.std.specs.Prelude.{ℕ, zero, suc, List, [], ◌∷◌, ◌++◌, codes}
use Rattle.bus_semantics.specs.declared.script.Line.{Line}
use Rattle.bus_semantics.specs.declared.script.Line.TheVariants.{Tick, Run}

abbrev pub rounds : ℕ → List ℕ
rounds zero = []
rounds (suc n) = rounds n ++ codes "tick 10\nrun\n"

abbrev pub round_lines : ℕ → List Line
round_lines zero = []
round_lines (suc n) = Tick 10 ∷ Run ∷ round_lines n

abbrev pub soak_lines : List Line
soak_lines = round_lines 20
