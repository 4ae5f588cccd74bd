-- The limits of a script: lines, ticks in all, and run lines. Each line counts, an empty one and a comment too.
use Rattle.std.specs.Prelude.{ℕ, ◌+◌, List, [], ◌∷◌, Bool, ◌||◌, nat_lt}
use Rattle.bus_semantics.specs.Spelling.{Letters}
use Rattle.script_reading.specs.Meaning.{Saying, asks, ticks, a_run}

abbrev pub ticks_said : Saying → ℕ
ticks_said (asks (ticks n)) = n
ticks_said _ = 0

abbrev pub runs_said : Saying → ℕ
runs_said (asks a_run) = 1
runs_said _ = 0

-- the ticks and the run lines of these lines, by what each says
abbrev pub ticks_in : (say : Letters → Saying) → List Letters → ℕ
ticks_in say [] = 0
ticks_in say (t ∷ ts) = ticks_said (say t) + ticks_in say ts

abbrev pub runs_in : (say : Letters → Saying) → List Letters → ℕ
runs_in say [] = 0
runs_in say (t ∷ ts) = runs_said (say t) + runs_in say ts

-- more than a script may have
abbrev pub are_too_many : (lines : ℕ) → (ticks : ℕ) → (runs : ℕ) → Bool
are_too_many n t r = nat_lt 100000 n || (nat_lt 1000000 t || nat_lt 1000 r)
