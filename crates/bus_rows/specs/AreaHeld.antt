-- A worked row of an exclusive area: two runnables on two cores each enter it, read a variable, write it plus one, and leave. Sessions
-- have their newest item first.
use Rattle.std.specs.Prelude.{ℕ, pos, List, [], ◌∷◌, ◌++◌, codes, None}
use Rattle.bus_semantics.specs.Common.{one_word, constant, variable, combined, in_area, reads_variable, writes_variable, done, next, Plan, Runnable, run_begins, run_closes, idle, Session}
use Rattle.runnable_lang.specs.declared.program.AccessKind.TheVariants as kind
use Rattle.runnable_lang.specs.declared.stmt.Op.TheVariants.{Add}
use Rattle.bus_laws.specs.Common.{Variable, Timing, Mapping, Deed, Entry}
use Rattle.bus_semantics.specs.declared.entries.Deed.TheVariants as deed
use Rattle.bus_rows.specs.RowParts.{a_variable, giving, taking, naming, starting, task, act_of, by, start, ten_ticks, ten_ticks_text}

-- a runnable of instance `b`: in area `x` it counts `n` up
abbrev pub counter : (name : List ℕ) → Runnable
counter name = record {
  instance = 0;
  name = name;
  program = record { vars = 1; body = next (in_area 0 (next (reads_variable 0 (0 ∷ [])) (next (writes_variable 0 (combined Add (variable 0) (constant (pos 1)) ∷ [])) done))) done };
  accesses = naming kind.Enter 0 0 ∷ taking kind.IrvRead 0 ∷ giving kind.IrvWrite 0 ∷ [];
  targets = 0 ∷ 0 ∷ 0 ∷ [];
  server = None;
  lists = [];
}

abbrev pub two_counters : Plan
two_counters = record {
  names = codes "b" ∷ [];
  elements = a_variable 0 (codes "n") Variable 0 ∷ [];
  groups = (0 ∷ []) ∷ [];
  points = [];
  servers = [];
  areas = record { instance = 0; name = codes "x" } ∷ [];
  machines = [];
  mode_ports = [];
  events = starting 0 (codes "E0") (Timing 10) ∷ starting 1 (codes "E1") (Timing 10) ∷ [];
  runnables = counter (codes "R0") ∷ counter (codes "R1") ∷ [];
  lists = [];
  homes = 0 ∷ [];
  bundles = (0 ∷ []) ∷ [];
  objects = 3;
}

abbrev pub two_cores : Mapping
two_cores = record { cores = 2; tasks = task (codes "T0") 0 (0 ∷ []) ∷ task (codes "T1") 1 (1 ∷ []) ∷ [] }

abbrev pub counted : ℕ → Deed
counted n = deed.Write 0 (one_word (pos n))

abbrev pub seen : ℕ → Deed
seen n = deed.Read 0 0 (one_word (pos n))

-- until the first counter has read, in the area
abbrev pub while_held : Session
while_held = by 0 (seen 0) ∷ by 0 (deed.Enter 0) ∷ by 1 (start 1) ∷ by 0 (start 0) ∷ run_begins ∷ ten_ticks

abbrev pub both_counted : Session
both_counted =
    run_closes idle
    ∷ by 1 deed.End
    ∷ by 1 (deed.Leave 0)
    ∷ by 1 (counted 2)
    ∷ by 1 (seen 1)
    ∷ by 0 deed.End
    ∷ by 1 (deed.Enter 0)
    ∷ by 0 (deed.Leave 0)
    ∷ by 0 (counted 1)
    ∷ while_held

abbrev pub both_counted_text : List ℕ
both_counted_text =
    codes "rte-trace 1\n" ++ ten_ticks_text
    ++ codes "run\nb:R0 start E0\nb:R1 start E1\nb:R0 enter x\nb:R0 read n 0 0\nb:R0 write n 1 0\nb:R0 exit x\n"
    ++ codes "b:R1 enter x\nb:R0 end\nb:R1 read n 0 1\nb:R1 write n 2 0\nb:R1 exit x\nb:R1 end\nidle\n"

-- the second counter enters too
abbrev pub second_enters : Entry
second_enters = act_of 1 (deed.Enter 0)
