-- Two worked rows of one mode switch, while an activation runs that the next mode disables: a machine that waits goes on after its end,
-- and a machine that does not wait (an asynchronous mode switch) goes on meanwhile. Sessions have their newest item first.
use Rattle.std.specs.Prelude.{ℕ, pos, List, [], ◌∷◌, ◌++◌, codes, Bool, true, false, Some, None}
use Rattle.bus_semantics.specs.Common.{one_word, StmtTree, constant, writes_variable, switches, done, next, Plan, Runnable, run_begins, run_closes, idle, Session}
use Rattle.runnable_lang.specs.declared.program.AccessKind.TheVariants as kind
use Rattle.bus_laws.specs.Common.{Variable, Timing, Line, Mapping, Deed, Entry}
use Rattle.bus_semantics.specs.declared.script.Line.TheVariants as line
use Rattle.bus_semantics.specs.declared.entries.Deed.TheVariants as deed
use Rattle.bus_rows.specs.RowParts.{a_variable, giving, naming, starting, task, machine_of, by, machine, start, ten_ticks, ten_ticks_text}
use Rattle.bus_rows.specs.ModeSwitch.{off_and_on, mode_port, disabled_in_on, phase_close, phase_exit, phase_transition, phase_entry, phase_stable}

abbrev pub writing : ℕ → StmtTree
writing n = writes_variable 0 (constant (pos n) ∷ [])

-- runnable `F` of instance `u`: it writes 1, 2 and 3 to `n`
abbrev pub three_writes : Runnable
three_writes = record {
  instance = 0;
  name = codes "F";
  program = record { vars = 0; body = next (writing 1) (next (writing 2) (next (writing 3) done)) };
  accesses = giving kind.IrvWrite 0 ∷ [];
  targets = 0 ∷ [];
  server = None;
  lists = [];
}

-- runnable `Flip` of instance `b`: it switches to `On`
abbrev pub flipper : Runnable
flipper = record {
  instance = 1;
  name = codes "Flip";
  program = record { vars = 1; body = next (switches 0 1 0) done };
  accesses = naming kind.Switch 0 2 ∷ [];
  targets = 0 ∷ [];
  server = None;
  lists = [];
}

-- the plan, by whether the machine waits
abbrev pub user_and_boss : (waits : Bool) → Plan
user_and_boss waits = record {
  names = codes "u" ∷ codes "b" ∷ [];
  elements = a_variable 0 (codes "n") Variable 0 ∷ [];
  groups = (0 ∷ []) ∷ [];
  points = [];
  servers = [];
  areas = [];
  machines = off_and_on (Some 1) (codes "m.g") 1 waits ∷ [];
  mode_ports = mode_port 0 (codes "p.g") 0 ∷ [];
  events = disabled_in_on 0 ∷ starting 1 (codes "E") (Timing 10) ∷ [];
  runnables = three_writes ∷ flipper ∷ [];
  lists = [];
  homes = 0 ∷ [];
  bundles = (0 ∷ []) ∷ [];
  objects = 3;
}

abbrev pub waiting : Plan
waiting = user_and_boss true

abbrev pub not_waiting : Plan
not_waiting = user_and_boss false

abbrev pub user_and_boss_tasks : Mapping
user_and_boss_tasks = record { cores = 1; tasks = task (codes "TF") 0 (0 ∷ []) ∷ task (codes "TB") 0 (1 ∷ []) ∷ [] }

abbrev pub run_and_ticks : List Line
run_and_ticks = line.Run ∷ line.Tick 10 ∷ line.Run ∷ []

abbrev pub written : ℕ → Deed
written n = deed.Write 0 (one_word (pos n))

-- until `F` has written once, after the switch has begun
abbrev pub until_first_write : Session
until_first_write =
    by 1 deed.End
    ∷ by 0 (written 1)
    ∷ machine 0 phase_close
    ∷ by 1 (deed.Switch 0 1 0)
    ∷ by 0 (deed.Admit true)
    ∷ by 1 (start 1)
    ∷ by 0 (start 0)
    ∷ run_begins
    ∷ ten_ticks ++ (run_closes idle ∷ machine 0 phase_stable ∷ run_begins ∷ [])

abbrev pub until_written_text : List ℕ
until_written_text =
    codes "rte-trace 2\nrun\nb.m.g phase stable\nidle\n" ++ ten_ticks_text
    ++ codes "run\nu:F start E\nb:Flip start E\nu:F admit yes\nb:Flip switch m.g On 0\nb.m.g phase close On\nu:F write n 1 0\nb:Flip end\n"

-- the machine leaves `Off`
abbrev pub exit_early : Entry
exit_early = machine_of 0 phase_exit

-- ---- a machine that waits

abbrev pub until_last_write : Session
until_last_write = by 0 (written 3) ∷ by 0 (written 2) ∷ until_first_write

abbrev pub waited : Session
waited =
    run_closes idle
    ∷ machine 0 phase_stable
    ∷ machine 0 phase_entry
    ∷ machine 0 phase_transition
    ∷ machine 0 phase_exit
    ∷ by 0 deed.End
    ∷ until_last_write

abbrev pub waited_text : List ℕ
waited_text =
    until_written_text
    ++ codes "u:F write n 2 0\nu:F write n 3 0\nu:F end\nb.m.g phase exit\nb.m.g phase transition\nb.m.g phase entry\nb.m.g phase stable\nidle\n"

-- ---- a machine that does not

abbrev pub went_on : Session
went_on =
    run_closes idle
    ∷ machine 0 phase_stable
    ∷ by 0 deed.End
    ∷ machine 0 phase_entry
    ∷ by 0 (written 3)
    ∷ machine 0 phase_transition
    ∷ by 0 (written 2)
    ∷ machine 0 phase_exit
    ∷ until_first_write

abbrev pub went_on_text : List ℕ
went_on_text =
    until_written_text
    ++ codes "b.m.g phase exit\nu:F write n 2 0\nb.m.g phase transition\nu:F write n 3 0\nb.m.g phase entry\nu:F end\nb.m.g phase stable\nidle\n"
