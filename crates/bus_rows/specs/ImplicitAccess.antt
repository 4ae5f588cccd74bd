-- Worked rows of implicit access: a runnable fetches at its start what it reads later, and publishes at its end what it wrote. Sessions
-- have their newest item first.
use Rattle.std.specs.Prelude.{ℕ, pos, List, [], ◌∷◌, ◌++◌, codes, true, false, Some, None}
use Rattle.bus_semantics.specs.Common.{one_word, constant, variable, writes, reads_early, writes_late, writes_variable, done, next, Plan, Runnable, run_begins, run_closes, idle, Session}
use Rattle.runnable_lang.specs.declared.program.AccessKind.TheVariants as kind
use Rattle.bus_laws.specs.Common.{Unqueued, Variable, Timing, Mapping, Entry}
use Rattle.bus_semantics.specs.declared.entries.Deed.TheVariants as deed
use Rattle.bus_rows.specs.RowParts.{a_variable, provided, required, giving, taking, starting, task, act_of, by, start, ten_ticks, ten_ticks_text}
use Rattle.bus_rows.specs.OneWriter.{writer, reader}

-- ---- an implicit read: `u` fetches at its start what it reads twice, while `w`, in another task of the core, writes in between

-- runnable `Go` of instance `u`: it reads `i.v` implicitly and writes it to `o.v`, twice
abbrev pub copier : Runnable
copier = record {
  instance = 0;
  name = codes "Go";
  program = record { vars = 3; body = next (reads_early 1 0 (0 ∷ [])) (next (writes 0 0 (variable 0 ∷ []) 1) (next (reads_early 1 0 (2 ∷ [])) (next (writes 0 0 (variable 2 ∷ []) 1) done))) };
  accesses = taking kind.IRead 1 ∷ giving kind.Write 0 ∷ [];
  targets = 1 ∷ 0 ∷ [];
  server = None;
  lists = [];
}

-- `o.v` of `u` is not joined
abbrev pub early_reader : Plan
early_reader = record {
  names = codes "u" ∷ codes "w" ∷ [];
  elements = provided (Some 0) (codes "o.v") Unqueued false 0 ∷ required (Some 0) (codes "i.v") Unqueued 1 1 ∷ provided (Some 1) (codes "o.v") Unqueued true 1 ∷ [];
  groups = (0 ∷ []) ∷ (1 ∷ 2 ∷ []) ∷ [];
  points = [];
  servers = [];
  areas = [];
  machines = [];
  mode_ports = [];
  events = starting 0 (codes "E") (Timing 10) ∷ starting 1 (codes "E") (Timing 10) ∷ [];
  runnables = copier ∷ writer 1 2 ∷ [];
  lists = [];
  homes = 0 ∷ 1 ∷ [];
  bundles = (0 ∷ []) ∷ (1 ∷ []) ∷ [];
  objects = 3;
}

abbrev pub two_tasks : Mapping
two_tasks = record { cores = 1; tasks = task (codes "TU") 0 (0 ∷ []) ∷ task (codes "TW") 0 (1 ∷ []) ∷ [] }

-- until `w` has ended, after the first write of `u`
abbrev pub until_written : Session
until_written =
    by 1 deed.End
    ∷ by 0 (deed.Write 0 (one_word (pos 0)))
    ∷ by 1 (deed.Write 2 (one_word (pos 7)))
    ∷ by 0 (deed.Fetch 1 (one_word (pos 0)))
    ∷ by 1 (start 1)
    ∷ by 0 (start 0)
    ∷ run_begins
    ∷ ten_ticks

abbrev pub fetched_kept : Session
fetched_kept = run_closes idle ∷ by 0 deed.End ∷ by 0 (deed.Write 0 (one_word (pos 0))) ∷ until_written

abbrev pub fetched_kept_text : List ℕ
fetched_kept_text =
    codes "rte-trace 1\n" ++ ten_ticks_text
    ++ codes "run\nu:Go start E\nw:Step start E\nu:Go fetch i.v 0\nw:Step write o.v 7 0\nu:Go write o.v 0 0\n"
    ++ codes "w:Step end\nu:Go write o.v 0 0\nu:Go end\nidle\n"

-- the second read gives what `w` wrote meanwhile
abbrev pub read_again : Entry
read_again = act_of 0 (deed.Write 0 (one_word (pos 7)))

-- ---- an implicit write: `u` writes implicitly twice, with a variable written in between, while `r`, in another task, reads

-- runnable `Put` of instance `u`: it writes 1 to `o.v` implicitly, 3 to `n`, and 2 to `o.v` implicitly
abbrev pub late_writer : Runnable
late_writer = record {
  instance = 0;
  name = codes "Put";
  program = record { vars = 0; body = next (writes_late 0 0 (constant (pos 1) ∷ [])) (next (writes_variable 0 (constant (pos 3) ∷ [])) (next (writes_late 0 0 (constant (pos 2) ∷ [])) done)) };
  accesses = giving kind.IWrite 0 ∷ giving kind.IrvWrite 0 ∷ [];
  targets = 0 ∷ 1 ∷ [];
  server = None;
  lists = [];
}

abbrev pub late_publisher : Plan
late_publisher = record {
  names = codes "u" ∷ codes "r" ∷ [];
  elements = provided (Some 0) (codes "o.v") Unqueued true 0 ∷ a_variable 0 (codes "n") Variable 1 ∷ required (Some 1) (codes "i.v") Unqueued 0 1 ∷ [];
  groups = (0 ∷ 2 ∷ []) ∷ (1 ∷ []) ∷ [];
  points = [];
  servers = [];
  areas = [];
  machines = [];
  mode_ports = [];
  events = starting 0 (codes "E") (Timing 10) ∷ starting 1 (codes "E") (Timing 10) ∷ [];
  runnables = late_writer ∷ reader 2 ∷ [];
  lists = [];
  homes = 0 ∷ 1 ∷ [];
  bundles = (0 ∷ []) ∷ (1 ∷ []) ∷ [];
  objects = 3;
}

-- until the variable was written
abbrev pub until_between : Session
until_between = by 0 (deed.Write 1 (one_word (pos 3))) ∷ by 1 (start 1) ∷ by 0 (start 0) ∷ run_begins ∷ ten_ticks

abbrev pub published_late : Session
published_late =
    run_closes idle
    ∷ by 0 deed.End
    ∷ by 1 deed.End
    ∷ by 0 (deed.Publish 0 (one_word (pos 2)))
    ∷ by 1 (deed.Read 2 0 (one_word (pos 0)))
    ∷ until_between

abbrev pub published_late_text : List ℕ
published_late_text =
    codes "rte-trace 1\n" ++ ten_ticks_text
    ++ codes "run\nu:Put start E\nr:Look start E\nu:Put write n 3 0\nr:Look read i.v 0 0\nu:Put publish o.v 2\nr:Look end\nu:Put end\nidle\n"

-- the reader sees what was not yet published
abbrev pub seen_at_once : Entry
seen_at_once = act_of 1 (deed.Read 2 0 (one_word (pos 1)))

-- the first of the two values is published
abbrev pub first_published : Entry
first_published = act_of 0 (deed.Publish 0 (one_word (pos 1)))
