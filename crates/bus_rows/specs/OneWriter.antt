-- A worked plan: a writer and a reader of one element, each with a period, in one task on one core; and the row in which, after ten
-- ticks, the writer writes 7 and the reader reads it. Sessions have their newest item first.
use Rattle.std.specs.Prelude.{ℕ, pos, List, [], ◌∷◌, ◌++◌, codes, true, Some, None}
use Rattle.bus_semantics.specs.Common.{one_word, constant, writes, reads, done, next, Plan, Runnable, run_begins, run_closes, idle, Session}
use Rattle.runnable_lang.specs.declared.program.AccessKind.TheVariants as kind
use Rattle.bus_laws.specs.Common.{Unqueued, Timing, Line, Mapping, Entry}
use Rattle.bus_semantics.specs.declared.script.Line.TheVariants as line
use Rattle.bus_semantics.specs.declared.entries.Deed.TheVariants as deed
use Rattle.bus_rows.specs.RowParts.{provided, required, giving, taking, starting, task, act_of, by, start, ten_ticks, ten_ticks_text}

-- runnable `Step` of an instance: it writes 7 to its element `o.v`
abbrev pub writer : (instance : ℕ) → (elem : ℕ) → Runnable
writer i x = record {
  instance = i;
  name = codes "Step";
  program = record { vars = 1; body = next (writes 0 0 (constant (pos 7) ∷ []) 0) done };
  accesses = giving kind.Write 0 ∷ [];
  targets = x ∷ [];
  server = None;
  lists = [];
}

-- runnable `Look` of instance `r`, the second one: it reads its element `i.v`
abbrev pub reader : (elem : ℕ) → Runnable
reader x = record {
  instance = 1;
  name = codes "Look";
  program = record { vars = 2; body = next (reads 0 0 (0 ∷ []) 1) done };
  accesses = taking kind.Read 0 ∷ [];
  targets = x ∷ [];
  server = None;
  lists = [];
}

abbrev pub one_writer : Plan
one_writer = record {
  names = codes "w" ∷ codes "r" ∷ [];
  elements = provided (Some 0) (codes "o.v") Unqueued true 0 ∷ required (Some 1) (codes "i.v") Unqueued 0 1 ∷ [];
  groups = (0 ∷ 1 ∷ []) ∷ [];
  points = [];
  servers = [];
  areas = [];
  machines = [];
  mode_ports = [];
  events = starting 0 (codes "E") (Timing 10) ∷ starting 1 (codes "E") (Timing 10) ∷ [];
  runnables = writer 0 0 ∷ reader 1 ∷ [];
  lists = [];
  homes = 0 ∷ [];
  bundles = (0 ∷ []) ∷ [];
  objects = 2;
}

-- both events in task `T`, the writer's at the first position
abbrev pub one_task : Mapping
one_task = record { cores = 1; tasks = task (codes "T") 0 (0 ∷ 1 ∷ []) ∷ [] }

-- ---- the row

abbrev pub ten_ticks_and_run : List Line
ten_ticks_and_run = line.Tick 10 ∷ line.Run ∷ []

-- until the reader has started
abbrev pub until_look : Session
until_look =
    by 1 (start 1)
    ∷ by 0 deed.End
    ∷ by 0 (deed.Write 0 (one_word (pos 7)))
    ∷ by 0 (start 0)
    ∷ run_begins
    ∷ ten_ticks

abbrev pub written_then_read : Session
written_then_read = run_closes idle ∷ by 1 deed.End ∷ by 1 (deed.Read 1 0 (one_word (pos 7))) ∷ until_look

abbrev pub written_then_read_text : List ℕ
written_then_read_text =
    codes "rte-trace 1\n" ++ ten_ticks_text
    ++ codes "run\nw:Step start E\nw:Step write o.v 7 0\nw:Step end\nr:Look start E\nr:Look read i.v 0 7\nr:Look end\nidle\n"

-- a read gives 6, where 7 was written
abbrev pub six_read : Entry
six_read = act_of 1 (deed.Read 1 0 (one_word (pos 6)))
