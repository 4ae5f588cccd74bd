-- Traces that are checked, and sessions up to the line that is refused.
use Rattle.std.specs.Prelude.{ℕ, pos, List, ◌∷◌, ◌++◌, codes, false}
use Rattle.bus_semantics.specs.Common.{one_word, Session, run_begins}
use Rattle.bus_semantics.specs.declared.entries.Deed.TheVariants as deed
use Rattle.bus_rows.specs.RowParts.{by, start, ten_ticks, ten_ticks_text}
use Rattle.bus_rows.specs.ModeSwitch.{until_closed, until_exit}

-- ---- ten ticks, then a write and a read

abbrev pub by_names : List ℕ
by_names =
    codes "rte-trace 2\n" ++ ten_ticks_text
    ++ codes "run\nw:Step start E\nw:Step write o.v 7 0\nw:Step end\nr:Look start E\nr:Look read i.v 0 7\nr:Look end\nidle\n"

-- until the writer has started, and until it has ended
abbrev pub until_write : Session
until_write = by 0 (start 0) ∷ run_begins ∷ ten_ticks

abbrev pub until_end : Session
until_end = by 0 deed.End ∷ by 0 (deed.Write 0 (one_word (pos 7))) ∷ until_write

abbrev pub eight_written : List ℕ → List ℕ
eight_written more = codes "rte-trace 1\n" ++ ten_ticks_text ++ codes "run\nw:Step start E\nw:Step write o.v 8 0\n" ++ more

abbrev pub six_read_text : List ℕ → List ℕ
six_read_text more =
    codes "rte-trace 1\n" ++ ten_ticks_text
    ++ codes "run\nw:Step start E\nw:Step write o.v 7 0\nw:Step end\nr:Look start E\nr:Look read i.v 0 6\n" ++ more

abbrev pub cut_before_look : List ℕ
cut_before_look = codes "rte-trace 1\n" ++ ten_ticks_text ++ codes "run\nw:Step start E\nw:Step write o.v 7 0\nw:Step end\n"

abbrev pub idle_before_look : List ℕ → List ℕ
idle_before_look more = codes "rte-trace 1\n" ++ ten_ticks_text ++ codes "run\nw:Step start E\nw:Step write o.v 7 0\nw:Step end\nidle\n" ++ more

abbrev pub cut_in_word : List ℕ
cut_in_word = codes "rte-trace 1\n" ++ ten_ticks_text ++ codes "run\nw:Step start E\nw:Step write o.v 7 0\nw:Step end\nr:Look start E"

-- ---- nothing, or not what comes next

abbrev pub no_such_version : List ℕ → List ℕ
no_such_version more = codes "rte-trace 9\n" ++ more

abbrev pub idle_first : List ℕ → List ℕ
idle_first more = codes "rte-trace 1\nidle\n" ++ more

abbrev pub run_first : List ℕ → List ℕ
run_first more = codes "rte-trace 1\nrun\n" ++ more

abbrev pub eleven_ticks : List ℕ → List ℕ
eleven_ticks more = codes "rte-trace 1\n" ++ ten_ticks_text ++ codes "env tick\n" ++ more

-- ---- a mode switch on three cores

-- until the on-exit runnable has ended
abbrev pub until_ended : Session
until_ended = by 1 deed.End ∷ until_exit

-- until the event was not admitted
abbrev pub until_not_admitted : Session
until_not_admitted = by 0 (deed.Admit false) ∷ until_closed

abbrev pub phases_exchanged : List ℕ → List ℕ
phases_exchanged more =
    codes "rte-trace 1\nrun\nenv.m.g phase stable\nidle\nenv switch m.g 1 0\n" ++ ten_ticks_text
    ++ codes "run\nu:F start E\nenv.m.g phase close 1\nu:F admit no\nenv.m.g phase exit\nu:X start X1\nu:X end\nenv.m.g phase entry\n" ++ more

abbrev pub phases_exchanged_by_names : List ℕ → List ℕ
phases_exchanged_by_names more =
    codes "rte-trace 2\nrun\nenv.m.g phase stable\nidle\nenv switch m.g On 0\n" ++ ten_ticks_text
    ++ codes "run\nu:F start E\nenv.m.g phase close On\nu:F admit no\nenv.m.g phase exit\nu:X start X1\nu:X end\nenv.m.g phase entry\n" ++ more

-- cut after the third byte of its twentieth line
abbrev pub cut_in_phase : List ℕ
cut_in_phase =
    codes "rte-trace 1\nrun\nenv.m.g phase stable\nidle\nenv switch m.g 1 0\n" ++ ten_ticks_text
    ++ codes "run\nu:F start E\nenv.m.g phase close 1\nu:F admit no\nenv"
