-- A worked row of a server with a queue: one client waits for its answer, and another one goes on and takes its result when it is told
-- (AsynchronousServerCallReturnsEvent). Sessions have their newest item first.
use Rattle.std.specs.Prelude.{ℕ, pos, List, [], ◌∷◌, ◌++◌, codes, true, false, Some, None}
use Rattle.bus_semantics.specs.Common.{one_word, constant, calls_and_goes_on, takes_result, done, next, Plan, Runnable, run_begins, run_closes, idle, Session}
use Rattle.runnable_lang.specs.declared.program.AccessKind.TheVariants as kind
use Rattle.bus_laws.specs.Common.{Timing, Invoked, Returns, Mapping, Deed, Entry}
use Rattle.bus_semantics.specs.declared.entries.Deed.TheVariants as deed
use Rattle.bus_rows.specs.RowParts.{giving, taking, starting, task, act_of, by, start, ten_ticks, ten_ticks_text}
use Rattle.bus_rows.specs.OutsideCall.{adder, operation, call_point}
use Rattle.bus_rows.specs.DirectCall.{client}

-- runnable `Ask` of instance `j`: it calls `d.op` with 9 and goes on
abbrev pub asker : Runnable
asker = record {
  instance = 1;
  name = codes "Ask";
  program = record { vars = 1; body = next (calls_and_goes_on 0 0 (constant (pos 9) ∷ []) 0) done };
  accesses = giving kind.ACall 0 ∷ [];
  targets = 1 ∷ [];
  server = None;
  lists = [];
}

-- runnable `Hear` of instance `j`: it takes the result of `d.op`
abbrev pub hearer : Runnable
hearer = record {
  instance = 1;
  name = codes "Hear";
  program = record { vars = 2; body = next (takes_result 0 0 (0 ∷ []) 1) done };
  accesses = taking kind.TakeResult 0 ∷ [];
  targets = 1 ∷ [];
  server = None;
  lists = [];
}

abbrev pub two_clients : Plan
two_clients = record {
  names = codes "k" ∷ codes "j" ∷ codes "v" ∷ [];
  elements = [];
  groups = [];
  points = call_point (Some 0) (codes "c.op") false ∷ call_point (Some 1) (codes "d.op") true ∷ [];
  servers = operation 2 3 3 (Some 2) ∷ [];
  areas = [];
  machines = [];
  mode_ports = [];
  events = starting 0 (codes "E") (Timing 10) ∷ starting 1 (codes "E") (Timing 10) ∷ starting 2 (codes "R") (Returns 1) ∷ starting 3 (codes "O") (Invoked 0) ∷ [];
  runnables = client ∷ asker ∷ hearer ∷ adder 2 ∷ [];
  lists = [];
  homes = [];
  bundles = [];
  objects = 2;
}

abbrev pub clients_and_server : Mapping
clients_and_server = record { cores = 2; tasks = task (codes "TK") 0 (0 ∷ []) ∷ task (codes "TJ") 0 (1 ∷ 2 ∷ []) ∷ task (codes "TV") 1 (3 ∷ []) ∷ [] }

abbrev pub asks : (point : ℕ) → (value : ℕ) → Deed
asks q value = deed.Ask q (one_word (pos value)) 0

abbrev pub serves : (point : ℕ) → (value : ℕ) → Deed
serves q value = deed.Start 3 (Some q) (one_word (pos value))

abbrev pub returns : (value : ℕ) → Deed
returns value = deed.Return 5 (one_word (pos value))

abbrev pub hears : (value : ℕ) → Deed
hears value = deed.Answer 0 5 (one_word (pos value))

-- until both have asked, the waiting client first
abbrev pub until_both_asked : Session
until_both_asked =
    by 1 deed.End
    ∷ by 1 (asks 1 9)
    ∷ by 0 (asks 0 4)
    ∷ by 1 (start 1)
    ∷ by 0 (start 0)
    ∷ run_begins
    ∷ ten_ticks

-- until the second request is served, and the first client waits no longer
abbrev pub until_second_served : Session
until_second_served =
    by 0 deed.End
    ∷ by 3 (serves 1 9)
    ∷ by 0 (hears 5)
    ∷ by 3 deed.End
    ∷ by 3 (returns 5)
    ∷ by 3 (serves 0 4)
    ∷ until_both_asked

abbrev pub served_in_turn : Session
served_in_turn =
    run_closes idle
    ∷ by 2 deed.End
    ∷ by 2 (deed.TakeResult 1 5 (one_word (pos 10)))
    ∷ by 3 deed.End
    ∷ by 2 (start 2)
    ∷ by 3 (returns 10)
    ∷ until_second_served

abbrev pub served_in_turn_text : List ℕ
served_in_turn_text =
    codes "rte-trace 1\n" ++ ten_ticks_text
    ++ codes "run\nk:Go start E\nj:Ask start E\nk:Go ask c.op 4 0\nj:Ask ask d.op 9 0\nj:Ask end\nv:Serve start O from k:Go.c.op 4\n"
    ++ codes "v:Serve return 5 5\nv:Serve end\nk:Go answer c.op 5 5\nv:Serve start O from j:Ask.d.op 9\nk:Go end\n"
    ++ codes "v:Serve return 5 10\nj:Hear start R\nv:Serve end\nj:Hear result d.op 5 10\nj:Hear end\nidle\n"

-- the later request is served first
abbrev pub later_first : Entry
later_first = act_of 3 (serves 1 9)

-- the waiting client hears before the server has returned
abbrev pub heard_early : Entry
heard_early = act_of 0 (hears 5)

-- the other client is told before the server has returned to it
abbrev pub told_early : Entry
told_early = act_of 2 (start 2)
