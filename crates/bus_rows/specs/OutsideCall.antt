-- The worked row of a call from outside: the environment asks a server with a queue, and takes the result. Sessions have their newest
-- item first.
use Rattle.std.specs.Prelude.{ℕ, pos, List, [], ◌∷◌, ◌++◌, codes, Bool, true, false, Option, Some, None}
use Rattle.bus_semantics.specs.Common.{empty_value, one_word, constant, variable, combined, sets, done, next, Plan, Runnable, run_begins, run_closes, idle, Session}
use Rattle.runnable_lang.specs.declared.stmt.Op.TheVariants.{Add}
use Rattle.bus_laws.specs.Common.{PointPlan, ServerPlan, Invoked, Line, Mapping, Deed, Entry}
use Rattle.bus_semantics.specs.declared.script.Line.TheVariants as line
use Rattle.bus_semantics.specs.declared.entries.Deed.TheVariants as deed
use Rattle.bus_semantics.specs.declared.entries.Wish.TheVariants as wish
use Rattle.bus_rows.specs.RowParts.{to_1000, one_limit, starting, task, env_of, by, env}

-- runnable `Serve` of an instance: it returns `a` plus one in `b`, and the application error 5
abbrev pub adder : (instance : ℕ) → Runnable
adder i = record {
  instance = i;
  name = codes "Serve";
  program = record { vars = 3; body = next (sets 1 (combined Add (variable 0) (constant (pos 1)))) (next (sets 2 (constant (pos 5))) done) };
  accesses = [];
  targets = [];
  server = Some 0;
  lists = [];
}

-- operation `op` of port `s`, with `in` argument `a`, `out` argument `b` and the error 5
abbrev pub operation : (instance : ℕ) → (runnable : ℕ) → (event : ℕ) → (queue : Option ℕ) → ServerPlan
operation i r e queue = record {
  instance = i;
  name = codes "s.op";
  runnable = r;
  event = e;
  queue = queue;
  arguments = record { out = false; limits = to_1000 } ∷ record { out = true; limits = to_1000 } ∷ [];
  errors = 5 ∷ [];
}

abbrev pub call_point : (runnable : Option ℕ) → (name : List ℕ) → (asynchronous : Bool) → PointPlan
call_point r name asynchronous = record { runnable = r; name = name; server = Some 0; asynchronous = asynchronous; ins = one_limit; outs = one_limit }

abbrev pub asked : (value : ℕ) → (code : ℕ) → Deed
asked value code = deed.Ask 0 (one_word (pos value)) code

abbrev pub served : (value : ℕ) → Deed
served value = deed.Start 0 (Some 0) (one_word (pos value))

abbrev pub result_taken : (value : ℕ) → Deed
result_taken value = deed.TakeResult 0 5 (one_word (pos value))

-- RTE_E_NO_DATA
abbrev pub no_result : Deed
no_result = deed.TakeResult 0 131 empty_value

-- ---- the row

abbrev pub outside_caller : Plan
outside_caller = record {
  names = codes "v" ∷ [];
  elements = [];
  groups = [];
  points = call_point None (codes "s.op") true ∷ [];
  servers = operation 0 0 0 (Some 2) ∷ [];
  areas = [];
  machines = [];
  mode_ports = [];
  events = starting 0 (codes "O") (Invoked 0) ∷ [];
  runnables = adder 0 ∷ [];
  lists = [];
  homes = [];
  bundles = [];
  objects = 2;
}

abbrev pub server_task : Mapping
server_task = record { cores = 1; tasks = task (codes "T") 0 (0 ∷ []) ∷ [] }

abbrev pub asks_and_results : List Line
asks_and_results =
    line.Call (wish.Ask 0 (one_word (pos 4)))
    ∷ line.Call (wish.Ask 0 (one_word (pos 9)))
    ∷ line.Call (wish.TakeResult 0)
    ∷ line.Run
    ∷ line.Call (wish.TakeResult 0)
    ∷ line.Call (wish.TakeResult 0)
    ∷ []

abbrev pub asked_once : Session
asked_once = env (asked 4 0) ∷ []

-- until the run line has closed
abbrev pub until_served : Session
until_served =
    run_closes idle
    ∷ by 0 deed.End
    ∷ by 0 (deed.Return 5 (one_word (pos 5)))
    ∷ by 0 (served 4)
    ∷ run_begins
    ∷ env no_result
    ∷ env (asked 9 130)
    ∷ asked_once

abbrev pub served_once : Session
served_once = env no_result ∷ env (result_taken 5) ∷ until_served

abbrev pub served_once_text : List ℕ
served_once_text =
    codes "rte-trace 1\nenv ask s.op 4 0\nenv ask s.op 9 130\nenv result s.op 131 -\nrun\n"
    ++ codes "v:Serve start O from env.s.op 4\nv:Serve return 5 5\nv:Serve end\nidle\nenv result s.op 5 5\nenv result s.op 131 -\n"

-- a second call is accepted while the first is outstanding
abbrev pub second_accepted : Entry
second_accepted = env_of (asked 9 0)

-- the result is that of the other call
abbrev pub results_crossed : Entry
results_crossed = env_of (result_taken 10)
