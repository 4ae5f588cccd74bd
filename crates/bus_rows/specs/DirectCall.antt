-- The worked row of a direct call: the server runs within its caller's call. Sessions have their newest item first.
use Rattle.std.specs.Prelude.{ℕ, pos, List, [], ◌∷◌, ◌++◌, codes, false, Some, None}
use Rattle.bus_semantics.specs.Common.{one_word, constant, calls, done, next, Plan, Runnable, Item, made, run_begins, run_closes, idle, Session}
use Rattle.runnable_lang.specs.declared.program.AccessKind.TheVariants as kind
use Rattle.bus_laws.specs.Common.{Timing, Invoked, Mapping, Act, Deed, Entry}
use Rattle.bus_semantics.specs.declared.entries.Deed.TheVariants as deed
use Rattle.bus_rows.specs.RowParts.{one_limit, starting, task, act_of, by, start, ten_ticks, ten_ticks_text}
use Rattle.bus_rows.specs.OutsideCall.{adder, operation, call_point, asked}

-- runnable `Go` of instance `k`: it calls `c.op` with 4 and waits
abbrev pub client : Runnable
client = record {
  instance = 0;
  name = codes "Go";
  program = record { vars = 2; body = next (calls 0 0 (constant (pos 4) ∷ []) (0 ∷ []) 1) done };
  accesses = record { kind = kind.Call; port = 0; item = 0; ins = one_limit; outs = one_limit; modes = 0 } ∷ [];
  targets = 0 ∷ [];
  server = None;
  lists = [];
}

abbrev pub direct_server : Plan
direct_server = record {
  names = codes "k" ∷ codes "v" ∷ [];
  elements = [];
  groups = [];
  points = call_point (Some 0) (codes "c.op") false ∷ [];
  servers = operation 1 1 1 None ∷ [];
  areas = [];
  machines = [];
  mode_ports = [];
  events = starting 0 (codes "E") (Timing 10) ∷ starting 1 (codes "O") (Invoked 0) ∷ [];
  runnables = client ∷ adder 1 ∷ [];
  lists = [];
  homes = [];
  bundles = [];
  objects = 2;
}

-- the server's event is in no task
abbrev pub caller_task : Mapping
caller_task = record { cores = 1; tasks = task (codes "T") 0 (0 ∷ []) ∷ [] }

-- an item that the server made for the point of `Go`
abbrev pub for_caller : Deed → Item
for_caller d = made (record { actor = Act (record { runnable = 1; point = Some 0 }); deed = d })

abbrev pub answered : (value : ℕ) → Deed
answered value = deed.Answer 0 5 (one_word (pos value))

-- until the server has returned
abbrev pub until_returned : Session
until_returned =
    for_caller (deed.Return 5 (one_word (pos 5)))
    ∷ for_caller (deed.Start 1 (Some 0) (one_word (pos 4)))
    ∷ by 0 (asked 4 0)
    ∷ by 0 (start 0)
    ∷ run_begins
    ∷ ten_ticks

abbrev pub until_ended : Session
until_ended = for_caller deed.End ∷ until_returned

abbrev pub served_within : Session
served_within = run_closes idle ∷ by 0 deed.End ∷ by 0 (answered 5) ∷ until_ended

abbrev pub served_within_text : List ℕ
served_within_text =
    codes "rte-trace 1\n" ++ ten_ticks_text
    ++ codes "run\nk:Go start E\nk:Go ask c.op 4 0\nv:Serve@k:Go.c.op start O from k:Go.c.op 4\nv:Serve@k:Go.c.op return 5 5\n"
    ++ codes "v:Serve@k:Go.c.op end\nk:Go answer c.op 5 5\nk:Go end\nidle\n"

-- the caller goes on before the server has ended
abbrev pub answered_early : Entry
answered_early = act_of 0 (answered 5)

-- the caller hears another value than was returned
abbrev pub answered_wrongly : Entry
answered_wrongly = act_of 0 (answered 4)
