-- Worked rows of queued data: the environment sends to receivers that each take three times, with queues of some lengths. Sessions have
-- their newest item first.
use Rattle.std.specs.Prelude.{ℕ, pos, List, [], ◌∷◌, ◌++◌, codes, true, Some, None}
use Rattle.bus_semantics.specs.Common.{empty_value, one_word, receives, repeats, done, next, Plan, Runnable, run_begins, run_closes, idle, Session}
use Rattle.runnable_lang.specs.declared.program.AccessKind.TheVariants as kind
use Rattle.bus_laws.specs.Common.{Queued, DataReceived, Line, Mapping, Deed, Entry}
use Rattle.bus_semantics.specs.declared.script.Line.TheVariants as line
use Rattle.bus_semantics.specs.declared.entries.Deed.TheVariants as deed
use Rattle.bus_semantics.specs.declared.entries.Wish.TheVariants as wish
use Rattle.bus_rows.specs.RowParts.{provided, required, taking, starting, task, act_of, env_of, by, env, start}

-- runnable `Take` of an instance: it receives three times from `q.v`
abbrev pub taker : (instance : ℕ) → (elem : ℕ) → Runnable
taker i x = record {
  instance = i;
  name = codes "Take";
  program = record { vars = 2; body = next (repeats 3 (next (receives 0 0 (0 ∷ []) 1) done)) done };
  accesses = taking kind.Receive 0 ∷ [];
  targets = x ∷ [];
  server = None;
  lists = [];
}

abbrev pub send : (elem : ℕ) → (value : ℕ) → Line
send x value = line.Call (wish.Send x (one_word (pos value)))

abbrev pub sent : (elem : ℕ) → (value : ℕ) → (code : ℕ) → Deed
sent x value code = deed.Send x (one_word (pos value)) code

abbrev pub taken : (elem : ℕ) → (code : ℕ) → (value : ℕ) → Deed
taken x code value = deed.Receive x code (one_word (pos value))

-- RTE_E_NO_DATA
abbrev pub nothing_taken : (elem : ℕ) → Deed
nothing_taken x = deed.Receive x 131 empty_value

-- ---- one receiver with a queue of two

abbrev pub one_queue : Plan
one_queue = record {
  names = codes "c" ∷ [];
  elements = required (Some 0) (codes "q.v") Queued 0 2 ∷ provided None (codes "in.v") Queued true 0 ∷ [];
  groups = (0 ∷ 1 ∷ []) ∷ [];
  points = [];
  servers = [];
  areas = [];
  machines = [];
  mode_ports = [];
  events = starting 0 (codes "D") (DataReceived 0) ∷ [];
  runnables = taker 0 0 ∷ [];
  lists = [];
  homes = 0 ∷ [];
  bundles = (0 ∷ []) ∷ [];
  objects = 2;
}

abbrev pub one_event : Mapping
one_event = record { cores = 1; tasks = task (codes "T") 0 (0 ∷ []) ∷ [] }

abbrev pub three_sends : List Line
three_sends = send 1 1 ∷ send 1 2 ∷ send 1 3 ∷ line.Run ∷ []

abbrev pub two_sent : Session
two_sent = env (sent 1 2 0) ∷ env (sent 1 1 0) ∷ []

-- until the receiver has started
abbrev pub until_take : Session
until_take = by 0 (start 0) ∷ run_begins ∷ env (sent 1 3 130) ∷ two_sent

abbrev pub third_lost : Session
third_lost =
    run_closes idle
    ∷ by 0 deed.End
    ∷ by 0 (nothing_taken 0)
    ∷ by 0 (taken 0 0 2)
    ∷ by 0 (taken 0 64 1)
    ∷ until_take

abbrev pub third_lost_text : List ℕ
third_lost_text =
    codes "rte-trace 1\nenv send in.v 1 0\nenv send in.v 2 0\nenv send in.v 3 130\nrun\nc:Take start D\n"
    ++ codes "c:Take receive q.v 64 1\nc:Take receive q.v 0 2\nc:Take receive q.v 131 -\nc:Take end\nidle\n"

-- a third value that finds room
abbrev pub third_accepted : Entry
third_accepted = env_of (sent 1 3 0)

-- the oldest value gave way to the third
abbrev pub oldest_overwritten : Entry
oldest_overwritten = act_of 0 (taken 0 64 2)

-- the loss is not told
abbrev pub loss_untold : Entry
loss_untold = act_of 0 (taken 0 0 1)

-- ---- two receivers, with a queue of two and a queue of one

abbrev pub two_queues : Plan
two_queues = record {
  names = codes "c" ∷ codes "d" ∷ [];
  elements = required (Some 0) (codes "q.v") Queued 0 2 ∷ required (Some 1) (codes "q.v") Queued 0 1 ∷ provided None (codes "in.v") Queued true 0 ∷ [];
  groups = (0 ∷ 1 ∷ 2 ∷ []) ∷ [];
  points = [];
  servers = [];
  areas = [];
  machines = [];
  mode_ports = [];
  events = starting 0 (codes "D") (DataReceived 0) ∷ starting 1 (codes "D") (DataReceived 1) ∷ [];
  runnables = taker 0 0 ∷ taker 1 1 ∷ [];
  lists = [];
  homes = 0 ∷ [];
  bundles = (0 ∷ []) ∷ [];
  objects = 2;
}

abbrev pub two_events : Mapping
two_events = record { cores = 1; tasks = task (codes "T") 0 (0 ∷ 1 ∷ []) ∷ [] }

abbrev pub two_sends : List Line
two_sends = send 2 1 ∷ send 2 2 ∷ line.Run ∷ []

-- until the first receiver has taken once
abbrev pub until_taken : Session
until_taken = by 0 (taken 0 0 1) ∷ by 0 (start 0) ∷ run_begins ∷ env (sent 2 2 130) ∷ env (sent 2 1 0) ∷ []

abbrev pub one_full : Session
one_full =
    run_closes idle
    ∷ by 1 deed.End
    ∷ by 1 (nothing_taken 1)
    ∷ by 1 (nothing_taken 1)
    ∷ by 1 (taken 1 64 1)
    ∷ by 1 (start 1)
    ∷ by 0 deed.End
    ∷ by 0 (nothing_taken 0)
    ∷ by 0 (taken 0 0 2)
    ∷ until_taken

abbrev pub one_full_text : List ℕ
one_full_text =
    codes "rte-trace 1\nenv send in.v 1 0\nenv send in.v 2 130\nrun\nc:Take start D\n"
    ++ codes "c:Take receive q.v 0 1\nc:Take receive q.v 0 2\nc:Take receive q.v 131 -\nc:Take end\nd:Take start D\n"
    ++ codes "d:Take receive q.v 64 1\nd:Take receive q.v 131 -\nd:Take receive q.v 131 -\nd:Take end\nidle\n"

-- the full queue kept the second value from the other one
abbrev pub blocked_for_all : Entry
blocked_for_all = act_of 0 (nothing_taken 0)
