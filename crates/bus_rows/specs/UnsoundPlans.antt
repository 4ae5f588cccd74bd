-- Plans that are sound except for one thing. Each is written by what is wrong in it, so that the same plan with another number or name
-- there is sound.
use Rattle.std.specs.Prelude.{ℕ, pos, List, [], ◌∷◌, codes, replicate, true, false, Option, Some, None}
use Rattle.runnable_lang.specs.declared.program.AccessKind.TheVariants as kind
use Rattle.bus_semantics.specs.Common.{AccessSig, StmtTree, constant, variable, in_area, calls, done, next, Plan, Runnable}
use Rattle.bus_laws.specs.Common.{ElemPlan, Unqueued, PointPlan, Timing, Invoked, Mapping}
use Rattle.bus_rows.specs.RowParts.{to_1000, one_limit, provided, naming, starting, task}
use Rattle.bus_rows.specs.OneWriter.{writer, reader, one_writer}
use Rattle.bus_rows.specs.OutsideCall.{operation, call_point}
use Rattle.bus_rows.specs.WaitingSwitch.{three_writes, flipper, waiting}

-- ---- areas: two runnables that each enter an area within an area

-- a runnable of instance `b`, with the numbers of its two areas
abbrev pub nesting : (name : List ℕ) → (outer : ℕ) → (inner : ℕ) → Runnable
nesting name outer inner = record {
  instance = 0;
  name = name;
  program = record { vars = 0; body = next (in_area 0 (next (in_area 1 done) done)) done };
  accesses = naming kind.Enter 0 0 ∷ record (naming kind.Enter 0 0) { item = 1 } ∷ [];
  targets = outer ∷ inner ∷ [];
  server = None;
  lists = [];
}

-- the first runnable enters area 1 within area 0, and the second one enters `inner` within `outer`
abbrev pub nested_areas : (outer : ℕ) → (inner : ℕ) → Plan
nested_areas outer inner = record {
  names = codes "b" ∷ [];
  elements = [];
  groups = [];
  points = [];
  servers = [];
  areas = record { instance = 0; name = codes "x" } ∷ record { instance = 0; name = codes "y" } ∷ [];
  machines = [];
  mode_ports = [];
  events = starting 0 (codes "E0") (Timing 10) ∷ starting 1 (codes "E1") (Timing 10) ∷ [];
  runnables = nesting (codes "R0") 0 1 ∷ nesting (codes "R1") outer inner ∷ [];
  lists = [];
  homes = [];
  bundles = [];
  objects = 3;
}

-- ---- points: a runnable that calls at two points without a server

abbrev pub unjoined_point : (name : List ℕ) → (arguments : ℕ) → PointPlan
unjoined_point name n = record { runnable = Some 0; name = name; server = None; asynchronous = false; ins = replicate n to_1000; outs = [] }

abbrev pub calling : (port : ℕ) → (arguments : ℕ) → AccessSig
calling port n = record { kind = kind.Call; port = port; item = 0; ins = replicate n to_1000; outs = []; modes = 0 }

abbrev pub call_with : (port : ℕ) → (arguments : ℕ) → StmtTree
call_with port n = calls port 0 (replicate n (constant (pos 4))) [] 0

-- the first point is `c.op` and has one argument; the second one has this name and so many arguments
abbrev pub two_points : (name : List ℕ) → (arguments : ℕ) → Plan
two_points name n = record {
  names = codes "k" ∷ [];
  elements = [];
  groups = [];
  points = unjoined_point (codes "c.op") 1 ∷ unjoined_point name n ∷ [];
  servers = [];
  areas = [];
  machines = [];
  mode_ports = [];
  events = starting 0 (codes "E") (Timing 10) ∷ [];
  runnables = record {
    instance = 0;
    name = codes "Go";
    program = record { vars = 1; body = next (call_with 0 1) (next (call_with 1 n) done) };
    accesses = calling 0 1 ∷ calling 1 n ∷ [];
    targets = 0 ∷ 1 ∷ [];
    server = None;
    lists = [];
  } ∷ [];
  lists = [];
  homes = [];
  bundles = [];
  objects = 1;
}

-- ---- switches: the plan of a machine that waits, where the access for switching names this item

abbrev pub switch_of_item : (item : ℕ) → Plan
switch_of_item item = record waiting { runnables = three_writes ∷ record flipper { accesses = record (naming kind.Switch 0 2) { item = item } ∷ [] } ∷ [] }

-- ---- data elements: `o.v`, `p.v`, and a third one of this name

abbrev pub unjoined_element : (name : List ℕ) → (group : ℕ) → ElemPlan
unjoined_element name group = provided (Some 0) name Unqueued false group

abbrev pub three_elements : (name : List ℕ) → Plan
three_elements name = record {
  names = codes "w" ∷ [];
  elements = unjoined_element (codes "o.v") 0 ∷ unjoined_element (codes "p.v") 1 ∷ unjoined_element name 2 ∷ [];
  groups = (0 ∷ []) ∷ (1 ∷ []) ∷ (2 ∷ []) ∷ [];
  points = [];
  servers = [];
  areas = [];
  machines = [];
  mode_ports = [];
  events = [];
  runnables = [];
  lists = [];
  homes = 0 ∷ 1 ∷ 2 ∷ [];
  bundles = (0 ∷ []) ∷ (1 ∷ []) ∷ (2 ∷ []) ∷ [];
  objects = 4;
}

abbrev pub no_task : Mapping
no_task = record { cores = 1; tasks = [] }

-- the same, with all groups in one bundle, though no list connects them
abbrev pub in_one_bundle : Plan
in_one_bundle = record (three_elements (codes "p.w")) { homes = 0 ∷ 0 ∷ 0 ∷ []; bundles = (0 ∷ 1 ∷ 2 ∷ []) ∷ []; objects = 2 }

-- ---- lists: a writer and a reader, where the writer has these lists and the plan has none

abbrev pub writer_lists : List ℕ → Plan
writer_lists ls = record one_writer { runnables = record (writer 0 0) { lists = ls } ∷ reader 1 ∷ [] }

-- ---- calls: two servers with queues, whose runnables call, and wait

-- runnable `Serve` of an instance: it serves the server of the instance's number, and calls at the point of that number
abbrev pub serving_and_calling : (instance : ℕ) → Runnable
serving_and_calling i = record {
  instance = i;
  name = codes "Serve";
  program = record { vars = 3; body = next (calls 0 0 (variable 0 ∷ []) (1 ∷ []) 2) done };
  accesses = record { kind = kind.Call; port = 0; item = 0; ins = one_limit; outs = one_limit; modes = 0 } ∷ [];
  targets = i ∷ [];
  server = Some i;
  lists = [];
}

-- the first one calls the second server, and the second one calls this server; the environment calls the first
abbrev pub servers_that_call : (second_calls : Option ℕ) → Plan
servers_that_call second_calls = record {
  names = codes "v" ∷ codes "w" ∷ [];
  elements = [];
  groups = [];
  points = record (call_point (Some 0) (codes "c.op") false) { server = Some 1 }
      ∷ record (call_point (Some 1) (codes "c.op") false) { server = second_calls }
      ∷ call_point None (codes "s.op") true
      ∷ [];
  servers = operation 0 0 0 (Some 2) ∷ operation 1 1 1 (Some 2) ∷ [];
  areas = [];
  machines = [];
  mode_ports = [];
  events = starting 0 (codes "O") (Invoked 0) ∷ starting 1 (codes "O") (Invoked 1) ∷ [];
  runnables = serving_and_calling 0 ∷ serving_and_calling 1 ∷ [];
  lists = [];
  homes = [];
  bundles = [];
  objects = 3;
}

abbrev pub a_task_each : Mapping
a_task_each = record { cores = 2; tasks = task (codes "TV") 0 (0 ∷ []) ∷ task (codes "TW") 1 (1 ∷ []) ∷ [] }

abbrev pub in_one_task : Mapping
in_one_task = record { cores = 1; tasks = task (codes "T") 0 (0 ∷ 1 ∷ []) ∷ [] }
