-- A worked row of two mode machines: both switch, each goes on when what it owes itself is done, and a mode port gives the mode of its own
-- machine. Sessions have their newest item first.
use Rattle.std.specs.Prelude.{ℕ, List, [], ◌∷◌, ◌++◌, codes, true, None}
use Rattle.runnable_lang.specs.declared.program.AccessKind.TheVariants as kind
use Rattle.bus_semantics.specs.Common.{asks_mode, done, next, Plan, Runnable, run_begins, run_closes, idle, Session}
use Rattle.bus_semantics.specs.declared.plan.Moment.TheVariants.{OnEntry}
use Rattle.bus_laws.specs.Common.{Line, Mapping, Entry}
use Rattle.bus_semantics.specs.declared.script.Line.TheVariants as line
use Rattle.bus_semantics.specs.declared.entries.Deed.TheVariants as deed
use Rattle.bus_semantics.specs.declared.entries.Wish.TheVariants as wish
use Rattle.bus_rows.specs.RowParts.{naming, task, act_of, machine_of, by, env, machine, start}
use Rattle.bus_rows.specs.ModeSwitch.{off_and_on, mode_port, owed, phase_close, phase_exit, phase_transition, phase_entry, phase_stable}

-- runnable `Z` of instance `u`: it asks the mode at `p` and at `q`
abbrev pub observer : Runnable
observer = record {
  instance = 0;
  name = codes "Z";
  program = record { vars = 2; body = next (asks_mode 0 0) (next (asks_mode 1 1) done) };
  accesses = naming kind.Mode 0 2 ∷ naming kind.Mode 1 2 ∷ [];
  targets = 0 ∷ 1 ∷ [];
  server = None;
  lists = [];
}

-- `Z` starts on entry of `On` of the first machine, whose port is `p`
abbrev pub two_machines : Plan
two_machines = record {
  names = codes "u" ∷ [];
  elements = [];
  groups = [];
  points = [];
  servers = [];
  areas = [];
  machines = off_and_on None (codes "m.g") 2 true ∷ off_and_on None (codes "n.g") 2 true ∷ [];
  mode_ports = mode_port 0 (codes "p.g") 0 ∷ mode_port 0 (codes "q.g") 1 ∷ [];
  events = owed 0 (codes "Z1") (OnEntry 1) ∷ [];
  runnables = observer ∷ [];
  lists = [];
  homes = [];
  bundles = [];
  objects = 3;
}

abbrev pub observer_task : Mapping
observer_task = record { cores = 1; tasks = task (codes "T") 0 (0 ∷ []) ∷ [] }

abbrev pub two_switches : List Line
two_switches = line.Run ∷ line.Call (wish.Switch 0 1) ∷ line.Call (wish.Switch 1 1) ∷ line.Run ∷ []

-- until the second machine is stable, while `Z` runs
abbrev pub until_second_stable : Session
until_second_stable =
    machine 1 phase_stable
    ∷ machine 1 phase_entry
    ∷ machine 1 phase_transition
    ∷ machine 1 phase_exit
    ∷ by 0 (start 0)
    ∷ machine 0 phase_entry
    ∷ machine 0 phase_transition
    ∷ machine 0 phase_exit
    ∷ machine 1 phase_close
    ∷ machine 0 phase_close
    ∷ run_begins
    ∷ env (deed.Switch 1 1 0)
    ∷ env (deed.Switch 0 1 0)
    ∷ run_closes idle
    ∷ machine 1 phase_stable
    ∷ machine 0 phase_stable
    ∷ run_begins
    ∷ []

-- the transition value of two modes is 2
abbrev pub until_first_seen : Session
until_first_seen = by 0 (deed.Mode 0 2) ∷ until_second_stable

abbrev pub both_switched : Session
both_switched = run_closes idle ∷ machine 0 phase_stable ∷ by 0 deed.End ∷ by 0 (deed.Mode 1 1) ∷ until_first_seen

abbrev pub both_switched_text : List ℕ
both_switched_text =
    codes "rte-trace 2\nrun\nenv.m.g phase stable\nenv.n.g phase stable\nidle\nenv switch m.g On 0\nenv switch n.g On 0\nrun\n"
    ++ codes "env.m.g phase close On\nenv.n.g phase close On\nenv.m.g phase exit\nenv.m.g phase transition\nenv.m.g phase entry\nu:Z start Z1\n"
    ++ codes "env.n.g phase exit\nenv.n.g phase transition\nenv.n.g phase entry\nenv.n.g phase stable\nu:Z mode p.g -\nu:Z mode q.g On\n"
    ++ codes "u:Z end\nenv.m.g phase stable\nidle\n"

-- the first machine is stable while its on-entry runnable runs
abbrev pub stable_early : Entry
stable_early = machine_of 0 phase_stable

-- the port of the second machine gives the transition value of the first
abbrev pub machines_crossed : Entry
machines_crossed = act_of 0 (deed.Mode 1 2)
