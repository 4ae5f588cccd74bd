-- The worked row of a mode switch on three cores: an event that the next mode disables, then what the machine owes on exit, on transition
-- and on entry, each on a core of its own. Sessions have their newest item first.
use Rattle.std.specs.Prelude.{ℕ, List, [], ◌∷◌, ◌++◌, codes, Bool, true, false, Option, Some, None}
use Rattle.rte_value.specs.declared.kinds.Step.TheVariants as step
use Rattle.bus_semantics.specs.Common.{done, Plan, Runnable, run_begins, run_closes, idle, Session}
use Rattle.bus_laws.specs.Common.{MachinePlan, ModePortPlan, EventPlan, Timing, ModeSwitch, Moment, Line, Mapping, Deed, Entry}
use Rattle.bus_semantics.specs.declared.plan.Moment.TheVariants.{OnExit, OnTransition, OnEntry}
use Rattle.bus_semantics.specs.declared.script.Line.TheVariants as line
use Rattle.bus_semantics.specs.declared.entries.Deed.TheVariants as deed
use Rattle.bus_semantics.specs.declared.entries.Wish.TheVariants as wish
use Rattle.bus_rows.specs.RowParts.{starting, task, act_of, machine_of, by, env, machine, start, ten_ticks, ten_ticks_text}

-- a machine with the modes `Off`, where it begins, and `On`
abbrev pub off_and_on : (instance : Option ℕ) → (name : List ℕ) → (queue : ℕ) → (waits : Bool) → MachinePlan
off_and_on home name queue waits = record { instance = home; name = name; modes = codes "Off" ∷ codes "On" ∷ []; initial = 0; queue = queue; waits = waits }

abbrev pub mode_port : (instance : ℕ) → (name : List ℕ) → (machine : ℕ) → ModePortPlan
mode_port i name m = record { instance = Some i; name = name; machine = m }

-- event `E` of a period of 10, disabled in mode `On` of machine 0
abbrev pub disabled_in_on : (runnable : ℕ) → EventPlan
disabled_in_on r = record { runnable = r; name = codes "E"; kind = Timing 10; disabled = Some (record { machine = 0; modes = 1 ∷ [] }) }

abbrev pub owed : (runnable : ℕ) → (name : List ℕ) → Moment → EventPlan
owed r name moment = starting r name (ModeSwitch 0 moment)

-- a runnable of instance `u` with an empty program
abbrev pub doing_nothing : (name : List ℕ) → Runnable
doing_nothing name = record { instance = 0; name = name; program = record { vars = 0; body = done }; accesses = []; targets = []; server = None; lists = [] }

abbrev pub phase_close : Deed
phase_close = deed.Phase (step.Close 1)

abbrev pub phase_exit : Deed
phase_exit = deed.Phase step.Exit

abbrev pub phase_transition : Deed
phase_transition = deed.Phase step.Transition

abbrev pub phase_entry : Deed
phase_entry = deed.Phase step.Entry

abbrev pub phase_stable : Deed
phase_stable = deed.Phase step.Stable

-- ---- the row

abbrev pub one_machine : Plan
one_machine = record {
  names = codes "u" ∷ [];
  elements = [];
  groups = [];
  points = [];
  servers = [];
  areas = [];
  machines = off_and_on None (codes "m.g") 2 true ∷ [];
  mode_ports = mode_port 0 (codes "p.g") 0 ∷ [];
  events = disabled_in_on 0 ∷ owed 1 (codes "X1") (OnExit 0) ∷ owed 2 (codes "Y1") (OnTransition 0 1) ∷ owed 3 (codes "Z1") (OnEntry 1) ∷ [];
  runnables = doing_nothing (codes "F") ∷ doing_nothing (codes "X") ∷ doing_nothing (codes "Y") ∷ doing_nothing (codes "Z") ∷ [];
  lists = [];
  homes = [];
  bundles = [];
  objects = 2;
}

abbrev pub three_cores : Mapping
three_cores = record {
  cores = 3;
  tasks = task (codes "TX") 0 (1 ∷ []) ∷ task (codes "TF") 0 (0 ∷ []) ∷ task (codes "TY") 1 (2 ∷ []) ∷ task (codes "TZ") 2 (3 ∷ []) ∷ [];
}

abbrev pub switch_and_run : List Line
switch_and_run = line.Run ∷ line.Call (wish.Switch 0 1) ∷ line.Tick 10 ∷ line.Run ∷ []

-- until the switch has begun, when `F` has started
abbrev pub until_closed : Session
until_closed =
    machine 0 phase_close
    ∷ by 0 (start 0)
    ∷ run_begins
    ∷ ten_ticks ++ (env (deed.Switch 0 1 0) ∷ run_closes idle ∷ machine 0 phase_stable ∷ run_begins ∷ [])

-- until the on-exit runnable has started
abbrev pub until_exit : Session
until_exit = by 1 (start 1) ∷ machine 0 phase_exit ∷ by 0 (deed.Admit false) ∷ until_closed

abbrev pub until_settled : Session
until_settled =
    machine 0 phase_stable
    ∷ by 3 deed.End
    ∷ by 3 (start 3)
    ∷ machine 0 phase_entry
    ∷ by 2 deed.End
    ∷ by 2 (start 2)
    ∷ machine 0 phase_transition
    ∷ by 1 deed.End
    ∷ until_exit

abbrev pub switched : Session
switched = run_closes idle ∷ until_settled

abbrev pub switched_text : List ℕ
switched_text =
    codes "rte-trace 1\nrun\nenv.m.g phase stable\nidle\nenv switch m.g 1 0\n" ++ ten_ticks_text
    ++ codes "run\nu:F start E\nenv.m.g phase close 1\nu:F admit no\nenv.m.g phase exit\nu:X start X1\nu:X end\nenv.m.g phase transition\n"
    ++ codes "u:Y start Y1\nu:Y end\nenv.m.g phase entry\nu:Z start Z1\nu:Z end\nenv.m.g phase stable\nidle\n"

abbrev pub switched_text_by_names : List ℕ
switched_text_by_names =
    codes "rte-trace 2\nrun\nenv.m.g phase stable\nidle\nenv switch m.g On 0\n" ++ ten_ticks_text
    ++ codes "run\nu:F start E\nenv.m.g phase close On\nu:F admit no\nenv.m.g phase exit\nu:X start X1\nu:X end\nenv.m.g phase transition\n"
    ++ codes "u:Y start Y1\nu:Y end\nenv.m.g phase entry\nu:Z start Z1\nu:Z end\nenv.m.g phase stable\nidle\n"

-- the disabled event is admitted
abbrev pub disabled_admitted : Entry
disabled_admitted = act_of 0 (deed.Admit true)

-- the machine goes on before the on-exit runnable has ended
abbrev pub transition_early : Entry
transition_early = machine_of 0 phase_transition

-- the event that was not admitted starts its runnable later
abbrev pub disabled_remembered : Entry
disabled_remembered = act_of 0 (start 0)
