-- A worked row of a mode machine with a queue of one: its provider switches to and fro, is told when the queue is full, and is told of
-- each switch that was made (ModeSwitchedAckEvent). Sessions have their newest item first.
use Rattle.std.specs.Prelude.{ℕ, List, [], ◌∷◌, ◌++◌, codes, true, Some, None}
use Rattle.rte_value.specs.declared.kinds.Step.TheVariants as step
use Rattle.runnable_lang.specs.declared.program.AccessKind.TheVariants as kind
use Rattle.bus_semantics.specs.Common.{switches, done, next, Plan, Runnable, run_begins, run_closes, idle, Session}
use Rattle.bus_laws.specs.Common.{Init, Ack, Line, Mapping, Deed, Entry}
use Rattle.bus_semantics.specs.declared.script.Line.TheVariants as line
use Rattle.bus_semantics.specs.declared.entries.Deed.TheVariants as deed
use Rattle.bus_rows.specs.RowParts.{naming, starting, task, act_of, by, machine, start}
use Rattle.bus_rows.specs.ModeSwitch.{off_and_on, doing_nothing, phase_close, phase_exit, phase_transition, phase_entry, phase_stable}

-- runnable `Flip` of instance `b`: it switches to `On`, and twice to `Off`
abbrev pub to_and_fro : Runnable
to_and_fro = record {
  instance = 0;
  name = codes "Flip";
  program = record { vars = 1; body = next (switches 0 1 0) (next (switches 0 0 0) (next (switches 0 0 0) done)) };
  accesses = naming kind.Switch 0 2 ∷ [];
  targets = 0 ∷ [];
  server = None;
  lists = [];
}

abbrev pub one_provider : Plan
one_provider = record {
  names = codes "b" ∷ [];
  elements = [];
  groups = [];
  points = [];
  servers = [];
  areas = [];
  machines = off_and_on (Some 0) (codes "m.g") 1 true ∷ [];
  mode_ports = [];
  events = starting 0 (codes "I") Init ∷ starting 1 (codes "A") (Ack 0) ∷ [];
  runnables = to_and_fro ∷ doing_nothing (codes "Told") ∷ [];
  lists = [];
  homes = [];
  bundles = [];
  objects = 2;
}

abbrev pub provider_task : Mapping
provider_task = record { cores = 1; tasks = task (codes "T") 0 (0 ∷ 1 ∷ []) ∷ [] }

abbrev pub only_run : List Line
only_run = line.Run ∷ []

abbrev pub switched_to : (mode : ℕ) → (code : ℕ) → Deed
switched_to mode code = deed.Switch 0 mode code

-- until the first switch was accepted, and has not begun
abbrev pub until_full : Session
until_full = by 0 (switched_to 1 0) ∷ by 0 (start 0) ∷ machine 0 phase_stable ∷ run_begins ∷ []

-- until `Flip` has ended, while the first switch is made
abbrev pub until_flipped : Session
until_flipped = by 0 deed.End ∷ by 0 (switched_to 0 0) ∷ machine 0 phase_close ∷ by 0 (switched_to 0 130) ∷ until_full

abbrev pub acknowledged : Session
acknowledged =
    run_closes idle
    ∷ by 1 deed.End
    ∷ by 1 (start 1)
    ∷ machine 0 phase_stable
    ∷ machine 0 phase_entry
    ∷ machine 0 phase_transition
    ∷ machine 0 phase_exit
    ∷ by 1 deed.End
    ∷ machine 0 (deed.Phase (step.Close 0))
    ∷ by 1 (start 1)
    ∷ machine 0 phase_stable
    ∷ machine 0 phase_entry
    ∷ machine 0 phase_transition
    ∷ machine 0 phase_exit
    ∷ until_flipped

abbrev pub acknowledged_text : List ℕ
acknowledged_text =
    codes "rte-trace 2\nrun\nb.m.g phase stable\nb:Flip start I\nb:Flip switch m.g On 0\nb:Flip switch m.g Off 130\nb.m.g phase close On\n"
    ++ codes "b:Flip switch m.g Off 0\nb:Flip end\nb.m.g phase exit\nb.m.g phase transition\nb.m.g phase entry\nb.m.g phase stable\n"
    ++ codes "b:Told start A\nb.m.g phase close Off\nb:Told end\nb.m.g phase exit\nb.m.g phase transition\nb.m.g phase entry\n"
    ++ codes "b.m.g phase stable\nb:Told start A\nb:Told end\nidle\n"

-- a switch is accepted while the queue is full
abbrev pub switch_accepted : Entry
switch_accepted = act_of 0 (switched_to 0 0)

-- the provider is told before the switch was made: the first settling of a machine is no switch
abbrev pub acknowledged_early : Entry
acknowledged_early = act_of 1 (start 1)

-- the InitEvent starts its runnable again
abbrev pub begun_again : Entry
begun_again = act_of 0 (start 0)
