-- The typed description of `soak N`, with any three programs.
use Rattle.std.proofs.Common.{◌+◌, ◌%◌, ℕ, pos, false, List, [], ◌∷◌, map, codes, None}
use Rattle.description_types.specs.declared.base_type.BaseType.TheVariants as base
use Rattle.plan_definitions.specs.Common.{ComSpec, In, Out, SenderReceiver, ClientServer, Queued, TypeTable, Access, Component, Provided, Required, Variable, Composition, Connector}
use Rattle.plan_definitions.specs.Common.{Assembly, Description, InnerPort, MappedEvent, Prototype, Task, TaskMapping}
use Rattle.runnable_lang.specs.declared.program.AccessKind.{AccessKind}
use Rattle.runnable_lang.specs.declared.program.AccessKind.TheVariants as kind
use Rattle.runnable_lang.specs.declared.stmt.Op.TheVariants as op
use Rattle.runnable_lang.specs.Trees.{ProgramTree, constant, variable, combined, sets, chooses, repeats, in_area, sends, receives, writes_variable, reads_variable, calls, done, next}
use Rattle.description_types.specs.declared.component.EventKind.TheVariants as event
use Rattle.description_types.specs.declared.description.PrototypeType.TheVariants as of
use Rattle.component_model.specs.Descriptions.{DescriptionTree}
use Rattle.component_model.specs.Programs.{ComponentTree, RunnableTree}
use Rattle.description_stages.proofs.Held.{Shared, running}
use Rattle.soak_maker.specs.Parts.{name}
use Rattle.soak_maker.proofs.Lists.{two, three}

-- ---- what does not depend on the number

abbrev pub soak_types : TypeTable
soak_types = record {
  data_types = record { base = base.Uint32; limits = record { low = pos 0; high = pos 1000000 }; words = 4 }
      ∷ record { base = base.Uint32; limits = record { low = pos 0; high = pos 1000000 }; words = 1 } ∷ [];
  mode_groups = [];
  interfaces = record { short_name = codes "Q"; kind = SenderReceiver (record { short_name = codes "d"; of_type = 0; sw_impl_policy = Queued } ∷ []) }
      ∷ record {
        short_name = codes "S";
        kind = ClientServer (record {
          short_name = codes "add";
          arguments = record { short_name = codes "x"; of_type = 1; direction = In } ∷ record { short_name = codes "t"; of_type = 1; direction = Out } ∷ [];
          errors = [];
        } ∷ []);
      } ∷ [];
}

abbrev number_named : List ℕ → Variable
number_named name = record { short_name = name; of_type = 1; init_value = None }

abbrev queue_of : ℕ → ComSpec
queue_of n = record { element = 0; init_value = None; handle_never_received = false; queue_length = n; supports_asynchronous_mode_switch = false }

abbrev access : AccessKind → ℕ → ℕ → Access
access kind port item = record { kind = kind; port = port; item = item }

abbrev pub producer_program : ProgramTree
producer_program = record {
  vars = 3;
  body = next (reads_variable 0 (0 ∷ []))
      (next (repeats 4 (next (sets 0 (combined op.Add (variable 0) (constant (pos 1))))
      (next (sends 0 0 (variable 0 ∷ variable 0 ∷ variable 0 ∷ variable 0 ∷ []) 1) done)))
      (next (writes_variable 0 (variable 0 ∷ []))
      (next (calls 1 0 (variable 0 ∷ []) (2 ∷ []) 1) done)));
}

abbrev pub consumer_program : ProgramTree
consumer_program = record {
  vars = 6;
  body = next (in_area 0 (next (repeats 8 (next (receives 0 0 (0 ∷ 1 ∷ 2 ∷ 3 ∷ []) 4)
      (next (chooses (combined op.Eq (variable 4) (constant (pos 131))) done
      (next (reads_variable 0 (5 ∷ [])) (next (writes_variable 0 (combined op.Add (variable 5) (constant (pos 1)) ∷ [])) done))) done))) done)) done;
}

abbrev pub server_program : ProgramTree
server_program = record {
  vars = 3;
  body = next (reads_variable 0 (1 ∷ [])) (next (sets 1 (combined op.Add (variable 1) (variable 0))) (next (writes_variable 0 (variable 1 ∷ [])) done));
}

abbrev pub making : RunnableTree
making = record {
  short_name = codes "Make";
  can_be_invoked_concurrently = false;
  accesses = access kind.IrvRead 0 0 ∷ access kind.Send 0 0 ∷ access kind.IrvWrite 0 0 ∷ access kind.Call 1 0 ∷ [];
  coherent = [];
  program = producer_program;
}

abbrev pub producer_tree : ComponentTree
producer_tree = record {
  short_name = codes "Prod";
  ports = record { kind = Provided; short_name = codes "q"; interface = 0; com_specs = [] } ∷ record { kind = Required; short_name = codes "s"; interface = 1; com_specs = [] } ∷ [];
  behavior = record {
    exclusive_areas = [];
    variables = number_named (codes "n") ∷ [];
    runnables = making ∷ [];
    events = record { short_name = codes "Ev"; runnable = 0; kind = event.Timing 10; disabled_in_modes = None } ∷ [];
  };
}

abbrev pub taking : RunnableTree
taking = record {
  short_name = codes "Take";
  can_be_invoked_concurrently = false;
  accesses = access kind.Enter 0 0 ∷ access kind.Receive 0 0 ∷ access kind.IrvRead 0 0 ∷ access kind.IrvWrite 0 0 ∷ [];
  coherent = [];
  program = consumer_program;
}

abbrev pub consumer_tree : ComponentTree
consumer_tree = record {
  short_name = codes "Cons";
  ports = record { kind = Required; short_name = codes "q"; interface = 0; com_specs = queue_of 8 ∷ [] } ∷ [];
  behavior = record {
    exclusive_areas = codes "a" ∷ [];
    variables = number_named (codes "m") ∷ [];
    runnables = taking ∷ [];
    events = record { short_name = codes "Ev"; runnable = 0; kind = event.DataReceived 0 0; disabled_in_modes = None } ∷ [];
  };
}

abbrev pub adding : RunnableTree
adding = record {
  short_name = codes "Add";
  can_be_invoked_concurrently = false;
  accesses = access kind.IrvRead 0 0 ∷ access kind.IrvWrite 0 0 ∷ [];
  coherent = [];
  program = server_program;
}

abbrev pub server_tree : ComponentTree
server_tree = record {
  short_name = codes "Acc";
  ports = record { kind = Provided; short_name = codes "s"; interface = 1; com_specs = queue_of 64 ∷ [] } ∷ [];
  behavior = record {
    exclusive_areas = [];
    variables = number_named (codes "sum") ∷ [];
    runnables = adding ∷ [];
    events = record { short_name = codes "Ev"; runnable = 0; kind = event.OperationInvoked 0 0; disabled_in_modes = None } ∷ [];
  };
}

-- a component that runs a program
abbrev pub holding : ComponentTree → Shared → Component
holding t p = record {
  short_name = t.short_name;
  ports = t.ports;
  behavior = record { exclusive_areas = t.behavior.exclusive_areas; variables = t.behavior.variables; runnables = map (running p) t.behavior.runnables; events = t.behavior.events };
}

-- ---- what does

abbrev pub p_name : ℕ → List ℕ
p_name i = name (codes "p") i

abbrev pub c_name : ℕ → List ℕ
c_name i = name (codes "c") i

abbrev pub acc_name : List ℕ
acc_name = codes "acc"

abbrev pub typed : (component : ℕ) → List ℕ → Prototype
typed component name = record { short_name = name; of_type = of.Component component }

abbrev pub inner : ℕ → ℕ → InnerPort
inner prototype port = record { prototype = prototype; port = port }

abbrev pub queue : ℕ → ℕ → Connector
queue n i = Assembly (inner i 0) (inner (n + i) 0)

abbrev pub service : ℕ → ℕ → Connector
service n i = Assembly (inner (n + n) 0) (inner i 1)

abbrev pub soak_composition : ℕ → Composition
soak_composition n = record {
  short_name = codes "Top";
  ports = [];
  prototypes = three n (λ i. typed 0 (p_name i)) (λ i. typed 1 (c_name i)) (typed 2 acc_name);
  connectors = two n (queue n) (service n);
}

abbrev task_named : List ℕ → ℕ → Task
task_named letter i = record { short_name = name letter i; core = i }

abbrev pub soak_tasks : List Task
soak_tasks = three 4 (task_named (codes "P")) (task_named (codes "C")) (record { short_name = codes "A"; core = 0 })

abbrev pub in_task : List ℕ → (task : ℕ) → (position : ℕ) → MappedEvent
in_task instance task position = record { instance = instance; event = codes "Ev"; task = task; position = position }

abbrev pub soak_mapping : ℕ → TaskMapping
soak_mapping n = record {
  cores = 4;
  tasks = soak_tasks;
  events = three n (λ i. in_task (p_name i) (i % 4) i) (λ i. in_task (c_name i) (4 + (i % 4 + 1) % 4) i) (in_task acc_name 8 0);
}

abbrev pub soak_tree : ℕ → DescriptionTree
soak_tree n = record {
  types = soak_types;
  components = producer_tree ∷ consumer_tree ∷ server_tree ∷ [];
  compositions = soak_composition n ∷ [];
  root = 0;
  mapping = soak_mapping n;
}

abbrev pub soaked : ℕ → (p q s : Shared) → Description
soaked n p q s = record {
  types = soak_types;
  components = holding producer_tree p ∷ holding consumer_tree q ∷ holding server_tree s ∷ [];
  compositions = soak_composition n ∷ [];
  root = 0;
  mapping = soak_mapping n;
}
