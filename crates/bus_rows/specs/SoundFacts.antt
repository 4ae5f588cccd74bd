-- What a plan with its mapping lacks to be sound: the facts that are computed, each by a name of its own.
use Rattle.std.specs.Prelude.{◌≡◌, List, [], ◌∷◌, Bool, ◌&&◌, nat_lt, nat_le, length, if◌then◌else◌, Some}
use Rattle.bus_semantics.specs.Common.{list_all, body_cost, Plan, Runnable, every_from, IsSound, WaitOrder, mapping_fits, queue_lengths, is_arranged, instances_exist, groups_fit}
use Rattle.bus_semantics.specs.Common.{objects_counted, elem_sound, machine_sound, joins_fit, names_fit, names_distinct, none_is_env, ports_agree, ports_together, access_sound, each_access}
use Rattle.bus_semantics.specs.Common.{accesses_distinct, areas_rise, points_arranged, points_fit, body_sound, has_arguments, event_sound, server_served, serves_back, direct_sound}
use Rattle.bus_semantics.specs.Common.{lists_sound, bundles_fit}
use Rattle.bus_laws.specs.Common.{ModePortPlan, Mapping}

-- the facts of `IsSound` and of its runnables, except the order of waiting calls
pub data Fact : Type 0 where
  NamesFit : Fact
  NamesDistinct : Fact
  NoneIsEnv : Fact
  PortsAgree : Fact
  PortsTogether : Fact
  Arranged : Fact
  InstancesExist : Fact
  GroupsFit : Fact
  ObjectsCounted : Fact
  ElementsSound : Fact
  JoinsFit : Fact
  MachinesSound : Fact
  ModePortsFit : Fact
  PointsArranged : Fact
  PointsFit : Fact
  AccessesSound : Fact
  AccessesDistinct : Fact
  AreasRise : Fact
  ProgramsSound : Fact
  CostsBounded : Fact
  VariablesFew : Fact
  ArgumentsFit : Fact
  EventsSound : Fact
  ServersServed : Fact
  DirectSound : Fact
  QueuesFit : Fact
  TasksFit : Fact
  PointsFew : Fact
  ListsSound : Fact
  BundlesFit : Fact

abbrev pub facts : Plan → Mapping → List (Fact × Bool)
facts p m =
    (NamesFit, names_fit p)
    ∷ (NamesDistinct, names_distinct p)
    ∷ (NoneIsEnv, none_is_env p)
    ∷ (PortsAgree, ports_agree p)
    ∷ (PortsTogether, ports_together p)
    ∷ (Arranged, is_arranged p)
    ∷ (InstancesExist, instances_exist p)
    ∷ (GroupsFit, groups_fit p)
    ∷ (ObjectsCounted, objects_counted p)
    ∷ (ElementsSound, list_all elem_sound p.elements)
    ∷ (JoinsFit, joins_fit p)
    ∷ (MachinesSound, list_all machine_sound p.machines)
    ∷ (ModePortsFit, list_all (λ (t : ModePortPlan). nat_lt t.machine (length p.machines)) p.mode_ports)
    ∷ (PointsArranged, points_arranged p)
    ∷ (PointsFit, points_fit p)
    ∷ (AccessesSound, every_from 0 (λ i (r : Runnable). each_access (access_sound p i (Some r.instance)) r.accesses r.targets) p.runnables)
    ∷ (AccessesDistinct, every_from 0 (λ i (r : Runnable). accesses_distinct r.accesses) p.runnables)
    ∷ (AreasRise, every_from 0 (λ i (r : Runnable). areas_rise r.accesses r.targets) p.runnables)
    ∷ (ProgramsSound, every_from 0 (λ i (r : Runnable). body_sound r r.program.body []) p.runnables)
    ∷ (CostsBounded, every_from 0 (λ i (r : Runnable). nat_le (body_cost r.program.body) 100000) p.runnables)
    ∷ (VariablesFew, every_from 0 (λ i (r : Runnable). nat_le r.program.vars 256) p.runnables)
    ∷ (ArgumentsFit, every_from 0 (λ i (r : Runnable). has_arguments p r) p.runnables)
    ∷ (EventsSound, every_from 0 (event_sound p) p.events && nat_le (length p.events) 16384)
    ∷ (ServersServed, every_from 0 (server_served p) p.servers && every_from 0 (serves_back p) p.runnables)
    ∷ (DirectSound, every_from 0 (direct_sound p) p.servers)
    ∷ (QueuesFit, nat_le (queue_lengths p) 65536)
    ∷ (TasksFit, mapping_fits p m)
    ∷ (PointsFew, nat_le (length p.points) 262144)
    ∷ (ListsSound, lists_sound p)
    ∷ (BundlesFit, bundles_fit p)
    ∷ []

-- those that do not hold
abbrev pub broken : List (Fact × Bool) → List Fact
broken [] = []
broken (f ∷ fs) = if f.1 then broken fs else f.0 ∷ broken fs

abbrev pub broken_facts : Plan → Mapping → List Fact
broken_facts p m = broken (facts p m)

-- the plan is not sound: this one fact does not hold; all the others do, and the tasks have an order
pub record LacksOnly (fact : Fact) (p : Plan) (m : Mapping) : Type 0 where
  pub unsound : IsSound p m → ⊥
  pub broken : broken_facts p m ≡ fact ∷ []
  pub order : WaitOrder p m

-- the plan is not sound: the tasks have no order; all that is computed holds
pub record LacksOrder (p : Plan) (m : Mapping) : Type 0 where
  pub unsound : IsSound p m → ⊥
  pub broken : broken_facts p m ≡ []
  pub unordered : WaitOrder p m → ⊥
