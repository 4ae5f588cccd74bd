-- What a readable plan has for its names: each finds what it names, and whatever is named by others exists.
use Rattle.std.proofs.Common.{◌≡◌, Bool, true, not, ◌&&◌, ◌||◌, ◌==◌, cond, length, nat_le, nat_lt, Some}
use Rattle.bus_semantics.specs.Common.{list_all, and_parts, Plan, Runnable, every_from, IsSound, points_arranged, same_operation, lists_sound, is_env_path, is_name, is_pair_name, is_path}
use Rattle.bus_semantics.specs.Common.{names_distinct, names_fit, none_is_env, parts, instance_exists, is_variable, runnable_sound}
use Rattle.bus_laws.specs.Common.{AreaPlan, ElemPlan, EventPlan, MachinePlan, ModePortPlan, PointPlan, ServerPlan, Mapping}
use Rattle.line_fields.specs.Named.{FindsAreas, FindsElems, FindsEvents, FindsInstances, FindsMachines, FindsModePorts, FindsModes, FindsPoints, FindsRunnables}
use Rattle.line_fields.proofs.Found.{finds_areas, finds_elems, finds_events, finds_instances, finds_machines, finds_mode_ports, finds_modes, finds_points, finds_runnables}
use Rattle.trace_reading.specs.Readable.{IsReadable}

abbrev pub elem_passes : ElemPlan → Bool
elem_passes e = cond (is_variable e) (is_name e.name) (is_pair_name e.name)

pub record IsNamed (p : Plan) : Type 0 where
  -- names
  pub few : nat_le (length p.names) 1024 ≡ true
  pub paths : list_all is_path p.names ≡ true
  pub elements : list_all elem_passes p.elements ≡ true
  pub points : list_all (λ (t : PointPlan). is_pair_name t.name) p.points ≡ true
  pub areas : list_all (λ (a : AreaPlan). is_name a.name) p.areas ≡ true
  pub machines : list_all (λ (n : MachinePlan). is_pair_name n.name && list_all is_name n.modes) p.machines ≡ true
  pub mode_ports : list_all (λ (t : ModePortPlan). is_pair_name t.name) p.mode_ports ≡ true
  pub events : list_all (λ (v : EventPlan). is_name v.name) p.events ≡ true
  pub runnables : list_all (λ (r : Runnable). is_name r.name) p.runnables ≡ true
  pub no_env : list_all (λ t. not (is_env_path (parts 47 t))) p.names ≡ true
  -- what they find
  pub find_instances : FindsInstances p
  pub find_elems : FindsElems p
  pub find_points : FindsPoints p
  pub find_areas : FindsAreas p
  pub find_machines : FindsMachines p
  pub find_modes : FindsModes p
  pub find_mode_ports : FindsModePorts p
  pub find_events : FindsEvents p
  pub find_runnables : FindsRunnables p
  -- what exists
  pub runnable_homes : list_all (λ (r : Runnable). instance_exists p (Some r.instance)) p.runnables ≡ true
  pub machine_homes : list_all (λ (n : MachinePlan). instance_exists p n.instance) p.machines ≡ true
  pub port_machines : list_all (λ (t : ModePortPlan). nat_lt t.machine (length p.machines)) p.mode_ports ≡ true
  pub arranged : points_arranged p ≡ true
  pub sound_runnables : every_from 0 (runnable_sound p) p.runnables ≡ true
  pub lists : lists_sound p ≡ true
  pub operations : every_from 0 (λ i (a : PointPlan). every_from 0 (λ j (c : PointPlan). (i == j) || (not (same_operation p a c) || not (a.asynchronous || c.asynchronous))) p.points) p.points ≡ true

pub readable : (p : Plan) (m : Mapping) → IsSound p m → IsReadable p
readable p m s =
    let names = and_parts (names_fit p) _ s.names in
    let apart = and_parts (names_distinct p) _ names.1 in
    record {
      names = names.0;
      distinct = apart.0;
      no_env = (and_parts (none_is_env p) _ apart.1).0;
      instances = s.instances;
      mode_ports = s.mode_ports;
      points = s.points;
      operations = s.operations;
      runnables = s.runnables;
      lists = s.lists;
    }

pub named : (p : Plan) → IsReadable p → IsNamed p
named p s =
    let a = and_parts (nat_le (length p.names) 1024) _ s.names in
    let b = and_parts (list_all is_path p.names) _ a.1 in
    let c = and_parts (list_all elem_passes p.elements) _ b.1 in
    let d = and_parts (list_all (λ (t : PointPlan). is_pair_name t.name) p.points) _ c.1 in
    let e = and_parts (list_all (λ (v : ServerPlan). is_pair_name v.name) p.servers) _ d.1 in
    let f = and_parts (list_all (λ (a : AreaPlan). is_name a.name) p.areas) _ e.1 in
    let g = and_parts (list_all (λ (n : MachinePlan). is_pair_name n.name && list_all is_name n.modes) p.machines) _ f.1 in
    let h = and_parts (list_all (λ (t : ModePortPlan). is_pair_name t.name) p.mode_ports) _ g.1 in
    let i = and_parts (list_all (λ (v : EventPlan). is_name v.name) p.events) _ h.1 in
    let homes = and_parts (list_all (λ (e : ElemPlan). instance_exists p e.instance) p.elements) _ s.instances in
    let runnables = and_parts (list_all (λ (r : Runnable). instance_exists p (Some r.instance)) p.runnables) _ homes.1 in
    let areas = and_parts (list_all (λ (a : AreaPlan). instance_exists p (Some a.instance)) p.areas) _ runnables.1 in
    let machines = and_parts (list_all (λ (n : MachinePlan). instance_exists p n.instance) p.machines) _ areas.1 in
    let operations = and_parts _ _ s.operations in
    record {
      few = a.0;
      paths = b.0;
      elements = c.0;
      points = d.0;
      areas = f.0;
      machines = g.0;
      mode_ports = h.0;
      events = i.0;
      runnables = i.1;
      no_env = s.no_env;
      find_instances = finds_instances p s.distinct;
      find_elems = finds_elems p s.distinct;
      find_points = finds_points p s.distinct;
      find_areas = finds_areas p s.distinct;
      find_machines = finds_machines p s.distinct;
      find_modes = finds_modes p s.distinct;
      find_mode_ports = finds_mode_ports p s.distinct;
      find_events = finds_events p s.distinct;
      find_runnables = finds_runnables p s.distinct;
      runnable_homes = runnables.0;
      machine_homes = machines.0;
      port_machines = s.mode_ports;
      arranged = s.points;
      sound_runnables = s.runnables;
      lists = s.lists;
      operations = operations.0;
    }
