-- The plan, where programs are held elsewhere.
use Rattle.std.proofs.Common.{◌≡◌, ℕ, ◌==◌, List, [], ◌∷◌, ◌++◌, map, length, get_or, slice_get, Bool, false, not, ◌&&◌, ◌||◌, is_some, if◌then◌else◌, Option, Some, None, option_map}
use Rattle.std.proofs.Common.{option_and_then, refl, ap}
use Rattle.bus_semantics.specs.Common.{flat_map, list_any, option_map_or, unwrap_or, AccessKind, leaders_by}
use Rattle.runnable_lang.specs.declared.program.AccessKind.TheVariants as kind
use Rattle.plan_definitions.specs.Common.{Direction, In, Out, InterfaceKind, SenderReceiver, ClientServer, ModeSwitch, Access, Component, Event, ItemPair, Port, Description, Flat, Instance}
use Rattle.plan_definitions.specs.Common.{arguments_of, end_at, end_of, is_joined, provider_of, end_key, is_element, is_machine, is_server, keys_of, pair_number, from, component_of}
use Rattle.plan_definitions.specs.Common.{root_ports, declared_at, element_in, element_of, elements, given_of, group_of, held, is_provided, keeps_last, keeps_queue, kind_of, leaders}
use Rattle.plan_definitions.specs.Common.{limits_of, never_received_of, policy_kind, queue_of, type_of, variable_at, words_of, zeros, all_members, group_number, groups, leader_of}
use Rattle.plan_definitions.specs.Common.{calling_of, callings, callings_in, callings_of_component, first_calling, is_calling, leaves, outer_callings, owner_of, point_number, group_at}
use Rattle.plan_definitions.specs.Common.{group_in, machine_at, machines, mode_port_at, mode_ports, refuses_asynchronous, is_user, waits_of, argument_of, operation_at, operation_in}
use Rattle.plan_definitions.specs.Common.{point_of, point_words, points, server_at, server_of, servers, started_by, disabling_of, event_of, events, moment_of, runnable_of, runnables}
use Rattle.plan_definitions.specs.Common.{served_by, target_of, bundle_leaders, groups_listed, list_numbers, list_of, lists, lists_at, reads, runnable_at, areas, areas_at, named_areas}
use Rattle.plan_definitions.specs.Common.{object_count, plan_of}
use Rattle.description_types.specs.declared.component.EventKind as declared_kind
use Rattle.description_types.specs.declared.component.EventKind.TheVariants as event
use Rattle.description_types.specs.declared.component.Runnable as declared_runnable
use Rattle.component_model.specs.Programs.{component_tree, runnable_tree}
use Rattle.bus_semantics.specs.declared.plan.ElemKind.TheVariants as elem
use Rattle.bus_semantics.specs.declared.plan.EventKind.TheVariants as plan_event
use Rattle.plan_definitions.specs.declared.site.Site.{Site}
use Rattle.plan_definitions.specs.declared.calling.Calling.{Calling}
use Rattle.plan_definitions.specs.Services as services
use Rattle.plan_definitions.specs.Started as started
use Rattle.plan_definitions.specs.Listed.{is_required}
use Rattle.description_stages.proofs.ComponentPlans.{signature-again}
use Rattle.description_stages.proofs.Held.{held_as, look, look_on, on_from}
use Rattle.description_stages.proofs.Mapped.{at_events, at_runnable, invocation_of-again, is_mapped-again}
use Rattle.description_stages.proofs.Parts.{areas_of-again, com_spec_of-again, component_of-again, element_number-again, events_of-again, found, interface_of-again, item_text-again}
use Rattle.description_stages.proofs.Parts.{machine_for-again, machine_number-again, mode_port_number-again, mode_ports_of-again, of_instances-again, of_kind-again, ports_of-again}
use Rattle.description_stages.proofs.Parts.{queue_length_of-again, runnables_of-again, server_number-again, site_name-again}

module _ (d : Description) (cs : List Component) (same : map component_tree d.components ≡ map component_tree cs) (f : Flat) where
  -- ---- elements

  declared_at-again : (owner : Option ℕ) (k item : ℕ) → declared_at d f owner k item ≡ declared_at (held_as d cs) f owner k item
  declared_at-again owner k item = ap (option_and_then (λ kind. element_in kind item)) (interface_of-again d cs same f owner k)

  variable_at-again : (owner : Option ℕ) (n : ℕ) → variable_at d f owner n ≡ variable_at (held_as d cs) f owner n
  variable_at-again None n = refl
  variable_at-again (Some k) n = look_on component_tree (λ c. slice_get c.behavior.variables n) (λ c. slice_get c.behavior.variables n) (λ a b e. ap (λ t. slice_get t.behavior.variables n) e)
      (component_of d f k) (component_of (held_as d cs) f k) (component_of-again d cs same f k)

  -- a site with another port
  abbrev at_port : Site → Option ℕ → Site
  at_port s port = record { owner = s.owner; port = port; item = s.item; kind = s.kind }

  kind_of-again : (s : Site) → kind_of d f s ≡ kind_of (held_as d cs) f s
  kind_of-again s = by s.port
    where
      by : (port : Option ℕ) → kind_of d f (at_port s port) ≡ kind_of (held_as d cs) f (at_port s port)
      by None = refl
      by (Some k) = ap (λ o. option_map_or (λ e. policy_kind e.sw_impl_policy) o elem.Unqueued) (declared_at-again s.owner k s.item)

  type_of-again : (s : Site) → type_of d f s ≡ type_of (held_as d cs) f s
  type_of-again s = by s.port
    where
      by : (port : Option ℕ) → type_of d f (at_port s port) ≡ type_of (held_as d cs) f (at_port s port)
      by None = ap (option_and_then (λ v. slice_get d.types.data_types v.of_type)) (variable_at-again s.owner s.item)
      by (Some k) = ap (option_and_then (λ e. slice_get d.types.data_types e.of_type)) (declared_at-again s.owner k s.item)

  given_of-again : (s : Site) → given_of d f s ≡ given_of (held_as d cs) f s
  given_of-again s = by s.port
    where
      by : (port : Option ℕ) → given_of d f (at_port s port) ≡ given_of (held_as d cs) f (at_port s port)
      by None = ap (option_and_then (λ v. v.init_value)) (variable_at-again s.owner s.item)
      by (Some k) = λ i. if keeps_last s.kind (kind_of-again (at_port s (Some k)) i) then option_and_then (λ c. c.init_value) (com_spec_of-again d cs same f s.owner k s.item i) else None

  never_received_of-again : (s : Site) → never_received_of d f s ≡ never_received_of (held_as d cs) f s
  never_received_of-again s = by s.port
    where
      by : (port : Option ℕ) → never_received_of d f (at_port s port) ≡ never_received_of (held_as d cs) f (at_port s port)
      by None = refl
      by (Some k) = λ i. if keeps_last s.kind (kind_of-again (at_port s (Some k)) i) then option_map_or (λ c. c.handle_never_received) (com_spec_of-again d cs same f s.owner k s.item i) false else false

  queue_of-again : (s : Site) → queue_of d f s ≡ queue_of (held_as d cs) f s
  queue_of-again s = by s.port
    where
      by : (port : Option ℕ) → queue_of d f (at_port s port) ≡ queue_of (held_as d cs) f (at_port s port)
      by None = refl
      by (Some k) = λ i. if keeps_queue s.kind (kind_of-again (at_port s (Some k)) i) then queue_length_of-again d cs same f s.owner k s.item i else 1

  element_of-again : (group : ℕ) (s : Site) → element_of d f group s ≡ element_of (held_as d cs) f group s
  element_of-again group s = λ i. record {
    instance = s.owner;
    name = site_name-again d cs same f s i;
    kind = kind_of-again s i;
    provided = is_provided s.kind;
    joined = option_map_or (is_joined f.joins) (end_of s) false;
    group = group;
    limits = limits_of (type_of-again s i);
    words = words_of (type_of-again s i);
    init = held (unwrap_or (given_of-again s i) (zeros (type_of-again s i)));
    never_received = never_received_of-again s i;
    queue_length = queue_of-again s i;
  }

  leaders-again : leaders d f ≡ leaders (held_as d cs) f
  leaders-again = ap (λ ss. map (leader_of f.joins (keys_of ss)) ss) (of_kind-again d cs same is_element f)

  group_of-again : (s : Site) → group_of d f s ≡ group_of (held_as d cs) f s
  group_of-again s = λ i. group_number (leaders-again i) (leader_of f.joins (keys_of (of_kind-again d cs same is_element f i)) s)

  elements-again : elements d f ≡ elements (held_as d cs) f
  elements-again = λ i. map (λ s. element_of-again (group_of-again s i) s i) (of_kind-again d cs same is_element f i)

  -- ---- servers and points

  operation_at-again : (owner : Option ℕ) (k item : ℕ) → operation_at d f owner k item ≡ operation_at (held_as d cs) f owner k item
  operation_at-again owner k item = ap (option_and_then (λ kind. operation_in kind item)) (interface_of-again d cs same f owner k)

  started_by-again : (n m : ℕ) → started_by d f n m ≡ started_by (held_as d cs) f n m
  started_by-again n m = ap (λ o. option_map_or (λ e. e.runnable) o 0) (at_events d cs same f n (λ es. slice_get es m))

  server_queue-again : (n k m event : ℕ) → services.queue_of d f n k m event ≡ services.queue_of (held_as d cs) f n k m event
  server_queue-again n k m event = λ i. if option_map_or (λ e. is_mapped-again d cs same f e i) (slice_get (events_of-again d cs same f i) event) false then Some (queue_length_of-again d cs same f (Some n) k m i) else None

  server_at-again : (n k o m : ℕ) → server_at d f n k o m ≡ server_at (held_as d cs) f n k o m
  server_at-again n k o m = λ i. record {
    instance = n;
    name = item_text-again d cs same f (Some n) k o i;
    runnable = pair_number (runnables_of-again d cs same f i) (n, started_by-again n m i);
    event = pair_number (events_of-again d cs same f i) (n, m);
    queue = server_queue-again n k o (pair_number (events_of-again d cs same f i) (n, m)) i;
    arguments = option_map_or (λ p. map (argument_of d) p.arguments) (operation_at-again (Some n) k o i) [];
    errors = option_map_or (λ p. map (λ e. e.code) p.errors) (operation_at-again (Some n) k o i) [];
  }

  server_of-again : (s : Site) → server_of d f s ≡ server_of (held_as d cs) f s
  server_of-again s = λ i. server_at-again (unwrap_or s.owner 0) (unwrap_or s.port 0) s.item (unwrap_or (invocation_of-again d cs same f (unwrap_or s.owner 0) (unwrap_or s.port 0) s.item i) 0) i

  servers-again : servers d f ≡ servers (held_as d cs) f
  servers-again = λ i. map (λ s. server_of-again s i) (of_kind-again d cs same is_server f i)

  callings_in-again : (n m : ℕ) (r s : declared_runnable.Runnable) → runnable_tree r ≡ runnable_tree s → callings_in n m r ≡ callings_in n m s
  callings_in-again n m r s e = ap (λ t. flat_map (calling_of n m) t.accesses) e

  callings-again : callings d f ≡ callings (held_as d cs) f
  callings-again = λ i. of_instances-again d cs same f callings_of_component callings_of_component
      (λ n a b e. on_from runnable_tree (callings_in n) (callings_in n) (λ m r s x. callings_in-again n m r s x) 0 a.behavior.runnables b.behavior.runnables (ap (λ t. t.behavior.runnables) e)) i
      ++ from 0 (λ k port. outer_callings-again k port i) (root_ports d)
    where
      outer_callings-again : (k : ℕ) (port : Port) → outer_callings d k port ≡ outer_callings (held_as d cs) k port
      outer_callings-again k port = refl

  point_number-again : (test : Calling → Bool) → point_number d f test ≡ point_number (held_as d cs) f test
  point_number-again test = ap (first_calling test) callings-again

  point_words-again : (way : Direction) (c : Calling) → point_words d f way c ≡ point_words (held_as d cs) f way c
  point_words-again way c = ap (λ o. option_map_or (λ p. arguments_of d.types.data_types way p.arguments) o []) (operation_at-again (owner_of c) c.port c.item)

  point_of-again : (c : Calling) → point_of d f c ≡ point_of (held_as d cs) f c
  point_of-again c = λ i. record {
    runnable = option_map (pair_number (runnables_of-again d cs same f i)) c.caller;
    name = item_text-again d cs same f (owner_of c) c.port c.item i;
    server = option_map (λ e. server_number-again d cs same f (end_key e) i) (provider_of f.joins (end_at (owner_of c) c.port c.item));
    asynchronous = c.asynchronous;
    ins = point_words-again In c i;
    outs = point_words-again Out c i;
  }

  points-again : points d f ≡ points (held_as d cs) f
  points-again = λ i. map (λ c. point_of-again c i) (callings-again i)

  -- ---- areas and modes

  areas-again : areas d f ≡ areas (held_as d cs) f
  areas-again = λ i. from 0 (λ n x. named_areas n (areas_at-again x i)) f.instances
    where
      areas_at-again : (x : Instance) → areas_at d x ≡ areas_at (held_as d cs) x
      areas_at-again x = look component_tree (λ c. c.behavior.exclusive_areas) (λ c. c.behavior.exclusive_areas) [] (λ a b e. ap (λ t. t.behavior.exclusive_areas) e)
          (slice_get d.components x.component) (slice_get cs x.component) (found d cs same x.component)

  group_in-again : (k : InterfaceKind) → group_in d k ≡ group_in (held_as d cs) k
  group_in-again (SenderReceiver es) = refl
  group_in-again (ClientServer os) = refl
  group_in-again (ModeSwitch e) = refl

  group_at-again : (owner : Option ℕ) (k : ℕ) → group_at d f owner k ≡ group_at (held_as d cs) f owner k
  group_at-again owner k = λ i. option_and_then (λ kind. group_in-again kind i) (interface_of-again d cs same f owner k i)

  is_user-again : (m : ℕ) (s : Site) → is_user d f m s ≡ is_user (held_as d cs) f m s
  is_user-again m s = ap (λ n. is_some s.owner && (m == n)) (machine_for-again d cs same f s.owner (unwrap_or s.port 0))

  refuses-again : (m : ℕ) (s : Site) → refuses_asynchronous d f m s ≡ refuses_asynchronous (held_as d cs) f m s
  refuses-again m s = λ i. is_user-again m s i && not (option_map_or (λ c. c.supports_asynchronous_mode_switch) (com_spec_of-again d cs same f s.owner (unwrap_or s.port 0) 0 i) false)

  waits_of-again : (m : ℕ) → waits_of d f m ≡ waits_of (held_as d cs) f m
  unfolding waits_of
  waits_of-again m = λ i. not (list_any (λ s. is_user-again m s i) (mode_ports_of-again d cs same f i)) || list_any (λ s. refuses-again m s i) (mode_ports_of-again d cs same f i)

  machine_at-again : (owner : Option ℕ) (k : ℕ) → machine_at d f owner k ≡ machine_at (held_as d cs) f owner k
  machine_at-again owner k = λ i. record {
    instance = owner;
    name = item_text-again d cs same f owner k 0 i;
    modes = option_map_or (λ g. g.modes) (group_at-again owner k i) [];
    initial = option_map_or (λ g. g.initial_mode) (group_at-again owner k i) 0;
    queue = queue_length_of-again d cs same f owner k 0 i;
    waits = waits_of-again (machine_number-again d cs same f (owner, Some k, 0) i) i;
  }

  machines-again : machines d f ≡ machines (held_as d cs) f
  machines-again = λ i. map (λ s. machine_at-again s.owner (unwrap_or s.port 0) i) (of_kind-again d cs same is_machine f i)

  mode_port_at-again : (owner : Option ℕ) (k : ℕ) → mode_port_at d f owner k ≡ mode_port_at (held_as d cs) f owner k
  mode_port_at-again owner k = λ i. record { instance = owner; name = item_text-again d cs same f owner k 0 i; machine = machine_for-again d cs same f owner k i }

  mode_ports-again : mode_ports d f ≡ mode_ports (held_as d cs) f
  mode_ports-again = λ i. map (λ s. mode_port_at-again s.owner (unwrap_or s.port 0) i) (mode_ports_of-again d cs same f i)

  -- ---- events and runnables

  event_kind-again : (n : ℕ) (k : declared_kind.EventKind) → started.kind_of d f n k ≡ started.kind_of (held_as d cs) f n k
  event_kind-again n (event.Timing period) = refl
  event_kind-again n event.Init = refl
  event_kind-again n (event.DataReceived k m) = ap plan_event.DataReceived (element_number-again d cs same f n (Some k) m)
  event_kind-again n (event.OperationInvoked k m) = ap plan_event.Invoked (server_number-again d cs same f (Some n, Some k, m))
  event_kind-again n (event.CallReturns k m) = ap plan_event.Returns (point_number-again (leaves n k m))
  event_kind-again n (event.ModeSwitch k when) = ap (λ x. plan_event.ModeSwitch x (moment_of when)) (machine_for-again d cs same f (Some n) k)
  event_kind-again n (event.ModeSwitchedAck k) = ap plan_event.Ack (machine_number-again d cs same f (Some n, Some k, 0))

  events-again : events d f ≡ events (held_as d cs) f
  events-again = of_instances-again d cs same f (λ n c. map (event_of d f n) c.behavior.events) (λ n c. map (event_of (held_as d cs) f n) c.behavior.events)
      (λ n a b e. λ i. map (λ v. event_of-again n v i) ((e i).behavior.events))
    where
      event_of-again : (n : ℕ) (v : Event) → event_of d f n v ≡ event_of (held_as d cs) f n v
      event_of-again n v = λ i. record {
        runnable = pair_number (runnables_of-again d cs same f i) (n, v.runnable);
        name = v.short_name;
        kind = event_kind-again n v.kind i;
        disabled = option_map (λ m. record { machine = machine_for-again d cs same f (Some n) m.port i; modes = m.modes }) v.disabled_in_modes;
      }

  target_of-again : (n m : ℕ) (a : Access) → target_of d f n m a ≡ target_of (held_as d cs) f n m a
  target_of-again n m a = by a.kind
    where
      by : (k : AccessKind) → target_of d f n m (record { kind = k; port = a.port; item = a.item }) ≡ target_of (held_as d cs) f n m (record { kind = k; port = a.port; item = a.item })
      by kind.IrvWrite = element_number-again d cs same f n None a.item
      by kind.IrvRead = element_number-again d cs same f n None a.item
      by kind.IrvIWrite = element_number-again d cs same f n None a.item
      by kind.IrvIRead = element_number-again d cs same f n None a.item
      by kind.Call = point_number-again (is_calling (n, m) a.port a.item)
      by kind.ACall = point_number-again (is_calling (n, m) a.port a.item)
      by kind.TakeResult = point_number-again (leaves n a.port a.item)
      by kind.Switch = machine_number-again d cs same f (Some n, Some a.port, 0)
      by kind.Mode = mode_port_number-again d cs same f n a.port
      by kind.Enter = ap (λ ps. pair_number ps (n, a.item)) (areas_of-again d cs same f)
      by _ = element_number-again d cs same f n (Some a.port) a.item

  -- ---- coherent lists and bundles

  reads-again : (i : ℕ) (pairs : List ItemPair) → reads d f i pairs ≡ reads (held_as d cs) f i pairs
  reads-again i [] = refl
  reads-again i (x ∷ more) = ap (λ ps. option_map_or (λ (port : Port). is_required port.kind) (slice_get ps x.port) false) (ports_of-again d cs same f (Some i))

  list_of-again : (n i : ℕ) (pairs : List ItemPair) → list_of d f n i pairs ≡ list_of (held_as d cs) f n i pairs
  list_of-again n i pairs = λ j. record { runnable = n; elems = map (λ (x : ItemPair). element_number-again d cs same f i (Some x.port) x.item j) pairs; reads = reads-again i pairs j }

  lists_at-again : (n : ℕ) (x : ℕ × ℕ) → lists_at d f n x ≡ lists_at (held_as d cs) f n x
  lists_at-again n x = look runnable_tree (λ r. map (list_of d f n x.0) r.coherent) (λ r. map (list_of (held_as d cs) f n x.0) r.coherent) []
      (λ a b e. λ j. map (λ ps. list_of-again n x.0 ps j) ((e j).coherent)) (runnable_at d f x) (runnable_at (held_as d cs) f x) (at_runnable d cs same f x.0 x.1)

  lists-again : lists d f ≡ lists (held_as d cs) f
  lists-again = λ j. from 0 (λ n x. lists_at-again n x j) (runnables_of-again d cs same f j)

  list_numbers-again : list_numbers d f ≡ list_numbers (held_as d cs) f
  list_numbers-again = λ j. all_members (length (runnables_of-again d cs same f j)) (map (λ c. c.runnable) (lists-again j))

  bundle_leaders-again : bundle_leaders d f ≡ bundle_leaders (held_as d cs) f
  bundle_leaders-again = λ j. leaders_by (length (groups (leaders-again j))) (map (groups_listed (elements-again j)) (lists-again j))

  -- ---- runnables

  runnable_of-again : (n : ℕ) (a b : Component) → component_tree a ≡ component_tree b → (m : ℕ) (r s : declared_runnable.Runnable) → runnable_tree r ≡ runnable_tree s → runnable_of d f n a m r ≡ runnable_of (held_as d cs) f n b m s
  runnable_of-again n a b e m r s x = λ i. record {
    instance = n;
    name = (x i).short_name;
    program = (x i).program;
    accesses = signature-again d.types a b e ((x i).accesses) i;
    targets = map (λ y. target_of-again n m y i) ((x i).accesses);
    server = option_map (λ y. server_number-again d cs same f (Some n, Some y.0, y.1) i) (served_by ((e i).behavior.events) m);
    lists = get_or (list_numbers-again i) (pair_number (runnables_of-again d cs same f i) (n, m)) [];
  }

  runnables-again : runnables d f ≡ runnables (held_as d cs) f
  runnables-again = of_instances-again d cs same f (λ n c. from 0 (λ m r. runnable_of d f n c m r ∷ []) c.behavior.runnables) (λ n c. from 0 (λ m r. runnable_of (held_as d cs) f n c m r ∷ []) c.behavior.runnables)
      (λ n a b e. on_from runnable_tree (λ m r. runnable_of d f n a m r ∷ []) (λ m r. runnable_of (held_as d cs) f n b m r ∷ [])
      (λ m r s x. ap (λ y. y ∷ []) (runnable_of-again n a b e m r s x)) 0 a.behavior.runnables b.behavior.runnables (ap (λ t. t.behavior.runnables) e))

  -- ---- the whole

  pub plan_of-again : plan_of d f ≡ plan_of (held_as d cs) f
  plan_of-again = λ i. record {
    names = map (λ x. x.path) f.instances;
    elements = elements-again i;
    groups = groups (leaders-again i);
    points = points-again i;
    servers = servers-again i;
    areas = areas-again i;
    machines = machines-again i;
    mode_ports = mode_ports-again i;
    events = events-again i;
    runnables = runnables-again i;
    lists = lists-again i;
    homes = map (group_number (bundle_leaders-again i)) (bundle_leaders-again i);
    bundles = groups (bundle_leaders-again i);
    objects = object_count (length (groups (bundle_leaders-again i))) (length (servers-again i)) (length (areas-again i)) (length (machines-again i));
  }
