-- What the description of `soak N` is read as.
use Rattle.std.proofs.Common.{◌≡◌, ◌<◌, ◌≤◌, ◌+◌, ◌%◌, ◌^◌, ℕ, zero, suc, List, [], ◌∷◌, ◌++◌, map, slice_get, codes, Some, refl, ap, ◌∙◌, arith, if◌then◌else◌, lt-ltb, mod-lt}
use Rattle.std.specs.Fmt.{digits}
use Rattle.serde_json.specs.Data.{Data, string}
use Rattle.serde_json.specs.View.{items_of}
use Rattle.serde_json.proofs.OnLiterals.{serde_json_on_literals}
use Rattle.plan_definitions.specs.Common.{Assembly, InnerPort, PrototypeType}
use Rattle.description_types.specs.declared.description.PrototypeType.TheVariants as of
use Rattle.declared_names.specs.declared.scopes.PrototypeNames.{PrototypeNames}
use Rattle.declared_names.specs.Names.{Names, position_in, short_names}
use Rattle.declared_names.specs.Scopes.{prototype_names, scope_of, type_names}
use Rattle.declared_names.specs.Values.{items_at, listed, text_at}
use Rattle.component_model.specs.declared.composition_reading.Ends.{Ends}
use Rattle.component_model.specs.Compositions.{composition_reading, connector_reading, connectors_between, ends_in, mapped_event_reading, mapping_reading, port_in_type, prototype_reading}
use Rattle.component_model.specs.Compositions.{prototype_type_reading}
use Rattle.component_model.specs.Descriptions.{reading}
use Rattle.component_model.specs.Programs.{component_reading}
use Rattle.program_reading.specs.Keywords.{keyword_of}
use Rattle.component_model.specs.Types.{types_reading}
use Rattle.soak_maker.specs.Json.{each, fields}
use Rattle.soak_maker.specs.Parts.{assembly, name, prototype}
use Rattle.soak_maker.specs.Parts as parts
use Rattle.soak_maker.specs.Soak.{connectors, mapping, prototypes, soak_value}
use Rattle.soak_maker.proofs.Lists.{get_first, get_second, get_third, map_three, map_two, three, two_same}
use Rattle.soak_maker.proofs.Names.{acc_position, c_position, p_position}
use Rattle.soak_maker.proofs.Soaked.{acc_name, c_name, consumer_tree, in_task, inner, p_name, producer_tree, queue, server_tree, service, soak_composition, soak_mapping, soak_tasks}
use Rattle.soak_maker.proofs.Soaked.{soak_tree, soak_types}

pub listed_back : (ds : List Data) → listed (items_of ds) ≡ ds
listed_back [] = refl
listed_back (d ∷ ds) = ap (λ es. d ∷ es) (listed_back ds)

-- ---- what does not depend on the number

soak_names : PrototypeNames
soak_names = record {
  components = codes "Prod" ∷ codes "Cons" ∷ codes "Acc" ∷ [];
  compositions = codes "Top" ∷ [];
  component_ports = (codes "q" ∷ codes "s" ∷ []) ∷ (codes "q" ∷ []) ∷ (codes "s" ∷ []) ∷ [];
  composition_ports = [] ∷ [];
}

names_are : (n : ℕ) → prototype_names (soak_value n) ≡ soak_names
unfolding serde_json_on_literals soak_names
names_are n = refl

pub types_are : (n : ℕ) → types_reading (type_names (soak_value n)) (soak_value n) ≡ soak_types
unfolding serde_json_on_literals
types_are n = refl

pub components_are : (n : ℕ) → map (component_reading (scope_of (soak_value n))) (items_at (codes "components") (soak_value n)) ≡ producer_tree ∷ consumer_tree ∷ server_tree ∷ []
unfolding serde_json_on_literals keyword_of
components_are n = refl

-- ---- tasks

unfoldable pub task_names : Names
task_names = name (codes "P") 0 ∷ name (codes "P") 1 ∷ name (codes "P") 2 ∷ name (codes "P") 3 ∷ name (codes "C") 0 ∷ name (codes "C") 1 ∷ name (codes "C") 2 ∷ name (codes "C") 3 ∷ codes "A" ∷ []

pub tasks_named : (n : ℕ) → short_names (items_at (codes "tasks") (mapping n)) ≡ task_names
unfolding task_names
tasks_named n = refl

producer_task : (k : ℕ) → k < 4 → position_in task_names (name (codes "P") k) ≡ k
unfolding task_names digits
producer_task zero h = refl
producer_task (suc zero) h = refl
producer_task (suc (suc zero)) h = refl
producer_task (suc (suc (suc zero))) h = refl
producer_task (suc (suc (suc (suc k)))) h = absurd (omega (arith, h))

consumer_task : (k : ℕ) → k < 4 → position_in task_names (name (codes "C") k) ≡ 4 + k
unfolding task_names digits
consumer_task zero h = refl
consumer_task (suc zero) h = refl
consumer_task (suc (suc zero)) h = refl
consumer_task (suc (suc (suc zero))) h = refl
consumer_task (suc (suc (suc (suc k)))) h = absurd (omega (arith, h))

server_task : position_in task_names (codes "A") ≡ 8
unfolding task_names digits
server_task = refl

-- ---- prototypes and connectors

abbrev pub producer : ℕ → Data
producer i = prototype (p_name i) (codes "Prod")

abbrev pub consumer : ℕ → Data
consumer i = prototype (c_name i) (codes "Cons")

abbrev pub server : Data
server = prototype acc_name (codes "Acc")

abbrev pub queueing : ℕ → Data
queueing i = assembly (p_name i) (c_name i) (codes "q")

abbrev pub serving : ℕ → Data
serving i = assembly acc_name (p_name i) (codes "s")

abbrev pub produced : ℕ → Data
produced i = parts.in_task (p_name i) (name (codes "P") (i % 4)) i

abbrev pub consumed : ℕ → Data
consumed i = parts.in_task (c_name i) (name (codes "C") ((i % 4 + 1) % 4)) i

abbrev pub served : Data
served = parts.in_task acc_name (codes "A") 0

abbrev pub composition : ℕ → Data
composition n = fields ((codes "shortName", string (codes "Top")) ∷ (codes "prototypes", prototypes n) ∷ (codes "connectors", connectors n) ∷ [])

module _ (n : ℕ) where
  pub of_prototypes : {X : Type 0} (g : Data → X) → map g (items_at (codes "prototypes") (composition n)) ≡ three n (λ i. g (producer i)) (λ i. g (consumer i)) (g server)
  of_prototypes g = ap (map g) (listed_back ((each n producer ++ each n consumer) ++ server ∷ [])) ∙ map_three g n producer consumer server

  prototypes_are : map (prototype_reading soak_names) (items_at (codes "prototypes") (composition n)) ≡ (soak_composition n).prototypes
  unfolding soak_names
  prototypes_are = of_prototypes (prototype_reading soak_names)

  soak_ends : Ends
  soak_ends = record { prototypes = three n p_name c_name acc_name; types = three n (λ i. of.Component 0) (λ i. of.Component 1) (of.Component 2); outer = [] }

  ends_are : ends_in soak_names (composition n) ≡ soak_ends
  unfolding soak_names soak_ends
  ends_are = λ i. record { prototypes = of_prototypes (text_at (codes "shortName")) i; types = of_prototypes (prototype_type_reading soak_names) i; outer = [] }

  -- a port of a prototype that is known
  inner_is : (who port : List ℕ) (k : ℕ) (t : PrototypeType) → position_in soak_ends.prototypes who ≡ k → slice_get soak_ends.types k ≡ Some t → (m : ℕ) → port_in_type soak_names (Some t) port ≡ m
      → ◌≡◌ {A = InnerPort} (record { prototype = position_in soak_ends.prototypes who; port = port_in_type soak_names (slice_get soak_ends.types (position_in soak_ends.prototypes who)) port }) (inner k m)
  inner_is who port k t at is m port_is =
      (λ i. record { prototype = at i; port = port_in_type soak_names (slice_get soak_ends.types (at i)) port })
      ∙ (λ i. record { prototype = k; port = (ap (λ o. port_in_type soak_names o port) is ∙ port_is) i })

  module _ (few : n ≤ 64) where
    producer_port : (i : ℕ) → i < n → (port : List ℕ) (m : ℕ) → port_in_type soak_names (Some (of.Component 0)) port ≡ m
        → ◌≡◌ {A = InnerPort} (record { prototype = position_in soak_ends.prototypes (p_name i); port = port_in_type soak_names (slice_get soak_ends.types (position_in soak_ends.prototypes (p_name i))) port }) (inner i m)
    unfolding soak_ends
    producer_port i h port m is = inner_is (p_name i) port i (of.Component 0) (p_position n few i h) (get_first n (λ k. of.Component 0) (λ k. of.Component 1) (of.Component 2) i h) m is

    consumer_port : (i : ℕ) → i < n → (port : List ℕ) (m : ℕ) → port_in_type soak_names (Some (of.Component 1)) port ≡ m
        → ◌≡◌ {A = InnerPort} (record { prototype = position_in soak_ends.prototypes (c_name i); port = port_in_type soak_names (slice_get soak_ends.types (position_in soak_ends.prototypes (c_name i))) port }) (inner (n + i) m)
    unfolding soak_ends
    consumer_port i h port m is = inner_is (c_name i) port (n + i) (of.Component 1) (c_position n few i h) (get_second n (λ k. of.Component 0) (λ k. of.Component 1) (of.Component 2) i h) m is

    server_port : (port : List ℕ) (m : ℕ) → port_in_type soak_names (Some (of.Component 2)) port ≡ m
        → ◌≡◌ {A = InnerPort} (record { prototype = position_in soak_ends.prototypes acc_name; port = port_in_type soak_names (slice_get soak_ends.types (position_in soak_ends.prototypes acc_name)) port }) (inner (n + n) m)
    unfolding soak_ends
    server_port port m is = inner_is acc_name port (n + n) (of.Component 2) (acc_position n few) (get_third n (λ k. of.Component 0) (λ k. of.Component 1) (of.Component 2)) m is

    queue_read : (i : ℕ) → i < n → connector_reading soak_names soak_ends (queueing i) ≡ queue n i
    unfolding soak_names
    queue_read i h = λ k. Assembly (producer_port i h (codes "q") 0 refl k) (consumer_port i h (codes "q") 0 refl k)

    service_read : (i : ℕ) → i < n → connector_reading soak_names soak_ends (serving i) ≡ service n i
    unfolding soak_names
    service_read i h = λ k. Assembly (server_port (codes "s") 0 refl k) (producer_port i h (codes "s") 1 refl k)

    connectors_are : connectors_between soak_names (ends_in soak_names (composition n)) (composition n) ≡ (soak_composition n).connectors
    connectors_are =
        ap (λ e. connectors_between soak_names e (composition n)) ends_are
        ∙ ap (map (connector_reading soak_names soak_ends)) (listed_back (each n queueing ++ each n serving))
        ∙ map_two (connector_reading soak_names soak_ends) n queueing serving
        ∙ two_same n (λ i. connector_reading soak_names soak_ends (queueing i)) (λ i. connector_reading soak_names soak_ends (serving i)) (queue n) (service n) queue_read service_read

    pub compositions_are : map (composition_reading (scope_of (soak_value n)).interfaces (scope_of (soak_value n)).prototypes) (items_at (codes "compositions") (soak_value n)) ≡ soak_composition n ∷ []
    compositions_are =
        ap (λ names. composition_reading (scope_of (soak_value n)).interfaces names (composition n) ∷ []) (names_are n)
        ∙ (λ i. record { short_name = codes "Top"; ports = []; prototypes = prototypes_are i; connectors = connectors_are i } ∷ [])

    -- ---- the mapping

    mapped_is : (who task : List ℕ) (t position : ℕ) → position_in task_names task ≡ t → position < 2 ^ 32 → mapped_event_reading task_names (parts.in_task who task position) ≡ in_task who t position
    mapped_is who task t position is small = λ i. record {
      instance = who;
      event = codes "Ev";
      task = is i;
      position = ap (λ b. if b then position else 0) (lt-ltb position (2 ^ 32) small) i;
    }

    events_are : map (mapped_event_reading task_names) (items_at (codes "events") (mapping n)) ≡ (soak_mapping n).events
    events_are =
        ap (map (mapped_event_reading task_names)) (listed_back ((each n produced ++ each n consumed) ++ served ∷ []))
        ∙ map_three (mapped_event_reading task_names) n produced consumed served
        ∙ (λ i. two_same n (λ i. mapped_event_reading task_names (produced i)) (λ i. mapped_event_reading task_names (consumed i)) (λ i. in_task (p_name i) (i % 4) i) (λ i. in_task (c_name i) (4 + (i % 4 + 1) % 4) i)
        (λ i h. mapped_is (p_name i) (name (codes "P") (i % 4)) (i % 4) i (producer_task (i % 4) (mod-lt i (omega arith))) (omega (arith, few, h)))
        (λ i h. mapped_is (c_name i) (name (codes "C") ((i % 4 + 1) % 4)) (4 + (i % 4 + 1) % 4) i (consumer_task ((i % 4 + 1) % 4) (mod-lt (i % 4 + 1) (omega arith))) (omega (arith, few, h))) i
        ++ mapped_is acc_name (codes "A") 8 0 server_task (omega arith) i ∷ [])

    pub mapping_is : mapping_reading (mapping n) ≡ soak_mapping n
    mapping_is = λ i. record { cores = 4; tasks = soak_tasks; events = (ap (λ names. map (mapped_event_reading names) (items_at (codes "events") (mapping n))) (tasks_named n) ∙ events_are) i }

    pub reading_is : reading (soak_value n) ≡ soak_tree n
    reading_is = λ i. record { types = types_are n i; components = components_are n i; compositions = compositions_are i; root = 0; mapping = mapping_is i }
