-- Rules 2 and 3: each value has the shape of its kind, and each name is one.
use Rattle.std.proofs.Common.{◌≡◌, ◌<◌, ◌≤◌, ◌+◌, ℕ, zero, suc, Bool, true, false, not, cond, ◌&&◌, ◌||◌, nat_eq, List, [], ◌∷◌, ◌++◌, codes, Some, None, option_map, refl, sym, ap, subst}
use Rattle.std.proofs.Common.{◌∙◌, arith, eqb-true, true≢false, find}
use Rattle.bus_semantics.specs.Common.{digits, list_any, list_any-append}
use Rattle.serde_json.specs.Data.{Data, number, string, unsigned}
use Rattle.serde_json.specs.View.{items_of}
use Rattle.serde_json.proofs.OnLiterals.{serde_json_on_literals}
use Rattle.description_shapes.specs.declared.kind.Kind.{Kind}
use Rattle.description_shapes.specs.declared.kind.Kind.TheVariants as kind
use Rattle.description_shapes.specs.Rules.{breaks_names, breaks_shape, visits_of}
use Rattle.description_shapes.specs.Spots.{Spot, inside, inside_part, top}
use Rattle.description_shapes.specs.Visits.{Visit, first_broken, in_parts, items_visits, visit_at, visits}
use Rattle.soak_maker.specs.Components.{data_types_text, interfaces_text}
use Rattle.soak_maker.specs.Json.{each, written}
use Rattle.soak_maker.specs.Soak.{components, compositions, connectors, events, mapping, prototypes, soak_value, tasks}
use Rattle.soak_maker.proofs.Lists.{AllAt, below_still, each_three, each_two, three_at, two_at}
use Rattle.soak_maker.proofs.Reading.{composition, consumed, consumer, produced, producer, queueing, served, server, serving}

-- ---- tests of lists

pub passes : {X : Type 0} (t : X → Bool) (xs ys : List X) → list_any t xs ≡ false → list_any t ys ≡ false → list_any t (xs ++ ys) ≡ false
passes t xs ys a b = list_any-append t xs ys ∙ (λ i. a i || b i)

pub none_found : {X : Type 0} (t : X → Bool) (xs : List X) → list_any t xs ≡ false → find t xs ≡ None
none_found t [] e = refl
none_found t (x ∷ xs) e = by (t x) e (λ f. none_found t xs f)
  where
    by : (b : Bool) → (b || list_any t xs) ≡ false → (list_any t xs ≡ false → find t xs ≡ None) → cond b (Some x) (find t xs) ≡ None
    by true f rest = absurd (true≢false f)
    by false f rest = rest f

pub unbroken : (t : Visit → Bool) (vs : List Visit) → list_any t vs ≡ false → first_broken t vs ≡ None
unbroken t vs e = ap (option_map (λ (v : Visit). v.place)) (none_found t vs e)

-- each number below passes
abbrev pub all_below : ℕ → (ℕ → Bool) → Bool
all_below zero t = true
all_below (suc n) t = t n && all_below n t

pub below : (t : ℕ → Bool) (n : ℕ) → all_below n t ≡ true → (i : ℕ) → i < n → t i ≡ true
below t zero e i h = absurd (omega (arith, h))
below t (suc n) e i h = by (t n) (all_below n t) refl e (nat_eq i n) refl (λ f k. below t n f i k)
  where
    by : (a b : Bool) → t n ≡ a → (a && b) ≡ true → (c : Bool) → nat_eq i n ≡ c → (b ≡ true → i < n → t i ≡ true) → t i ≡ true
    by true b is f true same rest = subst (λ m. t m ≡ true) (sym (eqb-true i n same)) is
    by true b is f false other rest = rest f (below_still i n h other)
    by false b is f c same rest = absurd (true≢false (sym f))

pub refuted : (b : Bool) → not b ≡ true → b ≡ false
refuted true e = absurd (true≢false (sym e))
refuted false e = refl

-- what holds of each part of an array
pub parts_pass : (t : Visit → Bool) (kind : Kind) (spots : ℕ → Spot) (k : ℕ) (ds : List Data) → AllAt (λ i d. list_any t (visits d kind (spots i)) ≡ false) k ds → list_any t (in_parts (λ i. kind) spots k (items_visits (items_of ds))) ≡ false
parts_pass t kind spots k [] all = refl
parts_pass t kind spots k (d ∷ ds) all = passes t (visits d kind (spots k)) (in_parts (λ i. kind) spots (k + 1) (items_visits (items_of ds))) all.0 (parts_pass t kind spots (k + 1) ds all.1)

-- ---- the values of the description

module _ (n : ℕ) where
  abbrev pub under : List ℕ → Spot
  under key = inside top kind.Description (soak_value n) key

  abbrev pub in_composition : Spot
  in_composition = inside_part (under (codes "compositions")) kind.Compositions (compositions n) 0

  abbrev pub of_composition : List ℕ → Spot
  of_composition key = inside in_composition kind.Composition (composition n) key

  abbrev pub prototype_spot : ℕ → Spot
  prototype_spot i = inside_part (of_composition (codes "prototypes")) kind.Prototypes (prototypes n) i

  abbrev pub connector_spot : ℕ → Spot
  connector_spot i = inside_part (of_composition (codes "connectors")) kind.Connectors (connectors n) i

  abbrev pub of_mapping : List ℕ → Spot
  of_mapping key = inside (under (codes "mapping")) kind.Mapping (mapping n) key

  abbrev pub event_spot : ℕ → Spot
  event_spot i = inside_part (of_mapping (codes "events")) kind.MappedEvents (events n) i

  -- the values, by where they stand
  abbrev pub of_types : List Visit
  of_types = visits (written data_types_text) kind.DataTypes (under (codes "dataTypes"))

  abbrev pub of_interfaces : List Visit
  of_interfaces = visits (written interfaces_text) kind.Interfaces (under (codes "interfaces"))

  abbrev pub of_components : List Visit
  of_components = visits components kind.Components (under (codes "components"))

  abbrev pub of_compositions : List Visit
  of_compositions = visits (compositions n) kind.Compositions (under (codes "compositions"))

  abbrev pub of_name : List Visit
  of_name = visits (string (codes "Top")) kind.DeclaredName (of_composition (codes "shortName"))

  abbrev pub of_prototypes : List Visit
  of_prototypes = visits (prototypes n) kind.Prototypes (of_composition (codes "prototypes"))

  abbrev pub of_connectors : List Visit
  of_connectors = visits (connectors n) kind.Connectors (of_composition (codes "connectors"))

  abbrev pub of_root : List Visit
  of_root = visits (string (codes "Top")) kind.RootName (under (codes "root"))

  abbrev pub of_cores : List Visit
  of_cores = visits (number (unsigned 4)) kind.CoreCount (of_mapping (codes "cores"))

  abbrev pub of_tasks : List Visit
  of_tasks = visits tasks kind.Tasks (of_mapping (codes "tasks"))

  abbrev pub of_events : List Visit
  of_events = visits (events n) kind.MappedEvents (of_mapping (codes "events"))

  abbrev pub of_whole_mapping : List Visit
  of_whole_mapping = visits (mapping n) kind.Mapping (under (codes "mapping"))

  -- a test that none of them passes
  pub record NonePasses (t : Visit → Bool) : Type 0 where
    pub whole : t (visit_at top kind.Description (soak_value n)) ≡ false
    pub types : list_any t of_types ≡ false
    pub interfaces : list_any t of_interfaces ≡ false
    pub components : list_any t of_components ≡ false
    pub compositions : t (visit_at (under (codes "compositions")) kind.Compositions (compositions n)) ≡ false
    pub composition : t (visit_at in_composition kind.Composition (composition n)) ≡ false
    pub composition_name : list_any t of_name ≡ false
    pub prototypes : t (visit_at (of_composition (codes "prototypes")) kind.Prototypes (prototypes n)) ≡ false
    pub producers : (i : ℕ) → i < n → list_any t (visits (producer i) kind.Prototype (prototype_spot i)) ≡ false
    pub consumers : (i : ℕ) → i < n → list_any t (visits (consumer i) kind.Prototype (prototype_spot (n + i))) ≡ false
    pub server : list_any t (visits server kind.Prototype (prototype_spot (n + n))) ≡ false
    pub connectors : t (visit_at (of_composition (codes "connectors")) kind.Connectors (connectors n)) ≡ false
    pub queues : (i : ℕ) → i < n → list_any t (visits (queueing i) kind.Connector (connector_spot i)) ≡ false
    pub services : (i : ℕ) → i < n → list_any t (visits (serving i) kind.Connector (connector_spot (n + i))) ≡ false
    pub root : list_any t of_root ≡ false
    pub mapping : t (visit_at (under (codes "mapping")) kind.Mapping (mapping n)) ≡ false
    pub cores : list_any t of_cores ≡ false
    pub tasks : list_any t of_tasks ≡ false
    pub events : t (visit_at (of_mapping (codes "events")) kind.MappedEvents (events n)) ≡ false
    pub producings : (i : ℕ) → i < n → list_any t (visits (produced i) kind.MappedEvent (event_spot i)) ≡ false
    pub consumings : (i : ℕ) → i < n → list_any t (visits (consumed i) kind.MappedEvent (event_spot (n + i))) ≡ false
    pub serving : list_any t (visits served kind.MappedEvent (event_spot (n + n))) ≡ false

  module _ (t : Visit → Bool) (none : NonePasses t) where
    among_prototypes : list_any t of_prototypes ≡ false
    among_prototypes = ap (λ b. b || list_any t (in_parts (λ i. kind.Prototype) prototype_spot 0 (items_visits (items_of ((each n producer ++ each n consumer) ++ server ∷ []))))) none.prototypes
        ∙ parts_pass t kind.Prototype prototype_spot 0 ((each n producer ++ each n consumer) ++ server ∷ [])
        (subst (AllAt (λ i d. list_any t (visits d kind.Prototype (prototype_spot i)) ≡ false) 0) (sym (each_three n producer consumer server))
        (three_at (λ i d. list_any t (visits d kind.Prototype (prototype_spot i)) ≡ false) n producer consumer server none.producers none.consumers none.server))

    among_connectors : list_any t of_connectors ≡ false
    among_connectors = ap (λ b. b || list_any t (in_parts (λ i. kind.Connector) connector_spot 0 (items_visits (items_of (each n queueing ++ each n serving))))) none.connectors
        ∙ parts_pass t kind.Connector connector_spot 0 (each n queueing ++ each n serving)
        (subst (AllAt (λ i d. list_any t (visits d kind.Connector (connector_spot i)) ≡ false) 0) (sym (each_two n queueing serving))
        (two_at (λ i d. list_any t (visits d kind.Connector (connector_spot i)) ≡ false) n queueing serving none.queues none.services))

    among_events : list_any t of_events ≡ false
    among_events = ap (λ b. b || list_any t (in_parts (λ i. kind.MappedEvent) event_spot 0 (items_visits (items_of ((each n produced ++ each n consumed) ++ served ∷ []))))) none.events
        ∙ parts_pass t kind.MappedEvent event_spot 0 ((each n produced ++ each n consumed) ++ served ∷ [])
        (subst (AllAt (λ i d. list_any t (visits d kind.MappedEvent (event_spot i)) ≡ false) 0) (sym (each_three n produced consumed served))
        (three_at (λ i d. list_any t (visits d kind.MappedEvent (event_spot i)) ≡ false) n produced consumed served none.producings none.consumings none.serving))

    abbrev inside_composition : List Visit
    inside_composition = of_name
        ++ ([] ++ (of_prototypes ++ (of_connectors ++ [])))

    in_the_composition : list_any t (visits (composition n) kind.Composition in_composition) ≡ false
    in_the_composition = ap (λ b. b || list_any t inside_composition) none.composition
        ∙ passes t of_name (of_prototypes ++ (of_connectors ++ []))
        none.composition_name
        (passes t of_prototypes (of_connectors ++ []) among_prototypes
        (passes t of_connectors [] among_connectors refl))

    among_compositions : list_any t of_compositions ≡ false
    among_compositions = ap (λ b. b || list_any t (visits (composition n) kind.Composition in_composition ++ [])) none.compositions ∙ passes t (visits (composition n) kind.Composition in_composition) [] in_the_composition refl

    abbrev inside_mapping : List Visit
    inside_mapping = of_cores ++ (of_tasks ++ (of_events ++ []))

    in_the_mapping : list_any t of_whole_mapping ≡ false
    in_the_mapping = ap (λ b. b || list_any t inside_mapping) none.mapping
        ∙ passes t of_cores (of_tasks ++ (of_events ++ [])) none.cores
        (passes t of_tasks (of_events ++ []) none.tasks
        (passes t of_events [] among_events refl))

    pub none_passes : list_any t (visits_of (soak_value n)) ≡ false
    none_passes = ap (λ b. b || list_any t (of_types ++ ([] ++ (of_interfaces ++ (of_components ++ (of_compositions ++ (of_root ++ (of_whole_mapping ++ [])))))))) none.whole
        ∙ passes t of_types (of_interfaces ++ (of_components ++ (of_compositions ++ (of_root ++ (of_whole_mapping ++ []))))) none.types
        (passes t of_interfaces (of_components ++ (of_compositions ++ (of_root ++ (of_whole_mapping ++ [])))) none.interfaces
        (passes t of_components (of_compositions ++ (of_root ++ (of_whole_mapping ++ []))) none.components
        (passes t of_compositions (of_root ++ (of_whole_mapping ++ [])) among_compositions
        (passes t of_root (of_whole_mapping ++ []) none.root (passes t of_whole_mapping [] in_the_mapping refl)))))

-- ---- rules 2 and 3

items_keep : (t : Visit → Bool) (item : ℕ → Data) (kind : Kind) → ((s : Spot) → all_below 64 (λ i. not (list_any t (visits (item i) kind s))) ≡ true) → (s : Spot) (i : ℕ) → i < 64 → list_any t (visits (item i) kind s) ≡ false
items_keep t item kind all s i h = refuted (list_any t (visits (item i) kind s)) (below (λ k. not (list_any t (visits (item k) kind s))) 64 (all s) i h)

producers_shaped : (s : Spot) → all_below 64 (λ i. not (list_any breaks_shape (visits (producer i) kind.Prototype s))) ≡ true
unfolding digits
producers_shaped s = refl

consumers_shaped : (s : Spot) → all_below 64 (λ i. not (list_any breaks_shape (visits (consumer i) kind.Prototype s))) ≡ true
unfolding digits
consumers_shaped s = refl

queues_shaped : (s : Spot) → all_below 64 (λ i. not (list_any breaks_shape (visits (queueing i) kind.Connector s))) ≡ true
unfolding digits
queues_shaped s = refl

services_shaped : (s : Spot) → all_below 64 (λ i. not (list_any breaks_shape (visits (serving i) kind.Connector s))) ≡ true
unfolding digits
services_shaped s = refl

producings_shaped : (s : Spot) → all_below 64 (λ i. not (list_any breaks_shape (visits (produced i) kind.MappedEvent s))) ≡ true
unfolding digits
producings_shaped s = refl

consumings_shaped : (s : Spot) → all_below 64 (λ i. not (list_any breaks_shape (visits (consumed i) kind.MappedEvent s))) ≡ true
unfolding digits
consumings_shaped s = refl

types_shaped : (s : Spot) → list_any breaks_shape (visits (written data_types_text) kind.DataTypes s) ≡ false
unfolding digits serde_json_on_literals
types_shaped s = refl

interfaces_shaped : (s : Spot) → list_any breaks_shape (visits (written interfaces_text) kind.Interfaces s) ≡ false
unfolding digits serde_json_on_literals
interfaces_shaped s = refl

components_shaped : (s : Spot) → list_any breaks_shape (visits components kind.Components s) ≡ false
unfolding digits serde_json_on_literals
components_shaped s = refl

tasks_shaped : (s : Spot) → list_any breaks_shape (visits tasks kind.Tasks s) ≡ false
unfolding digits serde_json_on_literals
tasks_shaped s = refl

producers_named : (s : Spot) → all_below 64 (λ i. not (list_any breaks_names (visits (producer i) kind.Prototype s))) ≡ true
unfolding digits
producers_named s = refl

consumers_named : (s : Spot) → all_below 64 (λ i. not (list_any breaks_names (visits (consumer i) kind.Prototype s))) ≡ true
unfolding digits
consumers_named s = refl

queues_named : (s : Spot) → all_below 64 (λ i. not (list_any breaks_names (visits (queueing i) kind.Connector s))) ≡ true
unfolding digits
queues_named s = refl

services_named : (s : Spot) → all_below 64 (λ i. not (list_any breaks_names (visits (serving i) kind.Connector s))) ≡ true
unfolding digits
services_named s = refl

producings_named : (s : Spot) → all_below 64 (λ i. not (list_any breaks_names (visits (produced i) kind.MappedEvent s))) ≡ true
unfolding digits
producings_named s = refl

consumings_named : (s : Spot) → all_below 64 (λ i. not (list_any breaks_names (visits (consumed i) kind.MappedEvent s))) ≡ true
unfolding digits
consumings_named s = refl

types_named : (s : Spot) → list_any breaks_names (visits (written data_types_text) kind.DataTypes s) ≡ false
unfolding digits serde_json_on_literals
types_named s = refl

interfaces_named : (s : Spot) → list_any breaks_names (visits (written interfaces_text) kind.Interfaces s) ≡ false
unfolding digits serde_json_on_literals
interfaces_named s = refl

components_named : (s : Spot) → list_any breaks_names (visits components kind.Components s) ≡ false
unfolding digits serde_json_on_literals
components_named s = refl

tasks_named : (s : Spot) → list_any breaks_names (visits tasks kind.Tasks s) ≡ false
unfolding digits serde_json_on_literals
tasks_named s = refl

module _ (n : ℕ) (few : n ≤ 64) where
  less : (i : ℕ) → i < n → i < 64
  less i h = omega (arith, few, h)

  pub shapes : NonePasses n breaks_shape
  shapes = record {
    whole = refl;
    types = types_shaped (under n (codes "dataTypes"));
    interfaces = interfaces_shaped (under n (codes "interfaces"));
    components = components_shaped (under n (codes "components"));
    compositions = refl;
    composition = refl;
    composition_name = refl;
    prototypes = refl;
    producers = λ i h. items_keep breaks_shape producer kind.Prototype producers_shaped (prototype_spot n i) i (less i h);
    consumers = λ i h. items_keep breaks_shape consumer kind.Prototype consumers_shaped (prototype_spot n (n + i)) i (less i h);
    server = refl;
    connectors = refl;
    queues = λ i h. items_keep breaks_shape queueing kind.Connector queues_shaped (connector_spot n i) i (less i h);
    services = λ i h. items_keep breaks_shape serving kind.Connector services_shaped (connector_spot n (n + i)) i (less i h);
    root = refl;
    mapping = refl;
    cores = refl;
    tasks = tasks_shaped (of_mapping n (codes "tasks"));
    events = refl;
    producings = λ i h. items_keep breaks_shape produced kind.MappedEvent producings_shaped (event_spot n i) i (less i h);
    consumings = λ i h. items_keep breaks_shape consumed kind.MappedEvent consumings_shaped (event_spot n (n + i)) i (less i h);
    serving = refl;
  }

  pub names : NonePasses n breaks_names
  names = record {
    whole = refl;
    types = types_named (under n (codes "dataTypes"));
    interfaces = interfaces_named (under n (codes "interfaces"));
    components = components_named (under n (codes "components"));
    compositions = refl;
    composition = refl;
    composition_name = refl;
    prototypes = refl;
    producers = λ i h. items_keep breaks_names producer kind.Prototype producers_named (prototype_spot n i) i (less i h);
    consumers = λ i h. items_keep breaks_names consumer kind.Prototype consumers_named (prototype_spot n (n + i)) i (less i h);
    server = refl;
    connectors = refl;
    queues = λ i h. items_keep breaks_names queueing kind.Connector queues_named (connector_spot n i) i (less i h);
    services = λ i h. items_keep breaks_names serving kind.Connector services_named (connector_spot n (n + i)) i (less i h);
    root = refl;
    mapping = refl;
    cores = refl;
    tasks = tasks_named (of_mapping n (codes "tasks"));
    events = refl;
    producings = λ i h. items_keep breaks_names produced kind.MappedEvent producings_named (event_spot n i) i (less i h);
    consumings = λ i h. items_keep breaks_names consumed kind.MappedEvent consumings_named (event_spot n (n + i)) i (less i h);
    serving = refl;
  }
