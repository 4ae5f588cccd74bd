-- Rule 5: what the names refer to is declared.
use Rattle.std.proofs.Common.{◌≡◌, ◌<◌, ◌≤◌, ◌+◌, ◌%◌, ℕ, zero, suc, true, false, not, ◌||◌, ltb, List, length, codes, Some, refl, ap, ◌∙◌, arith, lt-ltb, mod-lt}
use Rattle.bus_semantics.specs.Common.{digits, list_any, slice_get}
use Rattle.serde_json.proofs.OnLiterals.{serde_json_on_literals}
use Rattle.description_places.specs.declared.catalogs.TypeNumber.{TypeNumber}
use Rattle.description_places.specs.declared.catalogs.TypeNumber.TheVariants as of
use Rattle.declared_names.specs.Names.{has_name, position_in}
use Rattle.description_shapes.specs.declared.kind.Kind.TheVariants as kind
use Rattle.description_places.specs.References.{breaks_references, prototype_has, type_has}
use Rattle.description_shapes.specs.Spots.{Spot}
use Rattle.description_shapes.specs.Visits.{visits}
use Rattle.soak_maker.specs.Parts.{assembly, in_task, name, prototype}
use Rattle.soak_maker.proofs.Catalogs.{in_top, prototype_list, soak_catalog, type_list}
use Rattle.soak_maker.proofs.Lists.{get_first, get_second, get_third, length-three}
use Rattle.soak_maker.proofs.Names.{acc_position, c_position, p_position}
use Rattle.soak_maker.proofs.Reading.{task_names}
use Rattle.soak_maker.proofs.Shapes.{NonePasses, of_components, of_interfaces, of_tasks, of_types, connector_spot, event_spot, prototype_spot}
use Rattle.soak_maker.proofs.Soaked.{acc_name, c_name, p_name}

module _ (n : ℕ) (few : n ≤ 64) where
  -- ---- prototypes

  -- a name that stands at a position of them
  is_there : (a : List ℕ) (m : ℕ) → position_in (prototype_list n) a ≡ m → m < n + n + 1 → has_name (prototype_list n) a ≡ true
  is_there a m at less = ap (λ k. ltb k (length (prototype_list n))) at ∙ ap (ltb m) (length-three n p_name c_name acc_name) ∙ lt-ltb m (n + n + 1) less

  -- its port, where its type has one
  has_port : (a port : List ℕ) (m : ℕ) (t : TypeNumber) → position_in (prototype_list n) a ≡ m → slice_get (type_list n) m ≡ Some t → type_has (soak_catalog n) port (Some t) ≡ true → prototype_has (soak_catalog n) port a (in_top n) ≡ true
  has_port a port m t at is has = ap (λ k. type_has (soak_catalog n) port (slice_get (type_list n) k)) at ∙ ap (type_has (soak_catalog n) port) is ∙ has

  types_declare : (type_has (soak_catalog n) (codes "q") (Some (of.Component 0)) ≡ true) × (type_has (soak_catalog n) (codes "s") (Some (of.Component 0)) ≡ true)
      × (type_has (soak_catalog n) (codes "q") (Some (of.Component 1)) ≡ true) × (type_has (soak_catalog n) (codes "s") (Some (of.Component 2)) ≡ true)
  unfolding digits serde_json_on_literals
  types_declare = (refl, refl, refl, refl)

  prototypes_refer : (a : List ℕ) (s : Spot) → (list_any (breaks_references (soak_catalog n)) (visits (prototype a (codes "Prod")) kind.Prototype s) ≡ false)
      × (list_any (breaks_references (soak_catalog n)) (visits (prototype a (codes "Cons")) kind.Prototype s) ≡ false) × (list_any (breaks_references (soak_catalog n)) (visits (prototype a (codes "Acc")) kind.Prototype s) ≡ false)
  prototypes_refer a s = (refl, refl, refl)

  -- ---- what does not depend on the number

  types_refer : list_any (breaks_references (soak_catalog n)) (of_types n) ≡ false
  unfolding digits serde_json_on_literals
  types_refer = refl

  interfaces_refer : list_any (breaks_references (soak_catalog n)) (of_interfaces n) ≡ false
  unfolding digits serde_json_on_literals
  interfaces_refer = refl

  components_refer : list_any (breaks_references (soak_catalog n)) (of_components n) ≡ false
  unfolding digits serde_json_on_literals
  components_refer = refl

  tasks_refer : list_any (breaks_references (soak_catalog n)) (of_tasks n) ≡ false
  unfolding digits
  tasks_refer = refl

  -- ---- connectors

  connectors_refer : (k : ℕ) (a b port : List ℕ) → has_name (prototype_list n) a ≡ true → prototype_has (soak_catalog n) port a (in_top n) ≡ true
      → has_name (prototype_list n) b ≡ true → prototype_has (soak_catalog n) port b (in_top n) ≡ true
      → list_any (breaks_references (soak_catalog n)) (visits (assembly a b port) kind.Connector (connector_spot n k)) ≡ false
  unfolding digits
  connectors_refer k a b port one has other too = λ i. not (one i) || (not (has i) || (not (other i) || (not (too i) || false)))

  -- ---- tasks

  producers_tasks : (k : ℕ) → k < 4 → has_name task_names (name (codes "P") k) ≡ true
  unfolding task_names digits
  producers_tasks zero h = refl
  producers_tasks (suc zero) h = refl
  producers_tasks (suc (suc zero)) h = refl
  producers_tasks (suc (suc (suc zero))) h = refl
  producers_tasks (suc (suc (suc (suc k)))) h = absurd (omega (arith, h))

  consumers_tasks : (k : ℕ) → k < 4 → has_name task_names (name (codes "C") k) ≡ true
  unfolding task_names digits
  consumers_tasks zero h = refl
  consumers_tasks (suc zero) h = refl
  consumers_tasks (suc (suc zero)) h = refl
  consumers_tasks (suc (suc (suc zero))) h = refl
  consumers_tasks (suc (suc (suc (suc k)))) h = absurd (omega (arith, h))

  servers_task : has_name task_names (codes "A") ≡ true
  unfolding task_names digits
  servers_task = refl

  event_refers : (who task : List ℕ) (position : ℕ) (s : Spot) → has_name task_names task ≡ true → list_any (breaks_references (soak_catalog n)) (visits (in_task who task position) kind.MappedEvent s) ≡ false
  event_refers who task position s is = ap (λ b. not b || false) is

  -- ---- the whole

  pub references : NonePasses n (breaks_references (soak_catalog n))
  references =
      let (prod_q, prod_s, cons_q, acc_s) = types_declare in
      record {
        whole = refl;
        types = types_refer;
        interfaces = interfaces_refer;
        components = components_refer;
        compositions = refl;
        composition = refl;
        composition_name = refl;
        prototypes = refl;
        producers = λ i h. (prototypes_refer (p_name i) (prototype_spot n i)).0;
        consumers = λ i h. (prototypes_refer (c_name i) (prototype_spot n (n + i))).1;
        server = (prototypes_refer acc_name (prototype_spot n (n + n))).2;
        connectors = refl;
        queues = λ i h. connectors_refer i (p_name i) (c_name i) (codes "q")
            (is_there (p_name i) i (p_position n few i h) (omega (arith, h)))
            (has_port (p_name i) (codes "q") i (of.Component 0) (p_position n few i h) (get_first n (λ k. of.Component 0) (λ k. of.Component 1) (of.Component 2) i h) prod_q)
            (is_there (c_name i) (n + i) (c_position n few i h) (omega (arith, h)))
            (has_port (c_name i) (codes "q") (n + i) (of.Component 1) (c_position n few i h) (get_second n (λ k. of.Component 0) (λ k. of.Component 1) (of.Component 2) i h) cons_q);
        services = λ i h. connectors_refer (n + i) acc_name (p_name i) (codes "s")
            (is_there acc_name (n + n) (acc_position n few) (omega arith))
            (has_port acc_name (codes "s") (n + n) (of.Component 2) (acc_position n few) (get_third n (λ k. of.Component 0) (λ k. of.Component 1) (of.Component 2)) acc_s)
            (is_there (p_name i) i (p_position n few i h) (omega (arith, h)))
            (has_port (p_name i) (codes "s") i (of.Component 0) (p_position n few i h) (get_first n (λ k. of.Component 0) (λ k. of.Component 1) (of.Component 2) i h) prod_s);
        root = refl;
        mapping = refl;
        cores = refl;
        tasks = tasks_refer;
        events = refl;
        producings = λ i h. event_refers (p_name i) (name (codes "P") (i % 4)) i (event_spot n i) (producers_tasks (i % 4) (mod-lt i (omega arith)));
        consumings = λ i h. event_refers (c_name i) (name (codes "C") ((i % 4 + 1) % 4)) i (event_spot n (n + i)) (consumers_tasks ((i % 4 + 1) % 4) (mod-lt (i % 4 + 1) (omega arith)));
        serving = event_refers acc_name (codes "A") 0 (event_spot n (n + n)) servers_task;
      }
