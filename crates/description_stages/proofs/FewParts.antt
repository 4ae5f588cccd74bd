-- A description that is read from a file lists few things of each kind.
use Rattle.std.proofs.Common.{◌≡◌, ℕ, zero, suc, ◌^◌, ◌<◌, ◌≤◌, Bool, true, false, cond, List, [], ◌∷◌, map, slice_get, length, Option, Some, None, unwrap_or, codes, bytes_eq, refl, sym, ap}
use Rattle.std.proofs.Common.{subst, ◌∙◌, arith}
use Rattle.std.proofs.lemmas.List.{length-map}
use Rattle.serde_json.specs.Data.{Data, null}
use Rattle.serde_json.specs.Find.{get}
use Rattle.plan_definitions.specs.Common.{DataElement, Interface, SenderReceiver, ClientServer, ModeSwitch, ModeElement, Operation, Component, Runnable, Composition, Description, sum_of}
use Rattle.plan_definitions.specs.Common.{counted, HasFewInside, HasFewParts, item_count}
use Rattle.declared_names.specs.declared.in_component.ComponentNames.{ComponentNames}
use Rattle.declared_names.specs.declared.scopes.InterfaceNames.{InterfaceNames}
use Rattle.declared_names.specs.declared.scopes.Scope.{Scope}
use Rattle.declared_names.specs.declared.scopes.TypeNames.{TypeNames}
use Rattle.declared_names.specs.Components.{component_names}
use Rattle.declared_names.specs.Names.{Names}
use Rattle.declared_names.specs.Scopes.{scope_of}
use Rattle.declared_names.specs.Sizes.{AreFew, size, sizes}
use Rattle.declared_names.specs.Values.{items_at, text_at, text_in}
use Rattle.declared_names.proofs.Sizes.{at_size, get_size, length_sizes, some}
use Rattle.component_model.specs.Components.{access_reading, coherent_reading, event_reading, variable_reading}
use Rattle.component_model.specs.Compositions.{composition_reading}
use Rattle.component_model.specs.Descriptions.{DescriptionTree, description_of}
use Rattle.component_model.specs.Ports.{port_reading}
use Rattle.component_model.specs.Programs.{ComponentTree, RunnableTree, behavior_in, component_reading, component_tree, invoked_events, runnable_names, runnable_reading, runnable_tree}
use Rattle.component_model.specs.Refusals.{IsRead}
use Rattle.component_model.specs.Types.{data_element_reading, interface_kind_reading, interface_reading, mode_element_reading, operation_reading}
use Rattle.plan_definitions.specs.declared.part.Part.{Part}
use Rattle.plan_definitions.specs.declared.part.Part.TheVariants.{Runnables, Events, Areas}

-- ---- what stands in a list that is read

-- what was read at a position, and from which value
pub record IsReadAt {X : Type 0} (f : Data → X) (ds : List Data) (x : X) : Type 0 where
  pub value : Data
  pub small : size value ≤ sizes ds
  pub is : f value ≡ x

read_at : {X : Type 0} (f : Data → X) (ds : List Data) (i : ℕ) (x : X) → slice_get (map f ds) i ≡ Some x → IsReadAt f ds x
read_at f [] i x is = cc
read_at f (d ∷ ds) zero x is = record { value = d; small = omega arith; is = cc }
read_at f (d ∷ ds) (suc i) x is = let rest = read_at f ds i x is in record { value = rest.value; small = omega (arith, rest.small); is = rest.is }

get_map : {X Y : Type 0} (f : X → Y) (xs : List X) (i : ℕ) (x : X) → slice_get xs i ≡ Some x → slice_get (map f xs) i ≡ Some (f x)
get_map f [] i x is = cc
get_map f (y ∷ xs) zero x is = let same : y ≡ x = cc in ap (λ z. Some (f z)) same
get_map f (y ∷ xs) (suc i) x is = get_map f xs i x is

-- as many are read as are listed
many_at : {X : Type 0} (f : Data → X) (key : List ℕ) (d : Data) (xs : List X) → xs ≡ map f (items_at key d) → length xs < size d
many_at f key d xs are = let same : length xs ≡ length (items_at key d) = ap length are ∙ length-map (items_at key d) f in omega (arith, same, length_sizes (items_at key d), at_size key d)

-- ---- components

in_behavior : (e : Data) → size (behavior_in e) ≤ size e
in_behavior e = by (get (codes "behavior") e) refl
  where
    by : (o : Option Data) → get (codes "behavior") e ≡ o → size (unwrap_or o null) ≤ size e
    by None none = omega (arith, some e)
    by (Some b) found = get_size (codes "behavior") e b found

-- the accesses of runnables
accesses_of : (interfaces : InterfaceNames) (names : ComponentNames) (events : List Data) (servers : Names) (rs : List Runnable) (ds : List Data) → map runnable_tree rs ≡ map (runnable_reading interfaces names events servers) ds
    → sum_of (λ (r : Runnable). length r.accesses) rs ≤ sizes ds
accesses_of interfaces names events servers [] ds are = omega arith
accesses_of interfaces names events servers (r ∷ rs) [] are = cc
accesses_of interfaces names events servers (r ∷ rs) (d ∷ ds) are =
    let first : runnable_tree r ≡ runnable_reading interfaces names events servers d = cc in
    let rest : map runnable_tree rs ≡ map (runnable_reading interfaces names events servers) ds = cc in
    omega (arith, many_at (access_reading interfaces names) (codes "accesses") d r.accesses (ap (λ (t : RunnableTree). t.accesses) first), accesses_of interfaces names events servers rs ds rest)

-- their coherent access lists
lists_of : (interfaces : InterfaceNames) (names : ComponentNames) (events : List Data) (servers : Names) (rs : List Runnable) (ds : List Data) → map runnable_tree rs ≡ map (runnable_reading interfaces names events servers) ds
    → sum_of (λ (r : Runnable). length r.coherent) rs ≤ sizes ds
lists_of interfaces names events servers [] ds are = omega arith
lists_of interfaces names events servers (r ∷ rs) [] are = cc
lists_of interfaces names events servers (r ∷ rs) (d ∷ ds) are =
    let first : runnable_tree r ≡ runnable_reading interfaces names events servers d = cc in
    let rest : map runnable_tree rs ≡ map (runnable_reading interfaces names events servers) ds = cc in
    omega (arith, many_at (coherent_reading interfaces names) (codes "coherent") d r.coherent (ap (λ (t : RunnableTree). t.coherent) first), lists_of interfaces names events servers rs ds rest)

few_inside : (scope : Scope) (e : Data) (c : Component) → component_reading scope e ≡ component_tree c → size e < 2 ^ 22 → HasFewInside c
few_inside scope e c is small =
    let b = behavior_in e in
    let names = component_names scope.interfaces e b in
    let inside = in_behavior e in
    let rs = items_at (codes "runnables") b in
    let events = invoked_events b in
    let runnables = ap (λ (t : ComponentTree). t.behavior.runnables) (sym is) in
    let as_many : length c.behavior.runnables ≡ length rs = sym (length-map c.behavior.runnables runnable_tree) ∙ ap length runnables ∙ length-map rs (runnable_reading scope.interfaces names events (runnable_names events)) in
    let each : (part : Part) → counted part c < 2 ^ 22 = λ part. by part (omega (arith, as_many, inside, small, length_sizes rs, at_size (codes "runnables") b))
    (omega (arith, inside, small, many_at (event_reading scope.interfaces names) (codes "events") b c.behavior.events (ap (λ (t : ComponentTree). t.behavior.events) (sym is))))
    (omega (arith, inside, small, many_at text_in (codes "exclusiveAreas") b c.behavior.exclusive_areas (ap (λ (t : ComponentTree). t.behavior.exclusive_areas) (sym is)))) in
    let reached : sum_of (λ (r : Runnable). length r.accesses) c.behavior.runnables < 2 ^ 22 = omega (arith, inside, small, accesses_of scope.interfaces names events (runnable_names events) c.behavior.runnables rs runnables, at_size (codes "runnables") b) in
    let listed : sum_of (λ (r : Runnable). length r.coherent) c.behavior.runnables < 2 ^ 22 = omega (arith, inside, small, lists_of scope.interfaces names events (runnable_names events) c.behavior.runnables rs runnables, at_size (codes "runnables") b) in
    record {
      ports = omega (arith, small, many_at (port_reading scope.interfaces) (codes "ports") e c.ports (ap (λ (t : ComponentTree). t.ports) (sym is)));
      variables = omega (arith, inside, small, many_at (variable_reading scope.types) (codes "variables") b c.behavior.variables (ap (λ (t : ComponentTree). t.behavior.variables) (sym is)));
      parts = each;
      accesses = reached;
      lists = listed;
    }
  where
    by : (part : Part) → length c.behavior.runnables < 2 ^ 22 → length c.behavior.events < 2 ^ 22 → length c.behavior.exclusive_areas < 2 ^ 22 → counted part c < 2 ^ 22
    by Runnables r e a = r
    by Events r e a = e
    by Areas r e a = a

-- ---- interfaces

chosen : (a b : Bool) (os : List Operation) (m : ModeElement) (es : List DataElement) → length os < 2 ^ 22 → length es < 2 ^ 22
    → item_count (cond a (ClientServer os) (cond b (ModeSwitch m) (SenderReceiver es))) < 2 ^ 22
chosen true b os m es h k = h
chosen false true os m es h k = omega arith
chosen false false os m es h k = k

items_few : (names : TypeNames) (d : Data) → size d < 2 ^ 22 → item_count (interface_kind_reading names (text_at (codes "kind") d) d) < 2 ^ 22
items_few names d small =
    let kind = text_at (codes "kind") d in
    let operations = map (operation_reading names) (items_at (codes "operations") d) in
    let elements = map (data_element_reading names) (items_at (codes "dataElements") d) in
    chosen (bytes_eq kind (codes "ClientServerInterface")) (bytes_eq kind (codes "ModeSwitchInterface")) operations (mode_element_reading names d) elements
    (omega (arith, small, many_at (operation_reading names) (codes "operations") d operations refl)) (omega (arith, small, many_at (data_element_reading names) (codes "dataElements") d elements refl))

-- ---- the whole

pub has_few_parts : (bytes : List ℕ) (d : Description) → IsRead bytes (description_of d) → AreFew bytes → HasFewParts d
has_few_parts bytes d is_read few =
    let v = is_read.value in
    let scope = scope_of v in
    let whole = (few.small v is_read.reads.1).few in
    let all_components = ap (λ (t : DescriptionTree). t.components) is_read.is_reading in
    let all_compositions = ap (λ (t : DescriptionTree). t.compositions) is_read.is_reading in
    let all_interfaces = ap (λ (t : DescriptionTree). t.types.interfaces) is_read.is_reading in record {
      components = λ i c at.
          let found = read_at (component_reading scope) (items_at (codes "components") v) i (component_tree c) (ap (λ xs. slice_get xs i) (sym all_components) ∙ get_map component_tree d.components i c at) in
          few_inside scope found.value c found.is (omega (arith, whole, found.small, at_size (codes "components") v));
      compositions = λ i c at.
          let found = read_at (composition_reading scope.interfaces scope.prototypes) (items_at (codes "compositions") v) i c (ap (λ xs. slice_get xs i) (sym all_compositions) ∙ at) in
          omega (arith, whole, found.small, at_size (codes "compositions") v, many_at (port_reading scope.interfaces) (codes "ports") found.value c.ports (ap (λ (x : Composition). x.ports) (sym found.is)));
      types = record {
        interfaces = λ i x at.
            let found = read_at (interface_reading scope.types) (items_at (codes "interfaces") v) i x (ap (λ xs. slice_get xs i) (sym all_interfaces) ∙ at) in
            subst (λ (y : Interface). item_count y.kind < 2 ^ 22) found.is (items_few scope.types found.value (omega (arith, whole, found.small, at_size (codes "interfaces") v)));
      };
    }
