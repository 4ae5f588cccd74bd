-- Where the rules of types and of initial values are unbroken, each type, operation and initial value keeps them.
use Rattle.std.proofs.Common.{◌≡◌, ℕ, zero, suc, ◌+◌, List, [], ◌∷◌, ◌++◌, map, Bool, true, false, ◌&&◌, Some, None, refl, sym, subst}
use Rattle.bus_semantics.specs.Common.{list_all, and_parts, and_from, none-some, same_Some}
use Rattle.serde_json.specs.Data.{Data, Items, no_items, item}
use Rattle.serde_json.specs.Find.{get_item}
use Rattle.declared_names.specs.Values.{listed}
use Rattle.plan_definitions.specs.Common.{first, broken, broken_types, broken_operations, broken_among, is_sound, operation_place, operations_in, type_place, type_refusal, keeps_range}
use Rattle.plan_definitions.specs.Common.{Interface, TypeTable, Port, Variable, Composition, keeps, keeps_element}
use Rattle.description_types.specs.Lists.{from, unless}
use Rattle.description_types.specs.Refusals.{of_rule}
use Rattle.component_model.specs.declared.initials.Initial.TheVariants.{OfPort, OfVariable}
use Rattle.component_model.specs.declared.initials.Owner.{Owner}
use Rattle.component_model.specs.declared.initials.Owner.TheVariants as owner
use Rattle.component_model.specs.Descriptions.{DescriptionTree}
use Rattle.component_model.specs.Initials.{broken_initials, broken_of_component, broken_of_composition, broken_of_port, broken_of_ports, broken_of_variables, initial_place}
use Rattle.component_model.specs.Programs.{ComponentTree}

cons_nil : {X : Type 0} {x : X} {xs : List X} → ◌≡◌ {A = List X} (x ∷ xs) [] → ⊥
cons_nil e = cc

pub first_empty : {X : Type 0} (xs : List X) → first xs ≡ None → xs ≡ []
first_empty [] h = refl
first_empty (x ∷ xs) h = absurd (none-some x (sym h))

map_empty : {X Y : Type 0} (f : X → Y) (xs : List X) → map f xs ≡ [] → xs ≡ []
map_empty f [] h = refl
map_empty f (x ∷ xs) h = absurd (cons_nil h)

both_empty : {X : Type 0} (xs ys : List X) → xs ++ ys ≡ [] → (xs ≡ []) × (ys ≡ [])
both_empty [] ys h = (refl, h)
both_empty (x ∷ xs) ys h = absurd (cons_nil h)

unless_empty : {P : Type 0} (b : Bool) (p : P) → unless b p ≡ [] → b ≡ true
unless_empty true p h = refl
unless_empty false p h = absurd (cons_nil h)

-- where a function that gives nothing of an item shows that it passes, all pass
from_empty : {X Y : Type 0} (test : X → Bool) (f : ℕ → X → List Y) → ((i : ℕ) (x : X) → f i x ≡ [] → test x ≡ true) → (i : ℕ) (xs : List X) → from i f xs ≡ [] → list_all test xs ≡ true
from_empty test f each i [] h = refl
from_empty test f each i (x ∷ xs) h =
    let parts = both_empty (f i x) (from (i + 1) f xs) h in
    and_from _ _ (each i x parts.0) (from_empty test f each (i + 1) xs parts.1)

pub types_kept : (t : TypeTable) → type_refusal t ≡ None
    → (list_all keeps_range t.data_types ≡ true) × (list_all (λ (x : Interface). list_all (is_sound t.data_types) (operations_in x.kind)) t.interfaces ≡ true)
types_kept t h =
    let parts = both_empty (of_rule 6 type_place (broken_types t.data_types)) (of_rule 7 operation_place (broken_operations t.data_types t.interfaces)) (first_empty (broken t) h) in (
      from_empty keeps_range (λ i x. unless (keeps_range x) i) (λ i x. unless_empty (keeps_range x) i) 0 t.data_types (map_empty _ (broken_types t.data_types) parts.0),
      from_empty (λ (x : Interface). list_all (is_sound t.data_types) (operations_in x.kind)) (λ i (x : Interface). broken_among t.data_types i (operations_in x.kind))
          (λ i x e. from_empty (is_sound t.data_types) (λ j o. unless (is_sound t.data_types o) (i, j)) (λ j o. unless_empty (is_sound t.data_types o) (i, j)) 0 (operations_in x.kind) e)
          0 t.interfaces (map_empty _ (broken_operations t.data_types t.interfaces) parts.1),
    )

-- ports, and the variables of components
abbrev pub ports_keep : TypeTable → List Port → Bool
ports_keep t ps = list_all (λ (p : Port). list_all (keeps_element t p.interface) p.com_specs) ps

abbrev pub variables_keep : TypeTable → List Variable → Bool
variables_keep t vs = list_all (λ (v : Variable). keeps t.data_types v.of_type v.init_value) vs

ports_kept : (t : TypeTable) (o : Owner) (ps : List Port) → broken_of_ports t o ps ≡ [] → ports_keep t ps ≡ true
ports_kept t o ps = from_empty (λ (p : Port). list_all (keeps_element t p.interface) p.com_specs) (broken_of_port t o)
    (λ j p e. from_empty (keeps_element t p.interface) (λ k s. unless (keeps_element t p.interface s) (OfPort o j k)) (λ k s. unless_empty (keeps_element t p.interface s) (OfPort o j k)) 0 p.com_specs e) 0 ps

variables_kept : (t : TypeTable) (i : ℕ) (vs : List Variable) → broken_of_variables t i vs ≡ [] → variables_keep t vs ≡ true
variables_kept t i vs = from_empty (λ (v : Variable). keeps t.data_types v.of_type v.init_value) (λ k (v : Variable). unless (keeps t.data_types v.of_type v.init_value) (OfVariable i k))
    (λ k v. unless_empty (keeps t.data_types v.of_type v.init_value) (OfVariable i k)) 0 vs

pub initials_kept : (d : DescriptionTree) → first (of_rule 8 initial_place (broken_initials d)) ≡ None
    → (list_all (λ (c : ComponentTree). ports_keep d.types c.ports && variables_keep d.types c.behavior.variables) d.components ≡ true) × (list_all (λ (c : Composition). ports_keep d.types c.ports) d.compositions ≡ true)
initials_kept d h =
    let parts = both_empty (from 0 (broken_of_component d.types) d.components) (from 0 (broken_of_composition d.types) d.compositions) (map_empty _ (broken_initials d) (first_empty _ h)) in (
      from_empty (λ (c : ComponentTree). ports_keep d.types c.ports && variables_keep d.types c.behavior.variables) (broken_of_component d.types)
          (λ i c e. let both = both_empty (broken_of_ports d.types (owner.Component i) c.ports) (broken_of_variables d.types i c.behavior.variables) e in
          and_from _ _ (ports_kept d.types (owner.Component i) c.ports both.0) (variables_kept d.types i c.behavior.variables both.1)) 0 d.components parts.0,
      from_empty (λ (c : Composition). ports_keep d.types c.ports) (broken_of_composition d.types) (λ i c e. ports_kept d.types (owner.Composition i) c.ports e) 0 d.compositions parts.1,
    )

-- what holds of all holds of an item
pub all_at : {X : Type 0} (test : X → Bool) (f : Data → X) (ps : Items) (i : ℕ) (x : Data) → list_all test (map f (listed ps)) ≡ true → get_item i ps ≡ Some x → test (f x) ≡ true
all_at test f no_items i x h is = absurd (none-some x is)
all_at test f (item d ps) zero x h is = subst (λ y. test (f y) ≡ true) (same_Some d x is) (and_parts (test (f d)) _ h).0
all_at test f (item d ps) (suc i) x h is = all_at test f ps i x (and_parts (test (f d)) _ h).1 is
