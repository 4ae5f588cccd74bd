-- Rules 9 to 11, the instances, and what is joined.
use Rattle.std.proofs.Common.{◌≡◌, ◌<◌, ◌≤◌, ◌+◌, ℕ, zero, suc, Bool, true, false, nat_eq, List, [], ◌∷◌, map, length, slice_get, codes, Option, Some, None, option_map, option_and_then, ◌⊎◌}
use Rattle.std.proofs.Common.{inl, inr, ⊎_elim, refl, sym, ap, subst, subst₂, ◌∙◌, ◌&&◌, arith, bytes_eq, if◌then◌else◌, true≢false}
use Rattle.bus_semantics.specs.Common.{option_map_or, none-some, same_Some}
use Rattle.plan_definitions.specs.Common.{PortKind, Provided, Required, Connector, Assembly, Delegation, Description, InnerPort, Prototype, PrototypeType, End, Instance, Join, connectors_of}
use Rattle.plan_definitions.specs.Common.{is_required, lets_join, IsBrokenConnector, IsRefusedAt, KeepsLimits, IsPastLimit, instances, instance_at, names_env, written, interface_at}
use Rattle.plan_definitions.specs.Common.{IsSameName, ItemsJoin, Assembles, IsBelow, IsJoined, IsOutside, Stand, StandsJoin, as_inner, interface_below, stand_in, itself, further, Among}
use Rattle.plan_definitions.specs.Common.{ContainsItself, prototypes_of, type_at, type_in, IsTooDeep, Place, places, places_below, places_of}
use Rattle.description_types.specs.declared.description.PrototypeType.TheVariants as of
use Rattle.description_types.specs.Connectors.{interface_of, is_provided, kind_of}
use Rattle.description_stages.proofs.Held.{Shared}
use Rattle.soak_maker.proofs.Lists.{among_at, any_none, at_position, at_start, flat_three, get_first, get_second, get_third, length-three, three, three_at, two, two_at, length-two}
use Rattle.soak_maker.proofs.Lists.{among_first, among_second, among_take, few_apart, map_three_of, three_same}
use Rattle.soak_maker.proofs.Soaked.{acc_name, c_name, inner, p_name, queue, service, soaked, typed}

-- ---- options

pub map_some : {A B : Type 0} (f : A → B) (o : Option A) (y : B) → option_map f o ≡ Some y → (x : A) × (o ≡ Some x) × (f x ≡ y)
map_some f None y e = absurd (none-some y e)
map_some f (Some x) y e = (x, refl, same_Some (f x) y e)

pub then_some : {A B : Type 0} (f : A → Option B) (o : Option A) (y : B) → option_and_then f o ≡ Some y → (x : A) × (o ≡ Some x) × (f x ≡ Some y)
then_some f None y e = absurd (none-some y e)
then_some f (Some x) y e = (x, refl, e)

-- ---- what the joins are

abbrev pub end_at : ℕ → ℕ → End
end_at instance port = record { instance = Some instance; port = port; element = 0 }

abbrev pub queue_join : ℕ → ℕ → Join
queue_join n i = record { provided = end_at i 0; required = end_at (n + i) 0 }

abbrev pub service_join : ℕ → ℕ → Join
service_join n i = record { provided = end_at (n + n) 0; required = end_at i 1 }

abbrev pub soak_joins : ℕ → List Join
soak_joins n = two n (queue_join n) (service_join n)

abbrev pub place : ℕ → ℕ → Place
place k component = record { path = k ∷ []; component = component }

abbrev pub named : List ℕ → ℕ → Instance
named path component = record { path = path; component = component }

abbrev pub soak_instances : ℕ → List Instance
soak_instances n = three n (λ i. named (p_name i) 0) (λ i. named (c_name i) 1) (named acc_name 2)

abbrev IsComponent : PrototypeType → Type 0
IsComponent (of.Component k) = Unit {0}
IsComponent (of.Composition c) = ⊥

abbrev IsSoakConnector : ℕ → Connector → Type 0
IsSoakConnector n x = (i : ℕ) × (i < n) × ((x ≡ queue n i) ⊎ (x ≡ service n i))

abbrev first_port : Connector → InnerPort
first_port (Assembly a b) = a
first_port (Delegation a k) = a

abbrev second_port : Connector → InnerPort
second_port (Assembly a b) = b
second_port (Delegation a k) = a

abbrev is_assembly : Connector → Bool
is_assembly (Assembly a b) = true
is_assembly (Delegation a k) = false

-- the number of a connector
abbrev place_in : ℕ → Connector → ℕ
place_in n x = if nat_eq (second_port x).port 0 then (first_port x).prototype else n + (second_port x).prototype

first_only : {X : Type 0} (x y : X) (i : ℕ) → slice_get (x ∷ []) i ≡ Some y → i ≡ 0
first_only x y zero e = refl
first_only x y (suc i) e = absurd (none-some y e)

module _ (n : ℕ) (few : n ≤ 64) (p q s : Shared) where
  abbrev soak : Description
  soak = soaked n p q s

  -- ---- types of prototypes

  type_is : (t : PrototypeType) (k : ℕ) (o : PrototypeType) → type_in soak t k ≡ Some o → IsComponent o
  type_is (of.Component m) k o e = absurd (none-some o e)
  type_is (of.Composition zero) k o e =
      let (x, found, is) = map_some (λ (y : Prototype). y.of_type) (slice_get (prototypes_of soak 0) k) o e in
      subst IsComponent is (at_position (λ i (y : Prototype). IsComponent y.of_type) 0 (prototypes_of soak 0)
      (three_at (λ i (y : Prototype). IsComponent y.of_type) n (λ i. typed 0 (p_name i)) (λ i. typed 1 (c_name i)) (typed 2 acc_name) (λ i h. tt) (λ i h. tt) tt) k x found)
  type_is (of.Composition (suc c)) k o e = absurd (none-some o e)

  -- nothing stands below an instance
  not_below : (t : PrototypeType) (k m : ℕ) (path : List ℕ) (o : PrototypeType) → type_at soak t (k ∷ m ∷ path) ≡ Some o → ⊥
  not_below t k m path o e =
      let (holder, at, is) = then_some (λ h. type_in soak h k) (type_at soak t (m ∷ path)) o e in
      let (outer, below, holds) = then_some (λ h. type_in soak h m) (type_at soak t path) holder at in
      by holder (type_is outer m holder holds) is
    where
      by : (h : PrototypeType) → IsComponent h → type_in soak h k ≡ Some o → ⊥
      by (of.Component c) is f = none-some o f
      by (of.Composition c) is f = is

  keeps_nesting : (c : ℕ) → ContainsItself soak c → ⊥
  keeps_nesting c (last, before, leads) =
      let (holder, at, is) = then_some (λ h. type_in soak h last) (type_at soak (of.Composition c) before) (of.Composition c) leads in
      type_is holder last (of.Composition c) is

  too_deep : IsTooDeep soak → ⊥
  too_deep ([], component, leads, deep) = absurd (omega (arith, deep))
  too_deep (k ∷ [], component, leads, deep) = absurd (omega (arith, deep))
  too_deep (k ∷ m ∷ path, component, leads, deep) = not_below (of.Composition 0) k m path (of.Component component) leads

  -- ---- instances

  pub places_are : places soak ≡ three n (λ i. place i 0) (λ i. place (n + i) 1) (place (n + n) 2)
  places_are = flat_three (λ x. places_of (places_below soak 7) x.1.of_type (x.0 ∷ [])) n (λ i. typed 0 (p_name i)) (λ i. typed 1 (c_name i)) (typed 2 acc_name)
      (λ i. place i 0) (λ i. place (n + i) 1) (place (n + n) 2) (λ i h. refl) (λ i h. refl) refl

  few_instances : length (places soak) ≤ 1024
  few_instances = let e = ap length places_are ∙ length-three n (λ i. place i 0) (λ i. place (n + i) 1) (place (n + n) 2) in omega (arith, few, e)

  names_keep : names_env soak ≡ false
  names_keep = any_none (λ (x : Prototype). bytes_eq x.short_name (codes "env")) 0 (prototypes_of soak 0)
      (three_at (λ k (x : Prototype). bytes_eq x.short_name (codes "env") ≡ false) n (λ i. typed 0 (p_name i)) (λ i. typed 1 (c_name i)) (typed 2 acc_name) (λ i h. refl) (λ i h. refl) refl)

  -- ---- connectors

  of_producer : (i : ℕ) → i < n → type_in soak (of.Composition 0) i ≡ Some (of.Component 0)
  of_producer i h = ap (option_map (λ (x : Prototype). x.of_type)) (get_first n (λ i. typed 0 (p_name i)) (λ i. typed 1 (c_name i)) (typed 2 acc_name) i h)

  of_consumer : (i : ℕ) → i < n → type_in soak (of.Composition 0) (n + i) ≡ Some (of.Component 1)
  of_consumer i h = ap (option_map (λ (x : Prototype). x.of_type)) (get_second n (λ i. typed 0 (p_name i)) (λ i. typed 1 (c_name i)) (typed 2 acc_name) i h)

  of_server : type_in soak (of.Composition 0) (n + n) ≡ Some (of.Component 2)
  of_server = ap (option_map (λ (x : Prototype). x.of_type)) (get_third n (λ i. typed 0 (p_name i)) (λ i. typed 1 (c_name i)) (typed 2 acc_name))

  queue_joins : (i : ℕ) → i < n → lets_join soak 0 (queue n i) ≡ true
  queue_joins i h = λ k. is_provided (option_and_then (λ t. kind_of soak t 0) (of_producer i h k)) && is_required (option_and_then (λ t. kind_of soak t 0) (of_consumer i h k))

  service_joins : (i : ℕ) → i < n → lets_join soak 0 (service n i) ≡ true
  service_joins i h = λ k. is_provided (option_and_then (λ t. kind_of soak t 0) (of_server k)) && is_required (option_and_then (λ t. kind_of soak t 1) (of_producer i h k))

  connector_at : (m : ℕ) (x : Connector) → slice_get (connectors_of soak 0) m ≡ Some x → (lets_join soak 0 x ≡ true) × (place_in n x ≡ m)
  connector_at m x is = at_start (λ k y. (lets_join soak 0 y ≡ true) × (place_in n y ≡ k)) (connectors_of soak 0)
      (two_at (λ k y. (lets_join soak 0 y ≡ true) × (place_in n y ≡ k)) n (queue n) (service n) (λ i h. (queue_joins i h, refl)) (λ i h. (service_joins i h, refl))) m x is

  keeps_connectors : (c m : ℕ) → IsBrokenConnector soak c m → ⊥
  keeps_connectors zero m (x, is, inl refused) = true≢false (sym (connector_at m x is).0 ∙ refused)
  keeps_connectors zero m (x, is, inr among) =
      let (j, before, again) = among_take m (connectors_of soak 0) x among in
      let here = (connector_at m x is).1 in
      let there = (connector_at j x again).1 in
      omega (arith, here, there, before)
  keeps_connectors (suc c) m (x, is, why) = none-some x is

  -- ---- joins

  no_delegation : (c : ℕ) (inner : InnerPort) (outer : ℕ) → Among (Delegation inner outer) (connectors_of soak c) → ⊥
  no_delegation zero inner outer among = true≢false (sym (among_at (λ x. is_assembly x ≡ true) 0 (connectors_of soak 0) (two_at (λ k x. is_assembly x ≡ true) n (queue n) (service n) (λ i h. refl) (λ i h. refl)) (Delegation inner outer) among))
  no_delegation (suc c) inner outer among = among

  below_same : (lower upper : Stand) → IsBelow soak lower upper → upper ≡ lower
  below_same lower upper itself = refl
  below_same lower upper (further {next = next} down rest) = absurd (no_delegation down.composition (as_inner down.prototype next) upper.port down.connects)

  -- what an assembly joins
  abbrev IsAcross : Stand → Stand → Type 0
  IsAcross a b = (i : ℕ) × (i < n) × (((a.path ≡ i ∷ []) × (a.port ≡ 0) × (b.path ≡ (n + i) ∷ []) × (b.port ≡ 0)) ⊎ ((a.path ≡ (n + n) ∷ []) × (a.port ≡ 0) × (b.path ≡ i ∷ []) × (b.port ≡ 1)))

  soak_connector : (x : Connector) → Among x (connectors_of soak 0) → IsSoakConnector n x
  soak_connector x among = among_at (IsSoakConnector n) 0 (connectors_of soak 0) (two_at (λ k y. IsSoakConnector n y) n (queue n) (service n) (λ i h. (i, h, inl refl)) (λ i h. (i, h, inr refl))) x among

  across_is : (a b : Stand) → Assembles soak a b → IsAcross a b
  across_is a b x = by x.path x.composition x.stands x.inside_provider x.inside_requester x.connects
    where
      by : (path : List ℕ) (c : ℕ) → type_at soak (of.Composition 0) path ≡ Some (of.Composition c) → a.path ≡ x.provider ∷ path → b.path ≡ x.requester ∷ path
          → Among (Assembly (as_inner x.provider a) (as_inner x.requester b)) (connectors_of soak c) → IsAcross a b
      by [] zero stands pa pb among =
          let (i, less, is) = soak_connector (Assembly (as_inner x.provider a) (as_inner x.requester b)) among in (
            i,
            less,
            ⊎_elim (λ e. inl (
              pa ∙ ap (λ y. (first_port y).prototype ∷ []) e,
              ap (λ y. (first_port y).port) e,
              pb ∙ ap (λ y. (second_port y).prototype ∷ []) e,
              ap (λ y. (second_port y).port) e,
            )) (λ e. inr (
              pa ∙ ap (λ y. (first_port y).prototype ∷ []) e,
              ap (λ y. (first_port y).port) e,
              pb ∙ ap (λ y. (second_port y).prototype ∷ []) e,
              ap (λ y. (second_port y).port) e,
            )) is,
          )
      by [] (suc c) stands pa pb among = absurd among
      by (k ∷ path) c stands pa pb among =
          let (holder, at, is) = then_some (λ h. type_in soak h k) (type_at soak (of.Composition 0) path) (of.Composition c) stands in
          absurd (type_is holder k (of.Composition c) is)

  no_outside : (kind : PortKind) (outer inner : Stand) → IsOutside soak kind outer inner → ⊥
  no_outside kind outer inner x = none-some kind x.is_kind

  stands_are : (a b : Stand) → StandsJoin soak a b → IsAcross a b
  stands_are a b (inl chain) =
      let up = below_same a chain.upper chain.up in
      let down = below_same b chain.other chain.down in
      across_is a b (subst₂ (Assembles soak) up down chain.across)
  stands_are a b (inr (inl out)) = absurd (no_outside Required a b out)
  stands_are a b (inr (inr out)) = absurd (no_outside Provided b a out)

  -- where an end stands that is joined
  stand_back : (owner : Option ℕ) (port k m : ℕ) (x : Stand) → stand_in soak owner port ≡ Some x → x.path ≡ k ∷ [] → x.port ≡ m → (owner ≡ Some k) × (port ≡ m)
  stand_back None port k m x is path at = let none : [] ≡ k ∷ [] = ap (λ (y : Stand). y.path) (same_Some (record { path = []; port = port }) x is) ∙ path in absurd (cc)
  stand_back (Some o) port k m x is path at =
      let (found, got, same) = map_some (λ (y : Place). record { path = y.path; port = port }) (slice_get (places soak) o) x is in
      let here : found.path ≡ o ∷ [] = at_start (λ i (y : Place). y.path ≡ i ∷ []) (three n (λ i. place i 0) (λ i. place (n + i) 1) (place (n + n) 2))
      (three_at (λ i (y : Place). y.path ≡ i ∷ []) n (λ i. place i 0) (λ i. place (n + i) 1) (place (n + n) 2) (λ i h. refl) (λ i h. refl) refl) o found (ap (λ ps. slice_get ps o) (sym places_are) ∙ got) in
      let one : o ∷ [] ≡ k ∷ [] = sym here ∙ (ap (λ (y : Stand). y.path) same ∙ path) in
      (ap (λ l. slice_get l 0) one, ap (λ (y : Stand). y.port) same ∙ at)

  interface_is : (x : Stand) (k m : ℕ) (t : PrototypeType) → x.path ≡ k ∷ [] → x.port ≡ m → type_in soak (of.Composition 0) k ≡ Some t → interface_below soak x ≡ option_and_then (interface_at soak) (interface_of soak t m)
  interface_is x k m t path at is =
      (λ i. option_and_then (λ u. option_and_then (interface_at soak) (interface_of soak u (at i))) (type_at soak (of.Composition 0) (path i)))
      ∙ ap (λ o. option_and_then (λ u. option_and_then (interface_at soak) (interface_of soak u m)) o) is

  join_is : (j : Join) (a b c d : ℕ) → j.provided.instance ≡ Some a → j.provided.port ≡ b → j.provided.element ≡ 0 → j.required.instance ≡ Some c → j.required.port ≡ d → j.required.element ≡ 0
      → ◌≡◌ {A = Join} j (record { provided = end_at a b; required = end_at c d })
  join_is j a b c d e f g h k l = λ i. record { provided = record { instance = e i; port = f i; element = g i }; required = record { instance = h i; port = k i; element = l i } }

  pub joined : (j : Join) → IsJoined soak j → Among j (soak_joins n)
  joined j x = by (stands_are x.provided x.required x.stands)
    where
      by : IsAcross x.provided x.required → Among j (soak_joins n)
      by (i, less, inl (pa, ta, pb, tb)) =
          let (pi, pp) = stand_back j.provided.instance j.provided.port i 0 x.provided x.is_provided pa ta in
          let (ri, rp) = stand_back j.required.instance j.required.port (n + i) 0 x.required x.is_required pb tb in
          let items : IsSameName (codes "d" ∷ []) (codes "d" ∷ []) j.provided.element j.required.element =
          subst₂ (λ u v. ItemsJoin u v j.provided.element j.required.element) (interface_is x.provided i 0 (of.Component 0) pa ta (of_producer i less)) (interface_is x.required (n + i) 0 (of.Component 1) pb tb (of_consumer i less)) x.items in
          let is = join_is j i 0 (n + i) 0 pi pp (first_only (codes "d") items.0 j.provided.element items.1) ri rp (first_only (codes "d") items.0 j.required.element items.2) in
          subst (λ k. Among k (soak_joins n)) (sym is) (among_first n (queue_join n) (service_join n) i less)
      by (i, less, inr (pa, ta, pb, tb)) =
          let (pi, pp) = stand_back j.provided.instance j.provided.port (n + n) 0 x.provided x.is_provided pa ta in
          let (ri, rp) = stand_back j.required.instance j.required.port i 1 x.required x.is_required pb tb in
          let items : IsSameName (codes "add" ∷ []) (codes "add" ∷ []) j.provided.element j.required.element =
          subst₂ (λ u v. ItemsJoin u v j.provided.element j.required.element) (interface_is x.provided (n + n) 0 (of.Component 2) pa ta of_server) (interface_is x.required i 1 (of.Component 0) pb tb (of_producer i less)) x.items in
          let is = join_is j (n + n) 0 i 1 pi pp (first_only (codes "add") items.0 j.provided.element items.1) ri rp (first_only (codes "add") items.0 j.required.element items.2) in
          subst (λ k. Among k (soak_joins n)) (sym is) (among_second n (queue_join n) (service_join n) i less)

  few_joins : IsPastLimit (IsJoined soak) → ⊥
  few_joins past =
      let bound = few_apart past.0 (soak_joins n) past.1 (λ j among. joined j (past.2 j among)) in
      let many = past.3 in
      let all = length-two n (queue_join n) (service_join n) in
      omega (arith, bound, many, all, few)

  keeps_limits : KeepsLimits soak
  keeps_limits = record { instances = few_instances; depth = too_deep; names = names_keep; joins = few_joins }

  -- rules 9 to 11
  pub not_refused : (rule : ℕ) (at : List ℕ) → IsRefusedAt soak rule at → ⊥
  not_refused rule at (inl (is, (c, first, place_is))) = keeps_nesting c first.1
  not_refused rule at (inr (inl (is, nesting, past, place_is))) = past keeps_limits
  not_refused rule at (inr (inr (is, nesting, limits, (x, first, place_is)))) = keeps_connectors x.0 x.1 first.1

  -- ---- what it is made flat to

  written_is : (k : ℕ) (component : ℕ) (name : List ℕ) → slice_get (prototypes_of soak 0) k ≡ Some (typed component name) → written soak (k ∷ []) ≡ name
  written_is k component name is = ap (λ o. option_map_or (λ (x : Prototype). x.short_name) o []) is

  pub instances_are : instances soak ≡ soak_instances n
  instances_are = ap (map (instance_at soak)) places_are
      ∙ map_three_of (instance_at soak) n (λ i. place i 0) (λ i. place (n + i) 1) (place (n + n) 2)
      ∙ three_same n (λ i. instance_at soak (place i 0)) (λ i. instance_at soak (place (n + i) 1)) (instance_at soak (place (n + n) 2)) (λ i. named (p_name i) 0) (λ i. named (c_name i) 1) (named acc_name 2)
      (λ i h k. named (written_is i 0 (p_name i) (get_first n (λ i. typed 0 (p_name i)) (λ i. typed 1 (c_name i)) (typed 2 acc_name) i h) k) 0)
      (λ i h k. named (written_is (n + i) 1 (c_name i) (get_second n (λ i. typed 0 (p_name i)) (λ i. typed 1 (c_name i)) (typed 2 acc_name) i h) k) 1)
      (λ k. named (written_is (n + n) 2 acc_name (get_third n (λ i. typed 0 (p_name i)) (λ i. typed 1 (c_name i)) (typed 2 acc_name)) k) 2)
