-- What is made flat of a description, and the rules on instances and connectors, where its programs are held elsewhere.
use Rattle.std.proofs.Common.{◌≡◌, ℕ, zero, suc, ◌≤◌, List, [], ◌∷◌, ◌++◌, map, length, slice_get, codes, ◌&&◌, Option, Some, None, option_map, option_and_then, inl, inr, refl, sym, ap, subst, ◌∙◌}
use Rattle.std.specs.List.{flat_map, enumerate_from}
use Rattle.plan_definitions.specs.Common.{Component, PortKind, Provided, Required, Connector, Assembly, Delegation, Description, InnerPort, PrototypeType, is_one_kind, is_required, kind_in}
use Rattle.plan_definitions.specs.Common.{lets_join, IsBrokenConnector, IsFirstBroken, IsFirst, IsPastLimit, interface_at, ItemsJoin, prototypes_of, type_at, type_in, ContainsItself, places}
use Rattle.plan_definitions.specs.Common.{places_below, places_of, IsTooDeep, Flat, Join, IsFlatOf, IsRefusedAt, KeepsLimits, instances, name_at, name_in, prefix_at, written, as_inner}
use Rattle.plan_definitions.specs.Common.{Assembles, Delegates, IsBelow, IsChain, IsJoined, IsOutside, Stand, StandsJoin, interface_below, stand_in, itself, further}
use Rattle.description_types.specs.declared.description.PrototypeType.TheVariants as of_type
use Rattle.component_model.specs.Programs.{component_tree}
use Rattle.description_types.specs.Connectors.{interface_of, is_provided, kind_of, ports_of}
use Rattle.description_stages.proofs.Held.{at_place, held_as, look}

pub first_as : {P Q : ℕ → Type 0} (limit : ℕ) (o : Option ℕ) → ((n : ℕ) → P n → Q n) → ((n : ℕ) → Q n → P n) → IsFirst P limit o → IsFirst Q limit o
first_as limit None to back none = λ n below q. none n below (back n q)
first_as limit (Some k) to back (below, is, least) = (below, to k is, λ n before q. least n before (back n q))

pub past_as : {X : Type 0} {P Q : X → Type 0} → ((x : X) → P x → Q x) → IsPastLimit P → IsPastLimit Q
past_as to (xs, apart, all, many) = (xs, apart, λ x among. to x (all x among), many)

module _ (d : Description) (cs : List Component) (same : map component_tree d.components ≡ map component_tree cs) where
  pub ports_of-again : (t : PrototypeType) → ports_of d t ≡ ports_of (held_as d cs) t
  ports_of-again (of_type.Component k) = look component_tree (λ c. c.ports) (λ c. c.ports) [] (λ a b e. ap (λ t. t.ports) e) (slice_get d.components k) (slice_get cs k) (at_place component_tree d.components cs same k)
  ports_of-again (of_type.Composition k) = refl

  pub kind_of-again : (t : PrototypeType) (port : ℕ) → kind_of d t port ≡ kind_of (held_as d cs) t port
  kind_of-again t port = ap (λ ps. option_map (λ x. x.kind) (slice_get ps port)) (ports_of-again t)

  pub interface_of-again : (t : PrototypeType) (port : ℕ) → interface_of d t port ≡ interface_of (held_as d cs) t port
  interface_of-again t port = ap (λ ps. option_map (λ x. x.interface) (slice_get ps port)) (ports_of-again t)

  pub type_in-again : (t : PrototypeType) (q : ℕ) → type_in d t q ≡ type_in (held_as d cs) t q
  type_in-again (of_type.Component k) q = refl
  type_in-again (of_type.Composition c) q = refl

  pub type_at-again : (t : PrototypeType) (path : List ℕ) → type_at d t path ≡ type_at (held_as d cs) t path
  type_at-again t [] = refl
  type_at-again t (q ∷ path) = λ i. option_and_then (λ holder. type_in-again holder q i) (type_at-again t path i)

  pub kind_in-again : (c : ℕ) (inner : InnerPort) → kind_in d c inner ≡ kind_in (held_as d cs) c inner
  kind_in-again c inner = λ i. option_and_then (λ t. kind_of-again t inner.port i) (type_in d (of_type.Composition c) inner.prototype)

  pub lets_join-again : (c : ℕ) (x : Connector) → lets_join d c x ≡ lets_join (held_as d cs) c x
  lets_join-again c (Assembly p r) = λ i. is_provided (kind_in-again c p i) && is_required (kind_in-again c r i)
  lets_join-again c (Delegation inner outer) = λ i. is_one_kind (kind_of-again (of_type.Composition c) outer i) (kind_in-again c inner i)

  -- ---- instances

  pub places_below-again : (n c : ℕ) (path : List ℕ) → places_below d n c path ≡ places_below (held_as d cs) n c path
  places_below-again zero c path = refl
  places_below-again (suc n) c path = λ i. flat_map (λ x. places_of (λ k p. places_below-again n k p i) x.1.of_type (x.0 ∷ path)) (enumerate_from 0 (prototypes_of d c))

  pub places-again : places d ≡ places (held_as d cs)
  places-again = places_below-again 8 d.root []

  name_in-again : (t : Option PrototypeType) (q : ℕ) → name_in d t q ≡ name_in (held_as d cs) t q
  name_in-again None q = refl
  name_in-again (Some (of_type.Component k)) q = refl
  name_in-again (Some (of_type.Composition c)) q = refl

  name_at-again : (path : List ℕ) (q : ℕ) → name_at d path q ≡ name_at (held_as d cs) path q
  name_at-again path q = λ i. name_in-again (type_at-again (of_type.Composition d.root) path i) q i

  prefix_at-again : (path : List ℕ) → prefix_at d path ≡ prefix_at (held_as d cs) path
  prefix_at-again [] = refl
  prefix_at-again (q ∷ path) = λ i. (prefix_at-again path i ++ name_at-again path q i) ++ codes "/"

  written-again : (path : List ℕ) → written d path ≡ written (held_as d cs) path
  written-again [] = refl
  written-again (q ∷ path) = λ i. prefix_at-again path i ++ name_at-again path q i

  pub instances-again : instances d ≡ instances (held_as d cs)
  instances-again = λ i. map (λ place. record { path = written-again place.path i; component = place.component }) (places-again i)

  -- ---- what is joined

  broken_as : (c m : ℕ) → IsBrokenConnector d c m → IsBrokenConnector (held_as d cs) c m
  broken_as c m (x, is, inl refused) = (x, is, inl (sym (lets_join-again c x) ∙ refused))
  broken_as c m (x, is, inr among) = (x, is, inr among)

  contains_as : (c : ℕ) → ContainsItself d c → ContainsItself (held_as d cs) c
  contains_as c (last, before, leads) = (last, before, sym (type_at-again (of_type.Composition c) (last ∷ before)) ∙ leads)

  too_deep_as : IsTooDeep d → IsTooDeep (held_as d cs)
  too_deep_as (path, component, leads, long) = (path, component, sym (type_at-again (of_type.Composition d.root) path) ∙ leads, long)

  delegates_as : (upper lower : Stand) → Delegates d upper lower → Delegates (held_as d cs) upper lower
  delegates_as upper lower x = record {
    composition = x.composition;
    stands = sym (type_at-again (of_type.Composition d.root) upper.path) ∙ x.stands;
    prototype = x.prototype;
    inside = x.inside;
    connects = x.connects;
    lets = sym (lets_join-again x.composition (Delegation (as_inner x.prototype lower) upper.port)) ∙ x.lets;
  }

  assembles_as : (p r : Stand) → Assembles d p r → Assembles (held_as d cs) p r
  assembles_as p r x = record {
    composition = x.composition;
    path = x.path;
    stands = sym (type_at-again (of_type.Composition d.root) x.path) ∙ x.stands;
    provider = x.provider;
    requester = x.requester;
    inside_provider = x.inside_provider;
    inside_requester = x.inside_requester;
    connects = x.connects;
    lets = sym (lets_join-again x.composition (Assembly (as_inner x.provider p) (as_inner x.requester r))) ∙ x.lets;
  }

  below_as : (lower upper : Stand) → IsBelow d lower upper → IsBelow (held_as d cs) lower upper
  below_as lower upper itself = itself
  below_as lower upper (further {next = next} down rest) = further (delegates_as upper next down) (below_as lower next rest)

  outside_as : (kind : PortKind) (outer inner : Stand) → IsOutside d kind outer inner → IsOutside (held_as d cs) kind outer inner
  outside_as kind outer inner x = record {
    root = x.root;
    is_kind = x.is_kind;
    next = x.next;
    down = delegates_as outer x.next x.down;
    rest = below_as inner x.next x.rest;
  }

  chain_as : (p r : Stand) → IsChain d p r → IsChain (held_as d cs) p r
  chain_as p r x = record {
    upper = x.upper;
    other = x.other;
    up = below_as p x.upper x.up;
    across = assembles_as x.upper x.other x.across;
    down = below_as r x.other x.down;
  }

  stands_as : (p r : Stand) → StandsJoin d p r → StandsJoin (held_as d cs) p r
  stands_as p r (inl chain) = inl (chain_as p r chain)
  stands_as p r (inr (inl out)) = inr (inl (outside_as Required p r out))
  stands_as p r (inr (inr out)) = inr (inr (outside_as Provided r p out))

  stand_in-again : (owner : Option ℕ) (port : ℕ) → stand_in d owner port ≡ stand_in (held_as d cs) owner port
  stand_in-again None port = refl
  stand_in-again (Some n) port = ap (λ ps. option_map (λ place. record { path = place.path; port = port }) (slice_get ps n)) places-again

  interface_below-again : (s : Stand) → interface_below d s ≡ interface_below (held_as d cs) s
  interface_below-again s = λ i. option_and_then (λ t. option_and_then (interface_at d) (interface_of-again t s.port i)) (type_at-again (of_type.Composition d.root) s.path i)

  joined_as : (j : Join) → IsJoined d j → IsJoined (held_as d cs) j
  joined_as j x = record {
    provided = x.provided;
    required = x.required;
    is_provided = sym (stand_in-again j.provided.instance j.provided.port) ∙ x.is_provided;
    is_required = sym (stand_in-again j.required.instance j.required.port) ∙ x.is_required;
    stands = stands_as x.provided x.required x.stands;
    items = subst (λ r. ItemsJoin (interface_below (held_as d cs) x.provided) r j.provided.element j.required.element) (interface_below-again x.required)
        (subst (λ p. ItemsJoin p (interface_below d x.required) j.provided.element j.required.element) (interface_below-again x.provided) x.items);
  }

-- ---- the rules, and the whole; the way back is the way there

module _ (d : Description) (cs : List Component) (same : map component_tree d.components ≡ map component_tree cs) where
  nesting_as : (o : Option ℕ) → IsFirst (ContainsItself d) (length d.compositions) o → IsFirst (ContainsItself (held_as d cs)) (length d.compositions) o
  nesting_as o = first_as (length d.compositions) o (contains_as d cs same) (contains_as (held_as d cs) d.components (sym same))

  limits_as : KeepsLimits d → KeepsLimits (held_as d cs)
  limits_as x = record {
    instances = subst (λ ps. length ps ≤ 1024) (places-again d cs same) x.instances;
    depth = λ deep. x.depth (too_deep_as (held_as d cs) d.components (sym same) deep);
    names = x.names;
    joins = λ past. x.joins (past_as (joined_as (held_as d cs) d.components (sym same)) past);
  }

  connectors_as : (o : Option (ℕ × ℕ)) → IsFirstBroken d o → IsFirstBroken (held_as d cs) o
  connectors_as None none = λ c m broken. none c m (broken_as (held_as d cs) d.components (sym same) c m broken)
  connectors_as (Some p) (below, is, least, first) = (
    below,
    broken_as d cs same p.0 p.1 is,
    λ m before broken. least m before (broken_as (held_as d cs) d.components (sym same) p.0 m broken),
    λ c m before broken. first c m before (broken_as (held_as d cs) d.components (sym same) c m broken),
  )

  pub flat_as : (f : Flat) → IsFlatOf d f → IsFlatOf (held_as d cs) f
  flat_as f x = record {
    nesting = nesting_as None x.nesting;
    limits = limits_as x.limits;
    connectors = connectors_as None x.connectors;
    instances_listed = x.instances_listed ∙ instances-again d cs same;
    in_order = x.in_order;
    joined = λ j. (λ among. joined_as d cs same j ((x.joined j).0 among), λ joined. (x.joined j).1 (joined_as (held_as d cs) d.components (sym same) j joined));
  }

  pub refused_as : (rule : ℕ) (place : List ℕ) → IsRefusedAt d rule place → IsRefusedAt (held_as d cs) rule place
  refused_as rule place (inl (is, (c, first, at))) = inl (is, (c, nesting_as (Some c) first, at))
  refused_as rule place (inr (inl (is, nesting, past, at))) = inr (inl (is, nesting_as None nesting, (λ limits. past (back limits)), at))
    where
      back : KeepsLimits (held_as d cs) → KeepsLimits d
      back x = record {
        instances = subst (λ ps. length ps ≤ 1024) (sym (places-again d cs same)) x.instances;
        depth = λ deep. x.depth (too_deep_as d cs same deep);
        names = x.names;
        joins = λ far. x.joins (past_as (joined_as d cs same) far);
      }
  refused_as rule place (inr (inr (is, nesting, limits, (p, first, at)))) = inr (inr (is, nesting_as None nesting, limits_as limits, (p, connectors_as (Some p) first, at)))
