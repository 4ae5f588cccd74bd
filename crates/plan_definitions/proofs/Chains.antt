-- The two ends of a chain of connectors whose ports are all compatible: which way they face, and that the first serves the last.
use Rattle.std.proofs.Common.{◌≡◌, ℕ, ◌+◌, List, [], ◌∷◌, Bool, true, false, ◌&&◌, if◌then◌else◌, Option, Some, None, option_map, option_and_then, ◌⊎◌, inl, inr, refl, sym, ap, subst, ◌∙◌, slice_get}
use Rattle.bus_semantics.specs.Common.{and_parts, option_map_or}
use Rattle.plan_definitions.specs.Common.{Interface, InterfaceKind, TypeTable, Port, PortKind, Provided, Required, Composition as Declared, Connector, Assembly, Delegation, Description}
use Rattle.plan_definitions.specs.Common.{InnerPort, Prototype, both, delegated, incompatible, incompatible_in, joins_compatible, are_compatible, serves_in, connectors_of, is_one_kind}
use Rattle.plan_definitions.specs.Common.{is_required, kind_in, interface_at, Assembles, Delegates, IsBelow, Stand, StandsJoin, as_inner, Among, type_at, type_in}
use Rattle.description_types.specs.declared.description.PrototypeType.TheVariants.{Composition}
use Rattle.description_types.specs.Connectors.{is_provided, kind_of, ports_of}
use Rattle.description_types.specs.Joined.{further, itself}
use Rattle.plan_definitions.proofs.Lists.{place}
use Rattle.plan_definitions.proofs.Stands.{kind_below, port_below}
use Rattle.plan_definitions.proofs.Firsts.{first_none, map_none}

-- inside, a stand has the one kind, and at the root the other
abbrev pub Faces : Description → Stand → PortKind → PortKind → Type 0
Faces d s inner outer = ((r : ℕ) × (rest : List ℕ) × (s.path ≡ r ∷ rest) × (kind_below d s ≡ Some inner)) ⊎ ((s.path ≡ []) × (kind_below d s ≡ Some outer))

-- what a provided interface that is compatible has in common with the required one, so far as a chain of such interfaces keeps it
pub record IsPassed (types : TypeTable) (Passes : Option InterfaceKind → Option InterfaceKind → Type 0) : Type 0 where
  pub itself : (a : Option InterfaceKind) → Passes a a
  pub onward : (a b c : Option InterfaceKind) → Passes a b → Passes b c → Passes a c
  pub compatible : (a b : Option Interface) → serves_in types a b ≡ true → Passes (option_map (λ (i : Interface). i.kind) a) (option_map (λ (i : Interface). i.kind) b)

module _ (d : Description) (Passes : Option InterfaceKind → Option InterfaceKind → Type 0) (passed : IsPassed d.types Passes) where
  abbrev PassesAt : Option Port → Option Port → Type 0
  PassesAt a b = Passes (option_and_then (λ (p : Port). interface_at d p.interface) a) (option_and_then (λ (p : Port). interface_at d p.interface) b)

  -- which way a delegation goes
  abbrev PassesBy : PortKind → Option Port → Option Port → Type 0
  PassesBy Provided upper lower = PassesAt lower upper
  PassesBy Required upper lower = PassesAt upper lower

  record Goes (upper lower : Option Port) : Type 0 where
    kind : PortKind
    above : option_map (λ (p : Port). p.kind) upper ≡ Some kind
    below : option_map (λ (p : Port). p.kind) lower ≡ Some kind
    passes : PassesBy kind upper lower

  goes : (a b : Option Port) → is_one_kind (option_map (λ (p : Port). p.kind) a) (option_map (λ (p : Port). p.kind) b) ≡ true
      → option_map_or (λ (x : ℕ × ℕ). are_compatible d.types x.0 x.1) (option_and_then (λ (p : Port). delegated (option_map (λ (q : Port). q.interface) b) p.kind p.interface) a) false ≡ true → Goes a b
  goes None b lets h = cc
  goes (Some a) None lets h = by a.kind refl h
    where
      by : (k : PortKind) → a.kind ≡ k → option_map_or (λ (x : ℕ × ℕ). are_compatible d.types x.0 x.1) (delegated None k a.interface) false ≡ true → Goes (Some a) None
      by Provided is compatible = cc
      by Required is compatible = cc
  goes (Some a) (Some b) lets h = by a.kind refl (ap (λ k. is_one_kind (Some k) (Some b.kind)) refl ∙ lets) h
    where
      other_provided : (k : PortKind) → is_provided (Some k) ≡ true → k ≡ Provided
      other_provided Provided e = refl
      other_provided Required e = cc

      other_required : (k : PortKind) → is_required (Some k) ≡ true → k ≡ Required
      other_required Provided e = cc
      other_required Required e = refl

      by : (k : PortKind) → a.kind ≡ k → is_one_kind (Some k) (Some b.kind) ≡ true → option_map_or (λ (x : ℕ × ℕ). are_compatible d.types x.0 x.1) (delegated (Some b.interface) k a.interface) false ≡ true → Goes (Some a) (Some b)
      by Provided is one compatible = record {
        kind = Provided;
        above = ap (λ k. Some k) is;
        below = ap (λ k. Some k) (other_provided b.kind one);
        passes = passed.compatible (slice_get d.types.interfaces b.interface) (slice_get d.types.interfaces a.interface) compatible;
      }
      by Required is one compatible = record {
        kind = Required;
        above = ap (λ k. Some k) is;
        below = ap (λ k. Some k) (other_required b.kind one);
        passes = passed.compatible (slice_get d.types.interfaces a.interface) (slice_get d.types.interfaces b.interface) compatible;
      }

  crosses : (a b : Option Port) → (is_provided (option_map (λ (p : Port). p.kind) a) && is_required (option_map (λ (p : Port). p.kind) b)) ≡ true
      → option_map_or (λ (x : ℕ × ℕ). are_compatible d.types x.0 x.1) (both (option_map (λ (p : Port). p.interface) a) (option_map (λ (p : Port). p.interface) b)) false ≡ true
      → (option_map (λ (p : Port). p.kind) a ≡ Some Provided) × (option_map (λ (p : Port). p.kind) b ≡ Some Required) × PassesAt a b
  crosses None b lets h = cc
  crosses (Some a) None lets h = cc
  crosses (Some a) (Some b) lets h =
      let p = and_parts (is_provided (Some a.kind)) (is_required (Some b.kind)) lets in
      (provided a.kind p.0, required b.kind p.1, passed.compatible (slice_get d.types.interfaces a.interface) (slice_get d.types.interfaces b.interface) h)
    where
      provided : (k : PortKind) → is_provided (Some k) ≡ true → Some k ≡ Some Provided
      provided Provided e = refl
      provided Required e = cc

      required : (k : PortKind) → is_required (Some k) ≡ true → Some k ≡ Some Required
      required Provided e = cc
      required Required e = refl

  -- ---- the ports of a connector

  abbrev inner_port : Declared → InnerPort → Option Port
  inner_port x inner = option_and_then (λ (p : Prototype). slice_get (ports_of d p.of_type) inner.port) (slice_get x.prototypes inner.prototype)

  module _ (c : ℕ) (x : Declared) (is : slice_get d.compositions c ≡ Some x) where
    type_there : (q : ℕ) → type_in d (Composition c) q ≡ option_map (λ (p : Prototype). p.of_type) (slice_get x.prototypes q)
    type_there q = ap (λ o. option_map (λ (p : Prototype). p.of_type) (slice_get (option_map_or (λ (y : Declared). y.prototypes) o []) q)) is

    kind_there : (inner : InnerPort) → kind_in d c inner ≡ option_map (λ (p : Port). p.kind) (inner_port x inner)
    kind_there inner = ap (option_and_then (λ t. kind_of d t inner.port)) (type_there inner.prototype) ∙ by (slice_get x.prototypes inner.prototype)
      where
        by : (o : Option Prototype) → option_and_then (λ t. kind_of d t inner.port) (option_map (λ (p : Prototype). p.of_type) o) ≡ option_map (λ (p : Port). p.kind) (option_and_then (λ (p : Prototype). slice_get (ports_of d p.of_type) inner.port) o)
        by None = refl
        by (Some p) = refl

    inner_below : (upper lower : Stand) (q : ℕ) → type_at d (Composition d.root) upper.path ≡ Some (Composition c) → lower.path ≡ q ∷ upper.path → port_below d lower ≡ inner_port x (as_inner q lower)
    inner_below upper lower q there inside =
        ap (λ path. option_and_then (λ t. slice_get (ports_of d t) lower.port) (type_at d (Composition d.root) path)) inside
        ∙ ap (λ o. option_and_then (λ t. slice_get (ports_of d t) lower.port) (option_and_then (λ holder. type_in d holder q) o)) there
        ∙ ap (option_and_then (λ t. slice_get (ports_of d t) lower.port)) (type_there q)
        ∙ by (slice_get x.prototypes q)
      where
        by : (o : Option Prototype) → option_and_then (λ t. slice_get (ports_of d t) lower.port) (option_map (λ (p : Prototype). p.of_type) o) ≡ option_and_then (λ (p : Prototype). slice_get (ports_of d p.of_type) lower.port) o
        by None = refl
        by (Some p) = refl

    outer_here : (s : Stand) → type_at d (Composition d.root) s.path ≡ Some (Composition c) → port_below d s ≡ slice_get x.ports s.port
    outer_here s there = ap (option_and_then (λ t. slice_get (ports_of d t) s.port)) there ∙ ap (λ o. slice_get (option_map_or (λ (y : Declared). y.ports) o []) s.port) is

    outer_kind : (port : ℕ) → kind_of d (Composition c) port ≡ option_map (λ (p : Port). p.kind) (slice_get x.ports port)
    outer_kind port = ap (λ o. option_map (λ (p : Port). p.kind) (slice_get (option_map_or (λ (y : Declared). y.ports) o []) port)) is

  connects_in : (c : ℕ) (k : Connector) → Among k (connectors_of d c) → (x : Declared) × (slice_get d.compositions c ≡ Some x) × Among k x.connectors
  connects_in c k among = by (slice_get d.compositions c) refl among
    where
      by : (o : Option Declared) → slice_get d.compositions c ≡ o → Among k (option_map_or (λ (x : Declared). x.connectors) o []) → (x : Declared) × (slice_get d.compositions c ≡ Some x) × Among k x.connectors
      by None is h = absurd h
      by (Some x) is h = (x, is, h)

  module _ (compatible : incompatible d ≡ None) where
    -- each connector joins compatible ports
    joins_all : (c : ℕ) (x : Declared) (k : Connector) → slice_get d.compositions c ≡ Some x → Among k x.connectors → joins_compatible d x k ≡ true
    joins_all c x k is among =
        let p = place k x.connectors among in
        let none = map_none (λ m. (0 + c, m)) (incompatible_in d x) (first_none (λ n (y : Declared). option_map (λ m. (n, m)) (incompatible_in d y)) 0 d.compositions c x compatible is) in
        by (joins_compatible d x k) (0 + p.0) (first_none (λ m (y : Connector). if joins_compatible d x y then None else Some m) 0 x.connectors p.0 k none p.1)
      where
        by : (b : Bool) (n : ℕ) → (if b then None else Some n) ≡ None → b ≡ true
        by true n h = refl
        by false n h = cc

    delegates : (upper lower : Stand) → Delegates d upper lower → Goes (port_below d upper) (port_below d lower)
    delegates upper lower del =
        let there = connects_in del.composition (Delegation (as_inner del.prototype lower) upper.port) del.connects in
        let x = there.0 in
        let a = outer_here del.composition x there.1 upper del.stands in
        let b = inner_below del.composition x there.1 upper lower del.prototype del.stands del.inside in
        subst (λ o. Goes o (port_below d lower)) (sym a) (subst (λ o. Goes (slice_get x.ports upper.port) o) (sym b)
        (goes (slice_get x.ports upper.port) (inner_port x (as_inner del.prototype lower))
        (sym (λ j. is_one_kind (outer_kind del.composition x there.1 upper.port j) (kind_there del.composition x there.1 (as_inner del.prototype lower) j)) ∙ del.lets)
        (joins_all del.composition x (Delegation (as_inner del.prototype lower) upper.port) there.1 there.2)))

    assembles : (provided required : Stand) → Assembles d provided required → (kind_below d provided ≡ Some Provided) × (kind_below d required ≡ Some Required) × PassesAt (port_below d provided) (port_below d required)
    assembles provided required ass =
        let there = connects_in ass.composition (Assembly (as_inner ass.provider provided) (as_inner ass.requester required)) ass.connects in
        let x = there.0 in
        let round : Stand = record { path = ass.path; port = 0 } in
        let a = inner_below ass.composition x there.1 round provided ass.provider ass.stands ass.inside_provider in
        let b = inner_below ass.composition x there.1 round required ass.requester ass.stands ass.inside_requester in
        let r = crosses (inner_port x (as_inner ass.provider provided)) (inner_port x (as_inner ass.requester required))
        (sym (λ j. is_provided (kind_there ass.composition x there.1 (as_inner ass.provider provided) j) && is_required (kind_there ass.composition x there.1 (as_inner ass.requester required) j)) ∙ ass.lets)
        (joins_all ass.composition x (Assembly (as_inner ass.provider provided) (as_inner ass.requester required)) there.1 there.2) in
        (ap (option_map (λ (p : Port). p.kind)) a ∙ r.0, ap (option_map (λ (p : Port). p.kind)) b ∙ r.1, subst (λ o. PassesAt o (port_below d required)) (sym a) (subst (λ o. PassesAt (inner_port x (as_inner ass.provider provided)) o) (sym b) r.2))

    -- ---- chains

    by_then : (k : PortKind) (a b c : Option Port) → PassesBy k a b → PassesBy k b c → PassesBy k a c
    by_then Provided a b c first second = passed.onward (option_and_then (λ (p : Port). interface_at d p.interface) c) (option_and_then (λ (p : Port). interface_at d p.interface) b) (option_and_then (λ (p : Port). interface_at d p.interface) a) second first
    by_then Required a b c first second = passed.onward (option_and_then (λ (p : Port). interface_at d p.interface) a) (option_and_then (λ (p : Port). interface_at d p.interface) b) (option_and_then (λ (p : Port). interface_at d p.interface) c) first second

    by_itself : (k : PortKind) (a : Option Port) → PassesBy k a a
    by_itself Provided a = passed.itself (option_and_then (λ (p : Port). interface_at d p.interface) a)
    by_itself Required a = passed.itself (option_and_then (λ (p : Port). interface_at d p.interface) a)

    below : (k : PortKind) (lower upper : Stand) → IsBelow d lower upper → kind_below d upper ≡ Some k → (kind_below d lower ≡ Some k) × PassesBy k (port_below d upper) (port_below d lower)
    below k lower _ itself is = (is, by_itself k (port_below d lower))
    below k lower upper (further {next = next} del rest) is =
        let g = delegates upper next del in
        let same : g.kind ≡ k = cc (g.above, is) in
        let later = below k lower next rest (g.below ∙ ap (λ x. Some x) same) in
        (later.0, by_then k (port_below d upper) (port_below d next) (port_below d lower) (subst (λ x. PassesBy x (port_below d upper) (port_below d next)) same g.passes) later.1)

    nonempty : (lower upper : Stand) → IsBelow d lower upper → (q : ℕ) (path : List ℕ) → upper.path ≡ q ∷ path → (r : ℕ) × (rest : List ℕ) × (lower.path ≡ r ∷ rest)
    nonempty lower _ itself q path is = (q, path, is)
    nonempty lower upper (further {next = next} del rest) q path is = nonempty lower next rest del.prototype upper.path del.inside

    pub record AreJoined (provided required : Stand) : Type 0 where
      pub provides : Faces d provided Provided Required
      pub requires : Faces d required Required Provided
      pub passes : PassesAt (port_below d provided) (port_below d required)

    at_root : (s : Stand) (k : PortKind) → s.path ≡ [] → kind_of d (Composition d.root) s.port ≡ Some k → kind_below d s ≡ Some k
    at_root s k empty is = ap (λ path. option_map (λ (p : Port). p.kind) (option_and_then (λ t. slice_get (ports_of d t) s.port) (type_at d (Composition d.root) path))) empty ∙ is

    pub are_joined : (provided required : Stand) → StandsJoin d provided required → AreJoined provided required
    are_joined provided required (inl chain) =
        let a = assembles chain.upper chain.other chain.across in
        let up = below Provided provided chain.upper chain.up a.0 in
        let down = below Required required chain.other chain.down a.1 in
        let p = nonempty provided chain.upper chain.up chain.across.provider chain.across.path chain.across.inside_provider in
        let r = nonempty required chain.other chain.down chain.across.requester chain.across.path chain.across.inside_requester in
        record {
          provides = inl (p.0, p.1, p.2, up.0);
          requires = inl (r.0, r.1, r.2, down.0);
          passes = by_then Required (port_below d provided) (port_below d chain.other) (port_below d required) (by_then Required (port_below d provided) (port_below d chain.upper) (port_below d chain.other) up.1 a.2) down.1;
        }
    are_joined provided required (inr (inl out)) =
        let is = at_root provided Required out.root out.is_kind in
        let down = below Required required provided (further out.down out.rest) is in
        let r = nonempty required out.next out.rest out.down.prototype provided.path out.down.inside in
        record { provides = inr (out.root, is); requires = inl (r.0, r.1, r.2, down.0); passes = down.1 }
    are_joined provided required (inr (inr out)) =
        let is = at_root required Provided out.root out.is_kind in
        let down = below Provided provided required (further out.down out.rest) is in
        let r = nonempty provided out.next out.rest out.down.prototype required.path out.down.inside in
        record { provides = inl (r.0, r.1, r.2, down.0); requires = inr (out.root, is); passes = down.1 }
