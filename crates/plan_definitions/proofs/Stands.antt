-- Where instances stand, and the ports there: those that a plan numbers are those that connectors join.
use Rattle.std.proofs.Common.{◌≡◌, ℕ, zero, suc, ◌+◌, List, [], ◌∷◌, Option, Some, None, option_map, option_and_then, inl, inr, refl, sym, ap, subst, ◌∙◌, arith, slice_get}
use Rattle.std.specs.List.{enumerate_from}
use Rattle.std.specs.Option.{option_map_or}
use Rattle.plan_definitions.specs.Common.{Component as DeclaredComponent, Port, PortKind, Description, Prototype, PrototypeType, Flat, Instance, IsFlatOf, Place, places, places_below}
use Rattle.plan_definitions.specs.Common.{places_of, instance_at, interface_at, Stand, interface_below, stand_in, Among, prototypes_of, type_at, type_in, component_of, port_of}
use Rattle.description_types.specs.declared.description.PrototypeType.TheVariants.{Component, Composition}
use Rattle.description_types.specs.Connectors.{interface_of, ports_of}
use Rattle.plan_definitions.proofs.Lists.{at, map_get, unflat}

pub unnumbered : {X : Type 0} (n : ℕ) (xs : List X) (k : ℕ) (x : X) → Among (k, x) (enumerate_from n xs) → (i : ℕ) × (k ≡ n + i) × (slice_get xs i ≡ Some x)
unnumbered n [] k x h = absurd h
unnumbered {X = X} n (y ∷ xs) k x (inl e) = let a : k ≡ n = ap (λ (p : ℕ × X). p.0) e in let b : x ≡ y = ap (λ (p : ℕ × X). p.1) e in (0, omega arith, ap (λ w. Some w) (sym b))
unnumbered n (y ∷ xs) k x (inr h) = let r = unnumbered (n + 1) xs k x h in (suc r.0, omega (arith, r.1), r.2)

module _ (d : Description) where
  abbrev Stands : Place → Type 0
  Stands x = type_at d (Composition d.root) x.path ≡ Some (Component x.component)

  by_type : (n : ℕ) (t : PrototypeType) (path : List ℕ) → type_at d (Composition d.root) path ≡ Some t
      → ((c : ℕ) → type_at d (Composition d.root) path ≡ Some (Composition c) → (x : Place) → Among x (places_below d n c path) → Stands x) → (x : Place) → Among x (places_of (places_below d n) t path) → Stands x
  by_type n (Component k) path is deeper x (inl e) = subst Stands (sym e) is
  by_type n (Component k) path is deeper x (inr none) = absurd none
  by_type n (Composition c) path is deeper x among = deeper c is x among

  stands_below : (n c : ℕ) (path : List ℕ) → type_at d (Composition d.root) path ≡ Some (Composition c) → (x : Place) → Among x (places_below d n c path) → Stands x
  stands_below zero c path is x among = absurd among
  stands_below (suc n) c path is x among =
      let p = unflat (λ (y : ℕ × Prototype). places_of (places_below d n) y.1.of_type (y.0 ∷ path)) (enumerate_from 0 (prototypes_of d c)) x among in
      let q = unnumbered 0 (prototypes_of d c) p.0.0 p.0.1 p.1 in
      let k : q.0 ≡ p.0.0 = omega (arith, q.1) in
      by_type n p.0.1.of_type (p.0.0 ∷ path)
      (ap (option_and_then (λ holder. type_in d holder p.0.0)) is ∙ ap (λ o. option_map (λ (y : Prototype). y.of_type) o) (ap (slice_get (prototypes_of d c)) (sym k) ∙ q.2))
      (λ e. stands_below n e (p.0.0 ∷ path)) x p.2

  pub stands : (x : Place) → Among x (places d) → Stands x
  stands = stands_below 8 d.root [] refl

  -- ---- the port of a stand

  abbrev pub port_below : Stand → Option Port
  port_below s = option_and_then (λ t. slice_get (ports_of d t) s.port) (type_at d (Composition d.root) s.path)

  abbrev pub kind_below : Stand → Option PortKind
  kind_below s = option_map (λ (p : Port). p.kind) (port_below s)

  pub interface_there : (s : Stand) (port : Port) → port_below s ≡ Some port → interface_below d s ≡ interface_at d port.interface
  interface_there s port is = by (type_at d (Composition d.root) s.path) is
    where
      by : (o : Option PrototypeType) → option_and_then (λ t. slice_get (ports_of d t) s.port) o ≡ Some port → option_and_then (λ t. option_and_then (interface_at d) (interface_of d t s.port)) o ≡ interface_at d port.interface
      by None h = cc
      by (Some t) h = ap (λ o. option_and_then (interface_at d) (option_map (λ (p : Port). p.interface) o)) h

  -- ---- where the port of an end stands

  stand_of : (i k : ℕ) (s : Stand) → stand_in d (Some i) k ≡ Some s → (x : Place) × (slice_get (places d) i ≡ Some x) × (s ≡ record { path = x.path; port = k })
  stand_of i k s is = by (slice_get (places d) i) refl is
    where
      by : (o : Option Place) → slice_get (places d) i ≡ o → option_map (λ (x : Place). record { path = x.path; port = k }) o ≡ Some s → (x : Place) × (slice_get (places d) i ≡ Some x) × (s ≡ record { path = x.path; port = k })
      by None there h = cc
      by (Some x) there h = (x, there, sym (cc))

  pub of_root : (o : Option ℕ) (k : ℕ) (s : Stand) → stand_in d o k ≡ Some s → s.path ≡ [] → o ≡ None
  of_root None k s is empty = refl
  of_root (Some i) k s is empty =
      let p = stand_of i k s is in
      let here : p.0.path ≡ [] = sym (ap (λ (x : Stand). x.path) p.2) ∙ empty in
      let there = stands p.0 (at (places d) i p.0 p.1) in
      let also : Some (Composition d.root) ≡ Some (Component p.0.component) = sym (ap (type_at d (Composition d.root)) here) ∙ there in
      cc

  pub of_instance : (o : Option ℕ) (k : ℕ) (s : Stand) → stand_in d o k ≡ Some s → (q : ℕ) (path : List ℕ) → s.path ≡ q ∷ path → (i : ℕ) × (o ≡ Some i)
  of_instance None k s is q path more = let e : [] ≡ s.path = ap (λ (o : Option Stand). option_map_or (λ (x : Stand). x.path) o []) is in cc
  of_instance (Some i) k s is q path more = (i, refl)

  module _ (f : Flat) (flat : IsFlatOf d f) where
    -- the component of an instance is that of its place
    component_there : (i : ℕ) (x : Place) → slice_get (places d) i ≡ Some x → component_of d f i ≡ slice_get d.components x.component
    component_there i x is = ap (λ o. option_and_then (λ (y : Instance). slice_get d.components y.component) o) (ap (λ l. slice_get l i) flat.instances_listed ∙ map_get (instance_at d) (places d) i x is)

    pub port_there : (o : Option ℕ) (k : ℕ) (s : Stand) → stand_in d o k ≡ Some s → port_of d f o k ≡ port_below s
    port_there None k s is = let e : record { path = []; port = k } ≡ s = ap (λ (o : Option Stand). option_map_or (λ (x : Stand). x) o s) is in ap port_below e
    port_there (Some i) k s is =
        let p = stand_of i k s is in
        let there = stands p.0 (at (places d) i p.0 p.1) in
        ap (λ o. slice_get (option_map_or (λ (c : DeclaredComponent). c.ports) o []) k) (component_there i p.0 p.1)
        ∙ sym (ap (λ o. option_and_then (λ t. slice_get (ports_of d t) k) o) there) ∙ ap port_below (sym p.2)
