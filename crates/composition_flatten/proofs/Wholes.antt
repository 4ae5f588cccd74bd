-- The links of compositions where they stand, and those of the environment.
use Rattle.std.proofs.Common.{◌≡◌, ℕ, zero, suc, ◌+◌, ◌-◌, ◌*◌, ◌^◌, ◌<◌, ◌≤◌, min, List, [], ◌∷◌, map, Bool, true, false, Option, Some, None, ◌⊎◌, inl, inr, ⊎_elim, ◌↔◌, refl, sym, ap}
use Rattle.std.proofs.Common.{subst, ◌∙◌, arith, true≢false}
use Rattle.std.proofs.lemmas.List.{length-map}
use Rattle.description_types.specs.declared.component.PortKind.{PortKind}
use Rattle.description_types.specs.declared.component.PortKind.TheVariants.{Provided, Required}
use Rattle.description_types.specs.declared.description.Connector.{Connector}
use Rattle.description_types.specs.declared.description.Connector.TheVariants.{Assembly, Delegation}
use Rattle.description_types.specs.declared.description.Description.{Description}
use Rattle.description_types.specs.declared.description.InnerPort.{InnerPort}
use Rattle.description_types.specs.declared.description.PrototypeType.{PrototypeType}
use Rattle.description_types.specs.declared.description.PrototypeType.TheVariants.{Component, Composition}
use Rattle.composition_tables.specs.declared.links.Link.{Link}
use Rattle.composition_tables.specs.declared.nodes.Node.{Node}
use Rattle.composition_tables.specs.declared.tree.Owner.{Owner}
use Rattle.composition_tables.specs.declared.tree.Owner.TheVariants.{Instance}
use Rattle.composition_tables.specs.declared.tree.PortEnd.{PortEnd}
use Rattle.composition_flatten.specs.declared.whole.Own.{Own}
use Rattle.description_types.specs.Connectors.{interface_of, kind_of}
use Rattle.composition_tables.specs.Ends.{ends, own_end, inner_ends, inner_ports, number_from, offset}
use Rattle.description_types.specs.Growing.{AnyOf, Grown}
use Rattle.composition_flatten.specs.Links.{IsAssemblyLink, IsOwnLink, IsNodeLink, IsInnerLink, IsOwn, IsOuterLink, IsLink, outer_link, link_from}
use Rattle.composition_tables.specs.Nodes.{IsNode}
use Rattle.end_search.specs.Gates.{outer_ends}
use Rattle.composition_tables.specs.Owners.{owner_from}
use Rattle.description_types.specs.Members.{Among, AllApart}
use Rattle.composition_tables.proofs.Following.{inner_cases}
use Rattle.composition_tables.proofs.Growth.{grown_same, grown_then, grown_stop}
use Rattle.end_crossing.proofs.SamePorts.{cross_same}
use Rattle.composition_tables.proofs.Members.{unflat, map_out}

-- how high numbers go
abbrev IsLow : ℕ → Owner → Type 0
IsLow limit o = (k : ℕ) × (o ≡ Instance k) × (k ≤ limit)

module _ (d : Description) where
  own_low : (o : Option ℕ) (first port : ℕ) (x : PortEnd) → Among x (own_end o first port) → x.owner ≡ Instance first
  own_low None first port x h = absurd h
  own_low (Some i) first port x h = ⊎_elim (λ e. ap (λ y. y.owner) e) (λ no. absurd no) h

  low : (n : ℕ) (t : PrototypeType) (first port : ℕ) (x : PortEnd) → Among x (ends d n t first port) → IsLow (first + n * 1025) x.owner
  low n (Component k) first port x h = (first, own_low (interface_of d (Component k) port) first port x h, omega arith)
  low zero (Composition c) first port x h = absurd h
  low (suc n) (Composition c) first port x h =
      let inner = unflat (inner_ends d n (ends d n) c first) (inner_ports d c port) x h in
      let t = inner_cases d n (ends d n) c first inner.0 x inner.2 in
      let r = low n t.0 (number_from first (offset d n c inner.0.prototype)) inner.0.port x t.2 in
      (r.0, r.1, (let bound = r.2 in omega arith))

  inner_low : (n c : ℕ) (inner : InnerPort) (x : PortEnd) → n ≤ 8 → Among x (inner_ends d n (ends d n) c 0 inner) → IsLow 9225 x.owner
  inner_low n c inner x within h =
      let t = inner_cases d n (ends d n) c 0 inner x h in
      let r = low n t.0 (number_from 0 (offset d n c inner.prototype)) inner.port x t.2 in
      (r.0, r.1, (let bound = r.2 in omega arith))

  assembly_low : (n c : ℕ) (m : Connector) (y : Link) → n ≤ 8 → IsAssemblyLink d n c m y → IsLow 9225 y.provided.owner × IsLow 9225 y.required.owner
  assembly_low n c (Assembly p r) y within h =
      let a = h.1 in
      let left = inner_low n c p a.0 within a.1 in
      let right = inner_low n c r a.2.0 within a.2.1 in
      let is = a.2.2.3 in
      ((left.0, ap (λ l. l.provided.owner) is ∙ left.1, left.2), (right.0, ap (λ l. l.required.owner) is ∙ right.1, right.2))
  assembly_low n c (Delegation i o) y within h = absurd h

  owner_same : (first : ℕ) (a b : Owner) → first ≤ 2 ^ 31 → IsLow 9225 a → IsLow 9225 b → owner_from first a ≡ owner_from first b → a ≡ b
  owner_same first a b within low_a low_b e =
      let at : Instance (min (first + low_a.0) (2 ^ 32 - 1)) ≡ Instance (min (first + low_b.0) (2 ^ 32 - 1)) = sym (ap (owner_from first) low_a.1) ∙ e ∙ ap (owner_from first) low_b.1 in
      let numbers : min (first + low_a.0) (2 ^ 32 - 1) ≡ min (first + low_b.0) (2 ^ 32 - 1) = cc in
      let bound_a = low_a.2 in
      let bound_b = low_b.2 in
      let same : low_a.0 ≡ low_b.0 = omega arith in
      low_a.1 ∙ ap (λ k. Instance k) same ∙ sym low_b.1

  link_same : (first n c : ℕ) (x y : Link) → first ≤ 2 ^ 31 → n ≤ 8 → IsOwnLink d n c x → IsOwnLink d n c y → link_from first x ≡ link_from first y → x ≡ y
  link_same first n c x y within deep own_x own_y e =
      let low_x = assembly_low n c own_x.0 x deep own_x.2 in
      let low_y = assembly_low n c own_y.0 y deep own_y.2 in
      let a = owner_same first x.provided.owner y.provided.owner within low_x.0 low_y.0 (ap (λ l. l.provided.owner) e) in
      let b = owner_same first x.required.owner y.required.owner within low_x.1 low_y.1 (ap (λ l. l.required.owner) e) in
      (λ i. record { provided = record { owner = a i; port = (e i).provided.port; element = (e i).provided.element }; required = record { owner = b i; port = (e i).required.port; element = (e i).required.element } })

-- where the first instance is the first of all, the links are as they are
owner_kept : (first : ℕ) (o : Owner) → first ≡ 0 → IsLow 9225 o → owner_from first o ≡ o
owner_kept first o none low_o =
    let bound = low_o.2 in
    let same : min (first + low_o.0) (2 ^ 32 - 1) ≡ low_o.0 = omega arith in
    ap (owner_from first) low_o.1 ∙ ap (λ k. Instance k) same ∙ sym low_o.1

module _ (d : Description) (node : Node) (none : node.first ≡ 0) (deep : node.depth ≤ 8) where
  link_kept : (y : Link) → IsOwnLink d node.depth node.composition y → link_from node.first y ≡ y
  link_kept y own =
      let low_y = assembly_low d node.depth node.composition own.0 y deep own.2 in
      let a = owner_kept node.first y.provided.owner none low_y.0 in
      let b = owner_kept node.first y.required.owner none low_y.1 in
      (λ i. record { provided = record { owner = a i; port = y.provided.port; element = y.provided.element }; required = record { owner = b i; port = y.required.port; element = y.required.element } })

  pub node_first : (before after : List Link) (is_full : Bool) → Grown (IsOwnLink d node.depth node.composition) before after is_full → Grown (IsNodeLink d node) before after is_full
  node_first before after is_full g =
      grown_same (IsOwnLink d node.depth node.composition) (IsNodeLink d node) before after is_full
      (λ x own. (x, own, sym (link_kept x own)))
      (λ x h. subst (IsOwnLink d node.depth node.composition) (sym (h.2 ∙ link_kept h.0 h.1)) h.1) g

pub apart_map : {X Y : Type 0} (f : X → Y) (xs : List X) → ((x y : X) → Among x xs → Among y xs → f x ≡ f y → x ≡ y) → AllApart xs → AllApart (map f xs)
apart_map f [] same apart = tt
apart_map f (x ∷ xs) same apart = (
  (λ h. let r = map_out f (f x) xs h in apart.0 (subst (λ w. Among w xs) (sym (same x r.0 (inl refl) (inr r.1) r.2)) r.1)),
  apart_map f xs (λ a b in_a in_b. same a b (inr in_a) (inr in_b)) apart.1,
)

module _ (d : Description) (node : Node) (own : Own) (depth : own.depth ≡ node.depth) (composition : own.composition ≡ node.composition) (is : IsOwn d own) where
  here : Grown (IsOwnLink d node.depth node.composition) [] own.links.items own.is_full
  here = subst (λ c. Grown (IsOwnLink d node.depth c) [] own.links.items own.is_full) composition (subst (λ n. Grown (IsOwnLink d n own.composition) [] own.links.items own.is_full) depth is)

  pub node_full : (links : List Link) → own.is_full ≡ true → node.depth ≤ 8 → node.first ≤ 2 ^ 31 → Grown (IsNodeLink d node) links links true
  node_full links full deep within =
      let p = here.past full in
      let each : (x : Link) → Among x p.0 → IsOwnLink d node.depth node.composition x = λ x h. ⊎_elim (λ no. absurd no) (λ o. o) (p.2 x h) in
      record {
        sound = λ x h. inl h;
        stays = λ x h. h;
        has = λ f. absurd (true≢false f);
        past = λ _. (
          map (link_from node.first) p.0,
          apart_map (link_from node.first) p.0 (λ x y in_x in_y e. link_same d node.first node.depth node.composition x y within deep (each x in_x) (each y in_y) e) p.1,
          (λ x h. let r = map_out (link_from node.first) x p.0 h in inr (r.0, each r.0 r.1, r.2)),
          subst (λ m. 65536 < m) (sym (length-map p.0 (link_from node.first))) p.3,
        );
      }

  pub node_grown : (slice before after : List Link) (is_full : Bool) → slice ≡ own.links.items → own.is_full ≡ false
      → Grown (AnyOf (λ (y x : Link). x ≡ link_from node.first y) slice) before after is_full → Grown (IsNodeLink d node) before after is_full
  node_grown slice before after is_full same all g =
      grown_same (AnyOf (λ (y x : Link). x ≡ link_from node.first y) slice) (IsNodeLink d node) before after is_full
      (λ x a. (a.0, ⊎_elim (λ no. absurd no) (λ o. o) (here.sound a.0 (subst (Among a.0) same a.1)), a.2))
      (λ x h. (h.0, subst (Among h.0) (sym same) (here.has all h.0 h.1), h.2)) g

-- the links of the environment
module _ (d : Description) where
  pub between : (kind : Option PortKind) (own inner : List PortEnd) (P : Link → Type 0) (before after : List Link) (is_full : Bool) → outer_link kind d own inner ≡ P → Grown P before after is_full → Grown (outer_link kind d own inner) before after is_full
  between kind own inner P before after is_full is g = subst (λ Q. Grown Q before after is_full) (sym is) g

  outer_inner : (kind : Option PortKind) (own inner inner2 : List PortEnd) (before after : List Link) (is_full : Bool) → ((x : PortEnd) → Among x inner ↔ Among x inner2)
      → Grown (outer_link kind d own inner) before after is_full → Grown (outer_link kind d own inner2) before after is_full
  outer_inner None own inner inner2 before after is_full same g = g
  outer_inner (Some Required) own inner inner2 before after is_full same g = cross_same d own inner own own inner2 inner before after is_full refl refl (λ x. ((λ h. h), (λ h. h))) same g
  outer_inner (Some Provided) own inner inner2 before after is_full same g = cross_same d inner own inner inner2 own own before after is_full refl refl same (λ x. ((λ h. h), (λ h. h))) g

  pub outer_grown : (port : ℕ) (kind : Option PortKind) (interface : Option ℕ) (own own_slice inner inner_slice : List PortEnd) (before after : List Link) (is_full : Bool) → kind ≡ kind_of d (Composition d.root) port → interface ≡ interface_of d (Composition d.root) port
      → own ≡ outer_ends interface port → own_slice ≡ own → inner_slice ≡ inner → ((x : PortEnd) → Among x inner ↔ Among x (ends d 8 (Composition d.root) 0 port))
      → Grown (outer_link kind d own_slice inner_slice) before after is_full → Grown (IsOuterLink d port) before after is_full
  outer_grown port kind interface own own_slice inner inner_slice before after is_full kind_is interface_is own_is own_same inner_same same g =
      outer_inner (kind_of d (Composition d.root) port) (outer_ends (interface_of d (Composition d.root) port) port) inner (ends d 8 (Composition d.root) 0 port) before after is_full same
      (subst (λ k. Grown (outer_link k d (outer_ends (interface_of d (Composition d.root) port) port) inner) before after is_full) kind_is
      (subst (λ l. Grown (outer_link kind d l inner) before after is_full) (own_same ∙ own_is ∙ ap (λ o. outer_ends o port) interface_is)
      (subst (λ l. Grown (outer_link kind d own_slice l) before after is_full) inner_same g)))

  -- a port without an interface has none
  kind_none : (kind : Option PortKind) (port : ℕ) (inner : List PortEnd) (x : Link) → outer_link kind d (outer_ends None port) inner x → ⊥
  kind_none None port inner x h = h
  kind_none (Some Required) port inner x h = h.1
  kind_none (Some Provided) port inner x h = h.2.1

  pub outer_none : (port : ℕ) (x : Link) → interface_of d (Composition d.root) port ≡ None → IsOuterLink d port x → ⊥
  outer_none port x none h = kind_none (kind_of d (Composition d.root) port) port (ends d 8 (Composition d.root) 0 port) x
      (subst (λ o. outer_link (kind_of d (Composition d.root) port) d (outer_ends o port) (ends d 8 (Composition d.root) 0 port) x) none h)

-- how deep and how high the compositions stand
pub node_bounds : (d : Description) (n c first : ℕ) (x : Node) → IsNode d n c first x → (x.depth ≤ n) × (x.first ≤ first + n * 1025)
node_bounds d zero c first x h = absurd h
node_bounds d (suc n) c first x (inl e) = ((let is : x.depth ≡ n = ap (λ y. y.depth) e in omega arith), (let is : x.first ≡ first = ap (λ y. y.first) e in omega arith))
node_bounds d (suc n) c first x (inr i) =
    let r = node_bounds d n i.1 (number_from first (offset d n c i.0)) x i.4 in
    (omega (arith, r.0), (let bound = r.1 in omega arith))

pub nodes_within : (d : Description) (nodes slice : List Node) → slice ≡ nodes → ((x : Node) → Among x nodes ↔ IsNode d 8 d.root 0 x) → (x : Node) → Among x slice → (x.depth ≤ 8) × (x.first ≤ 2 ^ 31)
nodes_within d nodes slice same are x h =
    let r = node_bounds d 8 d.root 0 x ((are x).0 (subst (Among x) same h)) in
    (r.0, (let bound = r.1 in omega arith))

pub inner_grown : (d : Description) (nodes slice : List Node) (before after : List Link) (is_full : Bool) → slice ≡ nodes → ((x : Node) → Among x nodes ↔ IsNode d 8 d.root 0 x)
    → Grown (AnyOf (IsNodeLink d) slice) before after is_full → Grown (IsInnerLink d) before after is_full
inner_grown d nodes slice before after is_full same are g = grown_same (AnyOf (IsNodeLink d) slice) (IsInnerLink d) before after is_full
    (λ x a. (a.0, (are a.0).0 (subst (Among a.0) same a.1), a.2))
    (λ x n. (n.0, subst (Among n.0) (sym same) ((are n.0).1 n.1), n.2)) g

pub links_full : (d : Description) (before after : List Link) (is_full : Bool) → Grown (IsInnerLink d) before after is_full → is_full ≡ true → Grown (IsLink d) before after true
links_full d before after is_full g full =
    grown_same (λ x. IsInnerLink d x ⊎ IsLink d x) (IsLink d) before after true
    (λ x s. ⊎_elim (λ n. inl n) (λ l. l) s) (λ x l. inr l)
    (grown_stop (IsInnerLink d) (IsLink d) before after (subst (Grown (IsInnerLink d) before after) full g))

pub links_all : (d : Description) (before between after : List Link) (is_full first_full : Bool)
    → Grown (IsInnerLink d) before between first_full → first_full ≡ false → Grown (λ x. (port : ℕ) × IsOuterLink d port x) between after is_full → Grown (IsLink d) before after is_full
links_all d before between after is_full first_full g room outer =
    grown_then (IsInnerLink d) (λ x. (port : ℕ) × IsOuterLink d port x) before between after is_full (subst (Grown (IsInnerLink d) before between) room g) outer
