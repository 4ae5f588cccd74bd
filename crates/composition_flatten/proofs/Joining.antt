-- The links of a description are its joins.
use Rattle.std.proofs.Common.{◌≡◌, ℕ, suc, ◌+◌, ◌-◌, ◌^◌, ◌≤◌, min, List, [], ◌∷◌, length, slice_get, true, Option, Some, None, option_map, option_and_then, inl, inr, ⊎_elim, refl, sym, ap}
use Rattle.std.proofs.Common.{subst, ◌∙◌, arith, true≢false}
use Rattle.std.proofs.lemmas.Option.{slice_get_within}
use Rattle.description_types.specs.declared.component.PortKind.{PortKind}
use Rattle.description_types.specs.declared.component.PortKind.TheVariants.{Provided, Required}
use Rattle.description_types.specs.declared.description.Connector.{Connector}
use Rattle.description_types.specs.declared.description.Connector.TheVariants.{Assembly, Delegation}
use Rattle.description_types.specs.declared.description.Description.{Description}
use Rattle.description_types.specs.declared.description.InnerPort.{InnerPort}
use Rattle.description_types.specs.declared.description.PrototypeType.TheVariants.{Component, Composition}
use Rattle.description_types.specs.declared.interface.InterfaceKind.{InterfaceKind}
use Rattle.description_types.specs.declared.interface.InterfaceKind.TheVariants.{SenderReceiver, ClientServer, ModeSwitch}
use Rattle.composition_tables.specs.declared.links.Link.{Link}
use Rattle.composition_tables.specs.declared.nodes.Node.{Node}
use Rattle.composition_tables.specs.declared.tree.Owner.TheVariants.{Instance, Environment}
use Rattle.composition_tables.specs.declared.tree.PortEnd.{PortEnd}
use Rattle.description_types.specs.Connectors.{interface_of, kind_of, connectors_of, is_provided, is_required}
use Rattle.composition_tables.specs.Ends.{ends, inner_ends, offset}
use Rattle.description_types.specs.Places.{Place, places_below, places, IsTooDeep}
use Rattle.description_types.specs.Items.{interface_at, ItemsJoin}
use Rattle.description_types.specs.Joined.{Stand, IsBelow, IsOutside, stand_in, interface_below, IsJoined}
use Rattle.description_types.specs.Joined.IsBelow.{itself, further}
use Rattle.composition_flatten.specs.Joins.{instance_of, join_of}
use Rattle.end_crossing.specs.PortLinks.{link_of}
use Rattle.composition_tables.specs.Owners.{owner_from}
use Rattle.composition_flatten.specs.Links.{link_from, IsAssemblyLink, IsNodeLink, IsLink, outer_link}
use Rattle.composition_tables.specs.Nodes.{IsNode}
use Rattle.end_search.specs.Gates.{outer_ends}
use Rattle.description_types.specs.Members.{Among}
use Rattle.description_types.specs.Paths.{type_at}
use Rattle.composition_flatten.proofs.Chains.{IsEndAt, number_exact, ends_sound}
use Rattle.composition_tables.proofs.Following.{inner_cases}
use Rattle.composition_flatten.proofs.Naming.{placed_size}
use Rattle.composition_flatten.proofs.Placing.{segment_whole, segment_inner, place_once}
use Rattle.composition_flatten.proofs.Standing.{StandsAt, root_segment, placed_type, node_stands}
use Rattle.composition_tables.proofs.Steps.{step_on}

-- joined items are of interfaces that there are
pub items_some : (x y : Option InterfaceKind) (i j : ℕ) → ItemsJoin x y i j → ((k : InterfaceKind) × (x ≡ Some k)) × ((k : InterfaceKind) × (y ≡ Some k))
items_some None y i j h = absurd h
items_some (Some (SenderReceiver xs)) None i j h = absurd h
items_some (Some (ClientServer xs)) None i j h = absurd h
items_some (Some (ModeSwitch m)) None i j h = absurd h
items_some (Some k) (Some l) i j h = ((k, refl), (l, refl))

pub provided_some : (o : Option PortKind) → is_provided o ≡ true → o ≡ Some Provided
provided_some None h = absurd (true≢false (sym h))
provided_some (Some Required) h = absurd (true≢false (sym h))
provided_some (Some Provided) h = refl

pub required_some : (o : Option PortKind) → is_required o ≡ true → o ≡ Some Required
required_some None h = absurd (true≢false (sym h))
required_some (Some Provided) h = absurd (true≢false (sym h))
required_some (Some Required) h = refl

module _ (d : Description) (short : length (places d) ≤ 1024) (shallow : ¬ IsTooDeep d) where
  pub once : (i j : ℕ) (x y : Place) → slice_get (places d) i ≡ Some x → slice_get (places d) j ≡ Some y → x.path ≡ y.path → i ≡ j
  once i j x y = place_once d 8 (Composition d.root) [] i j x y

  -- the interface of an end at its stand
  pub interface_is : (list : List Place) (within : length list ≤ 1024) (x : PortEnd) (s : Stand) → IsEndAt d list within x s → interface_below d s ≡ interface_at d x.interface
  interface_is list within x s at = ap (option_and_then (λ t. option_and_then (interface_at d) (interface_of d t s.port))) at.stands ∙ ap (option_and_then (interface_at d)) at.interface

  -- what an end of an instance says of its stand
  pub record InstanceAt (number port : ℕ) (s : Stand) : Type 0 where
    pub component : ℕ
    pub place : slice_get (places d) number ≡ Some (record { path = s.path; component = component })
    pub same_port : port ≡ s.port
    pub stands : type_at d (Composition d.root) s.path ≡ Some (Component component)

  pub instance_at : (number port : ℕ) (s : Stand) → stand_in d (Some number) port ≡ Some s → InstanceAt number port s
  instance_at number port s h = by (slice_get (places d) number) refl
    where
      by : (o : Option Place) → slice_get (places d) number ≡ o → InstanceAt number port s
      by None none = let no : None ≡ Some s = sym (ap (option_map (λ (place : Place). record { path = place.path; port = port })) none) ∙ h in cc
      by (Some place) some =
          let is : Some (record { path = place.path; port = port }) ≡ Some s = sym (ap (option_map (λ (place : Place). record { path = place.path; port = port })) some) ∙ h in
          let same : record { path = place.path; port = port } ≡ s = cc in
          record {
            component = place.component;
            place = some ∙ ap (λ p. Some (record { path = p; component = place.component })) (ap (λ (t : Stand). t.path) same);
            same_port = ap (λ (t : Stand). t.port) same;
            stands = ap (type_at d (Composition d.root)) (sym (ap (λ (t : Stand). t.path) same)) ∙ placed_type d number place some;
          }

  module _ (node : Node) (path : List ℕ) (at : StandsAt d node path) where
    local : List Place
    local = places_below d (suc node.depth) node.composition path

    local_short : length local ≤ 1024
    unfolding local
    local_short = let long = placed_size d (suc node.depth) node.composition path in let fits = at.segment.fits in omega arith

    -- the end of one side of an assembly: its stand, and its number in the whole
    record Side (x : PortEnd) (inner : InnerPort) : Type 0 where
      stand : Stand
      below : IsBelow d stand (record { path = inner.prototype ∷ path; port = inner.port })
      number : ℕ
      owner : owner_from node.first x.owner ≡ Instance number
      there : stand_in d (Some number) x.port ≡ Some stand
      interface : interface_below d stand ≡ interface_at d x.interface

    side : (x : PortEnd) (inner : InnerPort) → Among x (inner_ends d node.depth (ends d node.depth) node.composition 0 inner) → Side x inner
    unfolding local
    side x inner h =
        let t = inner_cases d node.depth (ends d node.depth) node.composition 0 inner x h in
        let segment = segment_inner d local 0 node.depth node.composition inner.prototype t.0 path (segment_whole d (suc node.depth) node.composition path) t.1 in
        let exact = number_exact d local local_short 0 (offset d node.depth node.composition inner.prototype) (let fits = segment.fits in omega arith) in
        let r = ends_sound d local local_short node.depth t.0 (0 + offset d node.depth node.composition inner.prototype) inner.port (inner.prototype ∷ path) x
        (step_on d (Composition d.root) (Composition node.composition) t.0 inner.prototype path at.typed t.1) segment (subst (λ k. Among x (ends d node.depth t.0 k inner.port)) exact t.2) in
        let e = r.2 in
        let whole = at.segment.at e.number (record { path = r.0.path; component = e.component }) e.place in
        let within = slice_get_within (places d) (node.first + e.number) (record { path = r.0.path; component = e.component }) whole in
        let number_is : min (node.first + e.number) (2 ^ 32 - 1) ≡ node.first + e.number = omega arith in
        record {
          stand = r.0;
          below = r.1;
          number = node.first + e.number;
          owner = ap (owner_from node.first) e.owner ∙ ap (λ k. Instance k) number_is;
          there = ap (option_map (λ (place : Place). record { path = place.path; port = x.port })) whole ∙ ap (λ p. Some (record { path = r.0.path; port = p })) e.port;
          interface = interface_is local local_short x r.0 e;
        }

    assembly_joined : (c : Connector) (x y : Link) → Among c (connectors_of d node.composition) → IsAssemblyLink d node.depth node.composition c y → x ≡ link_from node.first y → IsJoined d (join_of x)
    assembly_joined (Delegation inner outer) x y among h is = absurd h
    assembly_joined (Assembly p r) x y among h is =
        let a = h.1.0 in
        let b = h.1.2.0 in
        let pair = h.1.2.2 in
        let left = side a p h.1.1 in
        let right = side b r h.1.2.1 in
        let x_is : x ≡ link_from node.first (link_of a b (pair.0, pair.1)) = is ∙ ap (link_from node.first) pair.3 in
        subst (λ z. IsJoined d (join_of z)) (sym x_is) (record {
          provided = left.stand;
          required = right.stand;
          is_provided = ap (λ o. stand_in d (instance_of o) a.port) left.owner ∙ left.there;
          is_required = ap (λ o. stand_in d (instance_of o) b.port) right.owner ∙ right.there;
          stands = inl (record {
            upper = record { path = p.prototype ∷ path; port = p.port };
            other = record { path = r.prototype ∷ path; port = r.port };
            up = left.below;
            across = record {
              composition = node.composition;
              path = path;
              stands = at.typed;
              provider = p.prototype;
              requester = r.prototype;
              inside_provider = refl;
              inside_requester = refl;
              connects = among;
              lets = h.0;
            };
            down = right.below;
          });
          items = subst (λ k. ItemsJoin k (interface_below d right.stand) pair.0 pair.1) (sym left.interface) (subst (λ k. ItemsJoin (interface_at d a.interface) k pair.0 pair.1) (sym right.interface) pair.2);
        })

  node_joined : (node : Node) (x : Link) → IsNode d 8 d.root 0 node → IsNodeLink d node x → IsJoined d (join_of x)
  node_joined node x is_node h =
      let s = node_stands d short 8 d.root 0 [] node refl (root_segment d) refl is_node in
      assembly_joined node s.0 s.1 h.1.0 x h.0 h.1.1 h.1.2 h.2

  -- a port of the root that is not the stand of an instance
  outside_from : (kind : PortKind) (s u : Stand) (component : ℕ) → IsBelow d s u → u.path ≡ [] → type_at d (Composition d.root) s.path ≡ Some (Component component) → kind_of d (Composition d.root) u.port ≡ Some kind → IsOutside d kind u s
  outside_from kind s u component itself at_root stands is_kind = let no : Some (Composition d.root) ≡ Some (Component component) = sym (ap (type_at d (Composition d.root)) at_root) ∙ stands in cc
  outside_from kind s u component (further {next = next} down rest) at_root stands is_kind = record { root = at_root; is_kind = is_kind; next = next; down = down; rest = rest }

  -- the end of an instance below a port of the root
  record Inner (kind : PortKind) (x : PortEnd) (port : ℕ) : Type 0 where
    stand : Stand
    outside : IsOutside d kind (record { path = []; port = port }) stand
    number : ℕ
    owner : x.owner ≡ Instance number
    there : stand_in d (Some number) x.port ≡ Some stand
    interface : interface_below d stand ≡ interface_at d x.interface

  inner_at : (kind : PortKind) (x : PortEnd) (port : ℕ) → kind_of d (Composition d.root) port ≡ Some kind → Among x (ends d 8 (Composition d.root) 0 port) → Inner kind x port
  inner_at kind x port is_kind h =
      let r = ends_sound d (places d) short 8 (Composition d.root) 0 port [] x refl (root_segment d) h in
      let e = r.2 in
      record {
        stand = r.0;
        outside = outside_from kind r.0 (record { path = []; port = port }) e.component r.1 refl e.stands is_kind;
        number = e.number;
        owner = e.owner;
        there = ap (option_map (λ (place : Place). record { path = place.path; port = x.port })) e.place ∙ ap (λ p. Some (record { path = r.0.path; port = p })) e.port;
        interface = interface_is (places d) short x r.0 e;
      }

  -- the end of the environment at a port of the root
  outer_is : (o : Option ℕ) (port : ℕ) (x : PortEnd) → Among x (outer_ends o port) → (interface : ℕ) × (o ≡ Some interface) × (x ≡ record { owner = Environment; port = port; interface = interface })
  outer_is None port x h = absurd h
  outer_is (Some i) port x h = ⊎_elim (λ e. (i, refl, e)) (λ no. absurd no) h

  outer_joined : (kind : Option PortKind) (port : ℕ) (x : Link) → kind_of d (Composition d.root) port ≡ kind
      → outer_link kind d (outer_ends (interface_of d (Composition d.root) port) port) (ends d 8 (Composition d.root) 0 port) x → IsJoined d (join_of x)
  outer_joined None port x is_kind h = absurd h
  outer_joined (Some Required) port x is_kind h =
      let a = outer_is (interface_of d (Composition d.root) port) port h.0 h.1 in
      let b = inner_at Required h.2.0 port is_kind h.2.1 in
      let pair = h.2.2 in
      let outer : Stand = record { path = []; port = port } in
      let interface : interface_below d outer ≡ interface_at d h.0.interface = ap (option_and_then (interface_at d)) a.1 ∙ ap (λ y. interface_at d y.interface) (sym a.2) in
      subst (λ z. IsJoined d (join_of z)) (sym pair.3) (record {
        provided = outer;
        required = b.stand;
        is_provided = ap (λ y. stand_in d (instance_of y.owner) y.port) a.2;
        is_required = ap (λ o. stand_in d (instance_of o) h.2.0.port) b.owner ∙ b.there;
        stands = inr (inl b.outside);
        items = subst (λ k. ItemsJoin k (interface_below d b.stand) pair.0 pair.1) (sym interface) (subst (λ k. ItemsJoin (interface_at d h.0.interface) k pair.0 pair.1) (sym b.interface) pair.2);
      })
  outer_joined (Some Provided) port x is_kind h =
      let a = inner_at Provided h.0 port is_kind h.1 in
      let b = outer_is (interface_of d (Composition d.root) port) port h.2.0 h.2.1 in
      let pair = h.2.2 in
      let outer : Stand = record { path = []; port = port } in
      let interface : interface_below d outer ≡ interface_at d h.2.0.interface = ap (option_and_then (interface_at d)) b.1 ∙ ap (λ y. interface_at d y.interface) (sym b.2) in
      subst (λ z. IsJoined d (join_of z)) (sym pair.3) (record {
        provided = a.stand;
        required = outer;
        is_provided = ap (λ o. stand_in d (instance_of o) h.0.port) a.owner ∙ a.there;
        is_required = ap (λ y. stand_in d (instance_of y.owner) y.port) b.2;
        stands = inr (inr a.outside);
        items = subst (λ k. ItemsJoin k (interface_below d outer) pair.0 pair.1) (sym a.interface) (subst (λ k. ItemsJoin (interface_at d h.0.interface) k pair.0 pair.1) (sym interface) pair.2);
      })

  -- each link is a join
  pub link_joined : (x : Link) → IsLink d x → IsJoined d (join_of x)
  link_joined x (inl n) = node_joined n.0 x n.1 n.2
  link_joined x (inr o) = outer_joined (kind_of d (Composition d.root) o.0) o.0 x refl o.1
