-- Each join of a description is one of its links.
use Rattle.std.proofs.Common.{◌≡◌, ℕ, suc, ◌+◌, ◌-◌, ◌^◌, ◌<◌, ◌≤◌, min, List, [], ◌∷◌, ◌++◌, length, slice_get, Option, Some, None, option_and_then, inl, inr, ⊎_elim, refl, sym, ap, subst}
use Rattle.std.proofs.Common.{◌∙◌, arith, append_assoc}
use Rattle.std.proofs.lemmas.Bool.{and_parts, cases_lt}
use Rattle.std.proofs.lemmas.List.{length-append}
use Rattle.std.proofs.lemmas.Option.{slice_get_within}
use Rattle.std.specs.Option.{option_map_or}
use Rattle.description_types.specs.declared.component.PortKind.{PortKind}
use Rattle.description_types.specs.declared.component.PortKind.TheVariants.{Provided, Required}
use Rattle.description_types.specs.declared.description.Connector.TheVariants.{Assembly}
use Rattle.description_types.specs.declared.description.Description.{Description}
use Rattle.description_types.specs.declared.description.PrototypeType.TheVariants.{Component, Composition}
use Rattle.description_types.specs.declared.interface.InterfaceKind.{InterfaceKind}
use Rattle.description_types.specs.declared.flat.Join.{Join}
use Rattle.composition_tables.specs.declared.links.Link.{Link}
use Rattle.composition_tables.specs.declared.tree.Owner.TheVariants.{Instance, Environment}
use Rattle.composition_tables.specs.declared.tree.PortEnd.{PortEnd}
use Rattle.description_types.specs.Connectors.{interface_of, kind_in, is_provided, is_required}
use Rattle.composition_tables.specs.Ends.{ends, inner_ends, number_from, offset}
use Rattle.description_types.specs.Places.{Place, places_below, places, IsTooDeep}
use Rattle.description_types.specs.Items.{interface_at, ItemsJoin}
use Rattle.description_types.specs.Joined.{Stand, as_inner, IsBelow, IsOutside, IsChain, stand_in, interface_below, IsJoined}
use Rattle.description_types.specs.Joined.IsBelow.{further}
use Rattle.composition_flatten.specs.Joins.{instance_of, join_of}
use Rattle.end_crossing.specs.PortLinks.{link_of, IsCrossLink}
use Rattle.composition_tables.specs.Owners.{owner_from}
use Rattle.composition_flatten.specs.Links.{link_from, IsOwnLink, IsLink, outer_link}
use Rattle.end_search.specs.Gates.{outer_ends}
use Rattle.description_types.specs.Members.{Among}
use Rattle.description_types.specs.Paths.{type_at}
use Rattle.composition_flatten.proofs.Chains.{IsEndAt, number_exact, ends_complete, below_path, inner_typed}
use Rattle.composition_tables.proofs.Deepest.{through_none}
use Rattle.composition_flatten.proofs.Joining.{items_some, provided_some, required_some, once, InstanceAt, instance_at}
use Rattle.composition_flatten.proofs.Naming.{placed_size}
use Rattle.composition_flatten.proofs.Placing.{Segment, segment_whole, segment_inner, place_once}
use Rattle.composition_flatten.proofs.Standing.{root_segment, node_at, local_place, has_size}
use Rattle.composition_tables.proofs.Steps.{step_on}

module _ (d : Description) (short : length (places d) ≤ 1024) (shallow : ¬ IsTooDeep d) where
  -- the end of the port of an instance, by its number in a list of places
  end_at : (list : List Place) (within : length list ≤ 1024) (number component : ℕ) (s : Stand) (kind : InterfaceKind) → slice_get list number ≡ Some (record { path = s.path; component = component })
      → type_at d (Composition d.root) s.path ≡ Some (Component component) → interface_below d s ≡ Some kind
      → (x : PortEnd) × IsEndAt d list within x s × (x.owner ≡ Instance number) × (x.port ≡ s.port) × (interface_at d x.interface ≡ Some kind)
  end_at list within number component s kind place stands some =
      let here : option_and_then (interface_at d) (interface_of d (Component component) s.port) ≡ Some kind =
      sym (ap (option_and_then (λ t. option_and_then (interface_at d) (interface_of d t s.port))) stands) ∙ some in
      let i = through_none (interface_at d) (interface_of d (Component component) s.port) kind here in (
        record { owner = Instance number; port = s.port; interface = i.0 },
        record { number = number; owner = refl; component = component; place = place; port = refl; interface = i.1; stands = stands },
        refl,
        refl,
        i.2,
      )

  -- one side of an assembly
  module _ (composition : ℕ) (path : List ℕ) (typed : type_at d (Composition d.root) path ≡ Some (Composition composition)) (n : ℕ) (deep : length path + suc n ≡ 8)
      (first : ℕ) (segment : Segment d (places d) first (suc n) (Composition composition) path) where
    local : List Place
    local = places_below d (suc n) composition path

    local_short : length local ≤ 1024
    unfolding local
    local_short = let long = placed_size d (suc n) composition path in let fits = segment.fits in omega arith

    record Side (s : Stand) (number : ℕ) (prototype : ℕ) (port : ℕ) (kind : InterfaceKind) : Type 0 where
      end : PortEnd
      among : Among end (inner_ends d n (ends d n) composition 0 (record { prototype = prototype; port = port }))
      owner : owner_from first end.owner ≡ Instance number
      same_port : end.port ≡ s.port
      interface : interface_at d end.interface ≡ Some kind

    side : (s upper : Stand) (number prototype : ℕ) (k : PortKind) (kind : InterfaceKind) → IsBelow d s upper → upper.path ≡ prototype ∷ path → kind_in d composition (as_inner prototype upper) ≡ Some k
        → InstanceAt d short shallow number s.port s → interface_below d s ≡ Some kind → Side s number prototype upper.port kind
    unfolding local
    side s upper number prototype k kind below inside port_kind instance some =
        let r = below_path d s upper below in
        let s_path : s.path ≡ (r.0 ++ (prototype ∷ [])) ++ path = r.1 ∙ ap (λ l. r.0 ++ l) inside ∙ sym (append_assoc r.0 (prototype ∷ []) path) in
        let stands : type_at d (Composition d.root) ((r.0 ++ (prototype ∷ [])) ++ path) ≡ Some (Component instance.component) = sym (ap (type_at d (Composition d.root)) s_path) ∙ instance.stands in
        let p = local_place d shallow (r.0 ++ (prototype ∷ [])) path composition (suc n) instance.component typed deep stands in
        let place : slice_get local p.0 ≡ Some (record { path = s.path; component = instance.component }) = p.1 ∙ ap (λ l. Some (record { path = l; component = instance.component })) (sym s_path) in
        let e = end_at local local_short p.0 instance.component s kind place instance.stands some in
        let whole = segment.at p.0 (record { path = s.path; component = instance.component }) place in
        let within = slice_get_within (places d) (first + p.0) (record { path = s.path; component = instance.component }) whole in
        let number_is : number ≡ first + p.0 = once d short shallow number (first + p.0) (record { path = s.path; component = instance.component }) (record { path = s.path; component = instance.component }) instance.place whole refl in
        let exact_number : min (first + p.0) (2 ^ 32 - 1) ≡ first + p.0 = omega arith in
        let t = inner_typed d composition (as_inner prototype upper) k port_kind in
        let deeper = segment_inner d local 0 n composition prototype t.0 path (segment_whole d (suc n) composition path) t.1 in
        let exact = number_exact d local local_short 0 (offset d n composition prototype) (let fits = deeper.fits in omega arith) in
        let typed_upper : type_at d (Composition d.root) upper.path ≡ Some t.0 = ap (type_at d (Composition d.root)) inside ∙ step_on d (Composition d.root) (Composition composition) t.0 prototype path typed t.1 in
        let deeper_here : Segment d local (0 + offset d n composition prototype) n t.0 upper.path = subst (λ q. Segment d local (0 + offset d n composition prototype) n t.0 q) (sym inside) deeper in
        let long : length upper.path ≡ suc (length path) = ap length inside in
        let found = ends_complete d local local_short (λ i j x y. place_once d (suc n) (Composition composition) path i j x y) shallow e.0 s e.1 upper below n t.0 (0 + offset d n composition prototype) typed_upper deeper_here (omega arith) in
        let there : inner_ends d n (ends d n) composition 0 (as_inner prototype upper) ≡ ends d n t.0 (0 + offset d n composition prototype) upper.port =
        ap (λ o. option_map_or (λ v. ends d n v (number_from 0 (offset d n composition prototype)) upper.port) o []) t.1 ∙ ap (λ m. ends d n t.0 m upper.port) exact in
        record {
          end = e.0;
          among = subst (Among e.0) (sym there) found;
          owner = ap (owner_from first) e.2 ∙ ap (λ m. Instance m) (exact_number ∙ sym number_is);
          same_port = e.3;
          interface = e.4;
        }

  -- the numbers of the ends of a join
  nowhere : (s : Stand) (rest path : List ℕ) (q : ℕ) → s.path ≡ rest ++ (q ∷ path) → s.path ≡ [] → ⊥
  nowhere s rest path q is none =
      let long : 0 ≡ length rest + suc (length path) = sym (ap length none) ∙ ap length is ∙ length-append rest (q ∷ path) in
      omega arith

  numbered : (o : Option ℕ) (port : ℕ) (s : Stand) → stand_in d o port ≡ Some s → (s.path ≡ [] → ⊥) → (number : ℕ) × (o ≡ Some number)
  numbered None port s h somewhere = let is : Some (record { path = []; port = port }) ≡ Some s = h in let same : record { path = []; port = port } ≡ s = cc in absurd (somewhere (sym (ap (λ (t : Stand). t.path) same)))
  numbered (Some number) port s h somewhere = (number, refl)

  unnumbered : (o : Option ℕ) (port : ℕ) (s : Stand) → stand_in d o port ≡ Some s → s.path ≡ [] → (o ≡ None) × (port ≡ s.port)
  unnumbered None port s h root = let is : Some (record { path = []; port = port }) ≡ Some s = h in let same : record { path = []; port = port } ≡ s = cc in (refl, ap (λ (t : Stand). t.port) same)
  unnumbered (Some number) port s h root =
      let i = instance_at d short shallow number port s h in
      let no : Some (Composition d.root) ≡ Some (Component i.component) = sym (ap (type_at d (Composition d.root)) root) ∙ i.stands in
      cc

  at_own_port : (number port : ℕ) (s : Stand) → InstanceAt d short shallow number port s → InstanceAt d short shallow number s.port s
  at_own_port number port s i = record { component = i.component; place = i.place; same_port = refl; stands = i.stands }

  chain_linked : (j : Join) (h : IsJoined d j) → IsChain d h.provided h.required → (x : Link) × IsLink d x × (join_of x ≡ j)
  chain_linked j h chain =
      let across = chain.across in
      let up_path = below_path d h.provided chain.upper chain.up in
      let down_path = below_path d h.required chain.other chain.down in
      let provided_path : h.provided.path ≡ up_path.0 ++ (across.provider ∷ across.path) = up_path.1 ∙ ap (λ l. up_path.0 ++ l) across.inside_provider in
      let required_path : h.required.path ≡ down_path.0 ++ (across.requester ∷ across.path) = down_path.1 ∙ ap (λ l. down_path.0 ++ l) across.inside_requester in
      let p_number = numbered j.provided.instance j.provided.port h.provided h.is_provided (nowhere h.provided up_path.0 across.path across.provider provided_path) in
      let r_number = numbered j.required.instance j.required.port h.required h.is_required (nowhere h.required down_path.0 across.path across.requester required_path) in
      let p_at = instance_at d short shallow p_number.0 j.provided.port h.provided (sym (ap (λ o. stand_in d o j.provided.port) p_number.1) ∙ h.is_provided) in
      let r_at = instance_at d short shallow r_number.0 j.required.port h.required (sym (ap (λ o. stand_in d o j.required.port) r_number.1) ∙ h.is_required) in
      let few : length h.provided.path ≤ 8 = ⊎_elim (λ (far : 8 < length h.provided.path). absurd (shallow (h.provided.path, p_at.component, p_at.stands, far))) (λ few. few) (cases_lt 8 (length h.provided.path)) in
      let long : length h.provided.path ≡ length up_path.0 + suc (length across.path) = ap length provided_path ∙ length-append up_path.0 (across.provider ∷ across.path) in
      let deep : length across.path + suc (7 - length across.path) ≡ 8 = omega arith in
      let split : h.provided.path ≡ (up_path.0 ++ (across.provider ∷ [])) ++ across.path = provided_path ∙ sym (append_assoc up_path.0 (across.provider ∷ []) across.path) in
      let live = has_size d shallow (up_path.0 ++ (across.provider ∷ [])) across.path across.composition (suc (7 - length across.path)) p_at.component across.stands deep (sym (ap (type_at d (Composition d.root)) split) ∙ p_at.stands) in
      let node = node_at d short across.path across.composition (7 - length across.path) across.stands deep live in
      let kinds = items_some (interface_below d h.provided) (interface_below d h.required) j.provided.element j.required.element h.items in
      let lets = and_parts (is_provided (kind_in d across.composition (as_inner across.provider chain.upper))) (is_required (kind_in d across.composition (as_inner across.requester chain.other))) across.lets in
      let left = side across.composition across.path across.stands (7 - length across.path) deep node.0.first node.4 h.provided chain.upper p_number.0 across.provider Provided kinds.0.0 chain.up across.inside_provider
      (provided_some (kind_in d across.composition (as_inner across.provider chain.upper)) lets.0) (at_own_port p_number.0 j.provided.port h.provided p_at) kinds.0.1 in
      let right = side across.composition across.path across.stands (7 - length across.path) deep node.0.first node.4 h.required chain.other r_number.0 across.requester Required kinds.1.0 chain.down across.inside_requester
      (required_some (kind_in d across.composition (as_inner across.requester chain.other)) lets.1) (at_own_port r_number.0 j.required.port h.required r_at) kinds.1.1 in
      let items : ItemsJoin (interface_at d left.end.interface) (interface_at d right.end.interface) j.provided.element j.required.element =
      subst (λ k. ItemsJoin k (interface_at d right.end.interface) j.provided.element j.required.element) (kinds.0.1 ∙ sym left.interface)
      (subst (λ k. ItemsJoin (interface_below d h.provided) k j.provided.element j.required.element) (kinds.1.1 ∙ sym right.interface) h.items) in
      let own : IsOwnLink d (7 - length across.path) across.composition (link_of left.end right.end (j.provided.element, j.required.element)) = (
        Assembly (as_inner across.provider chain.upper) (as_inner across.requester chain.other),
        across.connects,
        (across.lets, (left.end, left.among, (right.end, right.among, (j.provided.element, j.required.element, items, refl)))),
      ) in
      let own_here : IsOwnLink d node.0.depth node.0.composition (link_of left.end right.end (j.provided.element, j.required.element)) =
      subst (λ m. IsOwnLink d m node.0.composition (link_of left.end right.end (j.provided.element, j.required.element))) (sym node.2)
      (subst (λ c. IsOwnLink d (7 - length across.path) c (link_of left.end right.end (j.provided.element, j.required.element))) (sym node.3) own) in (
        link_from node.0.first (link_of left.end right.end (j.provided.element, j.required.element)),
        inl (node.0, node.1, (link_of left.end right.end (j.provided.element, j.required.element), own_here, refl)),
        (λ i. record {
          provided = record { instance = (ap instance_of left.owner ∙ sym p_number.1) i; port = (left.same_port ∙ sym p_at.same_port) i; element = j.provided.element };
          required = record { instance = (ap instance_of right.owner ∙ sym r_number.1) i; port = (right.same_port ∙ sym r_at.same_port) i; element = j.required.element };
        }),
      )

  -- the end of an instance below a port of the root
  record Inner (s : Stand) (number port : ℕ) (kind : InterfaceKind) : Type 0 where
    end : PortEnd
    among : Among end (ends d 8 (Composition d.root) 0 port)
    owner : end.owner ≡ Instance number
    same_port : end.port ≡ s.port
    interface : interface_at d end.interface ≡ Some kind

  inner : (k : PortKind) (s outer : Stand) (number port : ℕ) (kind : InterfaceKind) → IsOutside d k outer s → InstanceAt d short shallow number port s → interface_below d s ≡ Some kind → Inner s number outer.port kind
  inner k s outer number port kind outside instance some =
      let e = end_at (places d) short number instance.component s kind instance.place instance.stands some in
      let root_here : Segment d (places d) 0 8 (Composition d.root) outer.path = subst (λ p. Segment d (places d) 0 8 (Composition d.root) p) (sym outside.root) (root_segment d) in
      record {
        end = e.0;
        among = ends_complete d (places d) short (once d short shallow) shallow e.0 s e.1 outer (further outside.down outside.rest) 8 (Composition d.root) 0 (ap (type_at d (Composition d.root)) outside.root) root_here (ap (λ p. length p + 8) outside.root);
        owner = e.2;
        same_port = e.3;
        interface = e.4;
      }

  -- the end of the environment at a port of the root
  outer_end : (s : Stand) (kind : InterfaceKind) → s.path ≡ [] → interface_below d s ≡ Some kind
      → (x : PortEnd) × Among x (outer_ends (interface_of d (Composition d.root) s.port) s.port) × (x.owner ≡ Environment) × (x.port ≡ s.port) × (interface_at d x.interface ≡ Some kind)
  outer_end s kind root some =
      let here : option_and_then (interface_at d) (interface_of d (Composition d.root) s.port) ≡ Some kind =
      sym (ap (λ p. option_and_then (λ t. option_and_then (interface_at d) (interface_of d t s.port)) (type_at d (Composition d.root) p)) root) ∙ some in
      let i = through_none (interface_at d) (interface_of d (Composition d.root) s.port) kind here in
      let x : PortEnd = record { owner = Environment; port = s.port; interface = i.0 } in
      (x, subst (λ o. Among x (outer_ends o s.port)) (sym i.1) (inl refl), refl, refl, i.2)

  inside_root : (k : PortKind) (s outer : Stand) → IsOutside d k outer s → s.path ≡ [] → ⊥
  inside_root k s outer outside none =
      let r = below_path d s outside.next outside.rest in
      nowhere s r.0 outer.path outside.down.prototype (r.1 ∙ ap (λ l. r.0 ++ l) outside.down.inside) none

  from_linked : (j : Join) (h : IsJoined d j) → IsOutside d Required h.provided h.required → (x : Link) × IsLink d x × (join_of x ≡ j)
  from_linked j h outside =
      let p_none = unnumbered j.provided.instance j.provided.port h.provided h.is_provided outside.root in
      let r_number = numbered j.required.instance j.required.port h.required h.is_required (inside_root Required h.required h.provided outside) in
      let r_at = instance_at d short shallow r_number.0 j.required.port h.required (sym (ap (λ o. stand_in d o j.required.port) r_number.1) ∙ h.is_required) in
      let kinds = items_some (interface_below d h.provided) (interface_below d h.required) j.provided.element j.required.element h.items in
      let a = outer_end h.provided kinds.0.0 outside.root kinds.0.1 in
      let b = inner Required h.required h.provided r_number.0 j.required.port kinds.1.0 outside r_at kinds.1.1 in
      let items : ItemsJoin (interface_at d a.0.interface) (interface_at d b.end.interface) j.provided.element j.required.element =
      subst (λ k. ItemsJoin k (interface_at d b.end.interface) j.provided.element j.required.element) (kinds.0.1 ∙ sym a.4)
      (subst (λ k. ItemsJoin (interface_below d h.provided) k j.provided.element j.required.element) (kinds.1.1 ∙ sym b.interface) h.items) in
      let x = link_of a.0 b.end (j.provided.element, j.required.element) in
      let crossed : IsCrossLink d (outer_ends (interface_of d (Composition d.root) h.provided.port) h.provided.port) (ends d 8 (Composition d.root) 0 h.provided.port) (link_of a.0 b.end (j.provided.element, j.required.element)) =
      (a.0, a.1, (b.end, b.among, (j.provided.element, j.required.element, items, refl))) in (
        link_of a.0 b.end (j.provided.element, j.required.element),
        inr (h.provided.port, subst (λ k. outer_link k d (outer_ends (interface_of d (Composition d.root) h.provided.port) h.provided.port) (ends d 8 (Composition d.root) 0 h.provided.port) (link_of a.0 b.end (j.provided.element, j.required.element))) (sym outside.is_kind) crossed),
        (λ i. record {
          provided = record { instance = (ap instance_of a.2 ∙ sym p_none.0) i; port = (a.3 ∙ sym p_none.1) i; element = j.provided.element };
          required = record { instance = (ap instance_of b.owner ∙ sym r_number.1) i; port = (b.same_port ∙ sym r_at.same_port) i; element = j.required.element };
        }),
      )

  to_linked : (j : Join) (h : IsJoined d j) → IsOutside d Provided h.required h.provided → (x : Link) × IsLink d x × (join_of x ≡ j)
  to_linked j h outside =
      let r_none = unnumbered j.required.instance j.required.port h.required h.is_required outside.root in
      let p_number = numbered j.provided.instance j.provided.port h.provided h.is_provided (inside_root Provided h.provided h.required outside) in
      let p_at = instance_at d short shallow p_number.0 j.provided.port h.provided (sym (ap (λ o. stand_in d o j.provided.port) p_number.1) ∙ h.is_provided) in
      let kinds = items_some (interface_below d h.provided) (interface_below d h.required) j.provided.element j.required.element h.items in
      let a = inner Provided h.provided h.required p_number.0 j.provided.port kinds.0.0 outside p_at kinds.0.1 in
      let b = outer_end h.required kinds.1.0 outside.root kinds.1.1 in
      let items : ItemsJoin (interface_at d a.end.interface) (interface_at d b.0.interface) j.provided.element j.required.element =
      subst (λ k. ItemsJoin k (interface_at d b.0.interface) j.provided.element j.required.element) (kinds.0.1 ∙ sym a.interface)
      (subst (λ k. ItemsJoin (interface_below d h.provided) k j.provided.element j.required.element) (kinds.1.1 ∙ sym b.4) h.items) in
      let crossed : IsCrossLink d (ends d 8 (Composition d.root) 0 h.required.port) (outer_ends (interface_of d (Composition d.root) h.required.port) h.required.port) (link_of a.end b.0 (j.provided.element, j.required.element)) =
      (a.end, a.among, (b.0, b.1, (j.provided.element, j.required.element, items, refl))) in (
        link_of a.end b.0 (j.provided.element, j.required.element),
        inr (h.required.port, subst (λ k. outer_link k d (outer_ends (interface_of d (Composition d.root) h.required.port) h.required.port) (ends d 8 (Composition d.root) 0 h.required.port) (link_of a.end b.0 (j.provided.element, j.required.element))) (sym outside.is_kind) crossed),
        (λ i. record {
          provided = record { instance = (ap instance_of a.owner ∙ sym p_number.1) i; port = (a.same_port ∙ sym p_at.same_port) i; element = j.provided.element };
          required = record { instance = (ap instance_of b.2 ∙ sym r_none.0) i; port = (b.3 ∙ sym r_none.1) i; element = j.required.element };
        }),
      )

  -- each join is a link
  pub join_linked : (j : Join) → IsJoined d j → (x : Link) × IsLink d x × (join_of x ≡ j)
  join_linked j h = ⊎_elim (λ c. chain_linked j h c) (λ o. ⊎_elim (λ f. from_linked j h f) (λ t. to_linked j h t) o) h.stands
