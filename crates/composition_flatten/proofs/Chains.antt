-- The ends that are found below a port are those that delegations lead to.
use Rattle.std.proofs.Common.{◌≡◌, ℕ, zero, suc, ◌+◌, ◌≤◌, List, [], ◌∷◌, ◌++◌, length, slice_get, Bool, true, false, ◌&&◌, cond, Option, Some, None, inl, ⊎_elim, refl, sym, ap, subst, ◌∙◌}
use Rattle.std.proofs.Common.{arith, nat_eq, true≢false, append_assoc}
use Rattle.std.proofs.lemmas.Bool.{and_parts, and_from, eqb-true, eq-eqb}
use Rattle.std.proofs.lemmas.List.{length-append}
use Rattle.std.specs.Option.{option_map_or}
use Rattle.description_types.specs.declared.component.PortKind.{PortKind}
use Rattle.description_types.specs.declared.component.PortKind.TheVariants.{Provided, Required}
use Rattle.description_types.specs.declared.description.Connector.{Connector}
use Rattle.description_types.specs.declared.description.Connector.TheVariants.{Assembly, Delegation}
use Rattle.description_types.specs.declared.description.Description.{Description}
use Rattle.description_types.specs.declared.description.InnerPort.{InnerPort}
use Rattle.description_types.specs.declared.description.PrototypeType.{PrototypeType}
use Rattle.description_types.specs.declared.description.PrototypeType.TheVariants.{Component, Composition}
use Rattle.composition_tables.specs.declared.tree.Owner.TheVariants.{Instance}
use Rattle.composition_tables.specs.declared.tree.PortEnd.{PortEnd}
use Rattle.description_types.specs.Connectors.{interface_of, kind_of, kind_in, connectors_of, is_one_kind, lets_join}
use Rattle.composition_tables.specs.Ends.{ends, own_end, inner_ends, inner_ports, delegated, number_from, offset}
use Rattle.description_types.specs.Places.{Place, IsTooDeep}
use Rattle.description_types.specs.Joined.{Stand, as_inner, IsBelow}
use Rattle.description_types.specs.Joined.IsBelow.{itself, further}
use Rattle.description_types.specs.Members.{Among}
use Rattle.description_types.specs.Paths.{type_in, type_at}
use Rattle.composition_tables.proofs.Deepest.{through_none}
use Rattle.composition_tables.proofs.Following.{inner_cases}
use Rattle.composition_tables.proofs.Members.{flat, unflat, pick, unpick}
use Rattle.composition_flatten.proofs.Placing.{Segment, segment_inner}
use Rattle.composition_tables.proofs.Steps.{step_on}

-- what a delegation that leads to an inner port is
delegated_is : (d : Description) (c outer : ℕ) (x : Connector) (inner : InnerPort) → delegated d c outer x ≡ Some inner → (x ≡ Delegation inner outer) × (lets_join d c (Delegation inner outer) ≡ true)
delegated_is d c outer (Assembly p r) inner h = cc
delegated_is d c outer (Delegation i o) inner h = by (nat_eq o outer && lets_join d c (Delegation i o)) refl
  where
    by : (b : Bool) → (nat_eq o outer && lets_join d c (Delegation i o)) ≡ b → (Delegation i o ≡ Delegation inner outer) × (lets_join d c (Delegation inner outer) ≡ true)
    by true is =
        let both = and_parts (nat_eq o outer) (lets_join d c (Delegation i o)) is in
        let port = eqb-true o outer both.0 in
        let some : Some i ≡ Some inner = sym (ap (λ b. cond b (Some i) None) is) ∙ h in
        let same : i ≡ inner = cc in
        ((λ k. Delegation (same k) (port k)), subst (λ x. lets_join d c x ≡ true) (λ k. Delegation (same k) (port k)) both.1)
    by false is = let none : None ≡ Some inner = sym (ap (λ b. cond b (Some i) None) is) ∙ h in cc

delegated_from : (d : Description) (c outer : ℕ) (inner : InnerPort) → lets_join d c (Delegation inner outer) ≡ true → delegated d c outer (Delegation inner outer) ≡ Some inner
delegated_from d c outer inner lets = ap (λ b. cond b (Some inner) None) (and_from (nat_eq outer outer) (lets_join d c (Delegation inner outer)) (eq-eqb outer outer refl) lets)

-- the inner port of a delegation that may join is one of a prototype
one_kind_some : (a b : Option PortKind) → is_one_kind a b ≡ true → (k : PortKind) × (b ≡ Some k)
one_kind_some None b h = absurd (true≢false (sym h))
one_kind_some (Some Provided) None h = absurd (true≢false (sym h))
one_kind_some (Some Required) None h = absurd (true≢false (sym h))
one_kind_some (Some k) (Some b) h = (b, refl)

pub inner_typed : (d : Description) (c : ℕ) (inner : InnerPort) (k : PortKind) → kind_in d c inner ≡ Some k → (t : PrototypeType) × (type_in d (Composition c) inner.prototype ≡ Some t) × (kind_of d t inner.port ≡ Some k)
inner_typed d c inner k h = through_none (λ t. kind_of d t inner.port) (type_in d (Composition c) inner.prototype) k h

pub delegation_typed : (d : Description) (c outer : ℕ) (inner : InnerPort) → lets_join d c (Delegation inner outer) ≡ true → (t : PrototypeType) × (type_in d (Composition c) inner.prototype ≡ Some t)
delegation_typed d c outer inner lets =
    let k = one_kind_some (kind_of d (Composition c) outer) (kind_in d c inner) lets in
    let t = inner_typed d c inner k.0 k.1 in
    (t.0, t.1)

module _ (d : Description) where
  -- a stand below another one has a path that goes on from its
  pub below_path : (lower upper : Stand) → IsBelow d lower upper → (rest : List ℕ) × (lower.path ≡ rest ++ upper.path)
  below_path lower upper itself = ([], refl)
  below_path lower upper (further {next = next} down below) =
      let r = below_path lower next below in
      (r.0 ++ (down.prototype ∷ []), r.1 ∙ ap (λ l. r.0 ++ l) down.inside ∙ sym (append_assoc r.0 (down.prototype ∷ []) upper.path))

  module _ (list : List Place) (short : length list ≤ 1024) where
    -- the end is the port of the instance at the stand
    pub record IsEndAt (x : PortEnd) (s : Stand) : Type 0 where
      pub number : ℕ
      pub owner : x.owner ≡ Instance number
      pub component : ℕ
      pub place : slice_get list number ≡ Some (record { path = s.path; component = component })
      pub port : x.port ≡ s.port
      pub interface : interface_of d (Component component) s.port ≡ Some x.interface
      pub stands : type_at d (Composition d.root) s.path ≡ Some (Component component)

    pub number_exact : (first more : ℕ) → first + more ≤ length list → number_from first more ≡ first + more
    number_exact first more fits = omega arith

    segment_first : (n first k : ℕ) (path : List ℕ) → Segment d list first n (Component k) path → slice_get list first ≡ Some (record { path = path; component = k })
    segment_first n first k path s = let e : first + 0 ≡ first = omega arith in subst (λ m. slice_get list m ≡ Some (record { path = path; component = k })) e (s.at 0 (record { path = path; component = k }) refl)

    own_at : (o : Option ℕ) (first port : ℕ) (x : PortEnd) → Among x (own_end o first port) → (interface : ℕ) × (o ≡ Some interface) × (x ≡ record { owner = Instance first; port = port; interface = interface })
    own_at None first port x h = absurd h
    own_at (Some i) first port x h = ⊎_elim (λ e. (i, refl, e)) (λ no. absurd no) h

    pub ends_sound : (n : ℕ) (t : PrototypeType) (first port : ℕ) (path : List ℕ) (x : PortEnd) → type_at d (Composition d.root) path ≡ Some t → Segment d list first n t path → Among x (ends d n t first port)
        → (s : Stand) × IsBelow d s (record { path = path; port = port }) × IsEndAt x s
    ends_sound n (Component k) first port path x typed segment h =
        let o = own_at (interface_of d (Component k) port) first port x h in (
          record { path = path; port = port },
          itself,
          record {
            number = first;
            owner = ap (λ y. y.owner) o.2;
            component = k;
            place = segment_first n first k path segment;
            port = ap (λ y. y.port) o.2;
            interface = o.1 ∙ ap (λ y. Some y.interface) (sym o.2);
            stands = typed;
          },
        )
    ends_sound zero (Composition c) first port path x typed segment h = absurd h
    ends_sound (suc n) (Composition c) first port path x typed segment h =
        let inner = unflat (inner_ends d n (ends d n) c first) (inner_ports d c port) x h in
        let m = unpick (delegated d c port) (connectors_of d c) inner.0 inner.1 in
        let is = delegated_is d c port m.0 inner.0 m.2 in
        let t = inner_cases d n (ends d n) c first inner.0 x inner.2 in
        let deeper = segment_inner d list first n c inner.0.prototype t.0 path segment t.1 in
        let exact : number_from first (offset d n c inner.0.prototype) ≡ first + offset d n c inner.0.prototype = number_exact first (offset d n c inner.0.prototype) (let fits = deeper.fits in omega arith) in
        let r = ends_sound n t.0 (first + offset d n c inner.0.prototype) inner.0.port (inner.0.prototype ∷ path) x (step_on d (Composition d.root) (Composition c) t.0 inner.0.prototype path typed t.1) deeper
        (subst (λ k. Among x (ends d n t.0 k inner.0.port)) exact t.2) in (
          r.0,
          further (record {
            composition = c;
            stands = typed;
            prototype = inner.0.prototype;
            inside = refl;
            connects = subst (λ y. Among y (connectors_of d c)) is.0 m.1;
            lets = is.1;
          }) r.1,
          r.2,
        )

    module _ (once : (i j : ℕ) (x y : Place) → slice_get list i ≡ Some x → slice_get list j ≡ Some y → x.path ≡ y.path → i ≡ j) (shallow : ¬ IsTooDeep d) (x : PortEnd) (s : Stand) (at : IsEndAt x s) where
      end_is : (first k : ℕ) (path : List ℕ) → slice_get list first ≡ Some (record { path = path; component = k }) → path ≡ s.path → at.number ≡ first
      end_is first k path there same = once at.number first (record { path = s.path; component = at.component }) (record { path = path; component = k }) at.place there (sym same)

      pub ends_complete : (u : Stand) → IsBelow d s u → (n : ℕ) (t : PrototypeType) (first : ℕ) → type_at d (Composition d.root) u.path ≡ Some t → Segment d list first n t u.path → length u.path + n ≡ 8 → Among x (ends d n t first u.port)
      ends_complete u itself n (Composition c) first typed segment deep = let no : Some (Composition c) ≡ Some (Component at.component) = sym typed ∙ at.stands in cc
      ends_complete u itself n (Component k) first typed segment deep =
          let both : Some (Component k) ≡ Some (Component at.component) = sym typed ∙ at.stands in
          let same : k ≡ at.component = cc in
          let number = end_is first k s.path (segment_first n first k s.path segment) refl in
          let known : interface_of d (Component k) s.port ≡ Some x.interface = ap (λ c. interface_of d (Component c) s.port) same ∙ at.interface in
          let is : x ≡ record { owner = Instance first; port = s.port; interface = x.interface } = (λ i. record { owner = (at.owner ∙ ap (λ m. Instance m) number) i; port = at.port i; interface = x.interface }) in
          subst (λ o. Among x (own_end o first s.port)) (sym known) (inl is)
      ends_complete u (further {next = next} down below) n (Component k) first typed segment deep = let no : Some (Component k) ≡ Some (Composition down.composition) = sym typed ∙ down.stands in cc
      ends_complete u (further {next = next} down below) zero (Composition c) first typed segment deep =
          let r = below_path s next below in
          let long : length s.path ≡ length r.0 + suc (length u.path) = ap length r.1 ∙ length-append r.0 next.path ∙ ap (λ l. length r.0 + length l) down.inside in
          absurd (shallow (s.path, at.component, at.stands, omega arith))
      ends_complete u (further {next = next} down below) (suc n) (Composition c) first typed segment deep =
          let both : Some (Composition c) ≡ Some (Composition down.composition) = sym typed ∙ down.stands in
          let same : c ≡ down.composition = cc in
          let inner = as_inner down.prototype next in
          let lets : lets_join d c (Delegation inner u.port) ≡ true = subst (λ k. lets_join d k (Delegation inner u.port) ≡ true) (sym same) down.lets in
          let connects : Among (Delegation inner u.port) (connectors_of d c) = subst (λ k. Among (Delegation inner u.port) (connectors_of d k)) (sym same) down.connects in
          let t = delegation_typed d c u.port inner lets in
          let deeper = segment_inner d list first n c down.prototype t.0 u.path segment t.1 in
          let deeper_here : Segment d list (first + offset d n c down.prototype) n t.0 next.path = subst (λ p. Segment d list (first + offset d n c down.prototype) n t.0 p) (sym down.inside) deeper in
          let exact : number_from first (offset d n c down.prototype) ≡ first + offset d n c down.prototype = number_exact first (offset d n c down.prototype) (let fits = deeper.fits in omega arith) in
          let typed_next : type_at d (Composition d.root) next.path ≡ Some t.0 = ap (type_at d (Composition d.root)) down.inside ∙ step_on d (Composition d.root) (Composition c) t.0 down.prototype u.path typed t.1 in
          let long : length next.path ≡ suc (length u.path) = ap length down.inside in
          let found = ends_complete next below n t.0 (first + offset d n c down.prototype) typed_next deeper_here (omega arith) in
          let there : inner_ends d n (ends d n) c first inner ≡ ends d n t.0 (first + offset d n c down.prototype) next.port =
          ap (λ o. option_map_or (λ v. ends d n v (number_from first (offset d n c down.prototype)) next.port) o []) t.1 ∙ ap (λ m. ends d n t.0 m next.port) exact in
          flat (inner_ends d n (ends d n) c first) inner (inner_ports d c u.port) x
          (pick (delegated d c u.port) (Delegation inner u.port) (connectors_of d c) inner connects (delegated_from d c u.port inner lets))
          (subst (Among x) (sym there) found)
