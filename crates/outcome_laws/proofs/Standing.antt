-- Whether two items are joined is decided.
use Rattle.std.proofs.Common.{◌≡◌, ℕ, List, [], ◌∷◌, slice_get, true, Option, Some, None, refl, sym, ap, subst, ◌∙◌}
use Rattle.std.proofs.lemmas.Option.{same_Some}
use Rattle.plan_definitions.specs.Common.{PortKind, Provided, Required, Connector, Assembly, Delegation, Description, PrototypeType, InterfaceKind, SenderReceiver, ClientServer, ModeSwitch}
use Rattle.plan_definitions.specs.Common.{Join, connectors_of, lets_join, IsSameName, ItemsJoin, element_names, operation_names, Assembles, Delegates, IsChain, IsJoined, IsOutside, Stand}
use Rattle.plan_definitions.specs.Common.{StandsJoin, interface_below, stand_in, Among, type_at}
use Rattle.description_types.specs.declared.description.PrototypeType.TheVariants.{Component, Composition}
use Rattle.description_types.specs.Connectors.{kind_of}
use Rattle.outcome_laws.proofs.Deciding.{among_decided, as_well, bool_decided, both, connector_decided, either, list_decided, nat_decided, some_of}
use Rattle.outcome_laws.proofs.Ups.{below_ups, ups, ups_below}

module _ (d : Description) where
  -- ---- connectors between stands

  composition_decided : (o : Option PrototypeType) → Dec ((c : ℕ) × (o ≡ Some (Composition c)))
  composition_decided None = no (λ f. let e : None ≡ Some (Composition f.0) = f.1 in cc)
  composition_decided (Some (Component k)) = no (λ f. let e : Some (Component k) ≡ Some (Composition f.0) = f.1 in cc)
  composition_decided (Some (Composition c)) = yes (c, refl)

  same_composition : (o : Option PrototypeType) (a b : ℕ) → o ≡ Some (Composition a) → o ≡ Some (Composition b) → a ≡ b
  same_composition o a b p q = let e : Some (Composition a) ≡ Some (Composition b) = sym p ∙ q in cc

  -- of the composition that stands at a path, or of none
  in_composition : (o : Option PrototypeType) (P : ℕ → Type 0) → ((c : ℕ) → Dec (P c)) → Dec ((c : ℕ) × (o ≡ Some (Composition c)) × P c)
  in_composition o P each = by (composition_decided o)
    where
      by : Dec ((c : ℕ) × (o ≡ Some (Composition c))) → Dec ((c : ℕ) × (o ≡ Some (Composition c)) × P c)
      by (no none) = no (λ f. none (f.0, f.1))
      by (yes (c, at)) = as_well (λ p. (c, at, p)) (λ f. subst P (same_composition o f.0 c f.1 at) f.2) (each c)

  abbrev Connects : ℕ → Connector → Type 0
  Connects c x = Among x (connectors_of d c) × (lets_join d c x ≡ true)

  connects_decided : (x : Connector) (c : ℕ) → Dec (Connects c x)
  connects_decided x c = both (among_decided connector_decided x (connectors_of d c)) (bool_decided (lets_join d c x))

  delegates_at : (upper : List ℕ) (outer : ℕ) (lower : List ℕ) (port : ℕ) → Dec (Delegates d (record { path = upper; port = outer }) (record { path = lower; port = port }))
  delegates_at upper outer [] port = no (λ g. let e : [] ≡ g.prototype ∷ upper = g.inside in cc)
  delegates_at upper outer (q ∷ path) port = as_well to from
      (both (list_decided path upper) (in_composition (type_at d (Composition d.root) upper) (λ c. Connects c (delegation q)) (connects_decided (delegation q))))
    where
      delegation : ℕ → Connector
      delegation k = Delegation (record { prototype = k; port = port }) outer

      to : (path ≡ upper) × ((c : ℕ) × (type_at d (Composition d.root) upper ≡ Some (Composition c)) × Connects c (delegation q)) → Delegates d (record { path = upper; port = outer }) (record { path = q ∷ path; port = port })
      to (same, (c, at, connects)) = record { composition = c; stands = at; prototype = q; inside = λ i. q ∷ same i; connects = connects.0; lets = connects.1 }

      from : Delegates d (record { path = upper; port = outer }) (record { path = q ∷ path; port = port }) → (path ≡ upper) × ((c : ℕ) × (type_at d (Composition d.root) upper ≡ Some (Composition c)) × Connects c (delegation q))
      from g = let prototype : q ≡ g.prototype = cc g.inside in let inside : path ≡ upper = cc g.inside in
          (inside, (g.composition, g.stands, subst (λ k. Connects g.composition (delegation k)) (sym prototype) (g.connects, g.lets)))

  pub delegates_decided : (upper lower : Stand) → Dec (Delegates d upper lower)
  delegates_decided upper lower = delegates_at upper.path upper.port lower.path lower.port

  assembles_at : (left : List ℕ) (provider : ℕ) (right : List ℕ) (requester : ℕ) → Dec (Assembles d (record { path = left; port = provider }) (record { path = right; port = requester }))
  assembles_at [] provider right requester = no (λ g. let e : [] ≡ g.provider ∷ g.path = g.inside_provider in cc)
  assembles_at (p ∷ path) provider [] requester = no (λ g. let e : [] ≡ g.requester ∷ g.path = g.inside_requester in cc)
  assembles_at (p ∷ path) provider (r ∷ other) requester = as_well to from
      (both (list_decided path other) (in_composition (type_at d (Composition d.root) path) (λ c. Connects c (assembly p r)) (connects_decided (assembly p r))))
    where
      assembly : ℕ → ℕ → Connector
      assembly k l = Assembly (record { prototype = k; port = provider }) (record { prototype = l; port = requester })

      to : (path ≡ other) × ((c : ℕ) × (type_at d (Composition d.root) path ≡ Some (Composition c)) × Connects c (assembly p r)) → Assembles d (record { path = p ∷ path; port = provider }) (record { path = r ∷ other; port = requester })
      to (same, (c, at, connects)) = record {
        composition = c;
        path = path;
        stands = at;
        provider = p;
        requester = r;
        inside_provider = refl;
        inside_requester = λ i. r ∷ sym same i;
        connects = connects.0;
        lets = connects.1;
      }

      from : Assembles d (record { path = p ∷ path; port = provider }) (record { path = r ∷ other; port = requester }) → (path ≡ other) × ((c : ℕ) × (type_at d (Composition d.root) path ≡ Some (Composition c)) × Connects c (assembly p r))
      from g =
          let one : p ≡ g.provider = cc g.inside_provider in
          let first : path ≡ g.path = cc g.inside_provider in
          let two : r ≡ g.requester = cc g.inside_requester in
          let second : other ≡ g.path = cc g.inside_requester in (
            first ∙ sym second,
            (
              g.composition,
              ap (type_at d (Composition d.root)) first ∙ g.stands,
              subst (λ k. Connects g.composition (assembly k r)) (sym one) (subst (λ l. Connects g.composition (assembly g.provider l)) (sym two) (g.connects, g.lets)),
            ),
          )

  assembles_decided : (provided required : Stand) → Dec (Assembles d provided required)
  assembles_decided provided required = assembles_at provided.path provided.port required.path required.port

  -- ---- stands that are joined

  abbrev uppers : Stand → List Stand
  uppers s = ups d s.path s.port

  chain_decided : (provided required : Stand) → Dec (IsChain d provided required)
  chain_decided provided required = as_well to from (some_of (λ upper. (other : Stand) × Among other (uppers required) × Assembles d upper other)
      (λ upper. some_of (λ other. Assembles d upper other) (assembles_decided upper) (uppers required)) (uppers provided))
    where
      to : (upper : Stand) × Among upper (uppers provided) × ((other : Stand) × Among other (uppers required) × Assembles d upper other) → IsChain d provided required
      to (upper, up, (other, down, across)) = record {
        upper = upper;
        other = other;
        up = ups_below d provided.path provided.port upper up;
        across = across;
        down = ups_below d required.path required.port other down;
      }

      from : IsChain d provided required → (upper : Stand) × Among upper (uppers provided) × ((other : Stand) × Among other (uppers required) × Assembles d upper other)
      from c = (c.upper, below_ups d provided c.upper c.up, (c.other, below_ups d required c.other c.down, c.across))

  kind_decided : (o : Option PortKind) (kind : PortKind) → Dec (o ≡ Some kind)
  kind_decided None kind = no (λ e. cc)
  kind_decided (Some Provided) Provided = yes refl
  kind_decided (Some Provided) Required = no (λ e. cc)
  kind_decided (Some Required) Provided = no (λ e. cc)
  kind_decided (Some Required) Required = yes refl

  abbrev Outside : PortKind → Stand → Stand → Type 0
  Outside kind outer inner = ((outer.path ≡ []) × (kind_of d (Composition d.root) outer.port ≡ Some kind)) × ((next : Stand) × Among next (uppers inner) × Delegates d outer next)

  outside_decided : (kind : PortKind) (outer inner : Stand) → Dec (IsOutside d kind outer inner)
  outside_decided kind outer inner = as_well to from
      (both (both (list_decided outer.path []) (kind_decided (kind_of d (Composition d.root) outer.port) kind)) (some_of (λ next. Delegates d outer next) (delegates_decided outer) (uppers inner)))
    where
      to : Outside kind outer inner → IsOutside d kind outer inner
      to ((root, is_kind), (next, rest, down)) = record { root = root; is_kind = is_kind; next = next; down = down; rest = ups_below d inner.path inner.port next rest }

      from : IsOutside d kind outer inner → Outside kind outer inner
      from o = ((o.root, o.is_kind), (o.next, below_ups d inner o.next o.rest, o.down))

  stands_decided : (provided required : Stand) → Dec (StandsJoin d provided required)
  stands_decided provided required = either (chain_decided provided required) (either (outside_decided Required provided required) (outside_decided Provided required provided))

  -- ---- joined items

  name_decided : (xs ys : List (List ℕ)) (i j : ℕ) → Dec (IsSameName xs ys i j)
  name_decided xs ys i j = by (slice_get xs i) (slice_get ys j) refl refl
    where
      by : (o p : Option (List ℕ)) → slice_get xs i ≡ o → slice_get ys j ≡ p → Dec (IsSameName xs ys i j)
      by None p here there = no (λ f. let e : None ≡ Some f.0 = sym here ∙ f.1 in cc)
      by (Some a) None here there = no (λ f. let e : None ≡ Some f.0 = sym there ∙ f.2 in cc)
      by (Some a) (Some b) here there = as_well (λ same. (a, here, there ∙ ap Some (sym same))) (λ f. same_Some a f.0 (sym here ∙ f.1) ∙ sym (same_Some b f.0 (sym there ∙ f.2))) (list_decided a b)

  items_decided : (x y : Option InterfaceKind) (i j : ℕ) → Dec (ItemsJoin x y i j)
  items_decided None y i j = no (λ h. h)
  items_decided (Some (SenderReceiver xs)) None i j = no (λ h. h)
  items_decided (Some (SenderReceiver xs)) (Some (SenderReceiver ys)) i j = name_decided (element_names xs) (element_names ys) i j
  items_decided (Some (SenderReceiver xs)) (Some (ClientServer ys)) i j = no (λ h. h)
  items_decided (Some (SenderReceiver xs)) (Some (ModeSwitch y)) i j = no (λ h. h)
  items_decided (Some (ClientServer xs)) None i j = no (λ h. h)
  items_decided (Some (ClientServer xs)) (Some (SenderReceiver ys)) i j = no (λ h. h)
  items_decided (Some (ClientServer xs)) (Some (ClientServer ys)) i j = name_decided (operation_names xs) (operation_names ys) i j
  items_decided (Some (ClientServer xs)) (Some (ModeSwitch y)) i j = no (λ h. h)
  items_decided (Some (ModeSwitch x)) None i j = no (λ h. h)
  items_decided (Some (ModeSwitch x)) (Some (SenderReceiver ys)) i j = no (λ h. h)
  items_decided (Some (ModeSwitch x)) (Some (ClientServer ys)) i j = no (λ h. h)
  items_decided (Some (ModeSwitch x)) (Some (ModeSwitch y)) i j = both (nat_decided i 0) (nat_decided j 0)

  -- what stands, or nothing
  at_stand : (o : Option Stand) (P : Stand → Type 0) → ((s : Stand) → Dec (P s)) → Dec ((s : Stand) × (o ≡ Some s) × P s)
  at_stand None P each = no (λ f. let e : None ≡ Some f.0 = f.1 in cc)
  at_stand (Some s) P each = as_well (λ p. (s, refl, p)) (λ f. subst P (sym (same_Some s f.0 f.1)) f.2) (each s)

  abbrev Joined : Join → Stand → Stand → Type 0
  Joined j p r = StandsJoin d p r × ItemsJoin (interface_below d p) (interface_below d r) j.provided.element j.required.element

  pub joined_decided : (j : Join) → Dec (IsJoined d j)
  joined_decided j = as_well to from (at_stand (stand_in d j.provided.instance j.provided.port) (λ p. (r : Stand) × (stand_in d j.required.instance j.required.port ≡ Some r) × Joined j p r)
      (λ p. at_stand (stand_in d j.required.instance j.required.port) (Joined j p) (λ r. both (stands_decided p r) (items_decided (interface_below d p) (interface_below d r) j.provided.element j.required.element))))
    where
      to : (p : Stand) × (stand_in d j.provided.instance j.provided.port ≡ Some p) × ((r : Stand) × (stand_in d j.required.instance j.required.port ≡ Some r) × Joined j p r) → IsJoined d j
      to (p, here, (r, there, joined)) = record { provided = p; required = r; is_provided = here; is_required = there; stands = joined.0; items = joined.1 }

      from : IsJoined d j → (p : Stand) × (stand_in d j.provided.instance j.provided.port ≡ Some p) × ((r : Stand) × (stand_in d j.required.instance j.required.port ≡ Some r) × Joined j p r)
      from x = (x.provided, x.is_provided, (x.required, x.is_required, (x.stands, x.items)))
