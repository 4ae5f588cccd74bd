-- The joined pairs of items, listed in order, and whether they are too many (rule 10).
use Rattle.std.proofs.Common.{◌≡◌, ℕ, zero, suc, ◌+◌, ◌<◌, ◌≤◌, List, [], ◌∷◌, length, slice_get, Bool, true, false, nat_le, Option, Some, None, option_map, option_and_then, inl, inr, ◌↔◌}
use Rattle.std.proofs.Common.{refl, sym, ap, subst, arith}
use Rattle.bus_semantics.specs.Common.{same_Some, slice_get_within, flat_map, option_map_or}
use Rattle.std.specs.List.Sorted.{IsStrictlySortedBy}
use Rattle.description_types.specs.declared.component.Component as component
use Rattle.plan_definitions.specs.Common.{Port, Description, PrototypeType, Interface, InterfaceKind, SenderReceiver, ClientServer, ModeSwitch, End, Join, IsPastLimit, ItemsJoin}
use Rattle.plan_definitions.specs.Common.{element_names, interface_at, operation_names, IsJoined, Stand, interface_below, stand_in, Among, sum_of, join_order, type_at, Place, places}
use Rattle.description_types.specs.declared.description.Composition as composition
use Rattle.description_types.specs.declared.description.PrototypeType.TheVariants.{Component, Composition}
use Rattle.description_types.specs.Connectors.{interface_of, ports_of}
use Rattle.composition_tables.proofs.Members.{flat, few_apart}
use Rattle.outcome_laws.proofs.Nesting.{below, in_below}
use Rattle.outcome_laws.proofs.Sorting.{is_sorted, join_exact, join_total, sorted, sorted_apart, sorted_members}
use Rattle.outcome_laws.proofs.Standing.{joined_decided}

-- a list of those of another of which it holds
module _ {X : Type 0} (P : X → Type 0) (each : (x : X) → Dec (P x)) where
  keep : (x : X) → Dec (P x) → List X → List X
  keep x (yes p) rest = x ∷ rest
  keep x (no p) rest = rest

  those : List X → List X
  those [] = []
  those (x ∷ xs) = keep x (each x) (those xs)

  keep_sound : (x z : X) (o : Dec (P x)) (rest : List X) → (Among z rest → P z) → Among z (keep x o rest) → P z
  unfolding keep
  keep_sound x z (yes p) rest holds (inl is) = subst P (sym is) p
  keep_sound x z (yes p) rest holds (inr later) = holds later
  keep_sound x z (no p) rest holds h = holds h

  those_sound : (xs : List X) (z : X) → Among z (those xs) → P z
  unfolding those
  those_sound [] z h = absurd h
  those_sound (x ∷ xs) z h = keep_sound x z (each x) (those xs) (those_sound xs z) h

  keep_here : (x z : X) (o : Dec (P x)) (rest : List X) → z ≡ x → P z → Among z (keep x o rest)
  unfolding keep
  keep_here x z (yes p) rest is holds = inl is
  keep_here x z (no p) rest is holds = absurd (p (subst P is holds))

  keep_later : (x z : X) (o : Dec (P x)) (rest : List X) → Among z rest → Among z (keep x o rest)
  unfolding keep
  keep_later x z (yes p) rest h = inr h
  keep_later x z (no p) rest h = h

  those_there : (xs : List X) (z : X) → Among z xs → P z → Among z (those xs)
  unfolding those
  those_there [] z h holds = absurd h
  those_there (x ∷ xs) z (inl is) holds = keep_here x z (each x) (those xs) is holds
  those_there (x ∷ xs) z (inr later) holds = keep_later x z (each x) (those xs) (those_there xs z later holds)

-- an element's number is at most the sum
one_of : {X : Type 0} (f : X → ℕ) (xs : List X) (n : ℕ) (x : X) → slice_get xs n ≡ Some x → f x ≤ sum_of f xs
one_of f [] n x at = absurd cc
one_of f (y ∷ ys) zero x at = let is : y ≡ x = cc in subst (λ w. f w ≤ sum_of f (y ∷ ys)) is (omega arith)
one_of f (y ∷ ys) (suc n) x at = omega (arith, one_of f ys n x at)

module _ (d : Description) where
  -- ---- bounds of ports and items

  abbrev ports : ℕ
  ports = sum_of (λ (c : component.Component). length c.ports) d.components + sum_of (λ (c : composition.Composition). length c.ports) d.compositions

  some_component : (o : Option component.Component) (n : ℕ) → slice_get d.components n ≡ o → length (option_map_or (λ (x : component.Component). x.ports) o []) ≤ ports
  some_component None n at = omega arith
  some_component (Some c) n at = omega (arith, one_of (λ (c : component.Component). length c.ports) d.components n c at)

  some_composition : (o : Option composition.Composition) (n : ℕ) → slice_get d.compositions n ≡ o → length (option_map_or (λ (x : composition.Composition). x.ports) o []) ≤ ports
  some_composition None n at = omega arith
  some_composition (Some c) n at = omega (arith, one_of (λ (c : composition.Composition). length c.ports) d.compositions n c at)

  few_ports : (t : PrototypeType) → length (ports_of d t) ≤ ports
  few_ports (Component n) = some_component (slice_get d.components n) n refl
  few_ports (Composition n) = some_composition (slice_get d.compositions n) n refl

  port_within : (t : PrototypeType) (port n : ℕ) → interface_of d t port ≡ Some n → port < ports
  port_within t port n is = by (slice_get (ports_of d t) port) refl is
    where
      by : (o : Option Port) → slice_get (ports_of d t) port ≡ o → option_map (λ (x : Port). x.interface) o ≡ Some n → port < ports
      by None at h = absurd cc
      by (Some p) at h = omega (arith, slice_get_within (ports_of d t) port p at, few_ports t)

  abbrev item_count : InterfaceKind → ℕ
  item_count (SenderReceiver xs) = length (element_names xs)
  item_count (ClientServer xs) = length (operation_names xs)
  item_count (ModeSwitch x) = 1

  abbrev items : ℕ
  items = sum_of (λ (x : Interface). item_count x.kind) d.types.interfaces

  few_items : (n : ℕ) (k : InterfaceKind) → interface_at d n ≡ Some k → item_count k ≤ items
  few_items n k is = by (slice_get d.types.interfaces n) refl is
    where
      by : (o : Option Interface) → slice_get d.types.interfaces n ≡ o → option_map (λ (x : Interface). x.kind) o ≡ Some k → item_count k ≤ items
      by None at h = absurd cc
      by (Some x) at h = let same : x.kind ≡ k = cc in subst (λ w. item_count w ≤ items) same (one_of (λ (x : Interface). item_count x.kind) d.types.interfaces n x at)

  -- what an interface below a stand tells of its port and of items
  record Bounded (s : Stand) (k : InterfaceKind) : Type 0 where
    port : s.port < ports
    few : item_count k ≤ items

  bounded : (s : Stand) (k : InterfaceKind) → interface_below d s ≡ Some k → Bounded s k
  bounded s k is = by (type_at d (Composition d.root) s.path) is
    where
      on : (t : PrototypeType) (o : Option ℕ) → interface_of d t s.port ≡ o → option_and_then (interface_at d) o ≡ Some k → Bounded s k
      on t None at h = absurd cc
      on t (Some n) at h = record { port = port_within t s.port n at; few = few_items n k h }

      by : (o : Option PrototypeType) → option_and_then (λ t. option_and_then (interface_at d) (interface_of d t s.port)) o ≡ Some k → Bounded s k
      by None h = absurd cc
      by (Some t) h = on t (interface_of d t s.port) refl h

  name_within : (xs : List (List ℕ)) (n : ℕ) (name : List ℕ) → slice_get xs n ≡ Some name → n < length xs
  name_within xs n name at = slice_get_within xs n name at

  -- joined items are items of interfaces
  record Within (x : Option InterfaceKind) (n : ℕ) : Type 0 where
    kind : InterfaceKind
    is : x ≡ Some kind
    within : n < item_count kind

  both_within : (x y : Option InterfaceKind) (i j : ℕ) → ItemsJoin x y i j → Within x i × Within y j
  both_within None y i j h = absurd h
  both_within (Some (SenderReceiver xs)) None i j h = absurd h
  both_within (Some (SenderReceiver xs)) (Some (SenderReceiver ys)) i j h =
      (record { kind = SenderReceiver xs; is = refl; within = name_within (element_names xs) i h.0 h.1 }, record { kind = SenderReceiver ys; is = refl; within = name_within (element_names ys) j h.0 h.2 })
  both_within (Some (SenderReceiver xs)) (Some (ClientServer ys)) i j h = absurd h
  both_within (Some (SenderReceiver xs)) (Some (ModeSwitch y)) i j h = absurd h
  both_within (Some (ClientServer xs)) None i j h = absurd h
  both_within (Some (ClientServer xs)) (Some (SenderReceiver ys)) i j h = absurd h
  both_within (Some (ClientServer xs)) (Some (ClientServer ys)) i j h =
      (record { kind = ClientServer xs; is = refl; within = name_within (operation_names xs) i h.0 h.1 }, record { kind = ClientServer ys; is = refl; within = name_within (operation_names ys) j h.0 h.2 })
  both_within (Some (ClientServer xs)) (Some (ModeSwitch y)) i j h = absurd h
  both_within (Some (ModeSwitch x)) None i j h = absurd h
  both_within (Some (ModeSwitch x)) (Some (SenderReceiver ys)) i j h = absurd h
  both_within (Some (ModeSwitch x)) (Some (ClientServer ys)) i j h = absurd h
  both_within (Some (ModeSwitch x)) (Some (ModeSwitch y)) i j h = let one = h.0 in let two = h.1 in
      (record { kind = ModeSwitch x; is = refl; within = omega (arith, one) }, record { kind = ModeSwitch y; is = refl; within = omega (arith, two) })

  -- ---- all ends

  abbrev owners : List (Option ℕ)
  owners = None ∷ flat_map (λ n. Some n ∷ []) (below (length (places d)))

  abbrev ends_at : Option ℕ → ℕ → List End
  ends_at owner port = flat_map (λ n. record { instance = owner; port = port; element = n } ∷ []) (below items)

  abbrev ends_of : Option ℕ → List End
  ends_of owner = flat_map (ends_at owner) (below ports)

  ends : List End
  ends = flat_map ends_of owners

  owner_there : (owner : Option ℕ) (port : ℕ) (s : Stand) → stand_in d owner port ≡ Some s → Among owner owners
  owner_there None port s is = inl refl
  owner_there (Some n) port s is = inr (flat (λ n. Some n ∷ []) n (below (length (places d))) (Some n) (in_below (length (places d)) n (by (slice_get (places d) n) refl is)) (inl refl))
    where
      by : (o : Option Place) → slice_get (places d) n ≡ o → option_map (λ (place : Place). record { path = place.path; port = port }) o ≡ Some s → n < length (places d)
      by None at h = absurd cc
      by (Some place) at h = slice_get_within (places d) n place at

  port_of : (owner : Option ℕ) (port : ℕ) (s : Stand) → stand_in d owner port ≡ Some s → port ≡ s.port
  port_of None port s is = let same : record { path = []; port = port } ≡ s = same_Some (record { path = []; port = port }) s is in ap (λ (s : Stand). s.port) same
  port_of (Some n) port s is = by (slice_get (places d) n) is
    where
      by : (o : Option Place) → option_map (λ (place : Place). record { path = place.path; port = port }) o ≡ Some s → port ≡ s.port
      by None h = absurd cc
      by (Some place) h = ap (λ (s : Stand). s.port) (same_Some (record { path = place.path; port = port }) s h)

  end_there : (e : End) (s : Stand) → stand_in d e.instance e.port ≡ Some s → Within (interface_below d s) e.element → Among e ends
  unfolding ends
  end_there e s is w =
      let b = bounded s w.kind w.is in
      let port : e.port < ports = subst (λ n. n < ports) (sym (port_of e.instance e.port s is)) b.port in
      let element : e.element < items = omega (arith, w.within, b.few) in
      flat ends_of e.instance owners e (owner_there e.instance e.port s is)
      (flat (ends_at e.instance) e.port (below ports) e (in_below ports e.port port)
      (flat (λ n. record { instance = e.instance; port = e.port; element = n } ∷ []) e.element (below items) e (in_below items e.element element) (inl refl)))

  -- ---- all joins

  abbrev pairs_from : End → List Join
  pairs_from provided = flat_map (λ required. record { provided = provided; required = required } ∷ []) ends

  pairs : List Join
  pairs = flat_map pairs_from ends

  pair_there : (j : Join) → IsJoined d j → Among j pairs
  unfolding pairs
  pair_there j x =
      let w = both_within (interface_below d x.provided) (interface_below d x.required) j.provided.element j.required.element x.items in
      flat pairs_from j.provided ends j (end_there j.provided x.provided x.is_provided w.0)
      (flat (λ required. record { provided = j.provided; required = required } ∷ []) j.required ends j (end_there j.required x.required x.is_required w.1) (inl refl))

  found : List Join
  found = those (IsJoined d) (joined_decided d) pairs

  pub joins : List Join
  joins = sorted join_order join_total join_exact found

  pub joins_in_order : IsStrictlySortedBy join_order joins
  unfolding joins
  joins_in_order = is_sorted join_order join_total join_exact found

  pub joins_are : (j : Join) → Among j joins ↔ IsJoined d j
  unfolding joins found
  joins_are j = (
    (λ h. those_sound (IsJoined d) (joined_decided d) pairs j ((sorted_members join_order join_total join_exact found j).0 h)),
    (λ h. (sorted_members join_order join_total join_exact found j).1 (those_there (IsJoined d) (joined_decided d) pairs j (pair_there j h) h)),
  )

  pub limit_decided : Dec (IsPastLimit (IsJoined d))
  limit_decided = by (nat_le (length joins) 65536) refl
    where
      many : nat_le (length joins) 65536 ≡ false → 65536 < length joins
      many is = grind arith

      few : nat_le (length joins) 65536 ≡ true → length joins ≤ 65536
      few is = grind arith

      by : (b : Bool) → nat_le (length joins) 65536 ≡ b → Dec (IsPastLimit (IsJoined d))
      by true is = no (λ past. let short = few_apart past.0 joins past.1 (λ j h. (joins_are j).1 (past.2 j h)) in absurd (omega (arith, few is, short, past.3)))
      by false is = yes (joins, sorted_apart join_order join_total join_exact joins joins_in_order, (λ j h. (joins_are j).0 h), many is)
