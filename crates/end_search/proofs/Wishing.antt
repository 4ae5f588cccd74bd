-- Searches for ends, step by step.
use Rattle.std.proofs.Common.{◌≡◌, ℕ, List, Bool, true, false, ◌||◌, nat_eq, Vec, Option, None, ◌⊎◌, inl, inr, ⊎_elim, true≢false, refl, subst, zero, suc, ◌+◌, ◌-◌, ◌^◌, ◌<◌, ◌≤◌, min, []}
use Rattle.std.proofs.Common.{◌∷◌, ◌++◌, length, get_or, map, take, drop, Some, ◌↔◌, sym, ap, ◌∙◌, arith}
use Rattle.std.specs.Global.{Global}
use Rattle.description_types.specs.declared.description.Description.{Description}
use Rattle.composition_tables.specs.declared.tree.PortEnd.{PortEnd}
use Rattle.description_types.specs.Growing.{AnyOf}
use Rattle.description_types.specs.Members.{Among}
use Rattle.std.proofs.lemmas.Bool.{eqb-true, and_parts, or_parts}
use Rattle.std.proofs.lemmas.List.{take_all, take-append-drop, map-append}
use Rattle.std.specs.Cmp.Lexicographic.{pointwise}
use Rattle.std.specs.List.{flat_map}
use Rattle.std.specs.Option.{option_map_or}
use Rattle.description_types.specs.declared.description.InnerPort.{InnerPort}
use Rattle.description_types.specs.declared.description.PrototypeType.{PrototypeType}
use Rattle.description_types.specs.declared.description.PrototypeType.TheVariants.{Component, Composition}
use Rattle.composition_tables.specs.declared.inner.Inner.{Inner}
use Rattle.end_search.specs.declared.seek.Found.{Found}
use Rattle.end_search.specs.declared.seek.Known.{Known}
use Rattle.end_search.specs.declared.seek.Wanted.{Wanted}
use Rattle.end_search.specs.declared.seek.Wanted.TheVariants.{Anything}
use Rattle.description_types.specs.Connectors.{interface_of}
use Rattle.composition_tables.specs.Counts.{IsCounted, count_in}
use Rattle.composition_tables.specs.Ends.{ends, own_end, inner_ends, inner_ports, number_from, offset}
use Rattle.description_types.specs.Paths.{type_in}
use Rattle.composition_tables.specs.Inner.{port_of, AreInner}
use Rattle.end_search.specs.Wishes.{end_from, AreFound, IsBelowPrototype, IsCutBelow, IsWanted, IsEnd, IsInnerEnd, IsKnown, Sought}
use Rattle.composition_tables.proofs.Following.{dead_spot, inner_is}
use Rattle.composition_tables.proofs.Members.{left, at, flat, unflat, map_in, map_out}
use Rattle.composition_tables.proofs.Stepping.{one_more}

-- one of two searches is cut short
pub cut_either : (limit : ℕ) (first second either : Bool) → either ≡ (first || second) → IsCutBelow limit first → IsCutBelow limit second → IsCutBelow limit either
cut_either limit true second either is f s = λ _. f refl
cut_either limit false second either is f s = λ e. s (sym is ∙ e)

pub sought_one : (before after : List PortEnd) (end : PortEnd) (is_cut : Bool) → ((y : PortEnd) → Among y after ↔ (Among y before ⊎ (y ≡ end))) → Sought (λ x. x ≡ end) before after is_cut
sought_one before after end is_cut more = record { sound = λ x h. (more x).0 h; stays = λ x h. (more x).1 (inl h); has = λ _ x h. (more x).1 (inr h) }

pub sought_same : (P Q : PortEnd → Type 0) (before after : List PortEnd) (is_cut : Bool) → ((x : PortEnd) → P x → Q x) → ((x : PortEnd) → Q x → P x) → Sought P before after is_cut → Sought Q before after is_cut
sought_same P Q before after is_cut there back s = record {
  sound = λ x h. ⊎_elim (λ o. inl o) (λ p. inr (there x p)) (s.sound x h);
  stays = s.stays;
  has = λ f x q. s.has f x (back x q);
}

pub sought_none : (P : PortEnd → Type 0) (list : List PortEnd) (is_cut : Bool) → ((x : PortEnd) → P x → ⊥) → Sought P list list is_cut
sought_none P list is_cut none = record { sound = λ x h. inl h; stays = λ x h. h; has = λ _ x p. absurd (none x p) }

sought_then : (P Q : PortEnd → Type 0) (before between after : List PortEnd) (is_cut : Bool) → Sought P before between false → Sought Q between after is_cut → Sought (λ x. P x ⊎ Q x) before after is_cut
sought_then P Q before between after is_cut s t = record {
  sound = λ x a. ⊎_elim (λ b. ⊎_elim (λ o. inl o) (λ p. inr (inl p)) (s.sound x b)) (λ q. inr (inr q)) (t.sound x a);
  stays = λ x a. t.stays x (s.stays x a);
  has = λ f x pq. ⊎_elim (λ p. t.stays x (s.has refl x p)) (λ q. t.has f x q) pq;
}

pub sought_single : {X : Type 0} (Q : X → PortEnd → Type 0) (p : X) (before after : List PortEnd) (is_cut : Bool) → Sought (AnyOf Q (p ∷ [])) before after is_cut → Sought (Q p) before after is_cut
sought_single Q p before after is_cut s = sought_same (AnyOf Q (p ∷ [])) (Q p) before after is_cut
    (λ x a. ⊎_elim (λ e. subst (λ m. Q m x) e a.2) (λ no. absurd no) a.1) (λ x q. (p, inl refl, q)) s

within_all : {X : Type 0} (xs : List X) (i : ℕ) (x : X) → Among x (take i xs) → Among x xs
within_all xs i x h = subst (Among x) (take-append-drop i xs) (left x (take i xs) (drop i xs) h)

module _ {X : Type 0} (Q : X → PortEnd → Type 0) (xs : List X) where
  pub sought_begin : (list : List PortEnd) → Sought (AnyOf Q (take 0 xs)) list list false
  sought_begin list = sought_none (AnyOf Q (take 0 xs)) list false (λ y a. a.1)

  pub sought_more : (i : ℕ) (d : X) (before between after : List PortEnd) (is_cut : Bool) → i < length xs → Sought (AnyOf Q (take i xs)) before between false → Sought (Q (get_or xs i d)) between after is_cut → is_cut ≡ false
      → Sought (AnyOf Q (take (i + 1) xs)) before after false
  sought_more i d before between after is_cut h s one on =
      sought_same (λ y. AnyOf Q (take i xs) y ⊎ Q (get_or xs i d) y) (AnyOf Q (take (i + 1) xs)) before after false
      (λ y s. ⊎_elim (λ a. (a.0, (one_more xs i d a.0 h).1 (inl a.1), a.2)) (λ q. (get_or xs i d, (one_more xs i d (get_or xs i d) h).1 (inr refl), q)) s)
      (λ y a. ⊎_elim (λ l. inl (a.0, l, a.2)) (λ e. inr (subst (λ x. Q x y) e a.2)) ((one_more xs i d a.0 h).0 a.1))
      (sought_then (AnyOf Q (take i xs)) (Q (get_or xs i d)) before between after false s (subst (Sought (Q (get_or xs i d)) between after) on one))

  pub sought_full : (i : ℕ) (d : X) (before between after : List PortEnd) (is_cut : Bool) → i < length xs → Sought (AnyOf Q (take i xs)) before between false → Sought (Q (get_or xs i d)) between after is_cut
      → Sought (AnyOf Q xs) before after true
  sought_full i d before between after is_cut h s one = record {
    sound = λ y a. ⊎_elim (λ b. ⊎_elim (λ o. inl o) (λ p. inr (p.0, within_all xs i p.0 p.1, p.2)) (s.sound y b)) (λ q. inr (get_or xs i d, at xs i d h, q)) (one.sound y a);
    stays = λ y a. one.stays y (s.stays y a);
    has = λ f. absurd (true≢false f);
  }

  pub sought_all : (i : ℕ) (before after : List PortEnd) → length xs ≤ i → Sought (AnyOf Q (take i xs)) before after false → Sought (AnyOf Q xs) before after false
  sought_all i before after past s = subst (λ l. Sought (AnyOf Q l) before after false) (take_all i xs past) s

-- ends below a port are the same wherever it stands, but for the numbers of the instances
own_moved : (o : Option ℕ) (f g port : ℕ) → own_end o (min (f + g) (2 ^ 32 - 1)) port ≡ map (end_from f) (own_end o g port)
own_moved None f g port = refl
own_moved (Some interface) f g port = refl

flat_moved : {X : Type 0} (F G : X → List PortEnd) (f : ℕ) → ((x : X) → F x ≡ map (end_from f) (G x)) → (xs : List X) → flat_map F xs ≡ map (end_from f) (flat_map G xs)
flat_moved F G f same [] = refl
flat_moved F G f same (x ∷ xs) = ap (λ l. l ++ flat_map F xs) (same x) ∙ ap (λ l. map (end_from f) (G x) ++ l) (flat_moved F G f same xs) ∙ sym (map-append (end_from f) (G x) (flat_map G xs))

module _ (d : Description) where
  moved : (n : ℕ) (t : PrototypeType) (f g port : ℕ) → ends d n t (min (f + g) (2 ^ 32 - 1)) port ≡ map (end_from f) (ends d n t g port)
  moved n (Component k) f g port = own_moved (interface_of d (Component k) port) f g port
  moved zero (Composition c) f g port = refl
  moved (suc n) (Composition c) f g port = flat_moved (inner_ends d n (ends d n) c (min (f + g) (2 ^ 32 - 1))) (inner_ends d n (ends d n) c g) f
      (λ inner. by inner (λ t first. moved n t f first inner.port) (type_in d (Composition c) inner.prototype)) (inner_ports d c port)
    where
      number : (o : ℕ) → number_from (min (f + g) (2 ^ 32 - 1)) o ≡ min (f + number_from g o) (2 ^ 32 - 1)
      number o = omega arith

      by : (inner : InnerPort) → ((t : PrototypeType) (first : ℕ) → ends d n t (min (f + first) (2 ^ 32 - 1)) inner.port ≡ map (end_from f) (ends d n t first inner.port))
          → (o : Option PrototypeType) → option_map_or (λ t. ends d n t (number_from (min (f + g) (2 ^ 32 - 1)) (offset d n c inner.prototype)) inner.port) o []
          ≡ map (end_from f) (option_map_or (λ t. ends d n t (number_from g (offset d n c inner.prototype)) inner.port) o [])
      by inner deeper None = refl
      by inner deeper (Some t) = ap (λ m. ends d n t m inner.port) (number (offset d n c inner.prototype)) ∙ deeper t (number_from g (offset d n c inner.prototype))

  module _ (w : Wanted) (n : ℕ) (t : PrototypeType) (first port : ℕ) (short : first < 2 ^ 32) where
    here : ends d n t first port ≡ map (end_from first) (ends d n t 0 port)
    here = let same : first ≡ min (first + 0) (2 ^ 32 - 1) = omega arith in ap (λ m. ends d n t m port) same ∙ moved n t first 0 port

    pub moved_there : (x y : PortEnd) → IsEnd d w n t 0 port y → x ≡ end_from first y → IsEnd d w n t first port x
    moved_there x y h e = (subst (λ z. Among z (ends d n t first port)) (sym e) (subst (Among (end_from first y)) (sym here) (map_in (end_from first) y (ends d n t 0 port) h.0)), subst (λ (z : PortEnd). IsWanted w z.interface) (sym e) h.1)

    pub moved_back : (x : PortEnd) → IsEnd d w n t first port x → (y : PortEnd) × IsEnd d w n t 0 port y × (x ≡ end_from first y)
    moved_back x h = let r = map_out (end_from first) x (ends d n t 0 port) (subst (Among x) here h.0) in (r.0, (r.1, subst (λ (z : PortEnd). IsWanted w z.interface) r.2 h.1), r.2)

  -- all of them, as they stand below some ports
  pub all_moved : (w : Wanted) (n : ℕ) (t : PrototypeType) (first : ℕ) (ports : List ℕ) (near slice before after : List PortEnd) (is_cut is_more : Bool) → first < 2 ^ 32 → slice ≡ near
      → Sought (AnyOf (IsEnd d w n t 0) ports) [] near is_cut → Sought (AnyOf (λ (y : PortEnd) x. x ≡ end_from first y) slice) before after is_more
      → Sought (AnyOf (IsEnd d w n t first) ports) before after (is_more || is_cut)
  all_moved w n t first ports near slice before after is_cut is_more short same s m = record {
    sound = λ x h. ⊎_elim (λ o. inl o) (λ a. ⊎_elim (λ no. absurd no) (λ b. inr (b.0, b.1, moved_there w n t first b.0 short x a.0 b.2 a.2)) (s.sound a.0 (subst (Among a.0) same a.1))) (m.sound x h);
    stays = m.stays;
    has = λ none x a.
        let parts = or_parts is_more is_cut none in
        let r = moved_back w n t first a.0 short x a.2 in
        m.has parts.0 x (r.0, subst (Among r.0) (sym same) (s.has parts.1 r.0 (a.0, a.1, r.1)), r.2);
  }

  module _ (w : Wanted) (n c q start : ℕ) (t : PrototypeType) (typed : type_in d (Composition c) q ≡ Some t) (start_is : start ≡ min (offset d n c q) 1025) where
    inside : (p : ℕ) → ends d n t start p ≡ inner_ends d n (ends d n) c 0 (port_of (q, p))
    inside p = inner_is d n c 0 start start (port_of (q, p)) t typed start_is (omega arith)

    -- what is found below ports of a prototype
    pub sought_inside : (ports : List ℕ) (before after : List PortEnd) (is_cut : Bool) → Sought (AnyOf (IsEnd d w n t start) ports) before after is_cut → Sought (AnyOf (IsInnerEnd d w n c q) ports) before after is_cut
    sought_inside ports before after is_cut s = sought_same (AnyOf (IsEnd d w n t start) ports) (AnyOf (IsInnerEnd d w n c q) ports) before after is_cut
        (λ x a. (a.0, a.1, (subst (Among x) (inside a.0) a.2.0, a.2.1))) (λ x a. (a.0, a.1, (subst (Among x) (sym (inside a.0)) a.2.0, a.2.1))) s

    -- what is found below one port of a prototype
    pub sought_inner : (p : ℕ) (before after : List PortEnd) (is_cut : Bool) → Sought (IsEnd d w n t start p) before after is_cut → Sought (IsInnerEnd d w n c q p) before after is_cut
    sought_inner p before after is_cut s = sought_same (IsEnd d w n t start p) (IsInnerEnd d w n c q p) before after is_cut
        (λ x a. (subst (Among x) (inside p) a.0, a.1)) (λ x a. (subst (Among x) (sym (inside p)) a.0, a.1)) s

  module _ (w : Wanted) (n c q held : ℕ) (typed : type_in d (Composition c) q ≡ Some (Composition held)) (ports : List ℕ) where
    pub sought_dead : (list : List PortEnd) (is_cut : Bool) (levels : List (Vec ℕ Global)) (count : ℕ) → IsCounted d levels → n ≤ 8 → count ≡ count_in levels n held → count ≡ 0 → Sought (AnyOf (IsInnerEnd d w n c q) ports) list list is_cut
    sought_dead list is_cut levels count is within made none = sought_none (AnyOf (IsInnerEnd d w n c q) ports) list is_cut
        (λ x a. dead_spot d levels n held count (number_from 0 (offset d n c q)) a.0 (Composition held) is within made none refl x
        (subst (Among x) (ap (λ o. option_map_or (λ u. ends d n u (number_from 0 (offset d n c q)) a.0) o []) typed) a.2.0))

    pub sought_known : (start : ℕ) (known : Known) (slice before after : List PortEnd) (is_more : Bool) → start ≡ min (offset d n c q) 1025 → known.depth ≡ n → known.composition ≡ held → known.ports.items ≡ ports → slice ≡ known.ends.keys
        → IsKnown d w known → Sought (AnyOf (λ (y : PortEnd) x. x ≡ end_from start y) slice) before after is_more → Sought (AnyOf (IsInnerEnd d w n c q) ports) before after (is_more || known.is_cut)
    sought_known start known slice before after is_more start_is depth composition same_ports same k m =
        let at : Sought (AnyOf (IsEnd d w n (Composition held) 0) ports) [] known.ends.keys known.is_cut =
        subst (λ l. Sought (AnyOf (IsEnd d w n (Composition held) 0) l) [] known.ends.keys known.is_cut) same_ports
        (subst (λ e. Sought (AnyOf (IsEnd d w n (Composition e) 0) known.ports.items) [] known.ends.keys known.is_cut) composition
        (subst (λ m. Sought (AnyOf (IsEnd d w m (Composition known.composition) 0) known.ports.items) [] known.ends.keys known.is_cut) depth k)) in
        sought_inside w n c q start (Composition held) typed start_is ports before after (is_more || known.is_cut)
        (all_moved w n (Composition held) start ports known.ends.keys slice before after known.is_cut is_more (omega arith) same at m)

  pub sought_missing : (w : Wanted) (n c q : ℕ) (ports : List ℕ) (list : List PortEnd) (is_cut : Bool) → type_in d (Composition c) q ≡ None → Sought (AnyOf (IsInnerEnd d w n c q) ports) list list is_cut
  sought_missing w n c q ports list is_cut none = sought_none (AnyOf (IsInnerEnd d w n c q) ports) list is_cut
      (λ x a. subst (Among x) (ap (λ o. option_map_or (λ u. ends d n u (number_from 0 (offset d n c q)) a.0) o []) none) a.2.0)

  -- what is found below ports of a composition, prototype by prototype
  pub sought_below : (w : Wanted) (n depth c : ℕ) (ports slice : List ℕ) (inner : Inner) (before after : List PortEnd) (is_cut : Bool) → suc n ≡ depth → slice ≡ inner.prototypes.keys → AreInner d c ports inner
      → Sought (AnyOf (IsBelowPrototype d w n c inner) slice) before after is_cut → Sought (AnyOf (IsEnd d w depth (Composition c) 0) ports) before after is_cut
  sought_below w n depth c ports slice inner before after is_cut deep same are s = subst (λ m. Sought (AnyOf (IsEnd d w m (Composition c) 0) ports) before after is_cut) deep
      (sought_same (AnyOf (IsBelowPrototype d w n c inner) slice) (AnyOf (IsEnd d w (suc n) (Composition c) 0) ports) before after is_cut
      (λ x a.
      let b = a.2 in
      let o = unflat (inner_ports d c) ports (port_of (a.0, b.0)) ((are.are a.0 b.0).0 b.1) in
      (o.0, o.1, (flat (inner_ends d n (ends d n) c 0) (port_of (a.0, b.0)) (inner_ports d c o.0) x o.2 b.2.0, b.2.1)))
      (λ x a.
      let i = unflat (inner_ends d n (ends d n) c 0) (inner_ports d c a.0) x a.2.0 in
      let p = (are.are i.0.prototype i.0.port).1 (flat (inner_ports d c) a.0 ports i.0 a.1 i.1) in
      (i.0.prototype, subst (Among i.0.prototype) (sym same) (are.listed i.0.prototype i.0.port p), (i.0.port, p, (i.2, a.2.1)))) s)

  -- what is found below a port of a composition, inner port by inner port
  pub sought_ports : (w : Wanted) (n depth c port : ℕ) (slice : List InnerPort) (before after : List PortEnd) (is_cut : Bool) → suc n ≡ depth → slice ≡ inner_ports d c port
      → Sought (AnyOf (λ (inner : InnerPort). IsInnerEnd d w n c inner.prototype inner.port) slice) before after is_cut → Sought (IsEnd d w depth (Composition c) 0 port) before after is_cut
  sought_ports w n depth c port slice before after is_cut deep same s = subst (λ m. Sought (IsEnd d w m (Composition c) 0 port) before after is_cut) deep
      (sought_same (AnyOf (λ (inner : InnerPort). IsInnerEnd d w n c inner.prototype inner.port) slice) (IsEnd d w (suc n) (Composition c) 0 port) before after is_cut
      (λ x a. (flat (inner_ends d n (ends d n) c 0) a.0 (inner_ports d c port) x (subst (Among a.0) same a.1) a.2.0, a.2.1))
      (λ x e. let i = unflat (inner_ends d n (ends d n) c 0) (inner_ports d c port) x e.0 in (i.0, subst (Among i.0) (sym same) i.1, (i.2, e.1))) s)

-- what was found of one port
pub found_of : (w : Wanted) (P : PortEnd → Type 0) (all : List PortEnd) (found : Found) (before : List PortEnd) → before ≡ [] → ((x : PortEnd) → P x → Among x all) → ((x : PortEnd) → Among x all → IsWanted w x.interface → P x)
    → Sought P before found.ends.keys found.is_cut → AreFound w all found
found_of w P all found before none there back s = record {
  sound = λ x h. ⊎_elim (λ o. absurd (subst (Among x) none o)) (λ p. there x p) (s.sound x h);
  whole = λ f x a h. s.has f x (back x a h);
}

-- what was found of a port, moved to where it stands
pub found_moved : (first : ℕ) (near found : Found) (slice before : List PortEnd) (is_more : Bool) → first < 2 ^ 32 → slice ≡ near.ends.keys → before ≡ [] → found.is_cut ≡ (is_more || near.is_cut)
    → Sought (AnyOf (λ (y : PortEnd) x. x ≡ end_from first y) slice) before found.ends.keys is_more
    → (d : Description) (w : Wanted) (n : ℕ) (t : PrototypeType) (port : ℕ) → AreFound w (ends d n t 0 port) near → AreFound w (ends d n t first port) found
found_moved first near found slice before is_more short same none cut m d w n t port are = record {
  sound = λ x h. ⊎_elim (λ o. absurd (subst (Among x) none o)) (λ a. (moved_there d Anything n t first port short x a.0 (are.sound a.0 (subst (Among a.0) same a.1), tt) a.2).0) (m.sound x h);
  whole = λ all x a wanted.
      let parts = or_parts is_more near.is_cut (sym cut ∙ all) in
      let r = moved_back d w n t first port short x (a, wanted) in
      m.has parts.0 x (r.0, subst (Among r.0) (sym same) (are.whole parts.1 r.0 r.1.0 r.1.1), r.2);
}

-- what was found below other ports than before
pub known_anew : (d : Description) (w : Wanted) (depth c : ℕ) (ports : List ℕ) (known : Known) (after : List PortEnd) (is_cut : Bool) → known.depth ≡ depth → known.composition ≡ c → known.ports.items ≡ ports → known.ends.keys ≡ []
    → Sought (AnyOf (IsEnd d w depth (Composition c) 0) ports) known.ends.keys after is_cut → Sought (AnyOf (IsEnd d w known.depth (Composition known.composition) 0) known.ports.items) [] after is_cut
known_anew d w depth c ports known after is_cut same_depth same_c same_ports none s =
    subst (λ n. Sought (AnyOf (IsEnd d w n (Composition known.composition) 0) known.ports.items) [] after is_cut) (sym same_depth)
    (subst (λ q. Sought (AnyOf (IsEnd d w depth (Composition q) 0) known.ports.items) [] after is_cut) (sym same_c)
    (subst (λ l. Sought (AnyOf (IsEnd d w depth (Composition c) 0) l) [] after is_cut) (sym same_ports)
    (subst (λ l. Sought (AnyOf (IsEnd d w depth (Composition c) 0) ports) l after is_cut) none s)))

-- equal lists of numbers
pub same_numbers : (xs ys : List ℕ) → pointwise nat_eq xs ys ≡ true → xs ≡ ys
same_numbers [] [] h = refl
same_numbers [] (y ∷ ys) h = absurd (true≢false (sym h))
same_numbers (x ∷ xs) [] h = absurd (true≢false (sym h))
same_numbers (x ∷ xs) (y ∷ ys) h =
    let p = and_parts (nat_eq x y) (pointwise nat_eq xs ys) h in
    let a = eqb-true x y p.0 in
    let b = same_numbers xs ys p.1 in
    (λ i. a i ∷ b i)
