-- Coherent lists are sound: each is one of its runnable, has elements that the runnable reads, or writes, implicitly, with few words, and
-- no element stands twice in the lists of a runnable.
use Rattle.std.proofs.Common.{◌≡◌, ℕ, zero, suc, ◌+◌, ◌<◌, ◌≤◌, Bool, true, false, cond, not, ◌&&◌, ◌||◌, ◌==◌, nat_eq, nat_le, inl, inr, ⊎_elim, refl, sym, ◌∙◌, ap, subst, arith, List, []}
use Rattle.std.proofs.Common.{◌∷◌, ◌++◌, map, filter, fold, length, get_or, Option, Some, None, option_map, option_and_then}
use Rattle.bus_semantics.specs.Common.{and_from, and_parts, eq-eqb, eqb-true, le-leb, leb-true, ltb-true, or_cases, length-append, length-map, map-append, get_or_from_slice_get, same_Some}
use Rattle.bus_semantics.specs.Common.{slice_get_within, flat_map, list_all, list_any, slice_get, sum_by, option_map_or, AccessKind, elems_of, words_at, words_of_all, Plan, Runnable}
use Rattle.bus_semantics.specs.Common.{every_from, plan_of, positions as bus_positions, accesses_elem, list_kind, list_sound, lists_sound, is_distinct, is_in, same_numbers, same_kind}
use Rattle.runnable_lang.specs.declared.program.AccessKind.TheVariants as kind
use Rattle.plan_definitions.specs.Common.{DataElement, Standard, Access, Component, ItemPair, Port, PortKind, Provided, Required, Description, Flat, Instance, Among, comes_in, comes_once}
use Rattle.plan_definitions.specs.Common.{listed, read_by, words_in, written_by, count, same_operation, elem_seen, elements, member_at, members, element_at, list_numbers, list_of, lists}
use Rattle.plan_definitions.specs.Common.{lists_at, reads, runnable_at as runnable_in, from, positions, counted, counted_at, numbered, runnables_of, port_of, access_sig, provides_at, site}
use Rattle.plan_definitions.specs.Common.{runnable_of, runnables, runnables_of_component, target_of, element_number, elements_of, IsWhole}
use Rattle.description_types.specs.declared.component.Runnable as declared_runnable
use Rattle.bus_laws.specs.Common.{BusPlan, CoherentList, ElemPlan, Mapping}
use Rattle.plan_definitions.specs.declared.item.Item.TheVariants.{Data}
use Rattle.plan_definitions.specs.declared.part.Part.TheVariants.{Runnables}
use Rattle.plan_definitions.specs.declared.site.Site.{Site}
use Rattle.plan_definitions.specs.declared.site.SiteKind.TheVariants as site_kind
use Rattle.plan_definitions.specs.Coherent as coherent
use Rattle.plan_definitions.specs.Coherent.{item_of}
use Rattle.plan_definitions.specs.Listed.{is_required}
use Rattle.plan_definitions.specs.Signatures.{kind_at}
use Rattle.plan_definitions.proofs.Lists.{all_from, at, many_positions, map_get, out_from, place, position_there, same_numbers_refl, unflat, unmapped}
use Rattle.plan_definitions.proofs.Lists as lists_of_items
use Rattle.sound_plans.proofs.Grouping.{same_positions}
use Rattle.sound_plans.proofs.ElemNumbers.{data_elem, data_in, data_site}
use Rattle.sound_plans.proofs.Events.{elements_seen}
use Rattle.sound_plans.proofs.Fits.{finds}
use Rattle.sound_plans.proofs.Items.{ItemAt, item_there}
use Rattle.sound_plans.proofs.Places.{every_if, looked}
use Rattle.sound_plans.proofs.Parts.{RunnableAt, home_component, length-one_each, number_there, runnable_at, runnable_count}
use Rattle.sound_plans.proofs.Rules.{access_kept, list_kept, plan_is, planned}
use Rattle.sound_plans.proofs.Runs.{all_runs, at_numbers, one_run, same_lists}
use Rattle.sound_plans.proofs.SiteNumbers.{ports_at_home}

-- ---- items that come

abbrev Key : Type 0
Key = ℕ × ℕ

same_item : (a b : Key) → same_operation a b ≡ true → a ≡ b
same_item a b h = let p = and_parts (nat_eq a.0 b.0) (nat_eq a.1 b.1) h in λ j. (eqb-true a.0 b.0 p.0 j, eqb-true a.1 b.1 p.1 j)

itself : (a : Key) → same_operation a a ≡ true
itself a = and_from (nat_eq a.0 a.0) (nat_eq a.1 a.1) (eq-eqb a.0 a.0 refl) (eq-eqb a.1 a.1 refl)

counts_one : (a : Key) (xs : List Key) → 0 < count (same_operation a) xs → Among a xs
counts_one a [] some = absurd (omega (arith, some))
counts_one a (x ∷ xs) some = by (same_operation a x) refl some (counts_one a xs)
  where
    by : (b : Bool) → same_operation a x ≡ b → 0 < cond b (suc (count (same_operation a) xs)) (count (same_operation a) xs) → (0 < count (same_operation a) xs → Among a xs) → Among a (x ∷ xs)
    by true is h more = inl (same_item a x is)
    by false is h more = inr (more h)

comes : (a : Key) (xs : List Key) → Among a xs → 0 < count (same_operation a) xs
comes a [] h = absurd h
comes a (x ∷ xs) (inl is) = subst (λ b. 0 < cond b (suc (count (same_operation a) xs)) (count (same_operation a) xs)) (sym (ap (same_operation a) (sym is) ∙ itself a)) (omega arith)
comes a (x ∷ xs) (inr h) = by (same_operation a x) (comes a xs h)
  where
    by : (b : Bool) → 0 < count (same_operation a) xs → 0 < cond b (suc (count (same_operation a) xs)) (count (same_operation a) xs)
    by true some = omega arith
    by false some = some

-- what comes once has a number of its own, where different items have different numbers
no_more : (a x : Key) (xs : List Key) → count (same_operation a) xs ≤ count (same_operation a) (x ∷ xs)
no_more a x xs = by (same_operation a x)
  where
    by : (b : Bool) → count (same_operation a) xs ≤ cond b (suc (count (same_operation a) xs)) (count (same_operation a) xs)
    by true = omega arith
    by false = omega arith

module _ (E : Key → ℕ) where
  distinct : (xs : List Key) → ((a : Key) → Among a xs → count (same_operation a) xs ≤ 1) → ((a b : Key) → Among a xs → Among b xs → E a ≡ E b → a ≡ b) → is_distinct (map E xs) ≡ true
  distinct [] once apart = refl
  distinct (x ∷ xs) once apart =
      and_from (not (list_any (λ m. m == E x) (map E xs))) (is_distinct (map E xs))
      (ap not (none (list_any (λ m. m == E x) (map E xs)) refl))
      (distinct xs (λ a h. let few = once a (inr h) in omega (arith, few, no_more a x xs)) (λ a b h g. apart a b (inr h) (inr g)))
    where
      again : (a : Key) → Among a xs → E a ≡ E x → ⊥
      again a h same =
          let is = apart a x (inr h) (inl refl) same in
          let there = comes x xs (subst (λ b. Among b xs) is h) in
          let here : count (same_operation x) (x ∷ xs) ≡ suc (count (same_operation x) xs) = ap (λ b. cond b (suc (count (same_operation x) xs)) (count (same_operation x) xs)) (itself x) in
          let few = once x (inl refl) in
          omega (arith, there, here, few)

      none : (b : Bool) → list_any (λ m. m == E x) (map E xs) ≡ b → b ≡ false
      none false is = refl
      none true is =
          let p = lists_of_items.any_at (λ m. m == E x) (map E xs) is in
          let q = unmapped E xs p.0 p.1 in
          absurd (again q.0 q.1 (sym q.2 ∙ eqb-true p.0 (E x) p.2))

-- ---- implicit accesses

abbrev of_kind : AccessKind → ItemPair → Access
of_kind k y = record { kind = k; port = y.port; item = y.item }

read_is : (a : Access) (y : ItemPair) → Among (item_of y) (read_by a) → a ≡ of_kind kind.IRead y
read_is a y h = by a.kind a.port a.item h
  where
    by : (k : AccessKind) (port item : ℕ) → Among (item_of y) (read_by (record { kind = k; port = port; item = item })) → record { kind = k; port = port; item = item } ≡ of_kind kind.IRead y
    by kind.IRead port item (inl is) = λ j. record { kind = kind.IRead; port = (sym is j).0; item = (sym is j).1 }
    by kind.IRead port item (inr none) = absurd none
    by k port item none = absurd none

written_is : (a : Access) (y : ItemPair) → Among (item_of y) (written_by a) → a ≡ of_kind kind.IWrite y
written_is a y h = by a.kind a.port a.item h
  where
    by : (k : AccessKind) (port item : ℕ) → Among (item_of y) (written_by (record { kind = k; port = port; item = item })) → record { kind = k; port = port; item = item } ≡ of_kind kind.IWrite y
    by kind.IWrite port item (inl is) = λ j. record { kind = kind.IWrite; port = (sym is j).0; item = (sym is j).1 }
    by kind.IWrite port item (inr none) = absurd none
    by k port item none = absurd none

-- an access to the item is one of the runnable's
access_there : (by_access : Access → List Key) (k : AccessKind) (y : ItemPair) → ((a : Access) → Among (item_of y) (by_access a) → a ≡ of_kind k y) → (accesses : List Access) → comes_in (flat_map by_access accesses) y ≡ true
    → (j : ℕ) × (slice_get accesses j ≡ Some (of_kind k y))
access_there by_access k y is accesses h =
    let p = unflat by_access accesses (item_of y) (counts_one (item_of y) (flat_map by_access accesses) (ltb-true 0 (count (same_operation (item_of y)) (flat_map by_access accesses)) h)) in
    let n = place p.0 accesses p.1 in
    (n.0, n.1 ∙ ap (λ a. Some a) (is p.0 p.2))

accessed : (k : AccessKind) (x : ℕ) (sig : Access → Rattle.runnable_lang.specs.declared.program.AccessSig.AccessSig) (target : Access → ℕ) (accesses : List Access) (j : ℕ) (a : Access) → slice_get accesses j ≡ Some a
    → same_kind (sig a).kind k ≡ true → target a ≡ x → accesses_elem k x (map sig accesses) (map target accesses) ≡ true
accessed k x sig target [] j a at same is = absurd cc
accessed k x sig target (b ∷ accesses) zero a at same is =
    let e : b ≡ a = cc in
    Rattle.std.proofs.lemmas.Bool.or_left (same_kind (sig b).kind k && (target b == x)) (accesses_elem k x (map sig accesses) (map target accesses))
    (and_from (same_kind (sig b).kind k) (target b == x) (ap (λ z. same_kind (sig z).kind k) e ∙ same) (eq-eqb (target b) x (ap target e ∙ is)))
accessed k x sig target (b ∷ accesses) (suc j) a at same is =
    Rattle.std.proofs.lemmas.Bool.or_right (same_kind (sig b).kind k && (target b == x)) (accesses_elem k x (map sig accesses) (map target accesses)) (accessed k x sig target accesses j a at same is)

-- ---- sums

module _ (p : Plan) (E : ItemPair → ℕ) (W : ItemPair → ℕ) where
  all_words : (a : ℕ) (ys : List ItemPair) → ((y : ItemPair) → Among y ys → words_at p (E y) ≡ W y) → a + words_of_all p (map E ys) ≡ fold (λ s y. s + W y) a ys
  all_words a [] each = omega arith
  all_words a (y ∷ ys) each = let here = each y (inl refl) in let rest = all_words (a + W y) ys (λ z h. each z (inr h)) in omega (arith, here, rest)

  words_sum : (ys : List ItemPair) → ((y : ItemPair) → Among y ys → words_at p (E y) ≡ W y) → words_of_all p (map E ys) ≡ sum_by W ys
  words_sum ys each = let z : words_of_all p (map E ys) ≡ 0 + words_of_all p (map E ys) = omega arith in z ∙ all_words 0 ys each

-- ---- lists that are as long

as_long : {X Y Z : Type 0} (g : ℕ → X → List Y) (h : ℕ → X → List Z) → ((i : ℕ) (x : X) → length (g i x) ≡ length (h i x)) → (i : ℕ) (xs : List X) → length (from i g xs) ≡ length (from i h xs)
as_long g h each i [] = refl
as_long g h each i (x ∷ xs) = length-append (g i x) (from (i + 1) g xs) ∙ ((λ j. each i x j + as_long g h each (i + 1) xs j) ∙ sym (length-append (h i x) (from (i + 1) h xs)))

-- ---- the lists of a runnable

module _ (d : Description) (f : Flat) (p : BusPlan) (m : Mapping) (w : IsWhole d f p m) (es : List ElemPlan) (seen_as : map elem_seen es ≡ elements d f) where
  abbrev whole : Plan
  whole = planned d f es

  -- each list stands with its runnable
  stands : (n : ℕ) (x : Key) (c : CoherentList) → Among c (lists_at d f n x) → c.runnable ≡ n
  stands n x c h = by (runnable_in d f x) h
    where
      by : (o : Option declared_runnable.Runnable) → Among c (option_map_or (λ (r : declared_runnable.Runnable). map (list_of d f n x.0) r.coherent) o []) → c.runnable ≡ n
      by None none = absurd none
      by (Some r) there = let q = unmapped (list_of d f n x.0) r.coherent c there in ap (λ (z : CoherentList). z.runnable) q.2

  abbrev numbers : List ℕ
  numbers = map (λ (c : CoherentList). c.runnable) (lists d f)

  module _ (q : ℕ) (v : Runnable) (x : RunnableAt d f q v) where
    abbrev r : declared_runnable.Runnable
    r = x.runnable

    abbrev E : ItemPair → ℕ
    E = element_at d f x.i

    pair_there : slice_get (runnables_of d f) q ≡ Some (x.i, x.m)
    pair_there = subst (λ k. slice_get (runnables_of d f) k ≡ Some (x.i, x.m)) x.number (number_there d f runnable_count x.i x.c x.home x.m (slice_get_within x.c.behavior.runnables x.m x.runnable x.there))

    within : q < length (runnables_of d f)
    within = slice_get_within (runnables_of d f) q (x.i, x.m) pair_there

    runnable_is : runnable_in d f (x.i, x.m) ≡ Some r
    runnable_is = ap (option_and_then (λ (c : Component). slice_get c.behavior.runnables x.m)) (home_component d f x.i x.c x.home) ∙ x.there

    here : lists_at d f q (x.i, x.m) ≡ map (list_of d f q x.i) r.coherent
    here = ap (λ o. option_map_or (λ (r : declared_runnable.Runnable). map (list_of d f q x.i) r.coherent) o []) runnable_is

    -- the numbers of its lists
    numbers_there : slice_get (list_numbers d f) q ≡ Some (members numbers q)
    numbers_there = let z : 0 + q ≡ q = omega arith in
        map_get (members numbers) (positions 0 (length (runnables_of d f))) q q (position_there 0 (length (runnables_of d f)) q within ∙ ap (λ k. Some k) z)

    lists_are : v.lists ≡ members numbers q
    lists_are = ap (λ (u : Runnable). u.lists) x.is ∙ (ap (λ k. get_or (list_numbers d f) k []) x.number ∙ get_or_from_slice_get (list_numbers d f) q (members numbers q) [] numbers_there)

    -- a list of its
    pub record ListAt (l : ℕ) : Type 0 where
      pub pairs : List ItemPair
      pub place : ℕ
      pub there : slice_get r.coherent place ≡ Some pairs
      pub is : slice_get (lists d f) l ≡ Some (list_of d f q x.i pairs)

    list_at : (l : ℕ) → Among l (members numbers q) → ListAt l
    list_at l h =
        let n = out_from (member_at q) 0 numbers l h in
        let e = is_member (0 + n.0) n.1 l (nat_eq n.1 q) refl n.3 in
        let same : n.0 ≡ l = omega (arith, e.0) in
        let c = lists_of_items.get_map (λ (c : CoherentList). c.runnable) (lists d f) n.0 n.1 n.2 in
        let o = out_from (lists_at d f) 0 (runnables_of d f) c.0 (at (lists d f) n.0 c.0 c.1) in
        let owner : o.0 ≡ q = let k = stands (0 + o.0) o.1 c.0 o.3 in omega (arith, k, c.2, e.1) in
        let pair : o.1 ≡ (x.i, x.m) = same_Some o.1 (x.i, x.m) (sym o.2 ∙ (ap (slice_get (runnables_of d f)) owner ∙ pair_there)) in
        let z : 0 + o.0 ≡ q = omega (arith, owner) in
        let mine : Among c.0 (map (list_of d f q x.i) r.coherent) = subst (λ cs. Among c.0 cs) ((λ j. lists_at d f (z j) (pair j)) ∙ here) o.3 in
        let a = unmapped (list_of d f q x.i) r.coherent c.0 mine in
        let b = place a.0 r.coherent a.1 in
        record { pairs = a.0; place = b.0; there = b.1; is = ap (slice_get (lists d f)) (sym same) ∙ (c.1 ∙ ap (λ y. Some y) a.2) }
      where
        is_member : (n k l : ℕ) (b : Bool) → nat_eq k q ≡ b → Among l (cond b (n ∷ []) []) → (l ≡ n) × (k ≡ q)
        is_member n k l true is (inl e) = (e, eqb-true k q is)
        is_member n k l true is (inr none) = absurd none
        is_member n k l false is none = absurd none

    -- ---- one pair

    abbrev Site_of : ItemPair → PortKind → Site
    Site_of y side = site (Some x.i) (Some y.port) y.item (site_kind.Element (provides_at (Some x.i) side))

    item_for : (k : AccessKind) (side : PortKind) (y : ItemPair) (j : ℕ) → slice_get r.accesses j ≡ Some (of_kind k y) → Rattle.plan_definitions.specs.Accesses.names_port k ≡ true
        → ((s : PortKind) (i : Rattle.plan_definitions.specs.declared.item.Item.Item) → Rattle.sound_plans.proofs.Fits.Needs k s i → (s ≡ side) × (i ≡ Data Standard)) → ItemAt d.types x.c.ports y.port y.item side (Data Standard)
    item_for k side y j there names needs =
        let z = finds d.types x.c.ports (of_kind k y) (access_kept d f p m w x.home.instance.component x.c x.home.has x.m r j (of_kind k y) x.there there) names in
        let e = needs z.side z.found z.needed in
        item_there d.types x.c.ports y.port y.item side (Data Standard) (z.there ∙ (λ t. Some (e.0 t, e.1 t)))

    module _ (side : PortKind) (y : ItemPair) (item : ItemAt d.types x.c.ports y.port y.item side (Data Standard)) where
      side_is : option_map_or (λ (port : Port). is_required port.kind) (port_of d f (Some x.i) y.port) false ≡ is_required side
      side_is = ap (λ o. option_map_or (λ (port : Port). is_required port.kind) o false) (ap (λ ps. slice_get ps y.port) (ports_at_home d f x.i x.c x.home) ∙ item.there) ∙ ap is_required item.kind

      words_are : words_at whole (E y) ≡ coherent.words_at d.types x.c y
      words_are =
          let e = data_elem d f es seen_as x.i x.c x.home y.port y.item side Standard item in
          let z = data_in d f es seen_as x.i x.c x.home y.port y.item side Standard item in
          let kind_is : kind_at d.types x.c y.port ≡ Some item.interface.kind = ap (λ o. option_map (λ (z : Rattle.description_types.specs.declared.interface.Interface.Interface). z.kind) (option_and_then (λ (q : Port). slice_get d.types.interfaces q.interface) o)) item.there
          ∙ ap (option_map (λ (z : Rattle.description_types.specs.declared.interface.Interface.Interface). z.kind)) item.has in
          looked es (E y) e.elem (λ (u : ElemPlan). u.words) 0 e.there ∙ e.words
          ∙ sym (ap (λ o. option_map_or (λ kind. words_in d.types kind y.item) o 0) kind_is ∙ ap (λ kind. words_in d.types kind y.item) z.is
          ∙ ap (λ o. option_map_or (λ (u : DataElement). coherent.words_of_type d.types u.of_type) o 0) z.there)

      site_is : slice_get (elements_of d f) (E y) ≡ Some (Site_of y side)
      site_is = data_site d f es seen_as x.i x.c x.home y.port y.item side Standard item

    -- a pair of a list of reads, or of writes
    pub record PairAt (k : AccessKind) (side : PortKind) (y : ItemPair) : Type 0 where
      pub item : ItemAt d.types x.c.ports y.port y.item side (Data Standard)
      pub uses : accesses_elem k (E y) v.accesses v.targets ≡ true

    used : (k : AccessKind) (y : ItemPair) (j : ℕ) → slice_get r.accesses j ≡ Some (of_kind k y) → same_kind k k ≡ true → target_of d f x.i x.m (of_kind k y) ≡ E y → accesses_elem k (E y) v.accesses v.targets ≡ true
    used k y j there same is = (λ t. accesses_elem k (E y) (x.is t).accesses (x.is t).targets)
        ∙ accessed k (E y) (access_sig d.types x.c) (target_of d f x.i x.m) r.accesses j (of_kind k y) there same is

    read_pair : (y : ItemPair) → comes_in (flat_map read_by r.accesses) y ≡ true → PairAt kind.IRead Required y
    read_pair y h = let a = access_there read_by kind.IRead y (λ a. read_is a y) r.accesses h in
        record { item = item_for kind.IRead Required y a.0 a.1 refl (λ s i n. n); uses = used kind.IRead y a.0 a.1 refl refl }

    written_pair : (y : ItemPair) → comes_in (flat_map written_by r.accesses) y ≡ true → PairAt kind.IWrite Provided y
    written_pair y h = let a = access_there written_by kind.IWrite y (λ a. written_is a y) r.accesses h in
        record { item = item_for kind.IWrite Provided y a.0 a.1 refl (λ s i n. n); uses = used kind.IWrite y a.0 a.1 refl refl }

    -- ---- one list

    -- all pairs of a list are of one kind
    pub record OneKind (pairs : List ItemPair) : Type 0 where
      pub access : AccessKind
      pub side : PortKind
      pub read : Bool
      pub is_read : is_required side ≡ read
      pub is_access : list_kind read ≡ access
      pub each : (y : ItemPair) → Among y pairs → PairAt access side y

    module _ (pairs : List ItemPair) (k : ℕ) (there : slice_get r.coherent k ≡ Some pairs) where
      fits : coherent.list_fits d.types x.c r pairs ≡ true
      fits = list_kept d f p m w x.home.instance.component x.c x.home.has x.m r k pairs x.there there

      sized : is_in 2 16 (length pairs) ≡ true
      sized = (and_parts (is_in 2 16 (length pairs)) _ fits).0

      once : list_all (comes_once (listed r)) pairs ≡ true
      once = (and_parts (list_all (comes_once (listed r)) pairs) _ (and_parts (is_in 2 16 (length pairs)) _ fits).1).0

      others : ((list_all (comes_in (flat_map read_by r.accesses)) pairs || list_all (comes_in (flat_map written_by r.accesses)) pairs) && nat_le (sum_by (coherent.words_at d.types x.c) pairs) 16) ≡ true
      others = (and_parts (list_all (comes_once (listed r)) pairs) _ (and_parts (is_in 2 16 (length pairs)) _ fits).1).1

      few : nat_le (sum_by (coherent.words_at d.types x.c) pairs) 16 ≡ true
      few = (and_parts (list_all (comes_in (flat_map read_by r.accesses)) pairs || list_all (comes_in (flat_map written_by r.accesses)) pairs) _ others).1

      one_kind : OneKind pairs
      one_kind = ⊎_elim
          (λ (all : list_all (comes_in (flat_map read_by r.accesses)) pairs ≡ true). record {
            access = kind.IRead;
            side = Required;
            read = true;
            is_read = refl;
            is_access = refl;
            each = λ y h. read_pair y (lists_of_items.all_at (comes_in (flat_map read_by r.accesses)) pairs all y h);
          })
          (λ (all : list_all (comes_in (flat_map written_by r.accesses)) pairs ≡ true). record {
            access = kind.IWrite;
            side = Provided;
            read = false;
            is_read = refl;
            is_access = refl;
            each = λ y h. written_pair y (lists_of_items.all_at (comes_in (flat_map written_by r.accesses)) pairs all y h);
          })
          (or_cases (list_all (comes_in (flat_map read_by r.accesses)) pairs) (list_all (comes_in (flat_map written_by r.accesses)) pairs)
          (and_parts (list_all (comes_in (flat_map read_by r.accesses)) pairs || list_all (comes_in (flat_map written_by r.accesses)) pairs) _ others).0)

      -- the first pair says whether it is read
      reads_are : reads d f x.i pairs ≡ one_kind.read
      reads_are = by pairs sized (λ y h. (one_kind.each y h).item)
        where
          by : (ys : List ItemPair) → is_in 2 16 (length ys) ≡ true → ((y : ItemPair) → Among y ys → ItemAt d.types x.c.ports y.port y.item one_kind.side (Data Standard)) → reads d f x.i ys ≡ one_kind.read
          by [] long each = let l = leb-true 2 0 (and_parts (nat_le 2 0) (nat_le 0 16) long).0 in absurd (omega (arith, l))
          by (y ∷ ys) long each = side_is one_kind.side y (each y (inl refl)) ∙ one_kind.is_read

      words_few : words_of_all whole (map E pairs) ≤ 16
      words_few =
          let sum = words_sum whole E (coherent.words_at d.types x.c) pairs (λ y h. words_are one_kind.side y (one_kind.each y h).item) in
          let least = leb-true (sum_by (coherent.words_at d.types x.c) pairs) 16 few in
          omega (arith, sum, least)

      -- the list is sound
      list_good : (l : ℕ) → slice_get (lists d f) l ≡ Some (list_of d f q x.i pairs) → list_sound whole q v l ≡ true
      list_good l is = looked (lists d f) l (list_of d f q x.i pairs)
          (λ (c : CoherentList). (c.runnable == q) && (is_in 2 16 (length c.elems) && (nat_le (words_of_all whole c.elems) 16 && list_all (λ e. accesses_elem (list_kind c.reads) e v.accesses v.targets) c.elems))) false is
          ∙ and_from (q == q) _ (eq-eqb q q refl)
          (and_from (is_in 2 16 (length (map E pairs))) _ (ap (is_in 2 16) (length-map pairs E) ∙ sized)
          (and_from (nat_le (words_of_all whole (map E pairs)) 16) _ (le-leb (words_of_all whole (map E pairs)) 16 words_few)
          (all_from (λ e. accesses_elem (list_kind (reads d f x.i pairs)) e v.accesses v.targets) (map E pairs)
          (λ e h. let y = unmapped E pairs e h in
          (λ j. accesses_elem ((ap list_kind reads_are ∙ one_kind.is_access) j) (y.2 j) v.accesses v.targets) ∙ (one_kind.each y.0 y.1).uses))))

    -- ---- all lists

    all_good : list_all (list_sound whole q v) v.lists ≡ true
    all_good = ap (list_all (list_sound whole q v)) lists_are ∙ all_from (list_sound whole q v) (members numbers q) (λ l h. let z = list_at l h in list_good z.pairs z.place z.there l z.is)

    -- the elements of all its lists, one after the other
    abbrev N : Key → ℕ
    N z = element_number d f x.i (Some z.0) z.1

    its_elems : flat_map (elems_of whole) v.lists ≡ map N (listed r)
    its_elems =
        let z : 0 + q ≡ q = omega arith in
        ap (flat_map (elems_of whole)) lists_are
        ∙ at_numbers (λ (c : CoherentList). c.runnable) (elems_of whole) (λ (c : CoherentList). c.elems) q 0 (lists d f)
        (λ k c is. let y : 0 + k ≡ k = omega arith in ap (elems_of whole) y ∙ looked (lists d f) k c (λ (c : CoherentList). c.elems) [] is)
        ∙ ap (flat_map (λ (c : CoherentList). c.elems))
        (subst (λ k. filter (λ (c : CoherentList). nat_eq c.runnable k) (lists d f) ≡ lists_at d f k (x.i, x.m)) z (one_run (λ (c : CoherentList). c.runnable) (lists_at d f) stands 0 q (x.i, x.m) (runnables_of d f) pair_there) ∙ here)
        ∙ all_elems r.coherent
      where
        one_elems : (ys : List ItemPair) → map E ys ≡ map N (map item_of ys)
        one_elems [] = refl
        one_elems (y ∷ ys) = ap (λ ns. E y ∷ ns) (one_elems ys)

        all_elems : (ps : List (List ItemPair)) → flat_map (λ (c : CoherentList). c.elems) (map (list_of d f q x.i) ps) ≡ map N (flat_map (λ ys. map item_of ys) ps)
        all_elems [] = refl
        all_elems (ys ∷ ps) = (λ j. one_elems ys j ++ all_elems ps j) ∙ sym (map-append N (map item_of ys) (flat_map (λ zs. map item_of zs) ps))

    -- an item of its lists
    pub record ItemOf (z : Key) : Type 0 where
      pub pair : ItemPair
      pub is : z ≡ item_of pair
      pub once : count (same_operation z) (listed r) ≡ 1
      pub side : PortKind
      pub there : slice_get (elements_of d f) (N z) ≡ Some (site (Some x.i) (Some z.0) z.1 (site_kind.Element (provides_at (Some x.i) side)))

    item_in : (z : Key) → Among z (listed r) → ItemOf z
    item_in z h =
        let a = unflat (λ ys. map item_of ys) r.coherent z h in
        let b = unmapped item_of a.0 z a.2 in
        let k = place a.0 r.coherent a.1 in
        let kinds = one_kind a.0 k.0 k.1 in
        record {
          pair = b.0;
          is = b.2;
          once = ap (λ y. count (same_operation y) (listed r)) b.2 ∙ eqb-true (count (same_operation (item_of b.0)) (listed r)) 1 (lists_of_items.all_at (comes_once (listed r)) a.0 (once a.0 k.0 k.1) b.0 b.1);
          side = kinds.side;
          there = subst (λ y. slice_get (elements_of d f) (N y) ≡ Some (site (Some x.i) (Some y.0) y.1 (site_kind.Element (provides_at (Some x.i) kinds.side)))) (sym b.2) (site_is kinds.side b.0 (kinds.each b.0 b.1).item);
        }

    all_apart : is_distinct (flat_map (elems_of whole) v.lists) ≡ true
    all_apart = ap is_distinct its_elems ∙ distinct N (listed r)
        (λ z h. let o = (item_in z h).once in omega (arith, o))
        (λ a b h g same. let y = item_in a h in let z = item_in b g in
        let sites : site (Some x.i) (Some a.0) a.1 (site_kind.Element (provides_at (Some x.i) y.side)) ≡ site (Some x.i) (Some b.0) b.1 (site_kind.Element (provides_at (Some x.i) z.side)) =
        same_Some (site (Some x.i) (Some a.0) a.1 (site_kind.Element (provides_at (Some x.i) y.side))) (site (Some x.i) (Some b.0) b.1 (site_kind.Element (provides_at (Some x.i) z.side))) (sym y.there ∙ (ap (slice_get (elements_of d f)) same ∙ z.there)) in
        let ports : Some a.0 ≡ Some b.0 = ap (λ (s : Site). s.port) sites in
        λ j. (same_Some a.0 b.0 ports j, (sites j).item))

    pub runnable_good : (list_all (list_sound whole q v) v.lists && is_distinct (flat_map (elems_of whole) v.lists)) ≡ true
    runnable_good = and_from (list_all (list_sound whole q v) v.lists) (is_distinct (flat_map (elems_of whole) v.lists)) all_good all_apart

  -- ---- the lists of all runnables

  pub every_runnable : every_from 0 (λ q (v : Runnable). list_all (list_sound whole q v) v.lists && is_distinct (flat_map (elems_of whole) v.lists)) (runnables d f) ≡ true
  every_runnable = every_if (λ q (v : Runnable). list_all (list_sound whole q v) v.lists && is_distinct (flat_map (elems_of whole) v.lists)) 0 (runnables d f)
      (λ q v at. let z : q ≡ 0 + q = omega arith in subst (λ k. (list_all (list_sound whole k v) v.lists && is_distinct (flat_map (elems_of whole) v.lists)) ≡ true) z (runnable_good q v (runnable_at d f q v at)))

  all_numbers : flat_map (λ (v : Runnable). v.lists) (runnables d f) ≡ bus_positions (length (lists d f))
  all_numbers =
      flat_mapped (runnables d f)
      ∙ (ap (flat_map (λ (ls : List ℕ). ls)) same
      ∙ (flat_members (positions 0 (length (runnables_of d f)))
      ∙ (all_runs (λ (c : CoherentList). c.runnable) (lists_at d f) stands 0 0 (runnables_of d f) ∙ sym (same_positions (length (lists d f))))))
    where
      flat_mapped : (vs : List Runnable) → flat_map (λ (v : Runnable). v.lists) vs ≡ flat_map (λ (ls : List ℕ). ls) (map (λ (v : Runnable). v.lists) vs)
      flat_mapped [] = refl
      flat_mapped (v ∷ vs) = ap (λ ls. v.lists ++ ls) (flat_mapped vs)

      flat_members : (ks : List ℕ) → flat_map (λ (ls : List ℕ). ls) (map (members numbers) ks) ≡ flat_map (members numbers) ks
      flat_members [] = refl
      flat_members (k ∷ ks) = ap (λ ls. members numbers k ++ ls) (flat_members ks)

      many : length (runnables d f) ≡ length (runnables_of d f)
      many = as_long (λ i (y : Instance). option_map_or (runnables_of_component d f i) (slice_get d.components y.component) []) (λ i (y : Instance). numbered i (counted_at Runnables d y)) each 0 f.instances
        where
          each : (i : ℕ) (y : Instance) → length (option_map_or (runnables_of_component d f i) (slice_get d.components y.component) []) ≡ length (numbered i (counted_at Runnables d y))
          each i y = by (slice_get d.components y.component)
            where
              by : (o : Option Component) → length (option_map_or (runnables_of_component d f i) o []) ≡ length (numbered i (option_map_or (counted Runnables) o 0))
              by None = refl
              by (Some c) = length-one_each (runnable_of d f i c) 0 c.behavior.runnables
                  ∙ sym (length-map (positions 0 (length c.behavior.runnables)) (λ (n : ℕ). (i, n)) ∙ many_positions 0 (length c.behavior.runnables))

      same : map (λ (v : Runnable). v.lists) (runnables d f) ≡ list_numbers d f
      same = same_lists (map (λ (v : Runnable). v.lists) (runnables d f)) (list_numbers d f)
          (length-map (runnables d f) (λ (v : Runnable). v.lists) ∙ (many ∙ sym (length-map (positions 0 (length (runnables_of d f))) (members numbers) ∙ many_positions 0 (length (runnables_of d f)))))
          (λ k ls is. let v = lists_of_items.get_map (λ (v : Runnable). v.lists) (runnables d f) k ls is in
          let x = runnable_at d f k v.0 v.1 in
          numbers_there k v.0 x ∙ ap (λ y. Some y) (sym (lists_are k v.0 x) ∙ v.2))

  pub all_lists : lists_sound whole ≡ true
  all_lists = and_from (same_numbers (flat_map (λ (v : Runnable). v.lists) (runnables d f)) (bus_positions (length (lists d f)))) _
      (ap (λ ns. same_numbers ns (bus_positions (length (lists d f)))) all_numbers ∙ same_numbers_refl (bus_positions (length (lists d f))))
      every_runnable

pub coherent_lists : (d : Description) (f : Flat) (p : BusPlan) (m : Mapping) → IsWhole d f p m → lists_sound (plan_of p) ≡ true
coherent_lists d f p m w = ap lists_sound (plan_is d f p w.is_plan) ∙ all_lists d f p m w p.elements (elements_seen d f p m w)
