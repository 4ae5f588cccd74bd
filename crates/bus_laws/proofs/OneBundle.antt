-- The elements of a coherent list of a sound plan are elements of the plan, and all of one bundle.
use Rattle.std.proofs.Common.{◌≡◌, ◌⊎◌, ◌<◌, ◌≤◌, ℕ, zero, suc, Bool, true, false, ◌&&◌, ◌||◌, not, ◌==◌, if◌then◌else◌, refl, sym, ◌∙◌, ap, subst, arith, inl, inr, List, [], ◌∷◌, ◌++◌, map}
use Rattle.std.proofs.Common.{length, get_or, Option, Some, None, is_some}
use native.Mathlib.Nat.{min-le_left, min-le_right, min-eq_left, min-eq_right}
use Rattle.std.specs.Prelude.{flat_map, option_and_then, option_map, option_to_list, min, nat_le}
use Rattle.bus_semantics.specs.Common.{list_all, list_any, slice_get, option_map_or, and_parts, or_left, or_right, false≢true, eqb-true, eq-eqb, cases_lt, same_Some, slice_get_within}
use Rattle.bus_semantics.specs.Common.{slice_get-get_or, slice_get-map, length-map, same_number, AccessKind, AccessSig, Plan, Runnable, look, every_from, positions, group_of, same_kind}
use Rattle.bus_semantics.specs.Common.{elems_of, words_of_all, home_of, bundle_of, bundle_of_list, least, together, leaders_on, elem_fits, is_unqueued, is_in, is_distinct, same_numbers}
use Rattle.bus_semantics.specs.Common.{access_sound, each_access, runnable_sound, accesses_elem, list_kind, list_sound, groups_listed, bundles_fit, IsSound}
use Rattle.runnable_lang.specs.declared.program.AccessKind.TheVariants as kind
use Rattle.bus_laws.specs.Common.{CoherentList, ElemPlan, Mapping}
use Rattle.bus_semantics.specs.SoundAccesses.{takes_words}
use Rattle.bus_laws.proofs.Thinning.{same_test, every_at, found_where}
use Rattle.bus_laws.proofs.Bundling.{some_of, same_lists, position_at, positions_counted, group_below, leaders, homes_counted, there_home, home_there, begun_home, home_leads}

-- ---- numbers among others

abbrev pub has : List ℕ → ℕ → Bool
has xs x = list_any (λ y. y == x) xs

pub has_at : (xs : List ℕ) (i x : ℕ) → slice_get xs i ≡ Some x → has xs x ≡ true
has_at [] i x at = absurd (cc at)
has_at (y ∷ ys) zero x at = or_left (y == x) (has ys x) (eq-eqb y x (same_Some y x at))
has_at (y ∷ ys) (suc i) x at = or_right (y == x) (has ys x) (has_at ys i x at)

has_map : (f : ℕ → ℕ) (x : ℕ) (xs : List ℕ) → has xs x ≡ true → has (map f xs) (f x) ≡ true
has_map f x [] h = absurd (false≢true h)
has_map f x (y ∷ ys) h = by_first (y == x) refl h (has_map f x ys)
  where
    by_first : (b : Bool) → (y == x) ≡ b → (b || has ys x) ≡ true → (has ys x ≡ true → has (map f ys) (f x) ≡ true) → has (map f (y ∷ ys)) (f x) ≡ true
    by_first true same h rest = or_left (f y == f x) (has (map f ys) (f x)) (eq-eqb (f y) (f x) (ap f (eqb-true y x same)))
    by_first false other h rest = or_right (f y == f x) (has (map f ys) (f x)) (rest h)

-- what holds of all of them
pub all_has : (f : ℕ → Bool) (x : ℕ) (xs : List ℕ) → list_all f xs ≡ true → has xs x ≡ true → f x ≡ true
all_has f x [] all h = absurd (false≢true h)
all_has f x (y ∷ ys) all h = let parts = and_parts (f y) (list_all f ys) all in by_first (y == x) refl parts.0 h (all_has f x ys parts.1)
  where
    by_first : (b : Bool) → (y == x) ≡ b → f y ≡ true → (b || has ys x) ≡ true → (has ys x ≡ true → f x ≡ true) → f x ≡ true
    by_first true same here h rest = subst (λ z. f z ≡ true) (eqb-true y x same) here
    by_first false other here h rest = rest h

pub has_append : (x : ℕ) (xs ys : List ℕ) → has ys x ≡ true → has (xs ++ ys) x ≡ true
has_append x [] ys h = h
has_append x (z ∷ zs) ys h = or_right (z == x) (has (zs ++ ys) x) (has_append x zs ys h)

-- the group of an element is among those of the elements
pub has_group : (p : Plan) (x g : ℕ) (xs : List ℕ) → has xs x ≡ true → group_of p x ≡ Some g → has (flat_map (λ y. option_to_list (group_of p y)) xs) g ≡ true
has_group p x g [] h is = absurd (false≢true h)
has_group p x g (y ∷ ys) h is = by_first (y == x) refl h (λ later. has_group p x g ys later is)
  where
    others : List ℕ
    others = flat_map (λ z. option_to_list (group_of p z)) ys

    by_first : (b : Bool) → (y == x) ≡ b → (b || has ys x) ≡ true → (has ys x ≡ true → has others g ≡ true) → has (option_to_list (group_of p y) ++ others) g ≡ true
    by_first true same h rest =
        let own : group_of p y ≡ Some g = subst (λ z. group_of p z ≡ Some g) (sym (eqb-true y x same)) is in
        subst (λ (o : Option ℕ). has (option_to_list o ++ others) g ≡ true) (sym own) (or_left (g == g) (has others g) (same_test g))
    by_first false other h rest = has_append g (option_to_list (group_of p y)) others (rest h)

-- ---- the least of numbers

least_each : (n m : ℕ) (ms : List ℕ) → has ms m ≡ true → least n ms ≤ m
least_each n m [] h = absurd (false≢true h)
least_each n m (k ∷ ks) h = by_first (k == m) refl h (least_each n m ks)
  where
    by_first : (b : Bool) → (k == m) ≡ b → (b || has ks m) ≡ true → (has ks m ≡ true → least n ks ≤ m) → min k (least n ks) ≤ m
    by_first true same h rest = let equal : k ≡ m = eqb-true k m same in omega (arith, min-le_left k (least n ks), equal)
    by_first false other h rest = omega (arith, min-le_right k (least n ks), rest h)

pub least_is : (n : ℕ) (ms : List ℕ) → (least n ms ≡ n) ⊎ (has ms (least n ms) ≡ true)
least_is n [] = inl refl
least_is n (k ∷ ks) = by_order (cases_lt k (least n ks)) (least_is n ks)
  where
    by_order : (k < least n ks) ⊎ (least n ks ≤ k) → (least n ks ≡ n) ⊎ (has ks (least n ks) ≡ true) → (min k (least n ks) ≡ n) ⊎ (has (k ∷ ks) (min k (least n ks)) ≡ true)
    by_order (inl less) rest = inr (or_left (k == min k (least n ks)) (has ks (min k (least n ks))) (eq-eqb k (min k (least n ks)) (sym (min-eq_left {n = k} {m = least n ks} (omega arith)))))
    by_order (inr past) (inl own) = inl (min-eq_right {n = least n ks} {m = k} past ∙ own)
    by_order (inr past) (inr later) = inr (or_right (k == min k (least n ks)) (has ks (min k (least n ks)))
        (subst (λ z. has ks z ≡ true) (sym (min-eq_right {n = least n ks} {m = k} past)) later))

least_low : (n k : ℕ) (ms : List ℕ) → has ms k ≡ true → least n ms ≤ least k ms
least_low n k ms there = by_least (least_is k ms)
  where
    by_least : (least k ms ≡ k) ⊎ (has ms (least k ms) ≡ true) → least n ms ≤ least k ms
    by_least (inl own) = omega (arith, own, least_each n k ms there)
    by_least (inr later) = least_each n (least k ms) ms later

least_same : (n k : ℕ) (ms : List ℕ) → has ms n ≡ true → has ms k ≡ true → least n ms ≡ least k ms
least_same n k ms one two = omega (arith, least_low n k ms two, least_low k n ms one)

-- ---- labels: a list gives its groups one label, and what comes later keeps them alike

abbrev pub theirs : List ℕ → List ℕ → List ℕ
theirs gs labels = map (λ g. get_or labels g g) gs

abbrev pub relabel : List ℕ → List ℕ → ℕ → ℕ
relabel gs labels l = if list_any (λ t. t == l) (theirs gs labels) then least l (theirs gs labels) else l

label_at : (gs labels : List ℕ) (g : ℕ) → has gs g ≡ true → g < length labels → slice_get (together gs labels) g ≡ Some (least (get_or labels g g) (theirs gs labels))
label_at gs labels g there below =
    let own : has (theirs gs labels) (get_or labels g g) ≡ true = has_map (λ h. get_or labels h h) g gs there in
    slice_get-map (relabel gs labels) labels g
    ∙ ap (option_map (relabel gs labels)) (slice_get-get_or labels g g below)
    ∙ ap (λ b. Some (if b then least (get_or labels g g) (theirs gs labels) else get_or labels g g)) own

together_same : (gs labels : List ℕ) (g h : ℕ) → has gs g ≡ true → has gs h ≡ true → g < length labels → h < length labels → slice_get (together gs labels) g ≡ slice_get (together gs labels) h
together_same gs labels g h one two low high =
    label_at gs labels g one low
    ∙ ap (λ l. Some l) (least_same (get_or labels g g) (get_or labels h h) (theirs gs labels) (has_map (λ k. get_or labels k k) g gs one) (has_map (λ k. get_or labels k k) h gs two))
    ∙ sym (label_at gs labels h two high)

later_same : (lists : List (List ℕ)) (labels : List ℕ) (g h : ℕ) → slice_get labels g ≡ slice_get labels h → slice_get (leaders_on labels lists) g ≡ slice_get (leaders_on labels lists) h
later_same [] labels g h same = same
later_same (gs ∷ lists) labels g h same = later_same lists (together gs labels) g h
    (slice_get-map (relabel gs labels) labels g ∙ ap (option_map (relabel gs labels)) same ∙ sym (slice_get-map (relabel gs labels) labels h))

leaders_same : (lists : List (List ℕ)) (labels : List ℕ) (k : ℕ) (gs : List ℕ) (g h : ℕ) → slice_get lists k ≡ Some gs → has gs g ≡ true → has gs h ≡ true → g < length labels → h < length labels
    → slice_get (leaders_on labels lists) g ≡ slice_get (leaders_on labels lists) h
leaders_same [] labels k gs g h at one two low high = absurd (cc at)
leaders_same (hs ∷ lists) labels zero gs g h at one two low high =
    let same : gs ≡ hs = sym (same_Some hs gs at) in
    later_same lists (together hs labels) g h
    (together_same hs labels g h (subst (λ ks. has ks g ≡ true) same one) (subst (λ ks. has ks h ≡ true) same two) low high)
leaders_same (hs ∷ lists) labels (suc k) gs g h at one two low high =
    let long : length (together hs labels) ≡ length labels = length-map labels (relabel hs labels) in
    leaders_same lists (together hs labels) k gs g h at one two (omega (arith, long)) (omega (arith, long))

pub leaders_counted : (lists : List (List ℕ)) (labels : List ℕ) → length (leaders_on labels lists) ≡ length labels
leaders_counted [] labels = refl
leaders_counted (gs ∷ lists) labels = leaders_counted lists (together gs labels) ∙ length-map labels (relabel gs labels)

-- ---- groups of one list have one bundle

module _ (p : Plan) (fit : bundles_fit p ≡ true) where
  one_home : (l : ℕ) (c : CoherentList) (g h a b : ℕ) → slice_get p.lists l ≡ Some c → has (groups_listed p c) g ≡ true → has (groups_listed p c) h ≡ true → home_of p g ≡ Some a → home_of p h ≡ Some b → a ≡ b
  one_home l c g h a b at one two first second =
      let here = there_home p fit g a first in
      let there = there_home p fit h b second in
      let n = length p.groups in
      let low : g < length (positions n) = omega (arith, slice_get_within p.homes g a here, homes_counted p fit, positions_counted n) in
      let high : h < length (positions n) = omega (arith, slice_get_within p.homes h b there, homes_counted p fit, positions_counted n) in
      let listed = map (groups_listed p) p.lists in
      let same : slice_get (leaders p) g ≡ slice_get (leaders p) h =
      leaders_same listed (positions n) l (groups_listed p c) g h (slice_get-map (groups_listed p) p.lists l ∙ ap (option_map (groups_listed p)) at) one two low high in
      let leader = some_of (leaders p) g (omega (arith, low, leaders_counted listed (positions n))) in
      let begins = home_leads p fit g a leader.0 here leader.1 in
      let other = home_leads p fit h b leader.0 there (sym same ∙ leader.1) in
      same_Some a b (sym (begun_home p fit a leader.0 begins) ∙ begun_home p fit b leader.0 other)

-- ---- the elements of a list are elements of the plan

known : (p : Plan) (test : ElemPlan → Bool) (x : ℕ) → ((e : ElemPlan) → test e ≡ true → is_unqueued e ≡ true) → option_map_or test (slice_get p.elements x) false ≡ true → look p.elements x is_unqueued false ≡ true
known p test x plain e = let at = found_where p.elements x test e in ap (λ (o : Option ElemPlan). option_map_or is_unqueued o false) at.found ∙ plain at.item at.holds

access_known : (p : Plan) (i : ℕ) (home : Option ℕ) (reads : Bool) (a : AccessSig) (k : AccessKind) (x : ℕ) → same_kind k (list_kind reads) ≡ true → access_sound p i home (record a { kind = k }) x ≡ true → look p.elements x is_unqueued false ≡ true
access_known p i home true a kind.IRead x same ok =
    known p (λ (e : ElemPlan). same_number e.instance home && (is_unqueued e && not e.provided)) x
    (λ e is. (and_parts (is_unqueued e) (not e.provided) (and_parts (same_number e.instance home) (is_unqueued e && not e.provided) is).1).0) (and_parts (elem_fits p home (λ e. is_unqueued e && not e.provided) x) (takes_words p x a.outs) ok).0
access_known p i home false a kind.IWrite x same ok =
    known p (λ (e : ElemPlan). same_number e.instance home && (is_unqueued e && e.provided)) x
    (λ e is. (and_parts (is_unqueued e) e.provided (and_parts (same_number e.instance home) (is_unqueued e && e.provided) is).1).0) (and_parts (elem_fits p home (λ e. is_unqueued e && e.provided) x) (takes_words p x a.ins) ok).0
access_known p i home true a k x same ok = absurd (false≢true same)
access_known p i home false a k x same ok = absurd (false≢true same)

accessed_known : (p : Plan) (i : ℕ) (home : Option ℕ) (reads : Bool) (x : ℕ) (sigs : List AccessSig) (xs : List ℕ) → each_access (access_sound p i home) sigs xs ≡ true → accesses_elem (list_kind reads) x sigs xs ≡ true
    → look p.elements x is_unqueued false ≡ true
accessed_known p i home reads x [] [] ok is = absurd (false≢true is)
accessed_known p i home reads x [] (t ∷ ts) ok is = absurd (false≢true is)
accessed_known p i home reads x (a ∷ sigs) [] ok is = absurd (false≢true is)
accessed_known p i home reads x (a ∷ sigs) (t ∷ ts) ok is =
    let parts = and_parts (access_sound p i home a t) (each_access (access_sound p i home) sigs ts) ok in
    by_first parts.0 (accessed_known p i home reads x sigs ts parts.1) (same_kind a.kind (list_kind reads)) (t == x) refl refl is
  where
    by_first : access_sound p i home a t ≡ true → (accesses_elem (list_kind reads) x sigs ts ≡ true → look p.elements x is_unqueued false ≡ true)
        → (b c : Bool) → same_kind a.kind (list_kind reads) ≡ b → (t == x) ≡ c → ((b && c) || accesses_elem (list_kind reads) x sigs ts) ≡ true → look p.elements x is_unqueued false ≡ true
    by_first one rest true true kinds same is = subst (λ y. look p.elements y is_unqueued false ≡ true) (eqb-true t x same) (access_known p i home reads a a.kind t kinds one)
    by_first one rest true false kinds same is = rest is
    by_first one rest false c kinds same is = rest is

-- the runnable whose list it is
record Owner (rs : List Runnable) (l : ℕ) : Type 0 where
  place : ℕ
  runnable : Runnable
  there : slice_get rs place ≡ Some runnable
  owns : has runnable.lists l ≡ true

split_has : {X : Type 0} (l : ℕ) (xs ys : List ℕ) → has (xs ++ ys) l ≡ true → (has xs l ≡ true → X) → (has ys l ≡ true → X) → X
split_has {X} l [] ys h first second = second h
split_has {X} l (z ∷ zs) ys h first second = by_first (z == l) refl h (λ rest. split_has l zs ys rest (λ f. first (or_right (z == l) (has zs l) f)) second)
  where
    by_first : (b : Bool) → (z == l) ≡ b → (b || has (zs ++ ys) l) ≡ true → (has (zs ++ ys) l ≡ true → X) → X
    by_first true same h rest = first (or_left (z == l) (has zs l) same)
    by_first false other h rest = rest h

owner : (rs : List Runnable) (l : ℕ) → has (flat_map (λ (r : Runnable). r.lists) rs) l ≡ true → Owner rs l
owner [] l h = absurd (false≢true h)
owner (r ∷ rs) l h = split_has l r.lists (flat_map (λ (s : Runnable). s.lists) rs) h
    (λ own. record { place = 0; runnable = r; there = refl; owns = own })
    (λ later. let deeper = owner rs l later in record { place = suc deeper.place; runnable = deeper.runnable; there = deeper.there; owns = deeper.owns })

module _ (p : Plan) (m : Mapping) (sound : IsSound p m) where
  abbrev own_lists : ℕ → Runnable → Bool
  own_lists i r = list_all (list_sound p i r) r.lists && is_distinct (flat_map (elems_of p) r.lists)

  abbrev listed : List ℕ
  listed = flat_map (λ (r : Runnable). r.lists) p.runnables

  lists_numbered : (same_numbers listed (positions (length p.lists)) ≡ true) × (every_from 0 own_lists p.runnables ≡ true)
  lists_numbered = and_parts (same_numbers listed (positions (length p.lists))) (every_from 0 own_lists p.runnables) sound.lists

  list_owner : (l : ℕ) → l < length p.lists → Owner p.runnables l
  list_owner l below =
      owner p.runnables l (subst (λ ns. has ns l ≡ true) (sym (same_lists listed (positions (length p.lists)) lists_numbered.0))
      (has_at (positions (length p.lists)) l l (position_at (length p.lists) l below)))

  owned_sound : (l : ℕ) (o : Owner p.runnables l) → list_sound p o.place o.runnable l ≡ true
  owned_sound l o =
      let own : own_lists o.place o.runnable ≡ true = every_at own_lists 0 p.runnables lists_numbered.1 o.place o.place o.runnable (omega arith) o.there in
      all_has (list_sound p o.place o.runnable) l o.runnable.lists (and_parts (list_all (list_sound p o.place o.runnable) o.runnable.lists) (is_distinct (flat_map (elems_of p) o.runnable.lists)) own).0 o.owns

  -- an element of a list is one of the plan, and unqueued
  pub listed_plain : (l x : ℕ) (c : CoherentList) → slice_get p.lists l ≡ Some c → has c.elems x ≡ true → look p.elements x is_unqueued false ≡ true
  listed_plain l x c at there =
      let o = list_owner l (slice_get_within p.lists l c at) in
      let r = o.runnable in
      let reached : CoherentList → Bool = λ d. list_all (λ y. accesses_elem (list_kind d.reads) y r.accesses r.targets) d.elems in
      let list = found_where p.lists l (λ (d : CoherentList). (d.runnable == o.place) && (is_in 2 16 (length d.elems) && (nat_le (words_of_all p d.elems) 16 && reached d))) (owned_sound l o) in
      let same : c ≡ list.item = same_Some c list.item (sym at ∙ list.found) in
      let a = (and_parts (list.item.runnable == o.place) (is_in 2 16 (length list.item.elems) && (nat_le (words_of_all p list.item.elems) 16 && reached list.item)) list.holds).1 in
      let b = (and_parts (is_in 2 16 (length list.item.elems)) (nat_le (words_of_all p list.item.elems) 16 && reached list.item) a).1 in
      let d = (and_parts (nat_le (words_of_all p list.item.elems) 16) (reached list.item) b).1 in
      let all : reached c ≡ true = subst (λ k. reached k ≡ true) (sym same) d in
      let whole : runnable_sound p o.place r ≡ true = every_at (runnable_sound p) 0 p.runnables sound.runnables o.place o.place r (omega arith) o.there in
      accessed_known p o.place (Some r.instance) c.reads x r.accesses r.targets (and_parts (each_access (access_sound p o.place (Some r.instance)) r.accesses r.targets) _ whole).0
      (all_has (λ y. accesses_elem (list_kind c.reads) y r.accesses r.targets) x c.elems all there)

  listed_known : (l x : ℕ) (c : CoherentList) → slice_get p.lists l ≡ Some c → has c.elems x ≡ true → is_some (group_of p x) ≡ true
  listed_known l x c at there =
      let found = found_where p.elements x is_unqueued (listed_plain l x c at there) in
      ap (λ (o : Option ElemPlan). is_some (option_map_or (λ (v : ElemPlan). Some v.group) o None)) found.found

  -- where an element is
  record Housed (x : ℕ) : Type 0 where
    group : ℕ
    bundle : ℕ
    is : group_of p x ≡ Some group
    home : home_of p group ≡ Some bundle

  housed : (x : ℕ) → is_some (group_of p x) ≡ true → Housed x
  housed x is = by_group (group_of p x) refl is
    where
      by_group : (o : Option ℕ) → group_of p x ≡ o → is_some o ≡ true → Housed x
      by_group None at never = absurd (false≢true never)
      by_group (Some g) at some =
          let home = some_of p.homes g (omega (arith, group_below p sound.groups x g at, homes_counted p sound.bundles)) in
          record { group = g; bundle = home.0; is = at; home = home_there p sound.bundles g home.0 home.1 }

  bundle_there : (x : ℕ) (h : Housed x) → bundle_of p x ≡ Some h.bundle
  bundle_there x h = ap (option_and_then (home_of p)) h.is ∙ h.home

  both_housed : (l x y : ℕ) (c : CoherentList) → slice_get p.lists l ≡ Some c → has c.elems x ≡ true → has c.elems y ≡ true → bundle_of p x ≡ bundle_of p y
  both_housed l x y c at one two =
      let first = housed x (listed_known l x c at one) in
      let second = housed y (listed_known l y c at two) in
      let same : first.bundle ≡ second.bundle =
      one_home p sound.bundles l c first.group second.group first.bundle second.bundle at (has_group p x first.group c.elems one first.is) (has_group p y second.group c.elems two second.is) first.home second.home in
      bundle_there x first ∙ ap (λ b. Some b) same ∙ sym (bundle_there y second)

  -- the bundle of an element of a list is the list's
  pub list_home : (l x : ℕ) → has (elems_of p l) x ≡ true → bundle_of p x ≡ bundle_of_list p l
  list_home l x there = by_list (slice_get p.lists l) refl there
    where
      by_elems : (c : CoherentList) → slice_get p.lists l ≡ Some c → (xs : List ℕ) → c.elems ≡ xs → has xs x ≡ true → bundle_of p x ≡ option_and_then (bundle_of p) (slice_get xs 0)
      by_elems c at [] is h = absurd (false≢true h)
      by_elems c at (y ∷ ys) is h =
          both_housed l x y c at (subst (λ (zs : List ℕ). has zs x ≡ true) (sym is) h) (subst (λ (zs : List ℕ). has zs y ≡ true) (sym is) (or_left (y == y) (has ys y) (same_test y)))

      by_list : (o : Option CoherentList) → slice_get p.lists l ≡ o → has (option_map_or (λ (c : CoherentList). c.elems) o []) x ≡ true
          → bundle_of p x ≡ bundle_of_list p l
      by_list None at h = absurd (false≢true h)
      by_list (Some c) at h =
          let elems : elems_of p l ≡ c.elems = ap (λ (o : Option CoherentList). option_map_or (λ (d : CoherentList). d.elems) o []) at in
          by_elems c at c.elems refl h ∙ sym (ap (λ (xs : List ℕ). option_and_then (bundle_of p) (slice_get xs 0)) elems)

  -- and there is one
  pub list_bundled : (l x : ℕ) → has (elems_of p l) x ≡ true → is_some (bundle_of_list p l) ≡ true
  list_bundled l x there = by_list (slice_get p.lists l) refl there
    where
      by_list : (o : Option CoherentList) → slice_get p.lists l ≡ o → has (option_map_or (λ (c : CoherentList). c.elems) o []) x ≡ true → is_some (bundle_of_list p l) ≡ true
      by_list None at h = absurd (false≢true h)
      by_list (Some c) at h = ap is_some (sym (list_home l x there) ∙ bundle_there x (housed x (listed_known l x c at h)))
