-- The coherent lists of a runnable of a sound plan: who reads or writes their elements, and that elements and lists have bundles.
use Rattle.std.proofs.Common.{◌≡◌, ℕ, zero, suc, ◌<◌, Bool, true, false, not, ◌&&◌, ◌||◌, ◌==◌, if◌then◌else◌, refl, sym, ◌∙◌, ap, subst, arith, List, [], ◌∷◌, length, Option, Some, None}
use Rattle.std.specs.Prelude.{nat_lt, nat_le, flat_map, option_and_then}
use Rattle.bus_semantics.specs.Common.{list_all, list_any, slice_get, and_from, and_parts, eqb-true, ltb-true, false≢true, same_number, AccessKind, AccessSig, Plan, Runnable, look}
use Rattle.bus_semantics.specs.Common.{every_from, positions, group_of, elem_fits, is_unqueued, same_kind, elems_of, words_of_all, list_fits, home_of, bundle_of, bundle_of_list}
use Rattle.bus_semantics.specs.Common.{is_read_early, is_written_late, list_with, is_in, is_variable, is_distinct, same_numbers, access_sound, each_access, accesses_elem, list_kind}
use Rattle.bus_semantics.specs.Common.{list_sound, IsSound}
use Rattle.runnable_lang.specs.declared.program.AccessKind.TheVariants as kind
use Rattle.bus_laws.specs.Common.{ElemPlan, ElemKind, Unqueued, Queued, Variable, CoherentList, Mapping}
use Rattle.bus_semantics.specs.SoundAccesses.{takes_words}
use Rattle.history_laws.specs.LookUps.{sought, looked, looks, all_at, at_place}
use Rattle.history_laws.proofs.Served.{kind_same, sound_of_kind}
use Rattle.history_laws.proofs.Asked.{IsListed}
use Rattle.history_laws.proofs.Accesses.{accesses_sound}

-- ---- bundles

-- each element has a bundle: that of its group
pub bundled : {X : Type 0} (p : Plan) (m : Mapping) → IsSound p m → (x : ℕ) (e : ElemPlan) → slice_get p.elements x ≡ Some e → bundle_of p x ≡ None → X
bundled p m sound x e there none =
    let group : group_of p x ≡ Some e.group = looked p.elements x e (λ (v : ElemPlan). Some v.group) None there in
    let few : nat_lt e.group (length p.groups) ≡ true = all_at (λ (v : ElemPlan). nat_lt v.group (length p.groups)) p.elements x e (and_parts (list_all (λ (v : ElemPlan). nat_lt v.group (length p.groups)) p.elements) _ sound.groups).0 there in
    let many : length p.homes ≡ length p.groups = eqb-true (length p.homes) (length p.groups) (and_parts (length p.homes == length p.groups) _ sound.bundles).0 in
    let less : e.group < length p.homes = subst (λ n. e.group < n) (sym many) (ltb-true e.group (length p.groups) few) in
    homed p.homes e.group less (sym (ap (λ g. option_and_then (home_of p) g) group) ∙ none)
  where
    homed : {Y : Type 0} (homes : List ℕ) (g : ℕ) → g < length homes → look homes g (λ (b : ℕ). Some b) None ≡ None → Y
    homed [] g less none = absurd (omega arith)
    homed (b ∷ homes) zero less none = absurd (cc none)
    homed (b ∷ homes) (suc g) less none = homed homes g (omega arith) none

-- an element that fits has a bundle
pub fit_bundled : {X : Type 0} (p : Plan) (m : Mapping) → IsSound p m → (home : Option ℕ) (test : ElemPlan → Bool) (x : ℕ) → elem_fits p home test x ≡ true → bundle_of p x ≡ None → X
fit_bundled p m sound home test x fit none =
    let at = sought p.elements x (λ (e : ElemPlan). same_number e.instance home && test e) fit in
    bundled p m sound x at.item at.found none

-- ---- the elements of lists

-- an element that is fetched is required, and one that is published is provided
abbrev pub is_side : (reads : Bool) → ElemPlan → Bool
is_side true e = not e.provided
is_side false e = e.provided

abbrev pub list_side : (reads : Bool) → ElemPlan → Bool
list_side reads e = is_unqueued e && is_side reads e

-- two tests that no element passes both
two_tests : {X : Type 0} (p : Plan) (home : Option ℕ) (f g : ElemPlan → Bool) (x : ℕ) → elem_fits p home f x ≡ true → elem_fits p home g x ≡ true → ((e : ElemPlan) → f e ≡ true → g e ≡ true → ⊥) → X
two_tests p home f g x one two never =
    let first = sought p.elements x (λ (e : ElemPlan). same_number e.instance home && f e) one in
    let second = sought p.elements x (λ (e : ElemPlan). same_number e.instance home && g e) two in
    let same : second.item ≡ first.item = cc (first.found, second.found) in
    let passes : g first.item ≡ true = subst (λ e. g e ≡ true) same (and_parts (same_number second.item.instance home) (g second.item) second.holds).1 in
    absurd (never first.item (and_parts (same_number first.item.instance home) (f first.item) first.holds).1 passes)

no_variable : (e : ElemPlan) (k : ElemKind) → is_variable (record e { kind = k }) ≡ true → is_unqueued (record e { kind = k }) ≡ true → ⊥
no_variable e Unqueued is un = false≢true is
no_variable e Queued is un = false≢true un
no_variable e Variable is un = false≢true un

no_both : (reads : Bool) (e : ElemPlan) → list_side reads e ≡ true → list_side (not reads) e ≡ true → ⊥
no_both reads e one two = by_side reads e.provided (and_parts (is_unqueued e) (is_side reads e) one).1 (and_parts (is_unqueued e) (is_side (not reads) e) two).1
  where
    by_side : (reads provided : Bool) → is_side reads (record e { provided = provided }) ≡ true → is_side (not reads) (record e { provided = provided }) ≡ true → ⊥
    by_side true true one two = false≢true one
    by_side true false one two = false≢true two
    by_side false true one two = false≢true two
    by_side false false one two = false≢true one

module _ (p : Plan) (i : ℕ) (home : Option ℕ) where
  -- what an access of a list's kind names
  side_of : (reads : Bool) (a : AccessSig) (x : ℕ) → same_kind a.kind (list_kind reads) ≡ true → access_sound p i home a x ≡ true → elem_fits p home (list_side reads) x ≡ true
  side_of true a x same ok = (and_parts (elem_fits p home (λ e. is_unqueued e && not e.provided) x) (takes_words p x a.outs) (sound_of_kind p i home a kind.IRead x (kind_same a.kind kind.IRead same) ok)).0
  side_of false a x same ok = (and_parts (elem_fits p home (λ e. is_unqueued e && e.provided) x) (takes_words p x a.ins) (sound_of_kind p i home a kind.IWrite x (kind_same a.kind kind.IWrite same) ok)).0

  accessed : (reads : Bool) (x : ℕ) (sigs : List AccessSig) (xs : List ℕ) → each_access (access_sound p i home) sigs xs ≡ true → accesses_elem (list_kind reads) x sigs xs ≡ true → elem_fits p home (list_side reads) x ≡ true
  accessed reads x [] [] ok has = absurd (false≢true has)
  accessed reads x [] (t ∷ ts) ok has = absurd (false≢true has)
  accessed reads x (a ∷ sigs) [] ok has = absurd (false≢true has)
  accessed reads x (a ∷ sigs) (t ∷ ts) ok has =
      let parts = and_parts (access_sound p i home a t) (each_access (access_sound p i home) sigs ts) ok in
      by_first parts.0 (accessed reads x sigs ts parts.1) (same_kind a.kind (list_kind reads)) (t == x) refl refl has
    where
      by_first : access_sound p i home a t ≡ true → (accesses_elem (list_kind reads) x sigs ts ≡ true → elem_fits p home (list_side reads) x ≡ true)
          → (b c : Bool) → same_kind a.kind (list_kind reads) ≡ b → (t == x) ≡ c → ((b && c) || accesses_elem (list_kind reads) x sigs ts) ≡ true → elem_fits p home (list_side reads) x ≡ true
      by_first one rest true true kinds same has = subst (λ y. elem_fits p home (list_side reads) y ≡ true) (eqb-true t x same) (side_of reads a t kinds one)
      by_first one rest true false kinds same has = rest has
      by_first one rest false c kinds same has = rest has

-- ---- the lists of a runnable

module _ (p : Plan) (m : Mapping) (sound : IsSound p m) (i : ℕ) (r : Runnable) (there : slice_get p.runnables i ≡ Some r) where
  abbrev own_lists : ℕ → Runnable → Bool
  own_lists j v = list_all (list_sound p j v) v.lists && is_distinct (flat_map (elems_of p) v.lists)

  pub lists_are : list_all (list_sound p i r) r.lists ≡ true
  lists_are =
      let numbered : Bool = same_numbers (flat_map (λ (v : Runnable). v.lists) p.runnables) (positions (length p.lists)) in
      let own = at_place own_lists p.runnables i r (and_parts numbered (every_from 0 own_lists p.runnables) sound.lists).1 there in
      (and_parts (list_all (list_sound p i r) r.lists) (is_distinct (flat_map (elems_of p) r.lists)) own).0

  pub record ListOf (l : ℕ) : Type 0 where
    pub list : CoherentList
    pub found : slice_get p.lists l ≡ Some list
    pub owner : (list.runnable == i) ≡ true
    pub many : nat_le 2 (length list.elems) ≡ true
    pub few : nat_le (words_of_all p list.elems) 16 ≡ true
    pub reached : list_all (λ x. accesses_elem (list_kind list.reads) x r.accesses r.targets) list.elems ≡ true

  pub list_of : (l : ℕ) → list_sound p i r l ≡ true → ListOf l
  list_of l ok =
      let at = sought p.lists l (λ (c : CoherentList). (c.runnable == i) && (is_in 2 16 (length c.elems)
      && (nat_le (words_of_all p c.elems) 16 && list_all (λ x. accesses_elem (list_kind c.reads) x r.accesses r.targets) c.elems))) ok in
      let a = and_parts (at.item.runnable == i) _ at.holds in
      let b = and_parts (is_in 2 16 (length at.item.elems)) _ a.1 in
      let c = and_parts (nat_le (words_of_all p at.item.elems) 16) _ b.1 in
      record { list = at.item; found = at.found; owner = a.0; many = (and_parts (nat_le 2 (length at.item.elems)) _ b.0).0; few = c.0; reached = c.1 }

  elems_are : (l : ℕ) (of : ListOf l) → elems_of p l ≡ of.list.elems
  elems_are l of = looked p.lists l of.list (λ (c : CoherentList). c.elems) [] of.found

  pub list_short : (l : ℕ) → list_sound p i r l ≡ true → nat_le (words_of_all p (elems_of p l)) 16 ≡ true
  list_short l ok = let of = list_of l ok in subst (λ xs. nat_le (words_of_all p xs) 16 ≡ true) (sym (elems_are l of)) of.few

  reached_fits : (l x : ℕ) (of : ListOf l) → accesses_elem (list_kind of.list.reads) x r.accesses r.targets ≡ true → elem_fits p (Some r.instance) (list_side of.list.reads) x ≡ true
  reached_fits l x of has = accessed p i (Some r.instance) of.list.reads x r.accesses r.targets (accesses_sound p m sound i r there) has

  -- a list touches an object
  pub list_bundled : {X : Type 0} (l : ℕ) → list_sound p i r l ≡ true → bundle_of_list p l ≡ None → X
  list_bundled {X} l ok none = by_elems of.list.elems of.many of.reached (sym (ap (λ (xs : List ℕ). option_and_then (bundle_of p) (slice_get xs 0)) (elems_are l of)) ∙ none)
    where
      of : ListOf l
      of = list_of l ok

      by_elems : (xs : List ℕ) → nat_le 2 (length xs) ≡ true → list_all (λ x. accesses_elem (list_kind of.list.reads) x r.accesses r.targets) xs ≡ true → option_and_then (bundle_of p) (slice_get xs 0) ≡ None → X
      by_elems [] many all none = absurd (false≢true many)
      by_elems (x ∷ xs) many all none =
          fit_bundled p m sound (Some r.instance) (list_side of.list.reads) x
          (reached_fits l x of (and_parts (accesses_elem (list_kind of.list.reads) x r.accesses r.targets) (list_all (λ y. accesses_elem (list_kind of.list.reads) y r.accesses r.targets) xs) all).0) none

  -- ---- the list of an access

  all_any : (f : ℕ → Bool) (x : ℕ) (xs : List ℕ) → list_all f xs ≡ true → list_any (λ y. y == x) xs ≡ true → f x ≡ true
  all_any f x [] all any = absurd (false≢true any)
  all_any f x (y ∷ xs) all any =
      let parts = and_parts (f y) (list_all f xs) all in
      by_first parts.0 (all_any f x xs parts.1) (y == x) refl any
    where
      by_first : f y ≡ true → (list_any (λ z. z == x) xs ≡ true → f x ≡ true) → (b : Bool) → (y == x) ≡ b → (b || list_any (λ z. z == x) xs) ≡ true → f x ≡ true
      by_first one rest true same any = subst (λ z. f z ≡ true) (eqb-true y x same) one
      by_first one rest false same any = rest any

  -- it is one of these, and the element is in it
  pub record Holds (f : ℕ → Bool) (x l : ℕ) : Type 0 where
    pub passes : f l ≡ true
    pub holds : list_any (λ y. y == x) (elems_of p l) ≡ true

  pub holding : (f : ℕ → Bool) (x l : ℕ) (lists : List ℕ) → list_all f lists ≡ true → list_with p lists x ≡ Some l → Holds f x l
  holding f x l [] all is = absurd (cc is)
  holding f x l (n ∷ lists) all is =
      let parts = and_parts (f n) (list_all f lists) all in
      by_first parts.0 (holding f x l lists parts.1) (list_any (λ y. y == x) (elems_of p n)) refl is
    where
      by_first : f n ≡ true → (list_with p lists x ≡ Some l → Holds f x l) → (b : Bool) → list_any (λ y. y == x) (elems_of p n) ≡ b → (if b then Some n else list_with p lists x) ≡ Some l → Holds f x l
      by_first one rest true has is = let same : n ≡ l = cc is in subst (Holds f x) same (record { passes = one; holds = has })
      by_first one rest false has is = rest is

  -- the list of an element that is fetched (or published) is one of lists that are fetched (or published)
  listed : (reads : Bool) (x l : ℕ) → list_with p r.lists x ≡ Some l → (elem_fits p (Some r.instance) (list_side (not reads)) x ≡ true → ⊥) → IsListed p i r reads l
  listed reads x l is never =
      let has = holding (list_sound p i r) x l r.lists lists_are is in
      (by_reads has (list_of l has.passes), has.passes)
    where
      by_reads : Holds (list_sound p i r) x l → ListOf l → list_fits p i reads l ≡ true
      by_reads has of =
          looks p.lists l of.list (λ (c : CoherentList). (c.runnable == i) && (if reads then c.reads else not c.reads)) of.found
          (and_from (of.list.runnable == i) (if reads then of.list.reads else not of.list.reads) of.owner (by_side reads of.list.reads refl refl fit))
        where
          fit : elem_fits p (Some r.instance) (list_side of.list.reads) x ≡ true
          fit = reached_fits l x of (all_any (λ y. accesses_elem (list_kind of.list.reads) y r.accesses r.targets) x of.list.elems of.reached
              (subst (λ xs. list_any (λ y. y == x) xs ≡ true) (elems_are l of) has.holds))

          by_side : (b c : Bool) → reads ≡ b → of.list.reads ≡ c → elem_fits p (Some r.instance) (list_side of.list.reads) x ≡ true → (if b then c else not c) ≡ true
          by_side true true is side fit = refl
          by_side false false is side fit = refl
          by_side true false is side fit = absurd (never (subst (λ s. elem_fits p (Some r.instance) (list_side s) x ≡ true) (side ∙ sym (ap not is)) fit))
          by_side false true is side fit = absurd (never (subst (λ s. elem_fits p (Some r.instance) (list_side s) x ≡ true) (side ∙ sym (ap not is)) fit))

  -- an element to which an access fits that is read early (or written late) is on no list of the other side
  abbrev other_side : (reads : Bool) → ℕ → Type 0
  other_side reads x = elem_fits p (Some r.instance) (list_side (not reads)) x ≡ true → ⊥

  pub listed_early : (a : AccessSig) (x l : ℕ) → access_sound p i (Some r.instance) a x ≡ true → is_read_early a.kind ≡ true → list_with p r.lists x ≡ Some l → IsListed p i r true l
  listed_early a x l ok early is = listed true x l is (by_kind a.kind refl early)
    where
      by_kind : (k : AccessKind) → a.kind ≡ k → is_read_early k ≡ true → other_side true x
      by_kind kind.IRead same early other =
          let one = (and_parts (elem_fits p (Some r.instance) (λ e. is_unqueued e && not e.provided) x) (takes_words p x a.outs) (sound_of_kind p i (Some r.instance) a kind.IRead x same ok)).0 in
          two_tests p (Some r.instance) (list_side true) (list_side false) x one other (no_both true)
      by_kind kind.IrvIRead same early other =
          let one = (and_parts (elem_fits p (Some r.instance) is_variable x) (takes_words p x a.outs) (sound_of_kind p i (Some r.instance) a kind.IrvIRead x same ok)).0 in
          two_tests p (Some r.instance) is_variable (list_side false) x one other (λ e is side. no_variable e e.kind is (and_parts (is_unqueued e) (is_side false e) side).0)
      by_kind k same early other = false≢true early

  pub listed_late : (a : AccessSig) (x l : ℕ) → access_sound p i (Some r.instance) a x ≡ true → is_written_late a.kind ≡ true → list_with p r.lists x ≡ Some l → IsListed p i r false l
  listed_late a x l ok late is = listed false x l is (by_kind a.kind refl late)
    where
      by_kind : (k : AccessKind) → a.kind ≡ k → is_written_late k ≡ true → other_side false x
      by_kind kind.IWrite same late other =
          let one = (and_parts (elem_fits p (Some r.instance) (λ e. is_unqueued e && e.provided) x) (takes_words p x a.ins) (sound_of_kind p i (Some r.instance) a kind.IWrite x same ok)).0 in
          two_tests p (Some r.instance) (list_side false) (list_side true) x one other (no_both false)
      by_kind kind.IrvIWrite same late other =
          let one = (and_parts (elem_fits p (Some r.instance) is_variable x) (takes_words p x a.ins) (sound_of_kind p i (Some r.instance) a kind.IrvIWrite x same ok)).0 in
          two_tests p (Some r.instance) is_variable (list_side true) x one other (λ e is side. no_variable e e.kind is (and_parts (is_unqueued e) (is_side true e) side).0)
      by_kind k same late other = false≢true late
