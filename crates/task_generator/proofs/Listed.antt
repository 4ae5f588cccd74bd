-- The coherent lists that a runnable of a sound plan fetches or publishes: each of their elements is among those fetched or published, and
-- has a slot.
use Rattle.std.proofs.Common.{◌≡◌, ℕ, ◌<◌, ◌≤◌, Bool, true, false, ◌&&◌, ◌||◌, if◌then◌else◌, refl, sym, ap, ◌∙◌, subst, List, [], ◌∷◌, ◌++◌, length, Option, Some, None}
use Rattle.std.specs.Prelude.{◌==◌, nat_le, not, option_to_list}
use Rattle.bus_semantics.specs.Common.{list_all, list_any, slice_get, option_map_or, and_parts, eqb-true, false≢true, leb-true, AccessKind, AccessSig, Plan, Runnable, elems_of, words_of_all}
use Rattle.bus_semantics.specs.Common.{same_kind, Implicit, one, all_of, is_read_early, is_written_late, list_with, met_now, in_order, fetches_of, publications_of, is_in, accesses_elem}
use Rattle.bus_semantics.specs.Common.{list_kind, access_sound, each_access, IsSound}
use Rattle.bus_semantics.specs.declared.plan.CoherentList.{CoherentList}
use Rattle.bus_semantics.specs.declared.script.Mapping.{Mapping}
use Rattle.history_laws.specs.LookUps.{Sought, sought}
use Rattle.history_laws.proofs.Served.{kind_same}
use Rattle.history_laws.proofs.Asked.{IsListed}
use Rattle.history_laws.proofs.Accesses.{accesses_sound}
use Rattle.history_laws.proofs.ActivationLists.{listed_early, listed_late}
use Rattle.implicit_buffers.specs.Buffers.{named, fetched_by, published_by}
use Rattle.task_generator.specs.Slots.{slot_of}
use Rattle.task_generator.proofs.Slots.{HaveSlots, all_have_slots}

-- an element has a slot; so have those of a list, of which there are few
abbrev pub Slotted : Plan → (all : List ℕ) → Implicit → Type 0
Slotted p all (one x) = slot_of x all < length all
Slotted p all (all_of l) = HaveSlots all (elems_of p l) × (length (elems_of p l) ≤ 16)

abbrev pub AreSlotted : Plan → (all : List ℕ) → List Implicit → Type 0
AreSlotted p all [] = Unit {0}
AreSlotted p all (it ∷ its) = Slotted p all it × AreSlotted p all its

slotted_more : (p : Plan) (all : List ℕ) (its more : List Implicit) → AreSlotted p all its → AreSlotted p all more → AreSlotted p all (its ++ more)
slotted_more p all [] more first second = second
slotted_more p all (it ∷ its) more first second = (first.0, slotted_more p all its more first.1 second)

-- what an access of the kind names is among those named
accessed_slot : (test : AccessKind → Bool) (k : AccessKind) → test k ≡ true → (all : List ℕ) (x : ℕ) (sigs : List AccessSig) (xs : List ℕ) → accesses_elem k x sigs xs ≡ true → HaveSlots all (named test sigs xs) → slot_of x all < length all
accessed_slot test k passes all x [] [] has have = absurd (false≢true has)
accessed_slot test k passes all x [] (t ∷ ts) has have = absurd (false≢true has)
accessed_slot test k passes all x (a ∷ sigs) [] has have = absurd (false≢true has)
accessed_slot test k passes all x (a ∷ sigs) (t ∷ ts) has have =
    by_first (same_kind a.kind k) (t == x) (test a.kind) refl refl refl has have (λ rest slots. accessed_slot test k passes all x sigs ts rest slots)
  where
    by_first : (b c d : Bool) → same_kind a.kind k ≡ b → (t == x) ≡ c → test a.kind ≡ d → ((b && c) || accesses_elem k x sigs ts) ≡ true → HaveSlots all (if d then t ∷ named test sigs ts else named test sigs ts)
        → (accesses_elem k x sigs ts ≡ true → HaveSlots all (named test sigs ts) → slot_of x all < length all) → slot_of x all < length all
    by_first true true true kinds same is has have rest = subst (λ y. slot_of y all < length all) (eqb-true t x same) have.0
    by_first true true false kinds same is has have rest = absurd (false≢true (sym is ∙ ap test (kind_same a.kind k kinds) ∙ passes))
    by_first true false true kinds same is has have rest = rest has have.1
    by_first true false false kinds same is has have rest = rest has have
    by_first false c true kinds same is has have rest = rest has have.1
    by_first false c false kinds same is has have rest = rest has have

elements_slots : (test : AccessKind → Bool) (k : AccessKind) → test k ≡ true → (all sigs_xs : List ℕ) (sigs : List AccessSig) → HaveSlots all (named test sigs sigs_xs)
    → (ys : List ℕ) → list_all (λ y. accesses_elem k y sigs sigs_xs) ys ≡ true → HaveSlots all ys
elements_slots test k passes all xs sigs have [] each = tt
elements_slots test k passes all xs sigs have (y ∷ ys) each =
    let parts = and_parts (accesses_elem k y sigs xs) (list_all (λ z. accesses_elem k z sigs xs) ys) each in
    (accessed_slot test k passes all y sigs xs parts.0 have, elements_slots test k passes all xs sigs have ys parts.1)

-- ---- the lists of a runnable

module _ (p : Plan) (m : Mapping) (sound : IsSound p m) (i : ℕ) (r : Runnable) (there : slice_get p.runnables i ≡ Some r) where
  -- a list of reads, or of writes
  listed_slots : (reads : Bool) (test : AccessKind → Bool) → test (list_kind reads) ≡ true → (l : ℕ) → IsListed p i r reads l → Slotted p (named test r.accesses r.targets) (all_of l)
  listed_slots reads test passes l is = by_list (sought p.lists l _ is.0) (sought p.lists l _ is.1)
    where
      all : List ℕ
      all = named test r.accesses r.targets

      side : (c : CoherentList) → (if reads then c.reads else not c.reads) ≡ true → list_kind c.reads ≡ list_kind reads
      side c same = by_sides reads c.reads same
        where
          by_sides : (b d : Bool) → (if b then d else not d) ≡ true → list_kind d ≡ list_kind b
          by_sides true true same = refl
          by_sides true false same = absurd (false≢true same)
          by_sides false true same = absurd (false≢true same)
          by_sides false false same = refl

      by_list : Sought CoherentList p.lists l (λ (c : CoherentList). (c.runnable == i) && (if reads then c.reads else not c.reads))
          → Sought CoherentList p.lists l (λ (c : CoherentList). (c.runnable == i) && (is_in 2 16 (length c.elems) && (nat_le (words_of_all p c.elems) 16 && list_all (λ x. accesses_elem (list_kind c.reads) x r.accesses r.targets) c.elems)))
          → Slotted p all (all_of l)
      by_list fits ok =
          let c = ok.item in
          let same : fits.item ≡ c = cc (fits.found, ok.found) in
          let kinds : list_kind c.reads ≡ list_kind reads = side c (subst (λ (d : CoherentList). (if reads then d.reads else not d.reads) ≡ true) same (and_parts (fits.item.runnable == i) _ fits.holds).1) in
          let rest = and_parts (is_in 2 16 (length c.elems)) _ (and_parts (c.runnable == i) _ ok.holds).1 in
          let few : length c.elems ≤ 16 = leb-true (length c.elems) 16 (and_parts (nat_le 2 (length c.elems)) (nat_le (length c.elems) 16) rest.0).1 in
          let reached = (and_parts (nat_le (words_of_all p c.elems) 16) _ rest.1).1 in
          let each : list_all (λ x. accesses_elem (list_kind reads) x r.accesses r.targets) c.elems ≡ true =
          subst (λ k. list_all (λ x. accesses_elem k x r.accesses r.targets) c.elems ≡ true) kinds reached in
          let have : HaveSlots all c.elems = elements_slots test (list_kind reads) passes all r.targets r.accesses (all_have_slots all) c.elems each in
          let elems : c.elems ≡ elems_of p l = sym (ap (λ (o : Option CoherentList). option_map_or (λ (d : CoherentList). d.elems) o []) ok.found) in
          subst (λ xs. HaveSlots all xs × (length xs ≤ 16)) elems (have, few)

  module _ (test : AccessKind → Bool) (all : List ℕ)
      (together : (a : AccessSig) (x l : ℕ) → access_sound p i (Some r.instance) a x ≡ true → test a.kind ≡ true → list_with p r.lists x ≡ Some l → Slotted p all (all_of l)) where
    met_slots : (met : List ℕ) (a : AccessSig) (x : ℕ) → access_sound p i (Some r.instance) a x ≡ true → test a.kind ≡ true → slot_of x all < length all → (o : Option ℕ) → list_with p r.lists x ≡ o
        → AreSlotted p all (met_now met x o)
    met_slots met a x fine passes below None is = (below, tt)
    met_slots met a x fine passes below (Some l) is = by_met (list_any (λ n. n == l) met)
      where
        by_met : (b : Bool) → AreSlotted p all (if b then [] else all_of l ∷ [])
        by_met true = tt
        by_met false = (together a x l fine passes is, tt)

    ordered : (met : List ℕ) (sigs : List AccessSig) (xs : List ℕ) → each_access (access_sound p i (Some r.instance)) sigs xs ≡ true → HaveSlots all (named test sigs xs) → AreSlotted p all (in_order p r.lists test met sigs xs)
    ordered met [] xs ok have = tt
    ordered met (a ∷ sigs) [] ok have = tt
    ordered met (a ∷ sigs) (x ∷ xs) ok have =
        let parts = and_parts (access_sound p i (Some r.instance) a x) (each_access (access_sound p i (Some r.instance)) sigs xs) ok in
        by_test (test a.kind) refl have parts.0 (λ more slots. ordered more sigs xs parts.1 slots)
      where
        by_test : (b : Bool) → test a.kind ≡ b → HaveSlots all (if b then x ∷ named test sigs xs else named test sigs xs) → access_sound p i (Some r.instance) a x ≡ true
            → ((more : List ℕ) → HaveSlots all (named test sigs xs) → AreSlotted p all (in_order p r.lists test more sigs xs))
            → AreSlotted p all (if b then met_now met x (list_with p r.lists x) ++ in_order p r.lists test (option_to_list (list_with p r.lists x) ++ met) sigs xs else in_order p r.lists test met sigs xs)
        by_test false is have fine rest = rest met have
        by_test true is have fine rest = slotted_more p all (met_now met x (list_with p r.lists x)) (in_order p r.lists test (option_to_list (list_with p r.lists x) ++ met) sigs xs)
            (met_slots met a x fine is have.0 (list_with p r.lists x) refl) (rest (option_to_list (list_with p r.lists x) ++ met) have.1)

  pub fetches_slotted : AreSlotted p (fetched_by r) (fetches_of p r)
  fetches_slotted =
      ordered is_read_early (fetched_by r) (λ a x l ok early is. listed_slots true is_read_early refl l (listed_early p m sound i r there a x l ok early is))
      [] r.accesses r.targets (accesses_sound p m sound i r there) (all_have_slots (fetched_by r))

  pub publications_slotted : AreSlotted p (published_by r) (publications_of p r)
  publications_slotted =
      ordered is_written_late (published_by r) (λ a x l ok late is. listed_slots false is_written_late refl l (listed_late p m sound i r there a x l ok late is))
      [] r.accesses r.targets (accesses_sound p m sound i r there) (all_have_slots (published_by r))
