-- The compositions that stand in a description, listed.
use Rattle.std.proofs.Common.{◌≡◌, ℕ, suc, ◌+◌, ◌<◌, ◌≤◌, min, List, [], ◌∷◌, ◌++◌, length, Vec, Some, ◌⊎◌, inl, inr, ⊎_elim, ◌↔◌, sym, ap, subst, ◌∙◌, arith}
use Rattle.std.proofs.lemmas.Bool.{cases_lt}
use Rattle.std.proofs.lemmas.Option.{slice_get_within}
use Rattle.std.specs.Global.{Global}
use Rattle.description_types.specs.declared.description.Description.{Description}
use Rattle.description_types.specs.declared.description.PrototypeType.{PrototypeType}
use Rattle.description_types.specs.declared.description.PrototypeType.TheVariants.{Composition}
use Rattle.composition_tables.specs.declared.nodes.Node.{Node}
use Rattle.composition_tables.specs.Counts.{IsCounted, count_in}
use Rattle.composition_tables.specs.Ends.{number_from, offset}
use Rattle.description_types.specs.Places.{size}
use Rattle.composition_tables.specs.Nodes.{IsNode, IsInnerNode}
use Rattle.description_types.specs.Members.{Among}
use Rattle.description_types.specs.Paths.{prototypes_of, type_in}
use Rattle.composition_tables.proofs.Members.{left, right, cases}
use Rattle.composition_tables.proofs.Counting.{counted}
use Rattle.composition_tables.proofs.Steps.{step_is}

module _ (d : Description) where
  pub type_declared : (c q : ℕ) (t : PrototypeType) → type_in d (Composition c) q ≡ Some t → q < length (prototypes_of d c)
  type_declared c q t is = let p = step_is d c q t is in slice_get_within (prototypes_of d c) q p.0 p.1

  module _ (n c first q held : ℕ) (typed : type_in d (Composition c) q ≡ Some (Composition held)) (x : Node) where
    held_is : (e : ℕ) → type_in d (Composition c) q ≡ Some (Composition e) → e ≡ held
    held_is e is = let both : Some (Composition e) ≡ Some (Composition held) = sym is ∙ typed in cc

    pub inner_dead : (levels : List (Vec ℕ Global)) (count : ℕ) (O : Type 0) → IsCounted d levels → n < 8 → count ≡ count_in levels n held → count ≡ 0 → O ↔ (O ⊎ IsInnerNode d n c first q x)
    inner_dead levels count O is within made none =
        ((λ o. inl o), (λ s. ⊎_elim (λ o. o) (λ i. absurd (i.2 (let capped = counted d levels n held is (omega arith) in let size_is : size d n i.0 ≡ size d n held = ap (size d n) (held_is i.0 i.1) in omega arith))) s))

    pub inner_live : (levels : List (Vec ℕ Global)) (count start number : ℕ) (N O : Type 0) → IsCounted d levels → n < 8 → count ≡ count_in levels n held → (count ≡ 0 → ⊥) → start ≡ min (offset d n c q) 1025 → number ≡ number_from first start
        → N ↔ (O ⊎ IsNode d n held number x) → N ↔ (O ⊎ IsInnerNode d n c first q x)
    inner_live levels count start number N O is within made some start_is number_is h =
        let capped = counted d levels n held is (omega arith) in
        let numbered : number ≡ number_from first (offset d n c q) = number_is ∙ omega arith in (
          (λ m. ⊎_elim (λ o. inl o) (λ node. inr (held, typed, (λ z. some (omega arith)), subst (λ k. IsNode d n held k x) numbered node)) (h.0 m)),
          (λ s. h.1 (⊎_elim (λ o. inl o) (λ i. inr (subst (λ e. IsNode d n e number x) (held_is i.0 i.1) (subst (λ k. IsNode d n i.0 k x) (sym numbered) i.3))) s)),
        )

  pub nodes_begin : (n c first : ℕ) (node x : Node) (before after : List Node) → after ≡ before ++ node ∷ [] → Among x after ↔ (Among x before ⊎ ((x ≡ node) ⊎ ((q : ℕ) × (q < 0) × IsInnerNode d n c first q x)))
  nodes_begin n c first node x before after is = (
    (λ h. ⊎_elim (λ l. inl l) (λ r. ⊎_elim (λ e. inr (inl e)) (λ no. absurd no) r) (cases x before (node ∷ []) (subst (Among x) is h))),
    (λ s. subst (Among x) (sym is) (⊎_elim (λ l. left x before (node ∷ []) l) (λ r. ⊎_elim (λ e. right x before (node ∷ []) (inl e)) (λ i. absurd (omega (arith, i.1))) r) s)),
  )

  pub nodes_more : (n c first q : ℕ) (x : Node) (N M O S : Type 0) → N ↔ (M ⊎ IsInnerNode d n c first q x) → M ↔ (O ⊎ (S ⊎ ((k : ℕ) × (k < q) × IsInnerNode d n c first k x)))
      → N ↔ (O ⊎ (S ⊎ ((k : ℕ) × (k < q + 1) × IsInnerNode d n c first k x)))
  nodes_more n c first q x N M O S now before = (
    (λ h. ⊎_elim (λ m. ⊎_elim (λ o. inl o) (λ r. inr (⊎_elim (λ s. inl s) (λ i. inr (i.0, omega (arith, i.1), i.2)) r)) (before.0 m)) (λ i. inr (inr (q, omega arith, i))) (now.0 h)),
    (λ h. ⊎_elim (λ o. now.1 (inl (before.1 (inl o)))) (λ r. ⊎_elim (λ s. now.1 (inl (before.1 (inr (inl s)))))
        (λ i. ⊎_elim (λ l. now.1 (inl (before.1 (inr (inr (i.0, l, i.2)))))) (λ (l : q ≤ i.0). let e : i.0 ≡ q = omega (arith, i.1) in now.1 (inr (subst (λ k. IsInnerNode d n c first k x) e i.2))) (cases_lt i.0 q)) r) h),
  )

  pub nodes_all : (depth n c first count q : ℕ) (x : Node) (N O : Type 0) → suc n ≡ depth → count ≡ length (prototypes_of d c) → count ≤ q
      → N ↔ (O ⊎ ((x ≡ record { depth = n; composition = c; first = first }) ⊎ ((k : ℕ) × (k < q) × IsInnerNode d n c first k x))) → N ↔ (O ⊎ IsNode d depth c first x)
  nodes_all depth n c first count q x N O deep counted_is past h = subst (λ m. N ↔ (O ⊎ IsNode d m c first x)) deep (
    (λ m. ⊎_elim (λ o. inl o) (λ r. inr (⊎_elim (λ s. inl s) (λ i. inr (i.0, i.2.0, i.2.1, i.2.2, i.2.3)) r)) (h.0 m)),
    (λ s. h.1 (⊎_elim (λ o. inl o) (λ r. inr (⊎_elim (λ e. inl e) (λ i. let declared = type_declared c i.0 (Composition i.1) i.2 in inr (i.0, omega arith, (i.1, i.2, i.3, i.4))) r)) s)),
  )

pub from_none : {X : Type 0} (list : List X) (x : X) (N A : Type 0) → list ≡ [] → N ↔ (Among x list ⊎ A) → N ↔ A
from_none list x N A none h = ((λ n. ⊎_elim (λ o. absurd (subst (Among x) none o)) (λ a. a) (h.0 n)), (λ a. h.1 (inr a)))
