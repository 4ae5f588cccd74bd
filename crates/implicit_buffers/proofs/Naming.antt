-- One access more.
use Rattle.std.proofs.Common.{◌≡◌, ℕ, List, [], ◌∷◌, ◌++◌, Bool, true, false, ◌⊎◌, inl, inr, if◌then◌else◌, refl, sym, ap, ◌∙◌, append_assoc}
use Rattle.bus_semantics.specs.Common.{AccessKind, AccessSig}
use Rattle.implicit_buffers.specs.Buffers.{named}

one_more : (test : AccessKind → Bool) (a : AccessSig) (sigs : List AccessSig) (x : ℕ) (xs : List ℕ) → named test (a ∷ []) (x ∷ []) ++ named test sigs xs ≡ named test (a ∷ sigs) (x ∷ xs)
one_more test a sigs x xs = by_kind (test a.kind)
  where
    by_kind : (b : Bool) → (if b then x ∷ [] else []) ++ named test sigs xs ≡ (if b then x ∷ named test sigs xs else named test sigs xs)
    by_kind true = refl
    by_kind false = refl

pub named_more : (test : AccessKind → Bool) (all old new xs others : List ℕ) (sigs accesses : List AccessSig) (a : AccessSig) (x : ℕ) → new ≡ old ++ named test (a ∷ []) (x ∷ []) → sigs ≡ a ∷ accesses → xs ≡ x ∷ others
    → old ++ named test sigs xs ≡ all → new ++ named test accesses others ≡ all
named_more test all old new xs others sigs accesses a x pushed first second so_far =
    ap (λ es. es ++ named test accesses others) pushed
    ∙ append_assoc old (named test (a ∷ []) (x ∷ [])) (named test accesses others)
    ∙ ap (λ es. old ++ es) (one_more test a accesses x others)
    ∙ ap (λ (ss : List AccessSig). old ++ named test ss (x ∷ others)) (sym first)
    ∙ ap (λ ys. old ++ named test sigs ys) (sym second)
    ∙ so_far

-- nothing is left of the accesses or of their numbers
pub named_end : (test : AccessKind → Bool) (sigs : List AccessSig) (xs : List ℕ) → (sigs ≡ []) ⊎ (xs ≡ []) → named test sigs xs ≡ []
named_end test [] xs none = refl
named_end test (a ∷ sigs) [] none = refl
named_end test (a ∷ sigs) (x ∷ xs) (inl none) = cc
named_end test (a ∷ sigs) (x ∷ xs) (inr none) = cc
