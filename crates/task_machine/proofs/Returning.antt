-- The words of a return, argument by argument.
use Rattle.std.proofs.Common.{◌≡◌, ℤ, List, [], ◌∷◌, ◌++◌, Bool, true, false, ◌⊎◌, inl, inr, if◌then◌else◌, refl, sym, ap, ◌∙◌, append_assoc}
use Rattle.bus_semantics.specs.Common.{clamped, results}
use Rattle.bus_semantics.specs.declared.plan.ArgPlan.{ArgPlan}

-- one argument more
one_more : (a : ArgPlan) (arguments : List ArgPlan) (x : ℤ) (vars : List ℤ) → results (a ∷ []) (x ∷ []) ++ results arguments vars ≡ results (a ∷ arguments) (x ∷ vars)
one_more a arguments x vars = by_direction a.out
  where
    by_direction : (b : Bool) → (if b then clamped a.limits x ∷ [] else []) ++ results arguments vars ≡ (if b then clamped a.limits x ∷ results arguments vars else results arguments vars)
    by_direction true = refl
    by_direction false = refl

pub results_more : (all old new vars others : List ℤ) (sigs arguments : List ArgPlan) (a : ArgPlan) (x : ℤ) → new ≡ old ++ results (a ∷ []) (x ∷ []) → sigs ≡ a ∷ arguments → vars ≡ x ∷ others
    → old ++ results sigs vars ≡ all → new ++ results arguments others ≡ all
results_more all old new vars others sigs arguments a x pushed first second so_far =
    ap (λ ws. ws ++ results arguments others) pushed
    ∙ append_assoc old (results (a ∷ []) (x ∷ [])) (results arguments others)
    ∙ ap (λ ws. old ++ ws) (one_more a arguments x others)
    ∙ ap (λ (xs : List ArgPlan). old ++ results xs (x ∷ others)) (sym first)
    ∙ ap (λ xs. old ++ results sigs xs) (sym second)
    ∙ so_far

-- nothing is left of the arguments or of the variables
pub results_end : (arguments : List ArgPlan) (vars : List ℤ) → (arguments ≡ []) ⊎ (vars ≡ []) → results arguments vars ≡ []
results_end [] vars none = refl
results_end (a ∷ arguments) [] none = refl
results_end (a ∷ arguments) (x ∷ vars) (inl none) = cc
results_end (a ∷ arguments) (x ∷ vars) (inr none) = cc
