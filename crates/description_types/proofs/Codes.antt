-- Which codes were seen, as marks.
use Rattle.std.proofs.Common.{◌≡◌, ℕ, zero, suc, ◌+◌, ◌<◌, Bool, true, false, ◌&&◌, ◌||◌, not, eqb, List, [], ◌∷◌, length, get_or, drop, refl, sym, ap, ◌∙◌, cond, replicate, arith}
use Rattle.std.specs.List.{list_any}
use Rattle.std.proofs.Math.ListN.{set}
use Rattle.std.proofs.lemmas.List.{at_drop_more, get_or-set_same, get_or-set_other}
use Rattle.std.proofs.lemmas.Bool.{cases_eq}
use Rattle.std.proofs.lemmas.Bool.Decides.{nat_tests}
use Rattle.description_types.specs.declared.interface.ApplicationError.{ApplicationError}
use Rattle.description_types.specs.Refusals.{has_distinct_codes}

-- no code of the errors is marked
abbrev pub are_new : List Bool → List ApplicationError → Bool
are_new seen [] = true
are_new seen (e ∷ es) = not (get_or seen e.code false) && are_new seen es

no_mark : (n k : ℕ) → get_or (replicate n false) k false ≡ false
no_mark zero k = refl
no_mark (suc n) zero = refl
no_mark (suc n) (suc k) = no_mark n k

pub none_seen : (n : ℕ) (es : List ApplicationError) → are_new (replicate n false) es ≡ true
none_seen n [] = refl
none_seen n (e ∷ es) = rw (no_mark n e.code) (none_seen n es)

mark_at : (seen : List Bool) (c k : ℕ) → c < length seen → get_or (set seen c true) k false ≡ cond (eqb k c) true (get_or seen k false)
mark_at seen c k h = grind (arith, nat_tests, cases_eq k c, get_or-set_same seen c true false, get_or-set_other seen c k true false)

tests_apart : (same marked others seen : Bool) → (not (cond same true marked) && (others && not seen)) ≡ ((not marked && others) && not (same || seen))
tests_apart true true others seen = refl
tests_apart true false true seen = refl
tests_apart true false false seen = refl
tests_apart false true others seen = refl
tests_apart false false others seen = refl

-- one more code is marked
marked : (seen : List Bool) (c : ℕ) (es : List ApplicationError) → c < length seen
    → are_new (set seen c true) es ≡ (are_new seen es && not (list_any (λ other. eqb other.code c) es))
marked seen c [] h = refl
marked seen c (e ∷ es) h =
    rw (mark_at seen c e.code h) (rw (marked seen c es h) (tests_apart (eqb e.code c) (get_or seen e.code false) (are_new seen es) (list_any (λ other. eqb other.code c) es)))

tests_joined : (marked others seen left : Bool) → marked ≡ false → ((not marked && others) && (not seen && left)) ≡ ((others && not seen) && left)
tests_joined true others seen left h = cc
tests_joined false true seen left h = refl
tests_joined false false seen left h = refl

pub codes_turn : (seen : List Bool) (es : List ApplicationError) (i : ℕ) (e : ApplicationError) (whole : Bool) → i < length es → e ≡ get_or es i e → e.code < length seen → get_or seen e.code false ≡ false
    → whole ≡ (are_new seen (drop i es) && has_distinct_codes (drop i es))
    → whole ≡ (are_new (set seen e.code true) (drop (i + 1) es) && has_distinct_codes (drop (i + 1) es))
codes_turn seen es i e whole h is small new inv =
    inv ∙ at_drop_more (λ ys. are_new seen ys && has_distinct_codes ys) es i e h
    ∙ ap (λ x. (not (get_or seen x.code false) && are_new seen (drop (i + 1) es)) && (not (list_any (λ other. eqb other.code x.code) (drop (i + 1) es)) && has_distinct_codes (drop (i + 1) es))) (sym is)
    ∙ tests_joined (get_or seen e.code false) (are_new seen (drop (i + 1) es)) (list_any (λ other. eqb other.code e.code) (drop (i + 1) es)) (has_distinct_codes (drop (i + 1) es)) new
    ∙ ap (λ b. b && has_distinct_codes (drop (i + 1) es)) (sym (marked seen e.code (drop (i + 1) es) small))
