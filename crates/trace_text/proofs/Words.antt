-- One more word of a value, after those before it.
use Rattle.std.proofs.Common.{◌≡◌, ◌+◌, ◌<◌, ◌≤◌, ◌*◌, List, [], ◌∷◌, ◌++◌, length, take, get_or, ℕ, ℤ, refl, sym, ap, ◌∙◌, subst, append_assoc, length-append, arith}
use Rattle.bus_semantics.specs.Common.{append-nil, take_more, Letters, more_words}
use Rattle.std.specs.Fmt.{signed_decimal}
use Rattle.trace_text.specs.Appending.{Appends}
use Rattle.trace_text.proofs.Appending.{appends_both}

more_words-append : (xs ys : List ℤ) → more_words (xs ++ ys) ≡ more_words xs ++ more_words ys
more_words-append [] ys = refl
more_words-append (x ∷ xs) ys =
    ap (λ t. 44 ∷ (signed_decimal x ++ t)) (more_words-append xs ys)
    ∙ ap (λ t. 44 ∷ t) (sym (append_assoc (signed_decimal x) (more_words xs) (more_words ys)))

-- the text of the words up to the next one
one_more : (ws : List ℤ) (i : ℕ) (d : ℤ) → i < length ws → more_words (take (i + 1) ws) ≡ more_words (take i ws) ++ ((44 ∷ []) ++ signed_decimal (get_or ws i d))
one_more ws i d h =
    ap more_words (take_more ws i d h)
    ∙ more_words-append (take i ws) (get_or ws i d ∷ [])
    ∙ ap (λ t. more_words (take i ws) ++ (44 ∷ t)) (append-nil (signed_decimal (get_or ws i d)))

pub more_written : (ws : List ℤ) (i : ℕ) (d : ℤ) (old before comma new : Letters) → i < length ws → Appends old before (more_words (take i ws))
    → Appends before comma (44 ∷ []) → Appends comma new (signed_decimal (get_or ws i d)) → Appends old new (more_words (take (i + 1) ws))
more_written ws i d old before comma new h words mark word =
    subst (Appends old new) (sym (one_more ws i d h)) (appends_both words (appends_both mark word))

pub more_short : (ws : List ℤ) (i : ℕ) (d : ℤ) → i < length ws → length (more_words (take i ws)) ≤ 21 * i → length (signed_decimal (get_or ws i d)) ≤ 20
    → length (more_words (take (i + 1) ws)) ≤ 21 * (i + 1)
more_short ws i d h before word =
    let long = ap length (one_more ws i d h) ∙ length-append (more_words (take i ws)) (44 ∷ signed_decimal (get_or ws i d)) in
    omega arith
