-- The digits of marks, one after the other.
use Rattle.std.proofs.Common.{◌≡◌, ℕ, zero, suc, ◌+◌, ◌/◌, ◌%◌, ◌<◌, ◌==◌, cond, List, [], ◌∷◌, ◌++◌, length, take, codes, refl, sym, ap, ◌∙◌, subst, append_assoc, arith}
use Rattle.bus_semantics.specs.Common.{append-nil, Letters, mask_text}
use Rattle.trace_text.specs.Appending.{Appends}
use Rattle.trace_text.proofs.Appending.{appends_both}

-- the marks behind the first ones
abbrev pub behind : (i : ℕ) → (marks : ℕ) → ℕ
behind zero w = w
behind (suc i) w = behind i (w / 2)

halved : (i w : ℕ) → behind (suc i) w ≡ behind i w / 2
halved zero w = refl
halved (suc i) w = halved i (w / 2)

pub one_less : (i w : ℕ) → behind (i + 1) w ≡ behind i w / 2
one_less i w = let next : i + 1 ≡ suc i = omega arith in ap (λ n. behind n w) next ∙ halved i w

abbrev digit : (marks : ℕ) → Letters
digit w = cond (w % 2 == 1) (codes "1") (codes "0")

-- the digits up to the next one
one_more : (w i : ℕ) (xs : List ℕ) → i < length xs → mask_text w (take (suc i) xs) ≡ mask_text w (take i xs) ++ digit (behind i w)
one_more w i [] less = absurd (omega arith)
one_more w zero (x ∷ xs) less = append-nil (digit w)
one_more w (suc i) (x ∷ xs) less =
    ap (λ t. digit w ++ t) (one_more (w / 2) i xs (omega arith)) ∙ sym (append_assoc (digit w) (mask_text (w / 2) (take i xs)) (digit (behind i (w / 2))))

pub more_marked : (w i : ℕ) (xs : List ℕ) (old before new : Letters) → i < length xs → Appends old before (mask_text w (take i xs))
    → Appends before new (digit (behind i w)) → Appends old new (mask_text w (take (i + 1) xs))
more_marked w i xs old before new less digits mark =
    let next : i + 1 ≡ suc i = omega arith in
    subst (Appends old new) (sym (ap (λ n. mask_text w (take n xs)) next ∙ one_more w i xs less)) (appends_both digits mark)
