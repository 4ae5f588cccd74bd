-- Two beginnings of one list.
use Rattle.std.proofs.Common.{◌≡◌, ◌≤◌, ℕ, List, ◌++◌, length, take, drop, refl, sym, ap, ◌∙◌}
use Rattle.std.proofs.lemmas.List.{take-append-drop, take-append-le, take_at}

-- the shorter one begins the longer one
pub shorter : (a x b y : List ℕ) → a ++ x ≡ b ++ y → length a ≤ length b → b ≡ a ++ drop (length a) b
shorter a x b y same short =
    let first : take (length a) b ≡ a =
    sym (take-append-le (length a) b y short) ∙ ap (λ (l : List ℕ). take (length a) l) (sym same) ∙ take_at a x (length a) refl in
    sym (take-append-drop (length a) b) ∙ ap (λ (l : List ℕ). l ++ drop (length a) b) first
