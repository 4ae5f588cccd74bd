-- The turns of the loops.
use Rattle.std.proofs.Common.{◌≡◌, ℕ, zero, suc, ◌+◌, ◌<◌, ◌≤◌, List, [], ◌∷◌, length, get_or, drop, Bool, true, false, ◌&&◌, ◌==◌, refl, sym, ap, ◌∙◌, arith, zip, add-one}
use Rattle.std.proofs.lemmas.Bool.{eq-eqb}
use Rattle.std.specs.List.{list_all}

module _ {X Y : Type 0} (f : X × Y → Bool) where
  pair_next : (xs : List X) (ys : List Y) (i : ℕ) (x : X) (y : Y) → i < length xs → i < length ys
      → list_all f (zip (drop i xs) (drop i ys)) ≡ (f (get_or xs i x, get_or ys i y) && list_all f (zip (drop (suc i) xs) (drop (suc i) ys)))
  pair_next [] ys i x y a b = absurd (omega arith)
  pair_next (k ∷ xs) [] i x y a b = absurd (omega arith)
  pair_next (k ∷ xs) (l ∷ ys) zero x y a b = refl
  pair_next (k ∷ xs) (l ∷ ys) (suc i) x y a b = pair_next xs ys i x y (omega arith) (omega arith)

  module _ (xs : List X) (ys : List Y) (i : ℕ) (same : length xs ≡ length ys) (so_far : list_all f (zip xs ys) ≡ list_all f (zip (drop i xs) (drop i ys))) where
    pair_turn : (x : X) (y : Y) → i < length xs → x ≡ get_or xs i x → y ≡ get_or ys i y
        → list_all f (zip xs ys) ≡ (f (x, y) && list_all f (zip (drop (i + 1) xs) (drop (i + 1) ys)))
    pair_turn x y within isx isy = so_far ∙ pair_next xs ys i x y within (omega arith)
        ∙ (λ j. f (sym isx j, sym isy j) && list_all f (zip (drop (sym (add-one i) j) xs) (drop (sym (add-one i) j) ys)))

    pub pair_fails : (x : X) (y : Y) → i < length xs → x ≡ get_or xs i x → y ≡ get_or ys i y → f (x, y) ≡ false → false ≡ ((length xs == length ys) && list_all f (zip xs ys))
    pair_fails x y within isx isy bad = sym (ap (λ b. b && list_all f (zip xs ys)) (eq-eqb (length xs) (length ys) same) ∙ pair_turn x y within isx isy ∙ ap (λ b. b && list_all f (zip (drop (i + 1) xs) (drop (i + 1) ys))) bad)

    pub pair_passes : (x : X) (y : Y) → i < length xs → x ≡ get_or xs i x → y ≡ get_or ys i y → f (x, y) ≡ true → list_all f (zip xs ys) ≡ list_all f (zip (drop (i + 1) xs) (drop (i + 1) ys))
    pair_passes x y within isx isy good = pair_turn x y within isx isy ∙ ap (λ b. b && list_all f (zip (drop (i + 1) xs) (drop (i + 1) ys))) good

    pub pairs_pass : length xs ≤ i → true ≡ ((length xs == length ys) && list_all f (zip xs ys))
    pairs_pass past = sym (ap (λ b. b && list_all f (zip xs ys)) (eq-eqb (length xs) (length ys) same) ∙ so_far ∙ ended xs (drop i ys) i past)
      where
        ended : (xs : List X) (zs : List Y) (i : ℕ) → length xs ≤ i → list_all f (zip (drop i xs) zs) ≡ true
        ended [] zs zero past = refl
        ended [] zs (suc i) past = refl
        ended (k ∷ xs) zs zero past = absurd (omega arith)
        ended (k ∷ xs) zs (suc i) past = ended xs zs i (omega arith)
