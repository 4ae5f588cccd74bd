-- Marks: one after the other, and those beyond a list.
use Rattle.std.proofs.Common.{◌≡◌, ℕ, suc, ◌+◌, ◌/◌, ◌%◌, ◌^◌, ◌<◌, ◌≤◌, Bool, true, false, cond, ◌==◌, nat_lt, List, ◌∷◌, length, drop, get_or, refl, ap, ◌∙◌, arith}
use Rattle.std.proofs.Math.Nat.{div-lt_iff_lt-mul, pow-le-pow_right}
use Rattle.std.proofs.Math.Seq.{drop-cons}
use Rattle.bus_semantics.specs.Common.{eq-eqb, eqb-true, lt-ltb, marked, words_at, words_of_all, Plan}
use Rattle.std.proofs.lemmas.Bool.{ltb_from_iff}
use Rattle.std.proofs.lemmas.Nat.{pow_pos}

-- the words of the marked elements, by those of the first one
words_by_first : (p : Plan) (w x : ℕ) (xs : List ℕ) → words_of_all p (marked w (x ∷ xs)) ≡ cond (w % 2 == 1) (words_at p x) 0 + words_of_all p (marked (w / 2) xs)
words_by_first p w x xs = by_mark (w % 2 == 1)
  where
    by_mark : (b : Bool) → words_of_all p (cond b (x ∷ marked (w / 2) xs) (marked (w / 2) xs)) ≡ cond b (words_at p x) 0 + words_of_all p (marked (w / 2) xs)
    by_mark true = refl
    by_mark false = omega arith

-- the same at a place of the list
pub words_by_next : (p : Plan) (w i : ℕ) (xs : List ℕ) → i < length xs
    → words_of_all p (marked w (drop i xs)) ≡ cond (w % 2 == 1) (words_at p (get_or xs i 0)) 0 + words_of_all p (marked (w / 2) (drop (i + 1) xs))
words_by_next p w i xs less =
    let next : suc i ≡ i + 1 = omega arith in
    ap (λ ys. words_of_all p (marked w ys)) (drop-cons xs i 0 less)
    ∙ words_by_first p w (get_or xs i 0) (drop (suc i) xs)
    ∙ ap (λ n. cond (w % 2 == 1) (words_at p (get_or xs i 0)) 0 + words_of_all p (marked (w / 2) (drop n xs))) next

-- no mark is beyond a list exactly if none is left behind as many marks
pub none_beyond : (w n : ℕ) → (w / 2 ^ n == 0) ≡ nat_lt w (2 ^ n)
none_beyond w n =
    let iff = div-lt_iff_lt-mul {k = 2 ^ n} {x = w} {y = 1} (pow_pos n) in
    ltb_from_iff ((λ e. let none : w / 2 ^ n ≡ 0 = eqb-true (w / 2 ^ n) 0 e in let less = iff.0 (omega arith) in omega arith), (λ less. eq-eqb (w / 2 ^ n) 0 (let none = iff.1 (omega arith) in omega arith)))

-- a list of 16 elements has all marks
pub all_within : (w n : ℕ) → w < 65536 → 16 ≤ n → nat_lt w (2 ^ n) ≡ true
all_within w n few long =
    let most : 2 ^ 16 ≤ 2 ^ n = pow-le-pow_right (omega arith) long in
    lt-ltb w (2 ^ n) (omega arith)
