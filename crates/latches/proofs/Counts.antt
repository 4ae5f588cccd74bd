-- How many flags pass a test, as flags change.
use Rattle.std.proofs.Common.{◌≡◌, ◌+◌, ℕ, refl, sym, ◌∙◌, ap, arith, Bool, true, false, cond, List, [], ◌∷◌, set, map, Some}
use Rattle.std.specs.List.{slice_get, count_by}
use Rattle.std.proofs.lemmas.List.Sums.{sum_by-set, sum_by-cons}
use Rattle.std.proofs.lemmas.Option.{slice_get_within, get_or_from_slice_get}

abbrev pub one_if : Bool → ℕ
one_if b = cond b 1 0

counted : {X : Type 0} (test : X → Bool) (xs : List X) (at : ℕ) (x y : X) → slice_get xs at ≡ Some x → count_by test (set xs at y) + one_if (test x) ≡ count_by test xs + one_if (test y)
counted test xs at x y found =
    ap (λ z. count_by test (set xs at y) + one_if (test z)) (sym (get_or_from_slice_get xs at x x found)) ∙ sum_by-set (λ z. one_if (test z)) xs at y x (slice_get_within xs at x found)

pub count_same : {X : Type 0} (test : X → Bool) (xs : List X) (at : ℕ) (x y : X) → slice_get xs at ≡ Some x → test y ≡ test x → count_by test (set xs at y) ≡ count_by test xs
count_same test xs at x y found same = omega (arith, counted test xs at x y found, ap one_if same)

pub count_more : {X : Type 0} (test : X → Bool) (xs : List X) (at : ℕ) (x y : X) → slice_get xs at ≡ Some x → test x ≡ false → test y ≡ true → count_by test (set xs at y) ≡ count_by test xs + 1
count_more test xs at x y found was now = omega (arith, counted test xs at x y found, ap one_if was, ap one_if now)

pub count_map : {X Y : Type 0} (test : X → Bool) (these : Y → Bool) (f : Y → X) → ((y : Y) → test (f y) ≡ these y) → (ys : List Y) → count_by test (map f ys) ≡ count_by these ys
count_map test these f same [] = refl
count_map test these f same (y ∷ ys) =
    sum_by-cons (λ x. one_if (test x)) (f y) (map f ys) ∙ ap (λ b. one_if b + count_by test (map f ys)) (same y) ∙ ap (λ n. one_if (these y) + n) (count_map test these f same ys)
    ∙ sym (sum_by-cons (λ z. one_if (these z)) y ys)
