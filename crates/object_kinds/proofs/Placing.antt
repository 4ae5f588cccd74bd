-- Where a number stands in a list (`place`), and lists by place of which one item is replaced.
use Rattle.std.proofs.Common.{◌≡◌, ◌<◌, ℕ, zero, suc, Bool, true, false, not, ◌==◌, if◌then◌else◌, refl, sym, ◌∙◌, ap, subst, arith, List, [], ◌∷◌, ◌++◌, length, map, Option, Some, None}
use Rattle.std.specs.Prelude.{filter, set, option_map}
use Rattle.bus_semantics.specs.Common.{list_all, list_any, slice_get, and_parts, eq-eqb, eqb-true, not-true, or_parts, nat_tests, filter-append, slice_get_within, positions, is_distinct}
use Rattle.object_kinds.specs.Layout.{place}
use Rattle.object_kinds.proofs.Options.{clash, mapped_some}

-- ---- what has a place stands there

pub place_at : (x : ℕ) (ys : List ℕ) (i : ℕ) → place x ys ≡ Some i → slice_get ys i ≡ Some x
place_at x [] i e = absurd (cc e)
place_at x (y ∷ ys) i e = by_test (x == y) refl (place_at x ys) e
  where
    by_test : (b : Bool) → (x == y) ≡ b → ((j : ℕ) → place x ys ≡ Some j → slice_get ys j ≡ Some x) → (if b then Some zero else option_map (λ j. suc j) (place x ys)) ≡ Some i → slice_get (y ∷ ys) i ≡ Some x
    by_test true t before f = let zero_is : zero ≡ i = cc in let same : x ≡ y = eqb-true x y t in
        subst (λ j. slice_get (y ∷ ys) j ≡ Some x) zero_is (ap (λ z. Some z) (sym same))
    by_test false t before f = let m = mapped_some (λ j. suc j) (place x ys) i f in
        subst (λ j. slice_get (y ∷ ys) j ≡ Some x) m.gives (before m.item m.is)

pub place_within : (x : ℕ) (ys : List ℕ) (i : ℕ) → place x ys ≡ Some i → i < length ys
place_within x ys i e = slice_get_within ys i x (place_at x ys i e)

-- ---- what passes has a place among the positions that do

pub record Placed (x : ℕ) (xs : List ℕ) : Type 0 where
  pub at : ℕ
  pub is : place x xs ≡ Some at

placed_test : (x y : ℕ) (xs : List ℕ) (b : Bool) → (x == y) ≡ b → (b ≡ false → Placed x xs) → Placed x (y ∷ xs)
placed_test x y xs true t deeper = record { at = zero; is = rw t refl }
placed_test x y xs false t deeper = let before = deeper refl in let is = before.is in record { at = suc before.at; is = rw (t, is) refl }

placed_tail : (x y : ℕ) (xs : List ℕ) → (x == y) ≡ false → Placed x (y ∷ xs) → Placed x xs
placed_tail x y xs other p = by_place (place x xs) refl
  where
    by_place : (o : Option ℕ) → place x xs ≡ o → Placed x xs
    by_place None none = let gone : place x (y ∷ xs) ≡ None = rw (other, none) refl in absurd (cc (sym gone ∙ p.is))
    by_place (Some i) there = record { at = i; is = there }

placed_more : (x : ℕ) (xs ys : List ℕ) → Placed x xs → Placed x (xs ++ ys)
placed_more x [] ys p = let is = p.is in absurd (cc is)
placed_more x (y ∷ xs) ys p = by_test (x == y) refl (placed_more x xs ys)
  where
    by_test : (b : Bool) → (x == y) ≡ b → (Placed x xs → Placed x (xs ++ ys)) → Placed x (y ∷ (xs ++ ys))
    by_test true t deeper = record { at = zero; is = rw t refl }
    by_test false t deeper = placed_test x y (xs ++ ys) false t (λ f. deeper (placed_tail x y xs t p))

placed_end : (x : ℕ) (xs : List ℕ) → Placed x (xs ++ x ∷ [])
placed_end x [] = record { at = zero; is = let t : (x == x) ≡ true = eq-eqb x x refl in rw t refl }
placed_end x (y ∷ xs) = let rest = placed_end x xs in placed_test x y (xs ++ x ∷ []) (x == y) refl (λ f. rest)

pub placed : (t : ℕ → Bool) (n x : ℕ) → x < n → t x ≡ true → Placed x (filter t (positions n))
placed t zero x less passes = absurd (omega arith)
placed t (suc n) x less passes = subst (Placed x) (sym (filter-append t (positions n) (n ∷ []))) (by_test (x == n) refl (λ below. placed t n x below passes))
  where
    by_test : (b : Bool) → (x == n) ≡ b → (x < n → Placed x (filter t (positions n))) → Placed x (filter t (positions n) ++ (if t n then n ∷ [] else []))
    by_test true is before =
        let same : n ≡ x = sym (eqb-true x n is) in
        subst (λ k. Placed x (filter t (positions n) ++ (if t k then k ∷ [] else []))) (sym same)
        (subst (λ b. Placed x (filter t (positions n) ++ (if b then x ∷ [] else []))) (sym passes) (placed_end x (filter t (positions n))))
    by_test false is before = let below : x < n = grind (arith, nat_tests) in placed_more x (filter t (positions n)) (if t n then n ∷ [] else []) (before below)

-- and only what passes has one
pub place_none : (t : ℕ → Bool) (xs : List ℕ) (x : ℕ) → list_all t xs ≡ true → t x ≡ false → place x xs ≡ None
place_none t [] x all other = refl
place_none t (y ∷ xs) x all other =
    let parts = and_parts (t y) (list_all t xs) all in
    let apart : (x == y) ≡ false = differ (x == y) refl parts.0 in
    rw apart (ap (option_map (λ j. suc j)) (place_none t xs x parts.1 other))
  where
    differ : (b : Bool) → (x == y) ≡ b → t y ≡ true → (x == y) ≡ false
    differ true same passes = clash (t x) (ap t (eqb-true x y same) ∙ passes) other
    differ false same passes = same

-- ---- lists by place, in which each number stands once

-- what holds of all numbers but one that is not there holds of all
others_all : {B : Type 0} (ok : ℕ → Bool) (f g : ℕ → B) (x : ℕ) (ys : List ℕ) → list_all ok ys ≡ true → list_any (λ m. m == x) ys ≡ false
    → ((y : ℕ) → ok y ≡ true → (x == y) ≡ false → f y ≡ g y) → map f ys ≡ map g ys
others_all ok f g x [] all none each = refl
others_all ok f g x (y ∷ ys) all none each =
    let parts = and_parts (ok y) (list_all ok ys) all in
    let absent = or_parts (y == x) (list_any (λ m. m == x) ys) none in
    λ i. each y parts.0 (other (x == y) refl absent.0) i ∷ others_all ok f g x ys parts.1 absent.1 each i
  where
    other : (b : Bool) → (x == y) ≡ b → (y == x) ≡ false → (x == y) ≡ false
    other true t off = clash (y == x) (eq-eqb y x (sym (eqb-true x y t))) off
    other false t off = t

-- the one at the place of `x` is set, and all others stay
pub set_all : {B : Type 0} (ok : ℕ → Bool) (f g : ℕ → B) (b : B) (x : ℕ) (ys : List ℕ) (i : ℕ) → list_all ok ys ≡ true → is_distinct ys ≡ true → place x ys ≡ Some i
    → g x ≡ b → ((y : ℕ) → ok y ≡ true → (x == y) ≡ false → f y ≡ g y) → set (map f ys) i b ≡ map g ys
set_all ok f g b x [] i all once at here each = absurd (cc at)
set_all ok f g b x (y ∷ ys) i all once at here each =
    by_test (x == y) refl
    (λ j there. set_all ok f g b x ys j (and_parts (ok y) (list_all ok ys) all).1 (and_parts (not (list_any (λ n. n == y) ys)) (is_distinct ys) once).1 there here each) at
  where
    by_test : (t : Bool) → (x == y) ≡ t → ((j : ℕ) → place x ys ≡ Some j → set (map f ys) j b ≡ map g ys) → (if t then Some zero else option_map (λ j. suc j) (place x ys)) ≡ Some i → set (map f (y ∷ ys)) i b ≡ map g (y ∷ ys)
    by_test true t before e =
        let zero_is : zero ≡ i = cc in
        let same : x ≡ y = eqb-true x y t in
        let absent : list_any (λ m. m == y) ys ≡ false = not-true (list_any (λ m. m == y) ys) (and_parts (not (list_any (λ m. m == y) ys)) (is_distinct ys) once).0 in
        let rest : map f ys ≡ map g ys = others_all ok f g x ys (and_parts (ok y) (list_all ok ys) all).1 (subst (λ z. list_any (λ m. m == z) ys ≡ false) (sym same) absent) each in
        subst (λ j. set (map f (y ∷ ys)) j b ≡ map g (y ∷ ys)) zero_is (λ k. (sym here ∙ ap g same) k ∷ rest k)
    by_test false t before e =
        let m = mapped_some (λ j. suc j) (place x ys) i e in
        let parts = and_parts (ok y) (list_all ok ys) all in
        let rest : set (map f ys) m.item b ≡ map g ys = before m.item m.is in
        subst (λ j. set (map f (y ∷ ys)) j b ≡ map g (y ∷ ys)) m.gives (λ k. each y parts.0 t k ∷ rest k)

-- a test of two numbers, the other way round
pub other_way : (x y : ℕ) → (x == y) ≡ false → (y == x) ≡ false
other_way x y off = by_test (y == x) refl
  where
    by_test : (b : Bool) → (y == x) ≡ b → (y == x) ≡ false
    by_test true t = clash (x == y) (eq-eqb x y (sym (eqb-true y x t))) off
    by_test false t = t
