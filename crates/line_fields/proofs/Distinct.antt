-- Lists of names, each once, and lists side by side.
use Rattle.std.proofs.Common.{◌≡◌, ℕ, zero, suc, ◌<◌, Bool, true, false, not, ◌==◌, List, [], ◌∷◌, map, length, get_or, Some, refl, ap, ◌∙◌, subst, arith}
use Rattle.std.specs.List.{AllZip}
use Rattle.bus_semantics.specs.Common.{list_all, list_any, slice_get, option_map, and_parts, and_from, eq-eqb, or_parts, slice_get-map, Named, named_once, same_named, same_numbers}

not_true : (b : Bool) → not b ≡ true → b ≡ false
not_true true h = absurd (cc)
not_true false h = refl

any_at : {X : Type 0} (f : X → Bool) (xs : List X) → list_any f xs ≡ false → (i : ℕ) (x : X) → slice_get xs i ≡ Some x → f x ≡ false
any_at {X} f [] h i x e = absurd (cc)
any_at {X} f (y ∷ ys) h zero x e = let same : y ≡ x = cc in subst (λ z. f z ≡ false) same (or_parts (f y) (list_any f ys) h).0
any_at {X} f (y ∷ ys) h (suc i) x e = any_at {X = X} f ys (or_parts (f y) (list_any f ys) h).1 i x e

named_apart : (ns : List Named) → named_once ns ≡ true → (y x : ℕ) → y < x → (a b : Named) → slice_get ns y ≡ Some a → slice_get ns x ≡ Some b → same_named a b ≡ false
named_apart [] h y x less a b e f = absurd (cc)
named_apart (n ∷ ns) h zero zero less a b e f = absurd (omega arith)
named_apart (n ∷ ns) h zero (suc x) less a b e f =
    let same : n ≡ a = cc in
    subst (λ m. same_named m b ≡ false) same (any_at (same_named n) ns (not_true (list_any (same_named n) ns) (and_parts (not (list_any (same_named n) ns)) (named_once ns) h).0) x b f)
named_apart (n ∷ ns) h (suc y) zero less a b e f = absurd (omega arith)
named_apart (n ∷ ns) h (suc y) (suc x) less a b e f = named_apart ns (and_parts (not (list_any (same_named n) ns)) (named_once ns) h).1 y x (omega arith) a b e f

same_self : (t : List ℕ) → same_numbers t t ≡ true
same_self [] = refl
same_self (n ∷ ns) = and_from (n == n) (same_numbers ns ns) (eq-eqb n n refl) (same_self ns)

-- two things with one label
pub labels_apart : {X : Type 0} (label : X → Named) (xs : List X) → named_once (map label xs) ≡ true → (y x : ℕ) → y < x → (u v : X) → slice_get xs y ≡ Some u → slice_get xs x ≡ Some v → label u ≡ label v → ⊥
labels_apart {X} label xs once y x less u v e f same =
    let apart = named_apart (map label xs) once y x less (label u) (label v) (slice_get-map label xs y ∙ ap (option_map label) e) (slice_get-map label xs x ∙ ap (option_map label) f) in
    let alike : same_named (label u) (label v) ≡ true = subst (λ n. same_named (label u) n ≡ true) same (and_from ((label u).0 == (label u).0) _ (eq-eqb (label u).0 (label u).0 refl) (same_self (label u).1)) in
    cc

pub all_at : {X : Type 0} (test : X → Bool) (xs : List X) (i : ℕ) (x : X) → list_all test xs ≡ true → slice_get xs i ≡ Some x → test x ≡ true
all_at {X} test [] i x h e = absurd (cc)
all_at {X} test (y ∷ ys) zero x h e = let same : y ≡ x = cc in subst (λ z. test z ≡ true) same (and_parts (test y) (list_all test ys) h).0
all_at {X} test (y ∷ ys) (suc i) x h e = all_at {X = X} test ys i x (and_parts (test y) (list_all test ys) h).1 e

-- ---- lists of which each item of one belongs to the one at the same place of the other

pub as_many : {A B : Type 0} (R : A → B → Type 0) (xs : List A) (ys : List B) → AllZip R xs ys → length ys ≡ length xs
as_many R [] [] are = refl
as_many R [] (y ∷ ys) are = absurd are
as_many R (x ∷ xs) [] are = absurd are
as_many R (x ∷ xs) (y ∷ ys) are = ap suc (as_many R xs ys are.1)

pub at_place : {A B : Type 0} (R : A → B → Type 0) (xs : List A) (ys : List B) (i : ℕ) (d : A) (e : B) → AllZip R xs ys → i < length xs → R (get_or xs i d) (get_or ys i e)
at_place R [] ys i d e are less = let none : ⊥ = omega (arith, less) in absurd none
at_place R (x ∷ xs) [] i d e are less = absurd are
at_place R (x ∷ xs) (y ∷ ys) zero d e are less = are.0
at_place R (x ∷ xs) (y ∷ ys) (suc i) d e are less = at_place R xs ys i d e are.1 (omega (arith, less))
