-- Lists whose items pass a test, and what stands at a place of them.
use Rattle.std.proofs.Common.{◌≡◌, ◌<◌, ◌+◌, ℕ, zero, suc, Bool, true, false, ◌&&◌, if◌then◌else◌, refl, sym, ◌∙◌, ap, subst, arith, List, [], ◌∷◌, ◌++◌, length, map, get_or, Some}
use Rattle.std.specs.Prelude.{filter, replicate, set, option_map}
use Rattle.bus_semantics.specs.Common.{list_all, slice_get, and_parts, slice_get-map, slice_get-get_or, every_from}

-- ---- all pass

pub all_end : {X : Type 0} (q : X → Bool) (xs : List X) (n : X) → list_all q xs ≡ true → q n ≡ true → list_all q (xs ++ n ∷ []) ≡ true
all_end q [] n all last = ap (λ b. b && true) last
all_end q (x ∷ xs) n all last = let parts = and_parts (q x) (list_all q xs) all in ap (λ b. b && list_all q (xs ++ n ∷ [])) parts.0 ∙ all_end q xs n parts.1 last

-- what is picked by a test passes it
pub all_filter : {X : Type 0} (t : X → Bool) (xs : List X) → list_all t (filter t xs) ≡ true
all_filter t [] = refl
all_filter t (x ∷ xs) = by_test (t x) refl (all_filter t xs)
  where
    by_test : (b : Bool) → t x ≡ b → list_all t (filter t xs) ≡ true → list_all t (if b then x ∷ filter t xs else filter t xs) ≡ true
    by_test true e rest = ap (λ b. b && list_all t (filter t xs)) e ∙ rest
    by_test false e rest = rest

-- and what all pass, the picked ones pass
pub all_kept : {X : Type 0} (q t : X → Bool) (xs : List X) → list_all q xs ≡ true → list_all q (filter t xs) ≡ true
all_kept q t [] all = refl
all_kept q t (x ∷ xs) all = by_test (t x) (all_kept q t xs (and_parts (q x) (list_all q xs) all).1)
  where
    by_test : (b : Bool) → list_all q (filter t xs) ≡ true → list_all q (if b then x ∷ filter t xs else filter t xs) ≡ true
    by_test true rest = ap (λ b. b && list_all q (filter t xs)) (and_parts (q x) (list_all q xs) all).0 ∙ rest
    by_test false rest = rest

-- what stands somewhere passes
pub all_at : {X : Type 0} (ok : X → Bool) (ys : List X) (i : ℕ) (x : X) → list_all ok ys ≡ true → slice_get ys i ≡ Some x → ok x ≡ true
all_at ok [] i x all e = absurd (cc e)
all_at ok (y ∷ ys) zero x all e = let same : y ≡ x = cc in subst (λ z. ok z ≡ true) same (and_parts (ok y) (list_all ok ys) all).0
all_at ok (y ∷ ys) (suc i) x all e = all_at ok ys i x (and_parts (ok y) (list_all ok ys) all).1 e

-- the same of a test that looks at the place too
pub every_at : {X : Type 0} (f : ℕ → X → Bool) (i : ℕ) (xs : List X) → every_from i f xs ≡ true → (j k : ℕ) (x : X) → k ≡ i + j → slice_get xs j ≡ Some x → f k x ≡ true
every_at f i [] all j k x at found = absurd (cc found)
every_at f i (y ∷ xs) all zero k x at found =
    let first : f i y ≡ true = (and_parts (f i y) (every_from (i + 1) f xs) all).0 in
    let here : k ≡ i = omega arith in
    let there : y ≡ x = cc in
    subst (λ n. f n x ≡ true) (sym here) (subst (λ z. f i z ≡ true) there first)
every_at f i (y ∷ xs) all (suc j) k x at found = every_at f (i + 1) xs (and_parts (f i y) (every_from (i + 1) f xs) all).1 j k x (omega arith) found

pub every_all : {X : Type 0} (f : ℕ → X → Bool) (i : ℕ) (xs : List X) → ((j k : ℕ) (x : X) → k ≡ i + j → slice_get xs j ≡ Some x → f k x ≡ true) → every_from i f xs ≡ true
every_all f i [] each = refl
every_all f i (x ∷ xs) each =
    let first : f i x ≡ true = each zero i x (omega arith) refl in
    let rest : every_from (i + 1) f xs ≡ true = every_all f (i + 1) xs (λ j k y at found. each (suc j) k y (omega arith) found) in
    ap (λ b. b && every_from (i + 1) f xs) first ∙ rest

-- ---- maps that agree on what passes

pub map_all : {X B : Type 0} (ok : X → Bool) (f g : X → B) (ys : List X) → list_all ok ys ≡ true → ((y : X) → ok y ≡ true → f y ≡ g y) → map f ys ≡ map g ys
map_all ok f g [] all each = refl
map_all ok f g (y ∷ ys) all each = let parts = and_parts (ok y) (list_all ok ys) all in
    λ i. each y parts.0 i ∷ map_all ok f g ys parts.1 each i

-- a list as long as a map that has one item throughout
pub filled_all : {X B C : Type 0} (ok : X → Bool) (f : X → C) (g : X → B) (b : B) (ys : List X) → list_all ok ys ≡ true → ((y : X) → ok y ≡ true → g y ≡ b) → replicate (length (map f ys)) b ≡ map g ys
filled_all ok f g b [] all each = refl
filled_all ok f g b (y ∷ ys) all each = let parts = and_parts (ok y) (list_all ok ys) all in
    λ i. sym (each y parts.0) i ∷ filled_all ok f g b ys parts.1 each i

-- ---- what stands at a place

pub mapped_at : {X B : Type 0} (f : X → B) (ys : List X) (i : ℕ) (x : X) → slice_get ys i ≡ Some x → slice_get (map f ys) i ≡ Some (f x)
mapped_at f ys i x e = slice_get-map f ys i ∙ ap (option_map f) e

-- an item replaced by itself
pub set_same : {X : Type 0} (xs : List X) (i : ℕ) (x : X) → slice_get xs i ≡ Some x → set xs i x ≡ xs
set_same [] i x e = refl
set_same (y ∷ xs) zero x e = let same : y ≡ x = cc in ap (λ z. z ∷ xs) (sym same)
set_same (y ∷ xs) (suc i) x e = ap (λ zs. y ∷ zs) (set_same xs i x e)

-- an item that code took by its index
pub at_index : {X : Type 0} (xs ys : List X) (i : ℕ) (x : X) → ys ≡ xs → x ≡ get_or ys i x → i < length xs → slice_get xs i ≡ Some x
at_index xs ys i x same is within = slice_get-get_or xs i x within ∙ ap (λ z. Some z) (sym (is ∙ ap (λ l. get_or l i x) same))
