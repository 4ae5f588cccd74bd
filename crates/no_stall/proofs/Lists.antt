-- What stands in a list: in its parts, at a place, and where tests hold.
use Rattle.std.proofs.Common.{◌≡◌, ℕ, zero, suc, ◌+◌, ◌<◌, ◌⊎◌, inl, inr, Bool, true, false, ◌||◌, ◌==◌, if◌then◌else◌, refl, sym, ◌∙◌, ap, subst, arith, List, [], ◌∷◌, ◌++◌, map, Some}
use Rattle.bus_semantics.specs.Common.{list_all, list_any, slice_get, and_from, and_parts, or_left, or_right, eqb-true, eq-eqb, false≢true, every_from, positions, count, gathered}

-- x is an item of the list
abbrev pub Among : {X : Type 0} → X → List X → Type 0
Among x [] = ⊥
Among x (y ∷ ys) = (y ≡ x) ⊎ Among x ys

pub among_left : {X : Type 0} (x : X) (xs ys : List X) → Among x xs → Among x (xs ++ ys)
among_left x [] ys never = absurd never
among_left x (z ∷ xs) ys (inl same) = inl same
among_left x (z ∷ xs) ys (inr rest) = inr (among_left x xs ys rest)

pub among_right : {X : Type 0} (x : X) (xs ys : List X) → Among x ys → Among x (xs ++ ys)
among_right x [] ys here = here
among_right x (z ∷ xs) ys here = inr (among_right x xs ys here)

pub among_gathered : {X Y : Type 0} (f : X → List Y) (x : X) (y : Y) (xs : List X) → Among x xs → Among y (f x) → Among y (gathered f xs)
among_gathered f x y [] never here = absurd never
among_gathered f x y (z ∷ xs) (inl same) here = among_left y (f z) (gathered f xs) (subst (λ v. Among y (f v)) (sym same) here)
among_gathered f x y (z ∷ xs) (inr rest) here = among_right y (f z) (gathered f xs) (among_gathered f x y xs rest here)

pub among_map : {X Y : Type 0} (f : X → Y) (x : X) (xs : List X) → Among x xs → Among (f x) (map f xs)
among_map f x [] never = absurd never
among_map f x (z ∷ xs) (inl same) = inl (ap f same)
among_map f x (z ∷ xs) (inr rest) = inr (among_map f x xs rest)

pub among_positions : (i n : ℕ) → i < n → Among i (positions n)
among_positions i zero less = absurd (omega arith)
among_positions i (suc n) less = by_last (among_positions i n) (i == n) refl
  where
    by_last : (i < n → Among i (positions n)) → (b : Bool) → (i == n) ≡ b → Among i (positions n ++ n ∷ [])
    by_last before true is = among_right i (positions n) (n ∷ []) (inl (sym (eqb-true i n is)))
    by_last before false is = let other : i ≡ n → ⊥ = λ same. absurd (false≢true (sym is ∙ eq-eqb i n same)) in
        let lower : i < n = omega arith in among_left i (positions n) (n ∷ []) (before lower)

pub among_at : {X : Type 0} (xs : List X) (i : ℕ) (x : X) → slice_get xs i ≡ Some x → Among x xs
among_at [] i x e = absurd (cc e)
among_at (y ∷ xs) zero x e = inl (cc e)
among_at (y ∷ xs) (suc i) x e = inr (among_at xs i x e)

pub place_of : {X : Type 0} (x : X) (xs : List X) → Among x xs → (i : ℕ) × (slice_get xs i ≡ Some x)
place_of x [] never = absurd never
place_of x (y ∷ xs) (inl same) = (0, ap (λ z. Some z) same)
place_of x (y ∷ xs) (inr rest) = let deeper = place_of x xs rest in (suc deeper.0, deeper.1)

-- ---- tests

pub record Passing (X : Type 0) (f : X → Bool) (xs : List X) : Type 0 where
  pub item : X
  pub among : Among item xs
  pub passes : f item ≡ true

pub any_among : {X : Type 0} (f : X → Bool) (xs : List X) → list_any f xs ≡ true → Passing X f xs
any_among f [] e = absurd (false≢true e)
any_among {X = X} f (x ∷ xs) e = by_first (f x) refl e (any_among f xs)
  where
    by_first : (b : Bool) → f x ≡ b → (b || list_any f xs) ≡ true → (list_any f xs ≡ true → Passing X f xs) → Passing X f (x ∷ xs)
    by_first true is e rest = record { item = x; among = inl refl; passes = is }
    by_first false is e rest = let found = rest e in record { item = found.item; among = inr found.among; passes = found.passes }

pub any_from : {X : Type 0} (f : X → Bool) (x : X) (xs : List X) → Among x xs → f x ≡ true → list_any f xs ≡ true
any_from f x [] never is = absurd never
any_from f x (y ∷ xs) (inl same) is = or_left (f y) (list_any f xs) (ap f same ∙ is)
any_from f x (y ∷ xs) (inr rest) is = or_right (f y) (list_any f xs) (any_from f x xs rest is)

pub all_from : {X : Type 0} (f : X → Bool) (xs : List X) → ((x : X) → Among x xs → f x ≡ true) → list_all f xs ≡ true
all_from f [] each = refl
all_from f (x ∷ xs) each = and_from (f x) (list_all f xs) (each x (inl refl)) (all_from f xs (λ y there. each y (inr there)))

pub all_at : {X : Type 0} (f : X → Bool) (x : X) (xs : List X) → list_all f xs ≡ true → Among x xs → f x ≡ true
all_at f x [] all never = absurd never
all_at f x (y ∷ xs) all (inl same) = subst (λ z. f z ≡ true) same (and_parts (f y) (list_all f xs) all).0
all_at f x (y ∷ xs) all (inr rest) = all_at f x xs (and_parts (f y) (list_all f xs) all).1 rest

pub every_made : {X : Type 0} (f : ℕ → X → Bool) (i : ℕ) (xs : List X) → ((j k : ℕ) (x : X) → k ≡ i + j → slice_get xs j ≡ Some x → f k x ≡ true) → every_from i f xs ≡ true
every_made f i [] each = refl
every_made f i (x ∷ xs) each = and_from (f i x) (every_from (i + 1) f xs) (each 0 i x (omega arith) refl) (every_made f (i + 1) xs (λ j k y at found. each (suc j) k y (omega arith) found))

pub all_positions : (f : ℕ → Bool) (n : ℕ) → ((i : ℕ) → i < n → f i ≡ true) → list_all f (positions n) ≡ true
all_positions f zero each = refl
all_positions f (suc n) each = all_and (positions n) (all_positions f n (λ i less. each i (omega arith))) (each n (omega arith))
  where
    all_and : (xs : List ℕ) → list_all f xs ≡ true → f n ≡ true → list_all f (xs ++ n ∷ []) ≡ true
    all_and [] all is = and_from (f n) true is refl
    all_and (x ∷ xs) all is = let parts = and_parts (f x) (list_all f xs) all in and_from (f x) (list_all f (xs ++ n ∷ [])) parts.0 (all_and xs parts.1 is)

-- a number that is counted once is there
pub counted : (e : ℕ) (xs : List ℕ) → count (λ d. d == e) xs ≡ 1 → Among e xs
counted e [] none = absurd (omega arith)
counted e (x ∷ xs) one = by_first (x == e) refl one (counted e xs)
  where
    by_first : (b : Bool) → (x == e) ≡ b → (if b then suc (count (λ d. d == e) xs) else count (λ d. d == e) xs) ≡ 1 → (count (λ d. d == e) xs ≡ 1 → Among e xs) → Among e (x ∷ xs)
    by_first true is one rest = inl (eqb-true x e is)
    by_first false is one rest = inr (rest one)

pub record Source (X Y : Type 0) (f : X → List Y) (y : Y) (xs : List X) : Type 0 where
  pub item : X
  pub among : Among item xs
  pub gives : Among y (f item)

among_parts : {X : Type 0} (x : X) (xs ys : List X) → Among x (xs ++ ys) → Among x xs ⊎ Among x ys
among_parts x [] ys here = inr here
among_parts x (z ∷ xs) ys (inl same) = inl (inl same)
among_parts x (z ∷ xs) ys (inr rest) = longer (among_parts x xs ys rest)
  where
    longer : Among x xs ⊎ Among x ys → Among x (z ∷ xs) ⊎ Among x ys
    longer (inl one) = inl (inr one)
    longer (inr other) = inr other

pub gathered_from : {X Y : Type 0} (f : X → List Y) (y : Y) (xs : List X) → Among y (gathered f xs) → Source X Y f y xs
gathered_from f y [] never = absurd never
gathered_from {X = X} {Y = Y} f y (x ∷ xs) here = by_part (gathered_from f y xs) (among_parts y (f x) (gathered f xs) here)
  where
    by_part : (Among y (gathered f xs) → Source X Y f y xs) → Among y (f x) ⊎ Among y (gathered f xs) → Source X Y f y (x ∷ xs)
    by_part before (inl one) = record { item = x; among = inl refl; gives = one }
    by_part before (inr other) = let found = before other in record { item = found.item; among = inr found.among; gives = found.gives }
