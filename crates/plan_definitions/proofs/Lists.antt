-- What is in a list that is made of others, by its positions too, and what a test of such a list says of each of its items.
use Rattle.std.proofs.Common.{◌≡◌, ℕ, zero, suc, ◌+◌, ◌<◌, List, [], ◌∷◌, ◌++◌, length, map, filter, Bool, true, false, cond, ◌||◌, ◌==◌, nat_eq, bytes_eq, is_some, Option, Some, None, ◌⊎◌}
use Rattle.std.proofs.Common.{inl, inr, ⊎_elim, refl, sym, ap, subst, ◌∙◌, true≢false, arith, slice_get}
use Rattle.bus_semantics.specs.Common.{and_from, and_parts, eq-eqb, eqb-true, false≢true, or_cases, or_left, or_parts, or_right, map-append, find, flat_map, list_all, list_any, same_numbers}
use Rattle.plan_definitions.specs.Common.{Among, from, positions}

module _ {X : Type 0} where
  pub left : (x : X) (xs ys : List X) → Among x xs → Among x (xs ++ ys)
  left x [] ys h = absurd h
  left x (y ∷ xs) ys (inl e) = inl e
  left x (y ∷ xs) ys (inr h) = inr (left x xs ys h)

  pub right : (x : X) (xs ys : List X) → Among x ys → Among x (xs ++ ys)
  right x [] ys h = h
  right x (y ∷ xs) ys h = inr (right x xs ys h)

  pub cases : (x : X) (xs ys : List X) → Among x (xs ++ ys) → Among x xs ⊎ Among x ys
  cases x [] ys h = inr h
  cases x (y ∷ xs) ys (inl e) = inl (inl e)
  cases x (y ∷ xs) ys (inr h) = ⊎_elim (λ l. inl (inr l)) (λ r. inr r) (cases x xs ys h)

  -- an item by its position
  pub at : (xs : List X) (n : ℕ) (x : X) → slice_get xs n ≡ Some x → Among x xs
  at [] n x h = cc
  at (y ∷ xs) zero x h = inl cc
  at (y ∷ xs) (suc n) x h = inr (at xs n x h)

  pub place : (x : X) (xs : List X) → Among x xs → (n : ℕ) × (slice_get xs n ≡ Some x)
  place x [] h = absurd h
  place x (y ∷ xs) (inl e) = (0, ap (λ z. Some z) (sym e))
  place x (y ∷ xs) (inr h) = let p = place x xs h in (suc p.0, p.1)

  pub there : (xs : List X) (n : ℕ) → n < length xs → (x : X) × (slice_get xs n ≡ Some x)
  there [] n h = absurd (omega arith)
  there (y ∷ xs) zero h = (y, refl)
  there (y ∷ xs) (suc n) h = there xs n (omega arith)

-- tests
module _ {X : Type 0} (test : X → Bool) where
  pub all_from : (xs : List X) → ((x : X) → Among x xs → test x ≡ true) → list_all test xs ≡ true
  all_from [] each = refl
  all_from (y ∷ xs) each = and_from (test y) (list_all test xs) (each y (inl refl)) (all_from xs (λ x h. each x (inr h)))

  pub all_at : (xs : List X) → list_all test xs ≡ true → (x : X) → Among x xs → test x ≡ true
  all_at [] h x among = absurd among
  all_at (y ∷ xs) h x (inl is) = ap test is ∙ (and_parts (test y) (list_all test xs) h).0
  all_at (y ∷ xs) h x (inr later) = all_at xs (and_parts (test y) (list_all test xs) h).1 x later

  pub any_at : (xs : List X) → list_any test xs ≡ true → (x : X) × Among x xs × (test x ≡ true)
  any_at [] h = absurd (true≢false (sym h))
  any_at (x ∷ xs) h = ⊎_elim (λ e. (x, inl refl, e)) (λ later. let p = any_at xs later in (p.0, inr p.1, p.2)) (or_cases (test x) (list_any test xs) h)

  pub any_from : (xs : List X) (x : X) → Among x xs → test x ≡ true → list_any test xs ≡ true
  any_from [] x h e = absurd h
  any_from (y ∷ xs) x (inl is) e = or_left (test y) (list_any test xs) (sym (ap test is) ∙ e)
  any_from (y ∷ xs) x (inr h) e = or_right (test y) (list_any test xs) (any_from xs x h e)

  pub none_at : (xs : List X) → list_any test xs ≡ false → (x : X) → Among x xs → test x ≡ false
  none_at [] h x among = absurd among
  none_at (y ∷ xs) h x (inl is) = ap test is ∙ (or_parts (test y) (list_any test xs) h).0
  none_at (y ∷ xs) h x (inr later) = none_at xs (or_parts (test y) (list_any test xs) h).1 x later

  pub found : (xs : List X) (x : X) → find test xs ≡ Some x → Among x xs × (test x ≡ true)
  found [] x h = cc
  found (y ∷ xs) x h = by (test y) refl h (found xs x)
    where
      by : (b : Bool) → test y ≡ b → cond b (Some y) (find test xs) ≡ Some x → (find test xs ≡ Some x → Among x xs × (test x ≡ true)) → Among x (y ∷ xs) × (test x ≡ true)
      by true passes is later = let e : y ≡ x = cc in (inl (sym e), ap test (sym e) ∙ passes)
      by false fails is later = let p = later is in (inr p.0, p.1)

  -- a filter
  pub kept : (xs : List X) (x : X) → Among x xs → test x ≡ true → Among x (filter test xs)
  kept [] x h e = absurd h
  kept (y ∷ xs) x (inl is) e = subst (λ b. Among x (cond b (y ∷ filter test xs) (filter test xs))) (sym (sym (ap test is) ∙ e)) (inl is)
  kept (y ∷ xs) x (inr h) e = by (test y) (kept xs x h e)
    where
      by : (b : Bool) → Among x (filter test xs) → Among x (cond b (y ∷ filter test xs) (filter test xs))
      by true later = inr later
      by false later = later

  pub unkept : (xs : List X) (x : X) → Among x (filter test xs) → Among x xs × (test x ≡ true)
  unkept [] x h = absurd h
  unkept (y ∷ xs) x h = by (test y) refl h (λ later. let p = unkept xs x later in (inr p.0, p.1))
    where
      by : (b : Bool) → test y ≡ b → Among x (cond b (y ∷ filter test xs) (filter test xs)) → (Among x (filter test xs) → Among x (y ∷ xs) × (test x ≡ true)) → Among x (y ∷ xs) × (test x ≡ true)
      by true passes (inl is) more = (inl is, ap test is ∙ passes)
      by true passes (inr later) more = more later
      by false fails later more = more later

-- a map
module _ {X Y : Type 0} (f : X → Y) where
  pub mapped : (xs : List X) (x : X) → Among x xs → Among (f x) (map f xs)
  mapped [] x h = absurd h
  mapped (y ∷ xs) x (inl is) = inl (ap f is)
  mapped (y ∷ xs) x (inr h) = inr (mapped xs x h)

  pub unmapped : (xs : List X) (y : Y) → Among y (map f xs) → (x : X) × Among x xs × (y ≡ f x)
  unmapped [] y h = absurd h
  unmapped (x ∷ xs) y (inl is) = (x, inl refl, is)
  unmapped (x ∷ xs) y (inr h) = let p = unmapped xs y h in (p.0, inr p.1, p.2)

  pub map_get : (xs : List X) (n : ℕ) (x : X) → slice_get xs n ≡ Some x → slice_get (map f xs) n ≡ Some (f x)
  map_get [] n x h = cc
  map_get (y ∷ xs) zero x h = let e : y ≡ x = cc in ap (λ z. Some (f z)) e
  map_get (y ∷ xs) (suc n) x h = map_get xs n x h

  pub get_map : (xs : List X) (n : ℕ) (y : Y) → slice_get (map f xs) n ≡ Some y → (x : X) × (slice_get xs n ≡ Some x) × (f x ≡ y)
  get_map [] n y h = cc
  get_map (x ∷ xs) zero y h = (x, refl, cc)
  get_map (x ∷ xs) (suc n) y h = get_map xs n y h

  -- tests of what is seen of the items
  pub any_seen : (test : Y → Bool) (xs : List X) → list_any (λ x. test (f x)) xs ≡ list_any test (map f xs)
  any_seen test [] = refl
  any_seen test (x ∷ xs) = ap (λ b. test (f x) || b) (any_seen test xs)

  pub count_seen : (test : Y → Bool) (xs : List X) → length (filter (λ x. test (f x)) xs) ≡ length (filter test (map f xs))
  count_seen test [] = refl
  count_seen test (x ∷ xs) = by (test (f x)) (count_seen test xs)
    where
      by : (b : Bool) → length (filter (λ y. test (f y)) xs) ≡ length (filter test (map f xs)) → length (cond b (x ∷ filter (λ y. test (f y)) xs) (filter (λ y. test (f y)) xs)) ≡ length (cond b (f x ∷ filter test (map f xs)) (filter test (map f xs)))
      by true e = ap (λ n. suc n) e
      by false e = e

module _ {X Y : Type 0} (f : X → List Y) where
  pub flat : (xs : List X) (x : X) (y : Y) → Among x xs → Among y (f x) → Among y (flat_map f xs)
  flat [] x y h g = absurd h
  flat (z ∷ xs) x y (inl e) g = left y (f z) (flat_map f xs) (subst (λ w. Among y (f w)) e g)
  flat (z ∷ xs) x y (inr h) g = right y (f z) (flat_map f xs) (flat xs x y h g)

  pub unflat : (xs : List X) (y : Y) → Among y (flat_map f xs) → (x : X) × Among x xs × Among y (f x)
  unflat [] y h = absurd h
  unflat (z ∷ xs) y h = ⊎_elim (λ here. (z, inl refl, here)) (λ later. let p = unflat xs y later in (p.0, inr p.1, p.2)) (cases y (f z) (flat_map f xs) h)

-- what a function gives of the items and their positions
module _ {X Y : Type 0} (g : ℕ → X → List Y) where
  pub in_from : (i : ℕ) (xs : List X) (n : ℕ) (x : X) (y : Y) → slice_get xs n ≡ Some x → Among y (g (i + n) x) → Among y (from i g xs)
  in_from i [] n x y h among = cc
  in_from i (z ∷ xs) zero x y h among = let e : x ≡ z = cc in let k : i + 0 ≡ i = omega arith in left y (g i z) (from (i + 1) g xs) (subst (λ w. Among y (g i w)) e (subst (λ m. Among y (g m x)) k among))
  in_from i (z ∷ xs) (suc n) x y h among = let k : i + suc n ≡ i + 1 + n = omega arith in right y (g i z) (from (i + 1) g xs) (in_from (i + 1) xs n x y h (subst (λ m. Among y (g m x)) k among))

  pub out_from : (i : ℕ) (xs : List X) (y : Y) → Among y (from i g xs) → (n : ℕ) × (x : X) × (slice_get xs n ≡ Some x) × Among y (g (i + n) x)
  out_from i [] y h = absurd h
  out_from i (z ∷ xs) y h = ⊎_elim
      (λ here. let k : i ≡ i + 0 = omega arith in (0, z, refl, subst (λ m. Among y (g m z)) k here))
      (λ later. let p = out_from (i + 1) xs y later in let k : i + 1 + p.0 ≡ i + suc p.0 = omega arith in (suc p.0, p.1, p.2, subst (λ m. Among y (g m p.1)) k p.3))
      (cases y (g i z) (from (i + 1) g xs) h)

pub in_positions : (i n k : ℕ) → k < n → Among (i + k) (positions i n)
in_positions i zero k h = absurd (omega arith)
in_positions i (suc n) zero h = inl (omega arith)
in_positions i (suc n) (suc k) h = let e : i + 1 + k ≡ i + suc k = omega arith in inr (subst (λ m. Among m (positions (i + 1) n)) e (in_positions (i + 1) n k (omega arith)))

pub out_positions : (i n m : ℕ) → Among m (positions i n) → (k : ℕ) × (k < n) × (m ≡ i + k)
out_positions i zero m h = absurd h
out_positions i (suc n) m (inl e) = (0, omega arith, omega arith)
out_positions i (suc n) m (inr h) = let p = out_positions (i + 1) n m h in (suc p.0, omega (arith, p.1), omega (arith, p.2))

pub position_there : (i n k : ℕ) → k < n → slice_get (positions i n) k ≡ Some (i + k)
position_there i zero k lt = absurd (omega arith)
position_there i (suc n) zero lt = ap (λ m. Some m) (omega arith)
position_there i (suc n) (suc k) lt = position_there (i + 1) n k (omega arith) ∙ ap (λ m. Some m) (omega arith)

pub many_positions : (i n : ℕ) → length (positions i n) ≡ n
many_positions i zero = refl
many_positions i (suc n) = ap (λ m. suc m) (many_positions (i + 1) n)

pub as_many : {Y : Type 0} (F : ℕ → Y) (i n : ℕ) → length (map F (positions i n)) ≡ n
as_many F i zero = refl
as_many F i (suc n) = ap (λ m. suc m) (as_many F (i + 1) n)

-- ---- equal lists

pub same_numbers_is : (a b : List ℕ) → same_numbers a b ≡ true → a ≡ b
same_numbers_is [] [] e = refl
same_numbers_is [] (y ∷ b) e = absurd (false≢true e)
same_numbers_is (x ∷ a) [] e = absurd (false≢true e)
same_numbers_is (x ∷ a) (y ∷ b) e = let two = and_parts (x == y) (same_numbers a b) e in λ j. eqb-true x y two.0 j ∷ same_numbers_is a b two.1 j

pub same_numbers_refl : (xs : List ℕ) → same_numbers xs xs ≡ true
same_numbers_refl [] = refl
same_numbers_refl (x ∷ xs) = and_from (x == x) (same_numbers xs xs) (eq-eqb x x refl) (same_numbers_refl xs)

pub same_bytes : (a b : List ℕ) → bytes_eq a b ≡ true → a ≡ b
same_bytes [] [] h = refl
same_bytes [] (y ∷ b) h = absurd (false≢true h)
same_bytes (x ∷ a) [] h = absurd (false≢true h)
same_bytes (x ∷ a) (y ∷ b) h = let p = and_parts (nat_eq x y) (bytes_eq a b) h in (λ j. eqb-true x y p.0 j ∷ same_bytes a b p.1 j)

pub map_from : {X Y Z : Type 0} (g : Y → Z) (f : ℕ → X → List Y) (n : ℕ) (xs : List X) → map g (from n f xs) ≡ from n (λ i x. map g (f i x)) xs
map_from g f n [] = refl
map_from g f n (x ∷ xs) = map-append g (f n x) (from (n + 1) f xs) ∙ ap (λ l. map g (f n x) ++ l) (map_from g f (n + 1) xs)

-- ---- what is there

pub is_there : {X : Type 0} (o : Option X) → is_some o ≡ true → (x : X) × (o ≡ Some x)
is_there None h = absurd (false≢true h)
is_there (Some x) h = (x, refl)
