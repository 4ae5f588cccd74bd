-- Items with keys that differ, and how many of them pass a test.
use Rattle.std.proofs.Common.{◌≡◌, ℕ, zero, suc, ◌+◌, ◌≤◌, List, [], ◌∷◌, ◌++◌, length, map, filter, Bool, true, false, cond, not, ◌&&◌, inl, inr, ⊎_elim, refl, sym, ap, ◌∙◌, true≢false, arith}
use Rattle.plan_definitions.specs.Common.{Among, AllApart, from, positions}
use Rattle.plan_definitions.proofs.Lists.{cases, out_from, out_positions, unkept, unmapped}

module _ {X K : Type 0} (key : X → K) where
  abbrev pub Apart : List X → Type 0
  Apart [] = Unit {0}
  Apart (x ∷ xs) = ((y : X) → Among y xs → key x ≡ key y → ⊥) × Apart xs

  pub apart_append : (xs ys : List X) → Apart xs → Apart ys → ((x y : X) → Among x xs → Among y ys → key x ≡ key y → ⊥) → Apart (xs ++ ys)
  apart_append [] ys first second differ = second
  apart_append (x ∷ xs) ys first second differ = (
    (λ y among. ⊎_elim (first.0 y) (differ x y (inl refl)) (cases y xs ys among)),
    apart_append xs ys first.1 second (λ w y l r. differ w y (inr l) r),
  )

  pub apart_filter : (test : X → Bool) (xs : List X) → Apart xs → Apart (filter test xs)
  apart_filter test [] apart = tt
  apart_filter test (x ∷ xs) apart = by (test x) (apart_filter test xs apart.1)
    where
      by : (b : Bool) → Apart (filter test xs) → Apart (cond b (x ∷ filter test xs) (filter test xs))
      by true rest = ((λ y among. apart.0 y (unkept test xs y among).0), rest)
      by false rest = rest

  pub items_apart : (xs : List X) → Apart xs → AllApart xs
  items_apart [] apart = tt
  items_apart (x ∷ xs) apart = ((λ among. apart.0 x among refl), items_apart xs apart.1)

  -- a key has one item
  pub one_item : (xs : List X) → Apart xs → (x y : X) → Among x xs → Among y xs → key x ≡ key y → x ≡ y
  one_item [] apart x y h g same = absurd h
  one_item (z ∷ xs) apart x y (inl e) (inl f) same = e ∙ sym f
  one_item (z ∷ xs) apart x y (inl e) (inr g) same = absurd (apart.0 y g (sym (ap key e) ∙ same))
  one_item (z ∷ xs) apart x y (inr h) (inl f) same = absurd (apart.0 x h (sym (ap key f) ∙ sym same))
  one_item (z ∷ xs) apart x y (inr h) (inr g) same = one_item xs apart.1 x y h g same

  -- lists by positions, whose keys tell their positions
  pub apart_positions : (F : ℕ → X) → ((m n : ℕ) → key (F m) ≡ key (F n) → m ≡ n) → (i n : ℕ) → Apart (map F (positions i n))
  apart_positions F tells i zero = tt
  apart_positions F tells i (suc n) = (
    (λ y among same.
        let p = unmapped F (positions (i + 1) n) y among in
        let q = out_positions (i + 1) n p.0 p.1 in
        let e = tells i p.0 (same ∙ ap key p.2) in
        omega (arith, e, q.2)),
    apart_positions F tells (i + 1) n,
  )

  pub apart_from : {Z : Type 0} (g : ℕ → Z → List X) (P : ℕ → X → Type 0) → ((n : ℕ) (z : Z) (x : X) → Among x (g n z) → P n x) → ((m n : ℕ) (x y : X) → P m x → P n y → key x ≡ key y → m ≡ n)
      → ((n : ℕ) (z : Z) → Apart (g n z)) → (i : ℕ) (zs : List Z) → Apart (from i g zs)
  apart_from g P holds tells each i [] = tt
  apart_from g P holds tells each i (z ∷ zs) = apart_append (g i z) (from (i + 1) g zs) (each i z) (apart_from g P holds tells each (i + 1) zs)
      (λ x y here later same.
      let p = out_from g (i + 1) zs y later in
      let e = tells i (i + 1 + p.0) x y (holds i z x here) (holds (i + 1 + p.0) p.1 y p.3) same in
      omega arith)

  module _ (test : X → Bool) where
    -- two that pass
    some : (xs : List X) → 1 ≤ length (filter test xs) → (x : X) × Among x xs × (test x ≡ true)
    some xs many = let p = first (filter test xs) many in let q = unkept test xs p.0 p.1 in (p.0, q.0, q.1)
      where
        first : (ys : List X) → 1 ≤ length ys → (x : X) × Among x ys
        first [] h = absurd (omega arith)
        first (y ∷ ys) h = (y, inl refl)

    abbrev pub Two : List X → Type 0
    Two xs = (x : X) × (y : X) × (Among x xs × (test x ≡ true)) × (Among y xs × (test y ≡ true)) × (key x ≡ key y → ⊥)

    pub two : (xs : List X) → Apart xs → 2 ≤ length (filter test xs) → Two xs
    two [] apart many = absurd (omega arith)
    two (x ∷ xs) apart many = by (test x) refl many (two xs apart.1)
      where
        by : (b : Bool) → test x ≡ b → 2 ≤ length (cond b (x ∷ filter test xs) (filter test xs)) → (2 ≤ length (filter test xs) → Two xs) → Two (x ∷ xs)
        by true passes more rest = let p = some xs (omega arith) in (x, p.0, (inl refl, passes), (inr p.1, p.2), apart.0 p.0 p.1)
        by false fails more rest = let p = rest more in (p.0, p.1, (inr p.2.0, p.2.1), (inr p.3.0, p.3.1), p.4)

    -- none or one that passes
    none : (xs : List X) → ((x : X) → Among x xs → test x ≡ true → ⊥) → length (filter test xs) ≡ 0
    none [] never = refl
    none (x ∷ xs) never = by (test x) refl (none xs (λ y h. never y (inr h)))
      where
        by : (b : Bool) → test x ≡ b → length (filter test xs) ≡ 0 → length (cond b (x ∷ filter test xs) (filter test xs)) ≡ 0
        by true passes rest = absurd (never x (inl refl) passes)
        by false fails rest = rest

    pub one : (xs : List X) → Apart xs → (x : X) → Among x xs → test x ≡ true → ((y : X) → Among y xs → test y ≡ true → key y ≡ key x) → length (filter test xs) ≡ 1
    one [] apart x h passes only = absurd h
    one (z ∷ xs) apart x h passes only = by (test z) refl h (λ later. one xs apart.1 x later passes (λ y g. only y (inr g)))
      where
        by : (b : Bool) → test z ≡ b → Among x (z ∷ xs) → (Among x xs → length (filter test xs) ≡ 1) → length (cond b (z ∷ filter test xs) (filter test xs)) ≡ 1
        by true is there rest = ap (λ n. suc n) (none xs (λ y g also. apart.0 y g (only z (inl refl) is ∙ sym (only y (inr g) also))))
        by false fails (inl e) rest = absurd (true≢false (sym passes ∙ ap test e ∙ fails))
        by false fails (inr later) rest = rest later

-- those that pass, by a second test
pub by_second : {X : Type 0} (a b : X → Bool) (xs : List X) → length (filter (λ x. a x && b x) xs) + length (filter (λ x. a x && not (b x)) xs) ≡ length (filter a xs)
by_second a b [] = omega arith
by_second {X = X} a b (x ∷ xs) = by (a x) (b x) (by_second a b xs)
  where
    first : List X
    first = filter (λ y. a y && b y) xs

    second : List X
    second = filter (λ y. a y && not (b y)) xs

    by : (c d : Bool) → length (filter (λ y. a y && b y) xs) + length (filter (λ y. a y && not (b y)) xs) ≡ length (filter a xs)
        → length (cond (c && d) (x ∷ filter (λ y. a y && b y) xs) (filter (λ y. a y && b y) xs)) + length (cond (c && not d) (x ∷ filter (λ y. a y && not (b y)) xs) (filter (λ y. a y && not (b y)) xs))
        ≡ length (cond c (x ∷ filter a xs) (filter a xs))
    by true true rest = omega arith
    by true false rest = omega arith
    by false true rest = rest
    by false false rest = rest
