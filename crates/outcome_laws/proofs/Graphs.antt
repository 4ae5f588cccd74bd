-- Whether edges lead from one node to another is decided: a node more at a time may stand on the way.
use Rattle.std.proofs.Common.{◌≡◌, ℕ, zero, suc, ◌+◌, ◌<◌, ◌≤◌, List, [], ◌∷◌, Bool, true, false, cond, ◌||◌, ◌&&◌, ◌⊎◌, inl, inr, ⊎_elim, refl, sym, ap, subst, ◌∙◌, true≢false, arith}
use Rattle.std.proofs.lemmas.Bool.{or_cases, or_left, or_right, and_parts, and_from}
use Rattle.description_types.specs.Members.{Among}

module _ (edge : ℕ → ℕ → Bool) where
  -- a way of n edges and one more
  abbrev pub Steps : ℕ → ℕ → ℕ → Type 0
  Steps zero a b = edge a b ≡ true
  Steps (suc n) a b = (m : ℕ) × Steps n a m × (edge m b ≡ true)

  -- a way over these nodes
  abbrev pub reaches : List ℕ → ℕ → ℕ → Bool
  reaches [] a b = edge a b
  reaches (k ∷ ks) a b = reaches ks a b || (reaches ks a k && reaches ks k b)

  pub steps_join : (n k a m b : ℕ) → Steps n a m → Steps k m b → (l : ℕ) × (l ≡ n + k + 1) × Steps l a b
  steps_join n zero a m b s e = (suc n, omega arith, (m, s, e))
  steps_join n (suc k) a m b s (x, t, e) = let (l, long, u) = steps_join n k a m x s t in (suc l, omega arith, (x, u, e))

  pub reached : (ks : List ℕ) (a b : ℕ) → reaches ks a b ≡ true → (n : ℕ) × Steps n a b
  reached [] a b h = (0, h)
  reached (k ∷ ks) a b h = ⊎_elim (λ direct. reached ks a b direct)
      (λ over. let p = and_parts (reaches ks a k) (reaches ks k b) over in let (n, s) = reached ks a k p.0 in let (m, t) = reached ks k b p.1 in let j = steps_join n m a k b s t in (j.0, j.2))
      (or_cases (reaches ks a b) (reaches ks a k && reaches ks k b) h)

  direct : (ks : List ℕ) (a b : ℕ) → edge a b ≡ true → reaches ks a b ≡ true
  direct [] a b h = h
  direct (k ∷ ks) a b h = or_left (reaches ks a b) (reaches ks a k && reaches ks k b) (direct ks a b h)

  over : (k : ℕ) (ks : List ℕ) (a b : ℕ) → reaches ks a k ≡ true → reaches ks k b ≡ true → reaches (k ∷ ks) a b ≡ true
  over k ks a b h l = or_right (reaches ks a b) (reaches ks a k && reaches ks k b) (and_from (reaches ks a k) (reaches ks k b) h l)

  to_last : (k : ℕ) (ks : List ℕ) (a : ℕ) → reaches (k ∷ ks) a k ≡ true → reaches ks a k ≡ true
  to_last k ks a h = ⊎_elim (λ x. x) (λ x. (and_parts (reaches ks a k) (reaches ks k k) x).0) (or_cases (reaches ks a k) (reaches ks a k && reaches ks k k) h)

  from_last : (k : ℕ) (ks : List ℕ) (b : ℕ) → reaches (k ∷ ks) k b ≡ true → reaches ks k b ≡ true
  from_last k ks b h = ⊎_elim (λ x. x) (λ x. (and_parts (reaches ks k k) (reaches ks k b) x).1) (or_cases (reaches ks k b) (reaches ks k k && reaches ks k b) h)

  -- directly, or over the last node
  split : (k : ℕ) (ks : List ℕ) (a b : ℕ) → reaches (k ∷ ks) a b ≡ true → (reaches ks a b ≡ true) ⊎ ((reaches ks a k ≡ true) × (reaches ks k b ≡ true))
  split k ks a b h = ⊎_elim (λ x. inl x) (λ x. inr (and_parts (reaches ks a k) (reaches ks k b) x)) (or_cases (reaches ks a b) (reaches ks a k && reaches ks k b) h)

  pub through : (ks : List ℕ) (a m b : ℕ) → Among m ks → reaches ks a m ≡ true → reaches ks m b ≡ true → reaches ks a b ≡ true
  through [] a m b within h l = absurd within
  through (k ∷ ks) a m b (inl is) h l =
      over k ks a b (to_last k ks a (subst (λ x. reaches (k ∷ ks) a x ≡ true) is h)) (from_last k ks b (subst (λ x. reaches (k ∷ ks) x b ≡ true) is l))
  through (k ∷ ks) a m b (inr within) h l = by (through ks a m b within) (through ks a m k within) (through ks k m b within) (split k ks a m h) (split k ks m b l)
    where
      by : (reaches ks a m ≡ true → reaches ks m b ≡ true → reaches ks a b ≡ true) → (reaches ks a m ≡ true → reaches ks m k ≡ true → reaches ks a k ≡ true) → (reaches ks k m ≡ true → reaches ks m b ≡ true → reaches ks k b ≡ true)
          → (reaches ks a m ≡ true) ⊎ ((reaches ks a k ≡ true) × (reaches ks k m ≡ true)) → (reaches ks m b ≡ true) ⊎ ((reaches ks m k ≡ true) × (reaches ks k b ≡ true)) → reaches (k ∷ ks) a b ≡ true
      by here before after (inl p) (inl q) = or_left (reaches ks a b) (reaches ks a k && reaches ks k b) (here p q)
      by here before after (inl p) (inr q) = over k ks a b (before p q.0) q.1
      by here before after (inr p) (inl q) = over k ks a b p.0 (after p.1 q)
      by here before after (inr p) (inr q) = over k ks a b p.0 q.1

  module _ (ks : List ℕ) (known : (a b : ℕ) → edge a b ≡ true → Among a ks) where
    pub reaches_all : (n a b : ℕ) → Steps n a b → reaches ks a b ≡ true
    reaches_all zero a b e = direct ks a b e
    reaches_all (suc n) a b (m, s, e) = through ks a m b (known m b e) (reaches_all n a m s) (direct ks m b e)

abbrev pub count : (ℕ → Bool) → List ℕ → ℕ
count p [] = 0
count p (x ∷ xs) = cond (p x) 1 0 + count p xs

one_within : (p q : Bool) → (p ≡ true → q ≡ true) → cond p 1 0 ≤ cond q 1 0
one_within true true h = omega arith
one_within true false h = absurd (true≢false (sym (h refl)))
one_within false true h = omega arith
one_within false false h = omega arith

within : (p q : ℕ → Bool) → ((x : ℕ) → p x ≡ true → q x ≡ true) → (xs : List ℕ) → count p xs ≤ count q xs
within p q h [] = omega arith
within p q h (x ∷ xs) = omega (arith, one_within (p x) (q x) (h x), within p q h xs)

one_less : (p q : Bool) → p ≡ false → q ≡ true → cond p 1 0 < cond q 1 0
one_less true q h l = absurd (true≢false h)
one_less false true h l = omega arith
one_less false false h l = absurd (true≢false (sym l))

pub fewer : (p q : ℕ → Bool) → ((x : ℕ) → p x ≡ true → q x ≡ true) → (a : ℕ) → p a ≡ false → q a ≡ true → (xs : List ℕ) → Among a xs → count p xs < count q xs
fewer p q h a low high [] there = absurd there
fewer p q h a low high (x ∷ xs) (inl is) = omega (arith, one_less (p x) (q x) (ap p (sym is) ∙ low) (ap q (sym is) ∙ high), within p q h xs)
fewer p q h a low high (x ∷ xs) (inr there) = omega (arith, one_within (p x) (q x) (h x), fewer p q h a low high xs there)

-- a node that leads to itself, or none
pub itself : (p : ℕ → Bool) (xs : List ℕ) → ((x : ℕ) × (p x ≡ true)) ⊎ ((x : ℕ) → Among x xs → p x ≡ false)
itself p [] = inr (λ x h. absurd h)
itself p (y ∷ ys) = by (p y) refl (itself p ys)
  where
    by : (b : Bool) → p y ≡ b → ((x : ℕ) × (p x ≡ true)) ⊎ ((x : ℕ) → Among x ys → p x ≡ false) → ((x : ℕ) × (p x ≡ true)) ⊎ ((x : ℕ) → Among x (y ∷ ys) → p x ≡ false)
    by true is rest = inl (y, is)
    by false is (inl found) = inl found
    by false is (inr none) = inr (λ x h. ⊎_elim (λ same. ap p same ∙ is) (λ later. none x later) h)

module _ (edge : ℕ → ℕ → Bool) (ks : List ℕ) (known : (a b : ℕ) → edge a b ≡ true → Among a ks) where
  abbrev pub rank : ℕ → ℕ
  rank b = count (λ a. reaches edge ks a b) ks

  pub rises : ((x : ℕ) → Among x ks → reaches edge ks x x ≡ false) → (a b : ℕ) → edge a b ≡ true → rank a < rank b
  rises none a b e = fewer (λ x. reaches edge ks x a) (λ x. reaches edge ks x b) (λ x h. through edge ks x a b (known a b e) h (direct edge ks a b e)) a (none a (known a b e)) (direct edge ks a b e) ks (known a b e)

  -- a circle, or an order
  pub circle_or_order : ((t : ℕ) × ((n : ℕ) × Steps edge n t t)) ⊎ ((r : ℕ → ℕ) × ((a b : ℕ) → edge a b ≡ true → r a < r b))
  circle_or_order = ⊎_elim (λ x. inl (x.0, reached edge ks x.0 x.0 x.1)) (λ none. inr (rank, rises none)) (itself (λ x. reaches edge ks x x) ks)
