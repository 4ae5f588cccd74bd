-- The turns of the loops that look for the first, and of those that list.
use Rattle.std.proofs.Common.{◌≡◌, ℕ, zero, suc, ◌+◌, ◌<◌, ◌≤◌, List, [], ◌∷◌, ◌++◌, map, length, get_or, drop, ◌-◌, Option, Some, None, refl, sym, ap, ◌∙◌, arith, add-one, append_assoc}
use Rattle.bus_semantics.specs.Common.{append-nil, option_or}
use Rattle.plan_definitions.specs.Common.{first_of, from, positions}

module _ {X Y : Type 0} (f : ℕ → X → Option Y) where
  first_next : (xs : List X) (n i : ℕ) (x : X) → i < length xs → x ≡ get_or xs i x
      → first_of f n (drop i xs) ≡ option_or (f n x) (first_of f (n + 1) (drop (suc i) xs))
  first_next [] n i x within is = absurd (omega arith)
  first_next (y ∷ xs) n zero x within is = ap (λ z. option_or (f n z) (first_of f (n + 1) xs)) (sym is)
  first_next (y ∷ xs) n (suc i) x within is = first_next xs n i x (omega arith) is

  pub first_none : (xs : List X) (n i : ℕ) → length xs ≤ i → first_of f n (drop i xs) ≡ None
  first_none [] n zero past = refl
  first_none [] n (suc i) past = refl
  first_none (y ∷ xs) n zero past = absurd (omega arith)
  first_none (y ∷ xs) n (suc i) past = first_none xs n i (omega arith)

  module _ (xs : List X) (i : ℕ) (x : X) (within : i < length xs) (is : x ≡ get_or xs i x) where
    pub first_more : f i x ≡ None → first_of f i (drop i xs) ≡ first_of f (i + 1) (drop (i + 1) xs)
    first_more none = first_next xs i i x within is ∙ (λ j. option_or (none j) (first_of f (i + 1) (drop (sym (add-one i) j) xs)))

    pub first_here : (y : Y) → f i x ≡ Some y → first_of f i (drop i xs) ≡ Some y
    first_here y found = first_next xs i i x within is ∙ ap (λ r. option_or r (first_of f (i + 1) (drop (suc i) xs))) found

module _ {Y : Type 0} (f : ℕ → Y) where
  pub one_more : (whole old new : List Y) (i n : ℕ) → i < n → new ≡ old ++ f i ∷ [] → whole ≡ old ++ map f (positions i (n - i)) → whole ≡ new ++ map f (positions (i + 1) (n - (i + 1)))
  one_more whole old new i n within pushed so_far = so_far ∙ ap (λ k. old ++ map f (positions i k)) one_less ∙ sym (append_assoc old (f i ∷ []) rest) ∙ (λ j. sym pushed j ++ rest)
    where
      rest : List Y
      rest = map f (positions (i + 1) (n - (i + 1)))

      one_less : n - i ≡ suc (n - (i + 1))
      one_less = omega arith

  pub none_more : (i n : ℕ) → n ≤ i → map f (positions i (n - i)) ≡ []
  none_more i n past = ap (λ k. map f (positions i k)) none
    where
      none : n - i ≡ 0
      none = omega arith

module _ {X Y : Type 0} (f : ℕ → X → List Y) where
  from_next : (xs : List X) (n i : ℕ) (x : X) → i < length xs → x ≡ get_or xs i x → from n f (drop i xs) ≡ f n x ++ from (n + 1) f (drop (suc i) xs)
  from_next [] n i x within is = absurd (omega arith)
  from_next (y ∷ xs) n zero x within is = ap (λ z. f n z ++ from (n + 1) f xs) (sym is)
  from_next (y ∷ xs) n (suc i) x within is = from_next xs n i x (omega arith) is

  pub from_none : (xs : List X) (n i : ℕ) → length xs ≤ i → from n f (drop i xs) ≡ []
  from_none [] n zero past = refl
  from_none [] n (suc i) past = refl
  from_none (y ∷ xs) n zero past = absurd (omega arith)
  from_none (y ∷ xs) n (suc i) past = from_none xs n i (omega arith)

  pub from_more : (xs : List X) (whole old : List Y) (i : ℕ) (x : X) → i < length xs → x ≡ get_or xs i x → whole ≡ old ++ from i f (drop i xs)
      → whole ≡ (old ++ f i x) ++ from (i + 1) f (drop (i + 1) xs)
  from_more xs whole old i x within is so_far = so_far ∙ ap (λ ys. old ++ ys) (from_next xs i i x within is)
      ∙ sym (append_assoc old (f i x) (from (i + 1) f (drop (suc i) xs))) ∙ (λ j. (old ++ f i x) ++ from (i + 1) f (drop (sym (add-one i) j) xs))

  pub from_added : (xs : List X) (whole old new : List Y) (i : ℕ) (x : X) → i < length xs → x ≡ get_or xs i x → new ≡ old ++ f i x → whole ≡ old ++ from i f (drop i xs)
      → whole ≡ new ++ from (i + 1) f (drop (i + 1) xs)
  from_added xs whole old new i x within is added so_far = from_more xs whole old i x within is so_far ∙ ap (λ ys. ys ++ from (i + 1) f (drop (i + 1) xs)) (sym added)

  pub from_all : (xs : List X) (whole old : List Y) (i : ℕ) → length xs ≤ i → whole ≡ old ++ from i f (drop i xs) → old ≡ whole
  from_all xs whole old i past so_far = sym (so_far ∙ ap (λ ys. old ++ ys) (from_none xs i i past) ∙ append-nil old)

-- nothing is added
pub nothing : {Y : Type 0} (ys zs : List Y) → zs ≡ [] → ys ≡ ys ++ zs
nothing [] zs none = sym none
nothing (y ∷ ys) zs none = ap (λ xs. y ∷ xs) (nothing ys zs none)
