-- Lists of things that stand by their owners: the owners' numbers rise, so each owner has a run of things that follow one another.
use Rattle.std.proofs.Common.{◌≡◌, ℕ, zero, suc, ◌+◌, ◌<◌, List, [], ◌∷◌, ◌++◌, length, map, filter, Bool, true, false, cond, nat_eq, Some, inl, inr, refl, sym, ap, subst, ◌∙◌, arith}
use Rattle.std.proofs.Common.{append_assoc, slice_get}
use Rattle.bus_semantics.specs.Common.{eq-eqb, ne_eqb, append-nil, length-append, length-map, map-append, filter-append, flat_map}
use Rattle.plan_definitions.specs.Common.{Among, member_at, from, positions}
use Rattle.plan_definitions.proofs.Lists.{out_from, out_positions}

-- ---- lists joined end to end

from_append : {X Y : Type 0} (f : ℕ → X → List Y) (b : ℕ) (xs ys : List X) → from b f (xs ++ ys) ≡ from b f xs ++ from (b + length xs) f ys
from_append f b [] ys = let z : b ≡ b + 0 = omega arith in ap (λ n. from n f ys) z
from_append f b (x ∷ xs) ys =
    let s : b + 1 + length xs ≡ b + suc (length xs) = omega arith in
    ap (λ zs. f b x ++ zs) (from_append f (b + 1) xs ys ∙ ap (λ n. from (b + 1) f xs ++ from n f ys) s) ∙ sym (append_assoc (f b x) (from (b + 1) f xs) (from (b + suc (length xs)) f ys))

positions_append : (b m n : ℕ) → positions b m ++ positions (b + m) n ≡ positions b (m + n)
positions_append b zero n = let z : b + 0 ≡ b = omega arith in let y : n ≡ 0 + n = omega arith in λ j. positions (z j) (y j)
positions_append b (suc m) n =
    let s : b + suc m ≡ b + 1 + m = omega arith in
    let e : suc (m + n) ≡ suc m + n = omega arith in
    ap (λ ks. b ∷ ks) (ap (λ k. positions (b + 1) m ++ positions k n) s ∙ positions_append (b + 1) m n) ∙ ap (positions b) e

flat_same : {X Y : Type 0} (f g : X → List Y) (xs : List X) → ((x : X) → Among x xs → f x ≡ g x) → flat_map f xs ≡ flat_map g xs
flat_same f g [] each = refl
flat_same f g (x ∷ xs) each = λ j. each x (inl refl) j ++ flat_same f g xs (λ y h. each y (inr h)) j

-- ---- the things of one owner

module _ {Y : Type 0} (of : Y → ℕ) where
  all_mine : (b i : ℕ) (ys : List Y) → ((y : Y) → Among y ys → of y ≡ i) → from b (member_at i) (map of ys) ≡ positions b (length ys)
  all_mine b i [] mine = refl
  all_mine b i (y ∷ ys) mine = ap (λ c. cond c (b ∷ []) [] ++ from (b + 1) (member_at i) (map of ys)) (eq-eqb (of y) i (mine y (inl refl))) ∙ ap (λ ks. b ∷ ks) (all_mine (b + 1) i ys (λ z h. mine z (inr h)))

  none_mine : (b i : ℕ) (ys : List Y) → ((y : Y) → Among y ys → of y ≡ i → ⊥) → from b (member_at i) (map of ys) ≡ []
  none_mine b i [] other = refl
  none_mine b i (y ∷ ys) other = ap (λ c. cond c (b ∷ []) [] ++ from (b + 1) (member_at i) (map of ys)) (ne_eqb (of y) i (other y (inl refl))) ∙ none_mine (b + 1) i ys (λ z h. other z (inr h))

  all_kept : (i : ℕ) (ys : List Y) → ((y : Y) → Among y ys → of y ≡ i) → filter (λ y. nat_eq (of y) i) ys ≡ ys
  all_kept i [] mine = refl
  all_kept i (y ∷ ys) mine = ap (λ c. cond c (y ∷ filter (λ z. nat_eq (of z) i) ys) (filter (λ z. nat_eq (of z) i) ys)) (eq-eqb (of y) i (mine y (inl refl))) ∙ ap (λ zs. y ∷ zs) (all_kept i ys (λ z h. mine z (inr h)))

  none_kept : (i : ℕ) (ys : List Y) → ((y : Y) → Among y ys → of y ≡ i → ⊥) → filter (λ y. nat_eq (of y) i) ys ≡ []
  none_kept i [] other = refl
  none_kept i (y ∷ ys) other = ap (λ c. cond c (y ∷ filter (λ z. nat_eq (of z) i) ys) (filter (λ z. nat_eq (of z) i) ys)) (ne_eqb (of y) i (other y (inl refl))) ∙ none_kept i ys (λ z h. other z (inr h))

  -- what is found at the numbers of an owner's things
  pub at_numbers : {Z : Type 0} (F : ℕ → List Z) (E : Y → List Z) (i b : ℕ) (ys : List Y) → ((k : ℕ) (y : Y) → slice_get ys k ≡ Some y → F (b + k) ≡ E y)
      → flat_map F (from b (member_at i) (map of ys)) ≡ flat_map E (filter (λ y. nat_eq (of y) i) ys)
  at_numbers F E i b [] each = refl
  at_numbers F E i b (y ∷ ys) each =
      let z : b ≡ b + 0 = omega arith in
      by (nat_eq (of y) i) (ap F z ∙ each 0 y refl) (at_numbers F E i (b + 1) ys (λ k x is. let s : b + 1 + k ≡ b + suc k = omega arith in ap F s ∙ each (suc k) x is))
    where
      by : (c : Bool) → F b ≡ E y → flat_map F (from (b + 1) (member_at i) (map of ys)) ≡ flat_map E (filter (λ y. nat_eq (of y) i) ys)
          → flat_map F (cond c (b ∷ []) [] ++ from (b + 1) (member_at i) (map of ys)) ≡ flat_map E (cond c (y ∷ filter (λ y. nat_eq (of y) i) ys) (filter (λ y. nat_eq (of y) i) ys))
      by true here rest = λ j. here j ++ rest j
      by false here rest = rest

  -- ---- of all owners

  module _ {X : Type 0} (g : ℕ → X → List Y) (mine : (n : ℕ) (x : X) (y : Y) → Among y (g n x) → of y ≡ n) where
    later : (i : ℕ) (xs : List X) (y : Y) → Among y (from (i + 1) g xs) → of y ≡ i → ⊥
    later i xs y h is = let p = out_from g (i + 1) xs y h in let e = mine (i + 1 + p.0) p.1 y p.3 in absurd (omega (arith, e, is))

    not_here : (i k : ℕ) (x : X) → i < k → (y : Y) → Among y (g i x) → of y ≡ k → ⊥
    not_here i k x lt y h is = let e = mine i x y h in absurd (omega (arith, e, is, lt))

    -- the numbers of the things of all owners, one after the other, are all numbers
    pub all_runs : (b i : ℕ) (xs : List X) → flat_map (λ k. from b (member_at k) (map of (from i g xs))) (positions i (length xs)) ≡ positions b (length (from i g xs))
    all_runs b i [] = refl
    all_runs b i (x ∷ xs) =
        (λ j. here j ++ flat_same (λ k. from b (member_at k) (map of (g i x ++ more))) (λ k. from (b + length (g i x)) (member_at k) (map of more)) (positions (i + 1) (length xs)) others j)
        ∙ (ap (λ ks. positions b (length (g i x)) ++ ks) (all_runs (b + length (g i x)) (i + 1) xs)
        ∙ (positions_append b (length (g i x)) (length more) ∙ ap (positions b) (sym (length-append (g i x) more))))
      where
        more : List Y
        more = from (i + 1) g xs

        parted : (k : ℕ) → from b (member_at k) (map of (g i x ++ more)) ≡ from b (member_at k) (map of (g i x)) ++ from (b + length (g i x)) (member_at k) (map of more)
        parted k = ap (from b (member_at k)) (map-append of (g i x) more) ∙ (from_append (member_at k) b (map of (g i x)) (map of more)
            ∙ ap (λ n. from b (member_at k) (map of (g i x)) ++ from (b + n) (member_at k) (map of more)) (length-map (g i x) of))

        here : from b (member_at i) (map of (g i x ++ more)) ≡ positions b (length (g i x))
        here = parted i ∙ ((λ j. all_mine b i (g i x) (mine i x) j ++ none_mine (b + length (g i x)) i more (later i xs) j) ∙ append-nil (positions b (length (g i x))))

        others : (k : ℕ) → Among k (positions (i + 1) (length xs)) → from b (member_at k) (map of (g i x ++ more)) ≡ from (b + length (g i x)) (member_at k) (map of more)
        others k h = let p = out_positions (i + 1) (length xs) k h in
            parted k ∙ ap (λ ks. ks ++ from (b + length (g i x)) (member_at k) (map of more)) (none_mine b k (g i x) (not_here i k x (omega (arith, p.2))))

    -- the things of one owner
    pub one_run : (i n : ℕ) (x : X) (xs : List X) → slice_get xs n ≡ Some x → filter (λ y. nat_eq (of y) (i + n)) (from i g xs) ≡ g (i + n) x
    one_run i n x [] is = absurd cc
    one_run i zero x (z ∷ xs) is =
        let e : i ≡ i + 0 = omega arith in
        let same : z ≡ x = cc in
        subst (λ k. filter (λ y. nat_eq (of y) k) (from i g (z ∷ xs)) ≡ g k x) e
        (filter-append (λ y. nat_eq (of y) i) (g i z) (from (i + 1) g xs)
        ∙ ((λ j. all_kept i (g i z) (mine i z) j ++ none_kept i (from (i + 1) g xs) (later i xs) j) ∙ (append-nil (g i z) ∙ ap (g i) same)))
    one_run i (suc n) x (z ∷ xs) is =
        let e : i + 1 + n ≡ i + suc n = omega arith in
        filter-append (λ y. nat_eq (of y) (i + suc n)) (g i z) (from (i + 1) g xs)
        ∙ (ap (λ ys. ys ++ filter (λ y. nat_eq (of y) (i + suc n)) (from (i + 1) g xs)) (none_kept (i + suc n) (g i z) (not_here i (i + suc n) z (omega arith)))
        ∙ subst (λ k. filter (λ y. nat_eq (of y) k) (from (i + 1) g xs) ≡ g k x) e (one_run (i + 1) n x xs is))

-- ---- two lists with the same at each place

pub same_lists : {X : Type 0} (xs ys : List X) → length xs ≡ length ys → ((k : ℕ) (x : X) → slice_get xs k ≡ Some x → slice_get ys k ≡ Some x) → xs ≡ ys
same_lists [] [] long each = refl
same_lists [] (y ∷ ys) long each = absurd (omega (arith, long))
same_lists (x ∷ xs) [] long each = absurd (omega (arith, long))
same_lists (x ∷ xs) (y ∷ ys) long each = let first : y ≡ x = cc (each 0 x refl) in let rest : length xs ≡ length ys = omega (arith, long) in λ j. sym first j ∷ same_lists xs ys rest (λ k z is. each (suc k) z is) j
