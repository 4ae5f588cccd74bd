-- Groups that are numbered by their least elements, which no element has after it.
use Rattle.std.proofs.Common.{◌≡◌, ℕ, zero, suc, ◌+◌, ◌<◌, ◌≤◌, List, [], ◌∷◌, ◌++◌, length, map, Bool, true, false, cond, nat_eq, nat_le, Option, Some, None, inl, inr, refl, sym, ap, subst}
use Rattle.std.proofs.Common.{◌∙◌, arith, slice_get}
use Rattle.bus_semantics.specs.Common.{and_from, eq-eqb, eqb-true, le-leb, ne_eqb, slice_get_within, list_all, position_from, unwrap_or, first_of, firsts, is_rising}
use Rattle.std.proofs.lemmas.Bool.{eqb-false}
use Rattle.plan_definitions.specs.Common.{Among, from, positions, group_number, groups, head_at, heads, member_at, members, number_among}
use Rattle.plan_definitions.proofs.Lists.{all_from, at, get_map, in_from, map_get, out_from}

-- ---- heads

pub here_head : (ls : List ℕ) (h : ℕ) → slice_get ls h ≡ Some h → Among h (heads ls)
here_head ls h is = in_from head_at 0 ls h h h is (subst (λ b. Among h (cond b ((0 + h) ∷ []) [])) (sym (eq-eqb h (0 + h) (omega arith))) (inl (omega arith)))

head_of : (n l h : ℕ) (b : Bool) → nat_eq l n ≡ b → Among h (cond b (n ∷ []) []) → (h ≡ n) × (l ≡ n)
head_of n l h true is (inl e) = (e, eqb-true l n is)
head_of n l h true is (inr none) = absurd none
head_of n l h false is none = absurd none

pub head_here : (ls : List ℕ) (h : ℕ) → Among h (heads ls) → slice_get ls h ≡ Some h
head_here ls h among =
    let p = out_from head_at 0 ls h among in
    let e = head_of (0 + p.0) p.1 h (nat_eq p.1 (0 + p.0)) refl p.3 in
    let n : p.0 ≡ h = omega (arith, e.0) in
    let l : p.1 ≡ h = e.1 ∙ sym e.0 in
    subst (λ m. slice_get ls m ≡ Some h) n (p.2 ∙ ap (λ m. Some m) l)

-- numbers that rise from a number on
abbrev Rises : ℕ → List ℕ → Type 0
Rises b [] = Unit {0}
Rises b (x ∷ xs) = (b ≤ x) × Rises (suc x) xs

later : (b c : ℕ) (xs : List ℕ) → b ≤ c → Rises c xs → Rises b xs
later b c [] le r = tt
later b c (x ∷ xs) le r = (omega (arith, r.0), r.1)

heads_rise : (i : ℕ) (ls : List ℕ) → Rises i (from i head_at ls)
heads_rise i [] = tt
heads_rise i (l ∷ ls) = by (nat_eq l i) (heads_rise (i + 1) ls)
  where
    by : (b : Bool) → Rises (i + 1) (from (i + 1) head_at ls) → Rises i (cond b (i ∷ []) [] ++ from (i + 1) head_at ls)
    by true r = (omega arith, later (suc i) (i + 1) (from (i + 1) head_at ls) (omega arith) r)
    by false r = later i (i + 1) (from (i + 1) head_at ls) (omega arith) r

at_least : (b : ℕ) (xs : List ℕ) → Rises b xs → (x : ℕ) → Among x xs → b ≤ x
at_least b [] r x h = absurd h
at_least b (y ∷ xs) r x (inl e) = omega (arith, r.0, e)
at_least b (y ∷ xs) r x (inr h) = omega (arith, r.0, at_least (suc y) xs r.1 x h)

once : (b : ℕ) (xs : List ℕ) → Rises b xs → (m n x : ℕ) → slice_get xs m ≡ Some x → slice_get xs n ≡ Some x → m ≡ n
once b [] r m n x is also = cc
once b (y ∷ xs) r zero zero x is also = refl
once b (y ∷ xs) r zero (suc n) x is also = let e : y ≡ x = cc in absurd (omega (arith, at_least (suc y) xs r.1 x (at xs n x also), e))
once b (y ∷ xs) r (suc m) zero x is also = let e : y ≡ x = cc in absurd (omega (arith, at_least (suc y) xs r.1 x (at xs m x is), e))
once b (y ∷ xs) r (suc m) (suc n) x is also = ap (λ k. suc k) (once (suc y) xs r.1 m n x is also)

rising : (b : ℕ) (xs : List ℕ) → Rises b xs → is_rising xs ≡ true
rising b [] r = refl
rising b (x ∷ xs) r = and_from (list_all (λ m. nat_le x m) xs) (is_rising xs)
    (all_from (λ m. nat_le x m) xs (λ y h. let le = at_least (suc x) xs r.1 y h in le-leb x y (omega arith)))
    (rising (suc x) xs r.1)

-- ---- the position of a head

positioned : (i l : ℕ) (xs : List ℕ) (m : ℕ) → position_from (nat_eq l) i xs ≡ Some m → (n : ℕ) × (m ≡ i + n) × (slice_get xs n ≡ Some l)
positioned i l [] m h = cc
positioned i l (x ∷ xs) m h = by (nat_eq l x) refl h (positioned (i + 1) l xs m)
  where
    by : (b : Bool) → nat_eq l x ≡ b → cond b (Some i) (position_from (nat_eq l) (i + 1) xs) ≡ Some m
        → (position_from (nat_eq l) (i + 1) xs ≡ Some m → (n : ℕ) × (m ≡ i + 1 + n) × (slice_get xs n ≡ Some l)) → (n : ℕ) × (m ≡ i + n) × (slice_get (x ∷ xs) n ≡ Some l)
    by true is e more = let k : i ≡ m = cc in (0, omega arith, ap (λ z. Some z) (sym (eqb-true l x is)))
    by false is e more = let p = more e in (suc p.0, omega (arith, p.1), p.2)

unpositioned : (i l : ℕ) (xs : List ℕ) → position_from (nat_eq l) i xs ≡ None → Among l xs → ⊥
unpositioned i l [] h among = among
unpositioned i l (x ∷ xs) h among = by (nat_eq l x) refl h among (unpositioned (i + 1) l xs)
  where
    by : (b : Bool) → nat_eq l x ≡ b → cond b (Some i) (position_from (nat_eq l) (i + 1) xs) ≡ None → Among l (x ∷ xs) → (position_from (nat_eq l) (i + 1) xs ≡ None → Among l xs → ⊥) → ⊥
    by true is e there more = cc
    by false is e (inl same) more = eqb-false l x is same
    by false is e (inr there) more = more e there

-- the number of a head is its position
pub number_is : (xs : List ℕ) (l : ℕ) → Among l xs → slice_get xs (number_among xs l) ≡ Some l
number_is xs l among = by (position_from (nat_eq l) 0 xs) refl
  where
    by : (o : Option ℕ) → position_from (nat_eq l) 0 xs ≡ o → slice_get xs (unwrap_or o 0) ≡ Some l
    by None is = absurd (unpositioned 0 l xs is among)
    by (Some m) is = let p = positioned 0 l xs m is in let e : p.0 ≡ m = omega (arith, p.1) in subst (λ n. slice_get xs n ≡ Some l) e p.2

pub head_number : (ls : List ℕ) (g h : ℕ) → slice_get (heads ls) g ≡ Some h → number_among (heads ls) h ≡ g
head_number ls g h is = once 0 (heads ls) (heads_rise 0 ls) (number_among (heads ls) h) g h (number_is (heads ls) h (at (heads ls) g h is)) is

-- ---- what is numbered

-- no element has its head after it
abbrev pub AreLow : List ℕ → Type 0
AreLow ls = (n l : ℕ) → slice_get ls n ≡ Some l → l ≤ n

none_first : (ls : List ℕ) → AreLow ls → (n l h : ℕ) → slice_get ls n ≡ Some l → slice_get (heads ls) 0 ≡ Some h → h ≡ 0
none_first [] low n l h is first = cc
none_first (k ∷ ls) low n l h is first = let le = low 0 k refl in by (nat_eq k 0) (eq-eqb k 0 (omega arith)) first
  where
    by : (b : Bool) → b ≡ true → slice_get (cond b (0 ∷ []) [] ++ from (0 + 1) head_at ls) 0 ≡ Some h → h ≡ 0
    by true same e = cc
    by false same e = cc

some_head : (ls : List ℕ) → AreLow ls → (n l : ℕ) → slice_get ls n ≡ Some l → 0 < length (heads ls)
some_head [] low n l is = cc
some_head (k ∷ ls) low n l is = let le = low 0 k refl in by (nat_eq k 0) (eq-eqb k 0 (omega arith))
  where
    by : (b : Bool) → b ≡ true → 0 < length (cond b (0 ∷ []) [] ++ from (0 + 1) head_at ls)
    by true same = omega arith
    by false same = cc

module _ (ls : List ℕ) (low : AreLow ls) where
  -- the number of a group is below their number, and its head is not after the element
  pub number_within : (n l : ℕ) → slice_get ls n ≡ Some l → group_number ls l < length (heads ls)
  number_within n l is = by (position_from (nat_eq l) 0 (heads ls)) refl
    where
      by : (o : Option ℕ) → position_from (nat_eq l) 0 (heads ls) ≡ o → unwrap_or o 0 < length (heads ls)
      by None none = some_head ls low n l is
      by (Some m) some = let p = positioned 0 l (heads ls) m some in let lt = slice_get_within (heads ls) p.0 l p.2 in omega (arith, p.1)

  not_before : (n l g h : ℕ) → slice_get ls n ≡ Some l → group_number ls l ≡ g → slice_get (heads ls) g ≡ Some h → h ≤ n
  not_before n l g h is number head = by (position_from (nat_eq l) 0 (heads ls)) refl number
    where
      by : (o : Option ℕ) → position_from (nat_eq l) 0 (heads ls) ≡ o → unwrap_or o 0 ≡ g → h ≤ n
      by None none zero_is = let e = none_first ls low n l h is (subst (λ k. slice_get (heads ls) k ≡ Some h) (sym zero_is) head) in omega arith
      by (Some m) some m_is =
          let p = positioned 0 l (heads ls) m some in
          let k : p.0 ≡ g = omega (arith, p.1, m_is) in
          let there : slice_get (heads ls) g ≡ Some l = subst (λ j. slice_get (heads ls) j ≡ Some l) k p.2 in
          let e : l ≡ h = cc in
          let le = low n l is in omega arith

  abbrev numbers : List ℕ
  numbers = map (group_number ls) ls

  first_member : (i g k : ℕ) (xs : List ℕ) → slice_get xs k ≡ Some g → ((j : ℕ) → j < k → slice_get xs j ≡ Some g → ⊥) → first_of (from i (member_at g) xs) ≡ (i + k) ∷ []
  first_member i g k [] is none = cc
  first_member i g zero (x ∷ xs) is none = by (nat_eq x g) (eq-eqb x g cc)
    where
      by : (b : Bool) → b ≡ true → first_of (cond b (i ∷ []) [] ++ from (i + 1) (member_at g) xs) ≡ (i + 0) ∷ []
      by true same = ap (λ n. n ∷ []) (omega arith)
      by false same = cc
  first_member i g (suc k) (x ∷ xs) is none = by (nat_eq x g) (ne_eqb x g (λ e. none 0 (omega arith) (ap (λ z. Some z) e))) (first_member (i + 1) g k xs is (λ j lt. none (suc j) (omega arith)))
    where
      by : (b : Bool) → b ≡ false → first_of (from (i + 1) (member_at g) xs) ≡ (i + 1 + k) ∷ [] → first_of (cond b (i ∷ []) [] ++ from (i + 1) (member_at g) xs) ≡ (i + suc k) ∷ []
      by true other more = cc
      by false other more = more ∙ ap (λ n. n ∷ []) (omega arith)

  -- the first element of a group is its head
  pub first_is : (g h : ℕ) → slice_get (heads ls) g ≡ Some h → first_of (members numbers g) ≡ h ∷ []
  first_is g h is = first_member 0 g h numbers here before ∙ ap (λ n. n ∷ []) (omega arith)
    where
      here : slice_get numbers h ≡ Some g
      here = map_get (group_number ls) ls h h (head_here ls h (at (heads ls) g h is)) ∙ ap (λ n. Some n) (head_number ls g h is)

      before : (j : ℕ) → j < h → slice_get numbers j ≡ Some g → ⊥
      before j lt same = let p = get_map (group_number ls) ls j g same in let le = not_before j p.0 g h p.1 p.2 is in omega arith

firsts_are : (F : ℕ → List ℕ) (i : ℕ) (hs : List ℕ) → ((g h : ℕ) → slice_get hs g ≡ Some h → first_of (F (i + g)) ≡ h ∷ []) → firsts (map F (positions i (length hs))) ≡ hs
firsts_are F i [] each = refl
firsts_are F i (h ∷ hs) each =
    let z : i ≡ i + 0 = omega arith in
    ap (λ ns. ns ++ firsts (map F (positions (i + 1) (length hs)))) (ap (λ n. first_of (F n)) z ∙ each 0 h refl)
    ∙ ap (λ ns. h ∷ ns) (firsts_are F (i + 1) hs (λ g k is. let s : i + 1 + g ≡ i + suc g = omega arith in ap (λ n. first_of (F n)) s ∙ each (suc g) k is))

-- the groups stand in order of their heads
pub groups_rise : (ls : List ℕ) → AreLow ls → is_rising (firsts (groups ls)) ≡ true
groups_rise ls low = ap is_rising (firsts_are (members (map (group_number ls) ls)) 0 (heads ls) each) ∙ rising 0 (heads ls) (heads_rise 0 ls)
  where
    each : (g h : ℕ) → slice_get (heads ls) g ≡ Some h → first_of (members (map (group_number ls) ls) (0 + g)) ≡ h ∷ []
    each g h is = let z : 0 + g ≡ g = omega arith in ap (λ n. first_of (members (map (group_number ls) ls) n)) z ∙ first_is ls low g h is
