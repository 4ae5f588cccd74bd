-- Each group lists exactly its members, in rising order, and the groups stand in order of their first members.
use Rattle.std.proofs.Common.{◌≡◌, ℕ, zero, suc, ◌+◌, ◌<◌, List, [], ◌∷◌, ◌++◌, length, map, filter, Bool, true, false, cond, not, ◌&&◌, ◌==◌, nat_eq, nat_lt, Some, refl, sym, ap, subst}
use Rattle.std.proofs.Common.{◌∙◌, arith, slice_get}
use Rattle.bus_semantics.specs.Common.{and_from, eq-eqb, lt-ltb, ne_eqb, list_all-map, list_all, every_from, positions as bus_positions, first_of, firsts, is_rising, same_numbers}
use Rattle.plan_definitions.specs.Common.{Among, from, positions, group_number, groups, heads, member_at, members}
use Rattle.plan_definitions.proofs.Lists.{all_from, as_many, place, same_numbers_refl, there, unmapped}
use Rattle.sound_plans.proofs.Heads.{AreLow, first_is, groups_rise, number_within}

-- ---- positions

one_more : (i n : ℕ) → positions i (suc n) ≡ positions i n ++ (i + n) ∷ []
one_more i zero = ap (λ m. m ∷ []) (omega arith)
one_more i (suc n) = ap (λ ms. i ∷ ms) (one_more (i + 1) n ∙ ap (λ m. positions (i + 1) n ++ m ∷ []) (omega arith))

pub same_positions : (n : ℕ) → bus_positions n ≡ positions 0 n
same_positions zero = refl
same_positions (suc n) = ap (λ ms. ms ++ n ∷ []) (same_positions n) ∙ ap (λ m. positions 0 n ++ m ∷ []) (omega arith) ∙ sym (one_more 0 n)

-- a test of what stands at each position
pub every_position : {Y : Type 0} (test : ℕ → Y → Bool) (F : ℕ → Y) (i n : ℕ) → ((k : ℕ) → k < n → test (i + k) (F (i + k)) ≡ true) → every_from i test (map F (positions i n)) ≡ true
every_position test F i zero each = refl
every_position test F i (suc n) each =
    let z : i + 0 ≡ i = omega arith in
    and_from (test i (F i)) (every_from (i + 1) test (map F (positions (i + 1) n)))
    (subst (λ m. test m (F m) ≡ true) z (each 0 (omega arith)))
    (every_position test F (i + 1) n (λ k lt. let s : i + suc k ≡ i + 1 + k = omega arith in subst (λ m. test m (F m) ≡ true) s (each (suc k) (omega arith))))

-- ---- members

module _ {X : Type 0} (of : X → ℕ) where
  abbrev is_other : ℕ → ℕ → ℕ → X → Bool
  is_other g m y e = not ((m == y) && (of e == g))

  past : (g i m : ℕ) (xs : List X) → m < i → every_from i (is_other g m) xs ≡ true
  past g i m [] lt = refl
  past g i m (x ∷ xs) lt = and_from (is_other g m i x) (every_from (i + 1) (is_other g m) xs)
      (ap (λ b. not (b && (of x == g))) (ne_eqb m i (λ e. omega arith)))
      (past g (i + 1) m xs (omega arith))

  one_place : (g i k : ℕ) (xs : List X) (x : X) → slice_get xs k ≡ Some x → every_from i (is_other g (i + k)) xs ≡ not (of x == g)
  one_place g i k [] x is = cc
  one_place g i zero (y ∷ xs) x is =
      let e : y ≡ x = cc in
      ap (λ b. not (b && (of y == g)) && every_from (i + 1) (is_other g (i + 0)) xs) (eq-eqb (i + 0) i (omega arith))
      ∙ ap (λ b. not (of y == g) && b) (past g (i + 1) (i + 0) xs (omega arith))
      ∙ and_true (not (of y == g))
      ∙ ap (λ z. not (of z == g)) e
    where
      and_true : (b : Bool) → (b && true) ≡ b
      and_true true = refl
      and_true false = refl
  one_place g i (suc k) (y ∷ xs) x is =
      let s : i + suc k ≡ i + 1 + k = omega arith in
      ap (λ b. not (b && (of y == g)) && every_from (i + 1) (is_other g (i + suc k)) xs) (ne_eqb (i + suc k) i (λ e. omega arith))
      ∙ ap (λ m. every_from (i + 1) (is_other g m) xs) s
      ∙ one_place g (i + 1) k xs x is

  pub kept_are : (g : ℕ) (test : ℕ → Bool) (i : ℕ) (xs : List X) → ((k : ℕ) (x : X) → slice_get xs k ≡ Some x → test (i + k) ≡ nat_eq (of x) g) → filter test (positions i (length xs)) ≡ from i (member_at g) (map of xs)
  kept_are g test i [] each = refl
  kept_are g test i (x ∷ xs) each =
      let z : i ≡ i + 0 = omega arith in
      by (test i) (nat_eq (of x) g) (ap test z ∙ each 0 x refl)
      (kept_are g test (i + 1) xs (λ k y is. let s : i + 1 + k ≡ i + suc k = omega arith in ap test s ∙ each (suc k) y is))
    where
      by : (b c : Bool) → b ≡ c → filter test (positions (i + 1) (length xs)) ≡ from (i + 1) (member_at g) (map of xs)
          → cond b (i ∷ filter test (positions (i + 1) (length xs))) (filter test (positions (i + 1) (length xs))) ≡ cond c (i ∷ []) [] ++ from (i + 1) (member_at g) (map of xs)
      by true true same more = ap (λ ms. i ∷ ms) more
      by true false same more = cc
      by false true same more = cc
      by false false same more = more

  -- as the definition of a sound plan lists them
  abbrev pub listed : List X → ℕ → List ℕ
  listed xs g = filter (λ m. not (every_from 0 (is_other g m) xs)) (bus_positions (length xs))

  listed_are : (xs : List X) (g : ℕ) → listed xs g ≡ members (map of xs) g
  listed_are xs g = ap (λ ms. filter (λ m. not (every_from 0 (is_other g m) xs)) ms) (same_positions (length xs))
      ∙ kept_are g (λ m. not (every_from 0 (is_other g m) xs)) 0 xs (λ k x is. ap not (one_place g 0 k xs x is) ∙ not_not (of x == g))
    where
      not_not : (b : Bool) → not (not b) ≡ b
      not_not true = refl
      not_not false = refl

  module _ (xs : List X) (ls : List ℕ) (low : AreLow ls) (same : map of xs ≡ map (group_number ls) ls) where
    pub each_within : list_all (λ e. nat_lt (of e) (length (groups ls))) xs ≡ true
    each_within = sym (list_all-map (λ g. nat_lt g (length (groups ls))) of xs) ∙ ap (list_all (λ g. nat_lt g (length (groups ls)))) same
        ∙ all_from (λ g. nat_lt g (length (groups ls))) (map (group_number ls) ls) each
      where
        count : length (groups ls) ≡ length (heads ls)
        count = as_many (members (map (group_number ls) ls)) 0 (length (heads ls))

        each : (g : ℕ) → Among g (map (group_number ls) ls) → nat_lt g (length (groups ls)) ≡ true
        each g among =
            let p = unmapped (group_number ls) ls g among in
            let n = place p.0 ls p.1 in
            let lt = number_within ls low n.0 p.0 n.1 in
            lt-ltb g (length (groups ls)) (omega (arith, p.2, count, lt))

    each_lists : every_from 0 (λ g ys. same_numbers ys (listed xs g) && nat_lt 0 (length ys)) (groups ls) ≡ true
    each_lists = every_position (λ g ys. same_numbers ys (listed xs g) && nat_lt 0 (length ys)) (members (map (group_number ls) ls)) 0 (length (heads ls)) each
      where
        some : (ys : List ℕ) (h : ℕ) → first_of ys ≡ h ∷ [] → nat_lt 0 (length ys) ≡ true
        some [] h is = cc
        some (y ∷ ys) h is = lt-ltb 0 (suc (length ys)) (omega arith)

        each : (k : ℕ) → k < length (heads ls) → (same_numbers (members (map (group_number ls) ls) (0 + k)) (listed xs (0 + k)) && nat_lt 0 (length (members (map (group_number ls) ls) (0 + k)))) ≡ true
        each k lt =
            let z : k ≡ 0 + k = omega arith in
            let h = there (heads ls) k lt in
            and_from (same_numbers (members (map (group_number ls) ls) (0 + k)) (listed xs (0 + k))) (nat_lt 0 (length (members (map (group_number ls) ls) (0 + k))))
            (ap (same_numbers (members (map (group_number ls) ls) (0 + k))) (listed_are xs (0 + k) ∙ ap (λ ms. members ms (0 + k)) same) ∙ same_numbers_refl (members (map (group_number ls) ls) (0 + k)))
            (some (members (map (group_number ls) ls) (0 + k)) h.0 (ap (λ m. first_of (members (map (group_number ls) ls) m)) (sym z) ∙ first_is ls low k h.0 h.1))

    pub groups_kept : (gs : List (List ℕ)) → gs ≡ groups ls
        → (list_all (λ e. nat_lt (of e) (length gs)) xs && (every_from 0 (λ g ys. same_numbers ys (listed xs g) && nat_lt 0 (length ys)) gs && is_rising (firsts gs))) ≡ true
    groups_kept gs are = subst (λ hs. (list_all (λ e. nat_lt (of e) (length hs)) xs && (every_from 0 (λ g ys. same_numbers ys (listed xs g) && nat_lt 0 (length ys)) hs && is_rising (firsts hs))) ≡ true) (sym are)
        (and_from (list_all (λ e. nat_lt (of e) (length (groups ls))) xs) (every_from 0 (λ g ys. same_numbers ys (listed xs g) && nat_lt 0 (length ys)) (groups ls) && is_rising (firsts (groups ls))) each_within
        (and_from (every_from 0 (λ g ys. same_numbers ys (listed xs g) && nat_lt 0 (length ys)) (groups ls)) (is_rising (firsts (groups ls))) each_lists (groups_rise ls low)))
