-- Lists of groups, filled one element at a time.
use Rattle.std.proofs.Common.{◌≡◌, ℕ, zero, suc, ◌+◌, ◌<◌, List, [], ◌∷◌, ◌++◌, map, length, get_or, set, take, replicate, cond, nat_eq, refl, sym, ap, ◌∙◌, arith, add-zero, append_assoc, length-take}
use Rattle.bus_semantics.specs.Common.{eq-eqb, ne_eqb, append-nil, get_or-map, map-set, take_more}
use Rattle.plan_definitions.specs.Common.{from, positions, all_members, member_at, members}
use Rattle.plan_elements.specs.Lists.{put_in}

-- no group has an element yet
none_from : (s count : ℕ) → replicate count [] ≡ map (members []) (positions s count)
none_from s zero = refl
none_from s (suc count) = ap (λ xs. [] ∷ xs) (none_from (s + 1) count)

pub none_yet : (count : ℕ) → replicate count [] ≡ all_members count []
none_yet count = none_from 0 count

-- one more element
from_push : {X Y : Type 0} (f : ℕ → X → List Y) (n : ℕ) (xs : List X) (x : X) → from n f (xs ++ x ∷ []) ≡ from n f xs ++ f (n + length xs) x
from_push f n [] x = append-nil (f n x) ∙ (λ j. f (sym (add-zero n) j) x)
from_push f n (y ∷ xs) x = ap (λ ys. f n y ++ ys) (from_push f (n + 1) xs x) ∙ sym (append_assoc (f n y) (from (n + 1) f xs) (f ((n + 1) + length xs) x))
    ∙ (λ j. (f n y ++ from (n + 1) f xs) ++ f (there j) x)
  where
    there : (n + 1) + length xs ≡ n + suc (length xs)
    there = omega arith

module _ (F : ℕ → List ℕ) (n : ℕ) where
  abbrev grown : ℕ → ℕ → List ℕ
  grown g k = F k ++ cond (nat_eq g k) (n ∷ []) []

  others : (s count g : ℕ) → g < s → map F (positions s count) ≡ map (grown g) (positions s count)
  others s zero g before = refl
  others s (suc count) g before = (λ j. here j ∷ others (s + 1) count g (omega arith) j)
    where
      here : F s ≡ F s ++ cond (nat_eq g s) (n ∷ []) []
      here = sym (append-nil (F s)) ∙ ap (λ b. F s ++ cond b (n ∷ []) []) (sym (ne_eqb g s (λ e. omega arith)))

  put_from : (s count o : ℕ) → set (map F (positions s count)) o (get_or (map F (positions s count)) o [] ++ n ∷ []) ≡ map (grown (s + o)) (positions s count)
  put_from s zero o = refl
  put_from s (suc count) zero = (λ j. here j ∷ others (s + 1) count (s + 0) (omega arith) j)
    where
      here : F s ++ n ∷ [] ≡ F s ++ cond (nat_eq (s + 0) s) (n ∷ []) []
      here = ap (λ b. F s ++ cond b (n ∷ []) []) (sym (eq-eqb (s + 0) s (omega arith)))
  put_from s (suc count) (suc o) = (λ j. here j ∷ (put_from (s + 1) count o ∙ (λ t. map (grown (there t)) (positions (s + 1) count))) j)
    where
      here : F s ≡ F s ++ cond (nat_eq (s + suc o) s) (n ∷ []) []
      here = sym (append-nil (F s)) ∙ ap (λ b. F s ++ cond b (n ∷ []) []) (sym (ne_eqb (s + suc o) s (λ e. omega arith)))

      there : (s + 1) + o ≡ s + suc o
      there = omega arith

put_now : (F : ℕ → List ℕ) (n count g : ℕ) → put_in g n (map F (positions 0 count)) ≡ map (grown F n g) (positions 0 count)
put_now F n count g = put_from F n 0 count g ∙ (λ t. map (grown F n (there t)) (positions 0 count))
  where
    there : 0 + g ≡ g
    there = omega arith

member_more : (numbers : List ℕ) (i g k : ℕ) → i < length numbers → g ≡ get_or numbers i g → members (take (i + 1) numbers) k ≡ members (take i numbers) k ++ member_at k i g
member_more numbers i g k within is = ap (λ xs. members xs k) (take_more numbers i g within) ∙ from_push (member_at k) 0 (take i numbers) (get_or numbers i g)
    ∙ (λ j. members (take i numbers) k ++ member_at k (place j) (sym is j))
  where
    place : 0 + length (take i numbers) ≡ i
    place = omega (arith, length-take i numbers)

pub one_more : (count : ℕ) (numbers : List ℕ) (i g : ℕ) (old new : List (List ℕ)) → i < length numbers → g ≡ get_or numbers i g → new ≡ put_in g i old → old ≡ all_members count (take i numbers)
    → new ≡ all_members count (take (i + 1) numbers)
one_more count numbers i g old new within is put so_far = put ∙ ap (put_in g i) so_far ∙ put_now (members (take i numbers)) i count g
    ∙ (λ j. map (λ k. sym (member_more numbers i g k within is) j) (positions 0 count))

-- one more number in one of some lists
pub put_is : {X : Type 0} (f : X → List ℕ) (xs : List X) (g n : ℕ) (old new : X) → g < length xs → old ≡ get_or xs g old → f new ≡ f old ++ n ∷ [] → map f (set xs g new) ≡ put_in g n (map f xs)
put_is f xs g n old new within is put = map-set f xs g new ∙ (λ j. set (map f xs) g ((put ∙ (λ t. f (is t) ++ n ∷ []) ∙ (λ t. sym (get_or-map f xs g old [] within) t ++ n ∷ [])) j))
