-- The slots of a coherent list's elements, one slot further.
use Rattle.std.proofs.Common.{◌≡◌, ℕ, zero, suc, ◌+◌, ◌-◌, ◌*◌, ◌<◌, ◌≤◌, min, ℤ, List, [], ◌∷◌, ◌++◌, take, drop, length, get_or, Bool, true, false, ◌||◌, not, if◌then◌else◌, Option, Some}
use Rattle.std.proofs.Common.{None, refl, sym, ap, ◌∙◌, arith, append_assoc, length-drop, length-take}
use Rattle.std.specs.Prelude.{◌^◌, flat_map, is_some, is_none}
use Rattle.bus_semantics.specs.Common.{list_any, append-nil, drop_more, drop_all, mask_of}
use Rattle.std.proofs.Math.Nat.{pow-succ'}
use Rattle.std.proofs.lemmas.List.{get_or-take}
use Rattle.task_machine.specs.declared.instr.SlotPart.{SlotPart}
use Rattle.task_machine.specs.Store.{Store, with_fetched, written_in}
use Rattle.task_machine.specs.Listed.{has_written, any_written, with_parts}

-- ---- as many words as there are

module _ {X : Type 0} where
  pub take_short : (n : ℕ) (xs : List X) (k : ℕ) → k ≡ min (length xs) n → take k xs ≡ take n xs
  take_short zero xs zero is = refl
  take_short (suc n) [] zero is = refl
  take_short (suc n) (x ∷ xs) zero is = absurd (omega (arith, is))
  take_short zero xs (suc k) is = absurd (omega (arith, is))
  take_short (suc n) [] (suc k) is = absurd (omega (arith, is))
  take_short (suc n) (x ∷ xs) (suc k) is = ap (λ ys. x ∷ ys) (take_short n xs k (omega (arith, is)))

  pub drop_short : (n : ℕ) (xs : List X) (k : ℕ) → k ≡ min (length xs) n → drop k xs ≡ drop n xs
  drop_short zero xs zero is = refl
  drop_short (suc n) [] zero is = refl
  drop_short (suc n) (x ∷ xs) zero is = absurd (omega (arith, is))
  drop_short zero xs (suc k) is = absurd (omega (arith, is))
  drop_short (suc n) [] (suc k) is = absurd (omega (arith, is))
  drop_short (suc n) (x ∷ xs) (suc k) is = drop_short n xs k (omega (arith, is))

  fill : (n : ℕ) (old more : List X) (k : ℕ) → length old ≤ n → k ≡ min (length more) (n - length old) → old ++ take k more ≡ take n (old ++ more)
  fill n [] more k room is = take_short n more k (omega (arith, is))
  fill zero (x ∷ old) more k room is = absurd (omega (arith, room))
  fill (suc n) (x ∷ old) more k room is = ap (λ ys. x ∷ ys) (fill n old more k (omega (arith, room)) (omega (arith, is)))

  pub filled : (old more : List X) (k : ℕ) → length old ≤ 16 → k ≡ min (length more) (16 - length old) → old ++ take k more ≡ take 16 (old ++ more)
  filled old more k room is = fill 16 old more k room is

  pub take_again : (n : ℕ) (xs ys : List X) → take n (take n xs ++ ys) ≡ take n (xs ++ ys)
  take_again zero xs ys = refl
  take_again (suc n) [] ys = refl
  take_again (suc n) (x ∷ xs) ys = ap (λ zs. x ∷ zs) (take_again n xs ys)

-- ---- marks

below : (test : ℕ → Bool) (n : ℕ) (xs : List ℕ) → length xs ≤ n → mask_of test xs + 1 ≤ 2 ^ n
below test zero [] few = omega arith
below test zero (x ∷ xs) few = absurd (omega (arith, few))
below test (suc n) [] few = omega (arith, below test n [] (omega arith), pow-succ' 2 n)
below test (suc n) (x ∷ xs) few = by_test (test x) (below test n xs (omega (arith, few)))
  where
    by_test : (b : Bool) → mask_of test xs + 1 ≤ 2 ^ n → (if b then 1 else 0) + 2 * mask_of test xs + 1 ≤ 2 ^ suc n
    by_test true rest = omega (arith, rest, pow-succ' 2 n)
    by_test false rest = omega (arith, rest, pow-succ' 2 n)

pub few_marks : (test : ℕ → Bool) (xs : List ℕ) (i : ℕ) → mask_of test (drop i (take 16 xs)) < 65536
few_marks test xs i =
    let less : mask_of test (drop i (take 16 xs)) + 1 ≤ 65536 = below test 16 (drop i (take 16 xs)) (omega (arith, length-drop i (take 16 xs), length-take 16 xs)) in
    omega arith

pub marks_end : (test : ℕ → Bool) (slots : List ℕ) (n : ℕ) → n ≡ min (length slots) 16 → 0 ≡ mask_of test (drop n (take 16 slots))
marks_end test slots n is = ap (mask_of test) (sym (drop_all n (take 16 slots) (omega (arith, is, length-take 16 slots))))

pub marks_turn : (test : ℕ → Bool) (slots : List ℕ) (n left d marks one : ℕ) (b : Bool) → left ≡ n + 1 → n < length slots → n < 16 → one ≡ (if b then 1 else 0) → b ≡ test (get_or slots n d)
    → marks ≡ mask_of test (drop left (take 16 slots)) → 2 * marks + one ≡ mask_of test (drop n (take 16 slots))
marks_turn test slots n left d marks one b next within few is written so_far =
    let xs = take 16 slots in
    let same : get_or xs n d ≡ get_or slots n d = get_or-take 16 slots n d few in
    let bit : one ≡ (if test (get_or xs n d) then 1 else 0) = is ∙ ap (λ c. if c then 1 else 0) (written ∙ ap test (sym same)) in
    let rest : marks ≡ mask_of test (drop (n + 1) xs) = so_far ∙ ap (λ k. mask_of test (drop k xs)) next in
    let whole : mask_of test (drop n xs) ≡ (if test (get_or xs n d) then 1 else 0) + 2 * mask_of test (drop (n + 1) xs) =
    ap (mask_of test) (drop_more xs n d (omega (arith, within, few, length-take 16 slots))) in
    omega (arith, bit, rest, whole)

-- ---- whether something was written

pub written_or_not : (m : Store) (slot : ℕ) (b : Bool) → b ≡ is_none (written_in slot m) → not b ≡ has_written m slot
written_or_not m slot b is = ap not is ∙ by_last (written_in slot m)
  where
    by_last : (o : Option (List ℤ)) → not (is_none o) ≡ is_some o
    by_last None = refl
    by_last (Some ws) = refl

pub any_here : (slots : List ℕ) (i d : ℕ) (m : Store) → i < length slots → has_written m (get_or slots i d) ≡ true → any_written (drop i slots) m ≡ true
any_here slots i d m within here = ap (list_any (has_written m)) (drop_more slots i d within) ∙ ap (λ b. b || list_any (has_written m) (drop (i + 1) slots)) here

pub any_turn : (slots : List ℕ) (i d : ℕ) (m : Store) → i < length slots → has_written m (get_or slots i d) ≡ false → any_written (drop i slots) m ≡ any_written (drop (i + 1) slots) m
any_turn slots i d m within here = ap (list_any (has_written m)) (drop_more slots i d within) ∙ ap (λ b. b || list_any (has_written m) (drop (i + 1) slots)) here

pub any_end : (slots : List ℕ) (i : ℕ) (m : Store) → length slots ≤ i → any_written (drop i slots) m ≡ false
any_end slots i m past = ap (list_any (has_written m)) (drop_all i slots past)

-- ---- words

one_more : (f : ℕ → List ℤ) (xs : List ℕ) (k d : ℕ) → k < length xs → flat_map f (take k xs) ++ f (get_or xs k d) ≡ flat_map f (take (suc k) xs)
one_more f [] k d less = absurd (omega (arith, less))
one_more f (x ∷ xs) zero d less = sym (append-nil (f x))
one_more f (x ∷ xs) (suc k) d less = append_assoc (f x) (flat_map f (take k xs)) (f (get_or xs k d)) ∙ ap (λ ws. f x ++ ws) (one_more f xs k d (omega (arith, less)))

pub words_more : (f : ℕ → List ℤ) (slots : List ℕ) (i d : ℕ) (old new : List ℤ) → i < length slots → new ≡ take 16 (old ++ f (get_or slots i d))
    → old ≡ take 16 (flat_map f (take i slots)) → new ≡ take 16 (flat_map f (take (i + 1) slots))
words_more f slots i d old new within put so_far =
    let next : suc i ≡ i + 1 = omega arith in
    put
    ∙ ap (λ ws. take 16 (ws ++ f (get_or slots i d))) so_far
    ∙ take_again 16 (flat_map f (take i slots)) (f (get_or slots i d))
    ∙ ap (take 16) (one_more f slots i d within)
    ∙ ap (λ n. take 16 (flat_map f (take n slots))) next

-- ---- parts

-- where there is no part
abbrev pub no_part : SlotPart
no_part = record { slot = 0; words = 0 }

pub parts_turn : (parts : List SlotPart) (i : ℕ) (d : SlotPart) (words own rest : List ℤ) (m n all : Store) → i < length parts → own ≡ take (get_or parts i d).words words → rest ≡ drop (get_or parts i d).words words
    → n ≡ with_fetched (get_or parts i d).slot own m → with_parts (drop i parts) words m ≡ all → with_parts (drop (i + 1) parts) rest n ≡ all
parts_turn parts i d words own rest m n all within first behind put so_far =
    let part = get_or parts i d in
    ap (λ ws. with_parts (drop (i + 1) parts) ws n) behind
    ∙ ap (with_parts (drop (i + 1) parts) (drop part.words words)) (put ∙ ap (λ ws. with_fetched part.slot ws m) first)
    ∙ ap (λ (ps : List SlotPart). with_parts ps words m) (sym (drop_more parts i d within))
    ∙ so_far

pub parts_end : (parts : List SlotPart) (i : ℕ) (words : List ℤ) (m : Store) → length parts ≤ i → with_parts (drop i parts) words m ≡ m
parts_end parts i words m past = ap (λ (ps : List SlotPart). with_parts ps words m) (drop_all i parts past)
