-- Groups that lists connect, by their labels: the least of some labels, and what becomes of labels.
use Rattle.std.proofs.Common.{◌≡◌, ℕ, zero, suc, ◌+◌, ◌≤◌, List, [], ◌∷◌, ◌++◌, length, map, get_or, min, Bool, true, false, cond, nat_eq, ◌==◌, ◌⊎◌, inl, inr, ⊎_elim, refl, sym, subst, ◌∙◌, arith}
use Rattle.bus_semantics.specs.Common.{eq-eqb, eqb-true, length-append, length-map, list_all, list_any, least, leaders_by, leaders_on, together, positions}
use Rattle.plan_definitions.specs.Common.{Among, group_number, groups, head_at, heads, members, from}
use Rattle.plan_definitions.proofs.Lists.{all_at, any_at, any_from, as_many}

-- ---- the least label

pub least_low : (n : ℕ) (ms : List ℕ) → least n ms ≤ n
least_low n [] = omega arith
least_low n (m ∷ ms) = let rest = least_low n ms in omega arith

pub least_each : (n : ℕ) (ms : List ℕ) (m : ℕ) → Among m ms → least n ms ≤ m
least_each n [] m h = absurd h
least_each n (k ∷ ms) m (inl e) = omega arith
least_each n (k ∷ ms) m (inr h) = let rest = least_each n ms m h in omega arith

pub least_is : (n : ℕ) (ms : List ℕ) → (least n ms ≡ n) ⊎ Among (least n ms) ms
least_is n [] = inl refl
least_is n (m ∷ ms) = ⊎_elim here (λ less. other less (least_is n ms)) (or_less m (least n ms))
  where
    or_less : (a b : ℕ) → (min a b ≡ a) ⊎ (min a b ≡ b)
    or_less a b = grind arith

    here : min m (least n ms) ≡ m → (min m (least n ms) ≡ n) ⊎ Among (min m (least n ms)) (m ∷ ms)
    here e = inr (inl e)

    other : min m (least n ms) ≡ least n ms → (least n ms ≡ n) ⊎ Among (least n ms) ms → (min m (least n ms) ≡ n) ⊎ Among (min m (least n ms)) (m ∷ ms)
    other e (inl own) = inl (e ∙ own)
    other e (inr later) = inr (inr (subst (λ k. Among k ms) (sym e) later))

-- the least of some labels is among them, if the first is, whichever is taken as the first
pub least_among : (a : ℕ) (ms : List ℕ) → Among a ms → Among (least a ms) ms
least_among a ms there = ⊎_elim (λ e. subst (λ k. Among k ms) (sym e) there) (λ h. h) (least_is a ms)

pub least_same : (a b : ℕ) (ms : List ℕ) → Among a ms → Among b ms → least a ms ≡ least b ms
least_same a b ms here there =
    let down = least_each a ms (least b ms) (least_among b ms there) in
    let up = least_each b ms (least a ms) (least_among a ms here) in
    omega (arith, down, up)

-- ---- what becomes of a label

abbrev pub comes : (theirs : List ℕ) → ℕ → Bool
comes theirs l = list_any (λ t. t == l) theirs

abbrev pub label : (theirs : List ℕ) → ℕ → ℕ
label theirs l = cond (comes theirs l) (least l theirs) l

pub comes_among : (theirs : List ℕ) (l : ℕ) → comes theirs l ≡ true → Among l theirs
comes_among theirs l h = let p = any_at (λ t. t == l) theirs h in subst (λ k. Among k theirs) (eqb-true p.0 l p.2) p.1

pub among_comes : (theirs : List ℕ) (l : ℕ) → Among l theirs → comes theirs l ≡ true
among_comes theirs l h = any_from (λ t. t == l) theirs l h (eq-eqb l l refl)

-- nothing is connected where all have one label
pub one_label : (t : ℕ) (theirs labels : List ℕ) → list_all (λ l. l == t) theirs ≡ true → map (label theirs) labels ≡ labels
one_label t theirs [] same = refl
one_label t theirs (l ∷ ls) same = λ j. by (comes theirs l) refl j ∷ one_label t theirs ls same j
  where
    is_one : (k : ℕ) → Among k theirs → k ≡ t
    is_one k h = eqb-true k t (all_at (λ m. m == t) theirs same k h)

    by : (b : Bool) → comes theirs l ≡ b → cond b (least l theirs) l ≡ l
    by true is = let here = comes_among theirs l is in is_one (least l theirs) (least_among l theirs here) ∙ sym (is_one l here)
    by false is = refl

-- the least is the same for all that are connected
pub low_label : (t : ℕ) (theirs labels : List ℕ) → Among t theirs → map (λ l. cond (comes theirs l) (least t theirs) l) labels ≡ map (label theirs) labels
low_label t theirs [] here = refl
low_label t theirs (l ∷ ls) here = λ j. by (comes theirs l) refl j ∷ low_label t theirs ls here j
  where
    by : (b : Bool) → comes theirs l ≡ b → cond b (least t theirs) l ≡ cond b (least l theirs) l
    by true is = least_same t l theirs here (comes_among theirs l is)
    by false is = refl

-- ---- how many there are

pub many_positions : (n : ℕ) → length (positions n) ≡ n
many_positions zero = refl
many_positions (suc n) = let rest = many_positions n in length-append (positions n) (n ∷ []) ∙ omega (arith, rest)

many_after : (labels : List ℕ) (lists : List (List ℕ)) → length (leaders_on labels lists) ≡ length labels
many_after labels [] = refl
many_after labels (gs ∷ more) = many_after (together gs labels) more ∙ length-map labels (label (map (λ g. get_or labels g g) gs))

-- as many labels as groups
pub many_leaders : (n : ℕ) (lists : List (List ℕ)) → length (leaders_by n lists) ≡ n
many_leaders n lists = many_after (positions n) lists ∙ many_positions n

-- no more groups of some things than there are things
heads_few : (i : ℕ) (ls : List ℕ) → length (from i head_at ls) ≤ length ls
heads_few i [] = omega arith
heads_few i (l ∷ ls) = by (nat_eq l i) (heads_few (i + 1) ls)
  where
    by : (b : Bool) → length (from (i + 1) head_at ls) ≤ length ls → length (cond b (i ∷ []) [] ++ from (i + 1) head_at ls) ≤ length (l ∷ ls)
    by true rest = omega (arith, rest)
    by false rest = omega (arith, rest)

pub groups_few : (ls : List ℕ) → length (groups ls) ≤ length ls
groups_few ls = let most = heads_few 0 ls in let count : length (groups ls) ≡ length (heads ls) = as_many (members (map (group_number ls) ls)) 0 (length (heads ls)) in omega (arith, most, count)
