-- Elements and their slots.
use Rattle.std.proofs.Common.{◌≡◌, ◌≢◌, ℕ, suc, ◌+◌, ◌<◌, ◌≤◌, List, [], ◌∷◌, ◌++◌, Bool, true, false, drop, length, get_or, if◌then◌else◌, refl, sym, ap, ◌∙◌, subst, arith, append_assoc, eq-eqb}
use Rattle.std.specs.Prelude.{◌==◌}
use Rattle.std.proofs.lemmas.Bool.{eqb-true, eqb-false, ne_eqb}
use Rattle.std.proofs.lemmas.List.{drop_more, drop_all}
use Rattle.task_generator.specs.Slots.{slot_of}

-- ---- one element further

pub slot_turn : (elements : List ℕ) (i x d : ℕ) → i < length elements → get_or elements i d ≢ x → slot_of x (drop i elements) ≡ suc (slot_of x (drop (i + 1) elements))
slot_turn elements i x d below other =
    ap (slot_of x) (drop_more elements i d below) ∙ ap (λ b. if b then 0 else suc (slot_of x (drop (i + 1) elements))) (ne_eqb (get_or elements i d) x other)

pub slot_here : (elements : List ℕ) (i x d : ℕ) → i < length elements → get_or elements i d ≡ x → slot_of x (drop i elements) ≡ 0
slot_here elements i x d below same =
    ap (slot_of x) (drop_more elements i d below) ∙ ap (λ b. if b then 0 else suc (slot_of x (drop (i + 1) elements))) (eq-eqb (get_or elements i d) x same)

pub slot_end : (elements : List ℕ) (i x : ℕ) → length elements ≤ i → slot_of x (drop i elements) ≡ 0
slot_end elements i x past = ap (slot_of x) (drop_all i elements past)

-- ---- no two elements share a slot

found_at : (x : ℕ) (ys : List ℕ) → slot_of x ys < length ys → get_or ys (slot_of x ys) 0 ≡ x
found_at x [] below = absurd (omega arith)
found_at x (y ∷ ys) below = by_test (y == x) refl (λ later. found_at x ys later) below
  where
    by_test : (b : Bool) → (y == x) ≡ b → (slot_of x ys < length ys → get_or ys (slot_of x ys) 0 ≡ x) → (if b then 0 else suc (slot_of x ys)) < length (y ∷ ys) → get_or (y ∷ ys) (if b then 0 else suc (slot_of x ys)) 0 ≡ x
    by_test true same rest below = eqb-true y x same
    by_test false other rest below = rest (omega (arith, below))

pub same_slot : (x y : ℕ) (zs : List ℕ) → slot_of x zs < length zs → slot_of y zs ≡ slot_of x zs → y ≡ x
same_slot x y zs below same =
    sym (found_at y zs (omega (arith, below, same))) ∙ ap (λ i. get_or zs i 0) same ∙ found_at x zs below

-- ---- each element of a list has a slot

slot_within : (pre : List ℕ) (x : ℕ) (xs : List ℕ) → slot_of x (pre ++ x ∷ xs) < length (pre ++ x ∷ xs)
slot_within [] x xs = by_test (x == x) refl
  where
    by_test : (b : Bool) → (x == x) ≡ b → (if b then 0 else suc (slot_of x xs)) < length (x ∷ xs)
    by_test true same = omega arith
    by_test false other = absurd (eqb-false x x other refl)
slot_within (y ∷ pre) x xs = by_test (y == x) (slot_within pre x xs)
  where
    by_test : (b : Bool) → slot_of x (pre ++ x ∷ xs) < length (pre ++ x ∷ xs) → (if b then 0 else suc (slot_of x (pre ++ x ∷ xs))) < length (y ∷ (pre ++ x ∷ xs))
    by_test true rest = omega arith
    by_test false rest = omega (arith, rest)

abbrev pub HaveSlots : List ℕ → List ℕ → Type 0
HaveSlots all [] = Unit {0}
HaveSlots all (x ∷ xs) = (slot_of x all < length all) × HaveSlots all xs

have_slots : (pre xs : List ℕ) → HaveSlots (pre ++ xs) xs
have_slots pre [] = tt
have_slots pre (x ∷ xs) = (slot_within pre x xs, subst (λ all. HaveSlots all xs) (append_assoc pre (x ∷ []) xs) (have_slots (pre ++ x ∷ []) xs))

pub all_have_slots : (xs : List ℕ) → HaveSlots xs xs
all_have_slots xs = have_slots [] xs
