-- The order of slots, and what stands at the places of a list in which one was set.
use Rattle.std.proofs.Common.{◌≡◌, ◌≢◌, ◌⊎◌, inl, inr, ℕ, zero, suc, ◌<◌, ◌≤◌, ◌==◌, Bool, true, false, refl, sym, ◌∙◌, ap, arith, List, [], ◌∷◌, set, Option, Some}
use Rattle.bus_semantics.specs.Common.{slice_get, unsigned_Decides, cases_lt, false≢true, get_or_from_slice_get}
use Rattle.place_set.specs.Places.{NoneBetween}
use Rattle.core_turn.specs.Awake.{ComesBefore, onward, around, behind}

-- ---- places

pub set_there : {X : Type 0} (xs : List X) (n i : ℕ) (y x : X) → i ≢ n → slice_get xs i ≡ Some x → slice_get (set xs n y) i ≡ Some x
set_there [] n i y x other e = absurd (cc e)
set_there (z ∷ xs) zero zero y x other e = absurd (other refl)
set_there (z ∷ xs) zero (suc i) y x other e = e
set_there (z ∷ xs) (suc n) zero y x other e = e
set_there (z ∷ xs) (suc n) (suc i) y x other e = set_there xs n i y x (λ same. other (ap suc same)) e

pub no_both : {X : Type 0} (o : Option Bool) → o ≡ Some true → o ≡ Some false → X
no_both o on off = let same : Some true ≡ Some false = sym on ∙ off in absurd (cc same)

pub same_or_not : (m n : ℕ) → (m ≡ n) ⊎ (m ≢ n)
same_or_not m n = of_test (m == n) refl
  where
    of_test : (b : Bool) → (m == n) ≡ b → (m ≡ n) ⊎ (m ≢ n)
    of_test true same = inl ((unsigned_Decides m n).0 same)
    of_test false apart = inr (λ same. false≢true (sym apart ∙ (unsigned_Decides m n).1 same))

-- ---- the order

-- it begins later, but not behind the first of the two
pub later : (from to one other : ℕ) → from ≤ to → (one < from) ⊎ (to ≤ one) → ComesBefore from one other → ComesBefore to one other
later from to one other less (inl low) (onward begun before) = absurd (omega arith)
later from to one other less (inl low) (around begun past) = absurd (omega arith)
later from to one other less (inl low) (behind before past) = behind before (omega arith)
later from to one other less (inr high) (onward begun before) = onward high before
later from to one other less (inr high) (around begun past) = around high (omega arith)
later from to one other less (inr high) (behind before past) = absurd (omega arith)

-- what is awake is not among those of which none is
pub outside : (flags : List Bool) (from to one : ℕ) → NoneBetween flags from to → slice_get flags one ≡ Some true → (one < from) ⊎ (to ≤ one)
outside flags from to one none awake = elim (cases_lt one from) [
  | inl low ↦ inl low
  | inr high ↦ elim (cases_lt one to) [
    | inl within ↦ absurd (false≢true (sym (none one high within) ∙ get_or_from_slice_get flags one true false awake))
    | inr past ↦ inr past
  ]
]

-- one of two comes before the other
pub either : (first one other : ℕ) → one ≢ other → ComesBefore first one other ⊎ ComesBefore first other one
either first one other apart = elim (cases_lt one first) [
  | inl low ↦ elim (cases_lt other first) [
    | inl low_too ↦ elim (cases_lt one other) [ inl less ↦ inl (behind less low_too) | inr more ↦ inr (behind (omega (arith, apart)) low) ]
    | inr high ↦ inr (around high low)
  ]
  | inr high ↦ elim (cases_lt other first) [
    | inl low ↦ inl (around high low)
    | inr high_too ↦ elim (cases_lt one other) [ inl less ↦ inl (onward high less) | inr more ↦ inr (onward high_too (omega (arith, apart))) ]
  ]
]

-- from behind the last place on the order is that from the first
pub round : (count one other : ℕ) → one < count → ComesBefore count one other → ComesBefore 0 one other
round count one other within (onward begun before) = absurd (omega arith)
round count one other within (around begun past) = absurd (omega arith)
round count one other within (behind before past) = onward (omega arith) before
