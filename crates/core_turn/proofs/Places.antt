-- Where items stand in lists: in a mapped one, in a kept part, in one that was gathered.
use Rattle.std.proofs.Common.{◌≡◌, ℕ, zero, suc, ◌≤◌, Bool, true, false, ◌||◌, if◌then◌else◌, refl, sym, ◌∙◌, ap, subst, arith, List, [], ◌∷◌, map, Some}
use Rattle.std.specs.Prelude.{filter}
use Rattle.bus_semantics.specs.Common.{list_any, list_all, slice_get, and_from, false≢true, count, gathered}
use Rattle.task_slots.proofs.Onward.{count_on}

-- an item of a list
pub record IsAmong {X : Type 0} (xs : List X) (x : X) : Type 0 where
  pub place : ℕ
  pub found : slice_get xs place ≡ Some x

pub deeper : {X : Type 0} (y : X) (xs : List X) (x : X) → IsAmong xs x → IsAmong (y ∷ xs) x
deeper y xs x at = record { place = suc at.place; found = at.found }

-- an item that passes a test
pub record Passing {X : Type 0} (test : X → Bool) (xs : List X) : Type 0 where
  pub item : X
  pub at : IsAmong xs item
  pub passes : test item ≡ true

pub passing : {X : Type 0} (test : X → Bool) (xs : List X) → list_any test xs ≡ true → Passing test xs
passing test [] e = absurd (false≢true e)
passing test (x ∷ xs) e = of_test (test x) refl e (λ any. passing test xs any)
  where
    of_test : (b : Bool) → test x ≡ b → (b || list_any test xs) ≡ true → (list_any test xs ≡ true → Passing test xs) → Passing test (x ∷ xs)
    of_test true is any more = record { item = x; at = record { place = 0; found = refl }; passes = is }
    of_test false is any more = let rest = more any in record { item = rest.item; at = deeper x xs rest.item rest.at; passes = rest.passes }

pub all_from : {X : Type 0} (test : X → Bool) (xs : List X) → ((i : ℕ) (x : X) → slice_get xs i ≡ Some x → test x ≡ true) → list_all test xs ≡ true
all_from test [] each = refl
all_from test (x ∷ xs) each = and_from (test x) (list_all test xs) (each 0 x refl) (all_from test xs (λ i y found. each (suc i) y found))

-- ---- a mapped list

pub record MapsTo {X Y : Type 0} (f : X → Y) (xs : List X) (y : Y) : Type 0 where
  pub from : X
  pub at : IsAmong xs from
  pub is : f from ≡ y

pub mapped_from : {X Y : Type 0} (f : X → Y) (xs : List X) (i : ℕ) (y : Y) → slice_get (map f xs) i ≡ Some y → MapsTo f xs y
mapped_from f [] i y e = absurd (cc e)
mapped_from f (x ∷ xs) zero y e = record { from = x; at = record { place = 0; found = refl }; is = cc }
mapped_from f (x ∷ xs) (suc i) y e = let more = mapped_from f xs i y e in record { from = more.from; at = deeper x xs more.from more.at; is = more.is }

-- ---- a kept part

pub record KeptFrom {X : Type 0} (keep : X → Bool) (xs : List X) (x : X) : Type 0 where
  pub at : IsAmong xs x
  pub kept : keep x ≡ true

pub kept_from : {X : Type 0} (keep : X → Bool) (xs : List X) (i : ℕ) (x : X) → slice_get (filter keep xs) i ≡ Some x → KeptFrom keep xs x
kept_from keep [] i x e = absurd (cc e)
kept_from keep (y ∷ xs) i x e = of_test (keep y) refl i e (λ j found. kept_from keep xs j x found)
  where
    on : KeptFrom keep xs x → KeptFrom keep (y ∷ xs) x
    on more = record { at = deeper y xs x more.at; kept = more.kept }

    of_test : (b : Bool) → keep y ≡ b → (i : ℕ) → slice_get (if b then y ∷ filter keep xs else filter keep xs) i ≡ Some x → ((j : ℕ) → slice_get (filter keep xs) j ≡ Some x → KeptFrom keep xs x) → KeptFrom keep (y ∷ xs) x
    of_test true is zero e more = let same : y ≡ x = cc in record { at = record { place = 0; found = e }; kept = ap keep (sym same) ∙ is }
    of_test true is (suc i) e more = on (more i e)
    of_test false is i e more = on (more i e)

pub in_kept : {X : Type 0} (keep : X → Bool) (xs : List X) (i : ℕ) (x : X) → slice_get xs i ≡ Some x → keep x ≡ true → IsAmong (filter keep xs) x
in_kept keep [] i x e is = absurd (cc e)
in_kept keep (y ∷ xs) zero x e is =
    let same : y ≡ x = cc in
    subst (λ b. IsAmong (if b then y ∷ filter keep xs else filter keep xs) x) (sym (ap keep same ∙ is)) (record { place = 0; found = e })
in_kept keep (y ∷ xs) (suc i) x e is = of_test (keep y) (in_kept keep xs i x e is)
  where
    of_test : (b : Bool) → IsAmong (filter keep xs) x → IsAmong (if b then y ∷ filter keep xs else filter keep xs) x
    of_test true at = deeper y (filter keep xs) x at
    of_test false at = at

-- ---- what was gathered

pub record Gathers {X Y : Type 0} (f : X → List Y) (test : Y → Bool) (xs : List X) : Type 0 where
  pub from : X
  pub at : IsAmong xs from
  pub any : list_any test (f from) ≡ true

none_counted : {Y : Type 0} (test : Y → Bool) (ys : List Y) → list_any test ys ≡ false → count test ys ≡ 0
none_counted test [] none = refl
none_counted test (y ∷ ys) none = of_test (test y) none (λ rest. none_counted test ys rest)
  where
    of_test : (b : Bool) → (b || list_any test ys) ≡ false → (list_any test ys ≡ false → count test ys ≡ 0) → (if b then suc (count test ys) else count test ys) ≡ 0
    of_test true none rest = absurd (false≢true (sym none))
    of_test false none rest = rest none

-- what passes a test was gathered from somewhere
pub gathers : {X Y : Type 0} (f : X → List Y) (test : Y → Bool) (xs : List X) → 1 ≤ count test (gathered f xs) → Gathers f test xs
gathers f test [] some = absurd (omega arith)
gathers f test (x ∷ xs) some = of_test (list_any test (f x)) refl (λ rest. gathers f test xs rest)
  where
    of_test : (b : Bool) → list_any test (f x) ≡ b → (1 ≤ count test (gathered f xs) → Gathers f test xs) → Gathers f test (x ∷ xs)
    of_test true is more = record { from = x; at = record { place = 0; found = refl }; any = is }
    of_test false is more =
        let none = none_counted test (f x) is in
        let parts = count_on test (f x) (gathered f xs) in
        let rest = more (omega arith) in
        record { from = rest.from; at = deeper x xs rest.from rest.at; any = rest.any }
