-- The groups of a bundle by place: each has its own place, and what is kept at one place may change alone.
use Rattle.std.proofs.Common.{◌≡◌, ◌⊎◌, ◌<◌, ◌≤◌, ℕ, zero, suc, Bool, true, false, ◌==◌, refl, sym, ◌∙◌, ap, subst, arith, inl, inr, List, [], ◌∷◌, length, map, get_or, set, Option, Some, None}
use mathlib.Core.Logic.{dite}
use native.Mathlib.Decide.{ℕ_discrete}
use Rattle.std.specs.Prelude.{option_and_then, filter}
use Rattle.bus_semantics.specs.Common.{list_all, slice_get, option_map_or, eq-eqb, eqb-true, false≢true, length-set, same_Some, slice_get_within, get_or_from_slice_get, same_number, Plan}
use Rattle.bus_semantics.specs.Common.{group_of, kind_of, positions, home_of, bundle_of, groups_at, is_in_group}
use Rattle.bus_laws.proofs.Bundling.{some_of}
use Rattle.object_kinds.specs.Common.{place, waits_for_data, is_rising}
use Rattle.object_kinds.proofs.Lists.{all_at, all_filter}
use Rattle.object_kinds.proofs.Options.{number_is, is_number, then_some}
use Rattle.object_kinds.proofs.Placing.{place_at, placed}
use Rattle.object_kinds.proofs.Ranges.{given_at}
use Rattle.object_kinds.proofs.Rising.{rising_positions, place_here}
use Rattle.data_objects.specs.Kept as groups
use Rattle.bundle_objects.specs.Kept.{Kept}
use Rattle.bundle_objects.specs.Leading.{part_of, number_at, with_part}

-- ---- one item of a list is set

pub set_here : {X : Type 0} (xs : List X) (i : ℕ) (x y : X) → slice_get xs i ≡ Some y → slice_get (set xs i x) i ≡ Some x
set_here [] i x y there = absurd (cc there)
set_here (z ∷ xs) zero x y there = refl
set_here (z ∷ xs) (suc i) x y there = set_here xs i x y there

pub set_there : {X : Type 0} (xs : List X) (i j : ℕ) (x : X) → (i ≡ j → ⊥) → slice_get (set xs i x) j ≡ slice_get xs j
set_there [] i j x apart = refl
set_there (z ∷ xs) zero zero x apart = absurd (apart refl)
set_there (z ∷ xs) zero (suc j) x apart = refl
set_there (z ∷ xs) (suc i) zero x apart = refl
set_there (z ∷ xs) (suc i) (suc j) x apart = set_there xs i j x (λ same. apart (ap suc same))

-- ---- numbers

-- the numbers of a bundle's groups rise
pub numbers_rise : (p : Plan) (b : ℕ) → is_rising (groups_at p b) ≡ true
numbers_rise p b = rising_positions (λ g. same_number (home_of p g) (Some b)) (length p.homes)

-- a group of the bundle has its place
pub record Placed (p : Plan) (b : ℕ) (numbers : List ℕ) (g : ℕ) : Type 0 where
  pub at : ℕ
  pub is : place g numbers ≡ Some at
  pub number : slice_get numbers at ≡ Some g

pub group_placed : (p : Plan) (b : ℕ) (numbers : List ℕ) (g : ℕ) → numbers ≡ groups_at p b → home_of p g ≡ Some b → Placed p b numbers g
group_placed p b numbers g are home =
    let at = given_at p.homes g (λ (n : ℕ). Some n) b home in
    let there = placed (λ h. same_number (home_of p h) (Some b)) (length p.homes) g (slice_get_within p.homes g at.item at.found) (is_number (home_of p g) b home) in
    let is : place g numbers ≡ Some there.at = ap (place g) are ∙ there.is in
    record { at = there.at; is = is; number = place_at g numbers there.at is }

-- what has a place is a group of the bundle
pub number_home : (p : Plan) (b : ℕ) (numbers : List ℕ) (i g : ℕ) → numbers ≡ groups_at p b → slice_get numbers i ≡ Some g → home_of p g ≡ Some b
number_home p b numbers i g are there =
    let test : ℕ → Bool = λ h. same_number (home_of p h) (Some b) in
    number_is (home_of p g) b (all_at test (groups_at p b) i g (all_filter test (positions (length p.homes))) (ap (λ ns. slice_get ns i) (sym are) ∙ there))

-- and two places are of two groups
pub one_place : (numbers : List ℕ) (i j g : ℕ) → is_rising numbers ≡ true → slice_get numbers i ≡ Some g → slice_get numbers j ≡ Some g → i ≡ j
one_place numbers i j g up here there = same_Some i j (sym (place_here numbers i g up here) ∙ place_here numbers j g up there)

pub number_is_at : (k : Kept) (i g : ℕ) → slice_get k.numbers i ≡ Some g → number_at k i ≡ g
number_is_at k i g there = get_or_from_slice_get k.numbers i g 0 there

-- ---- elements

-- an element with a place is of the group that stands there
pub part_inside : (p : Plan) (k : Kept) (x i g : ℕ) → part_of p k x ≡ Some i → slice_get k.numbers i ≡ Some g → is_in_group p g x ≡ true
part_inside p k x i g at number =
    let found = then_some (λ h. place h k.numbers) (group_of p x) i at in
    let same : found.item ≡ g = same_Some found.item g (sym (place_at found.item k.numbers i found.gives) ∙ number) in
    is_number (group_of p x) g (found.is ∙ ap (λ h. Some h) same)

-- and an element of a group with a place has that place
pub inside_part : (p : Plan) (k : Kept) (x i g : ℕ) → is_rising k.numbers ≡ true → slice_get k.numbers i ≡ Some g → is_in_group p g x ≡ true → part_of p k x ≡ Some i
inside_part p k x i g up number inside = ap (option_and_then (λ h. place h k.numbers)) (number_is (group_of p x) g inside) ∙ place_here k.numbers i g up number

-- ---- parts

pub record Part (k : Kept) (i : ℕ) : Type 0 where
  pub part : groups.Kept
  pub found : slice_get k.parts i ≡ Some part

pub part_found : (k : Kept) (i g : ℕ) → length k.parts ≡ length k.numbers → slice_get k.numbers i ≡ Some g → Part k i
part_found k i g counted number =
    let within : i < length k.parts = omega (arith, slice_get_within k.numbers i g number, counted) in
    let some = some_of k.parts i within in
    record { part = some.0; found = some.1 }

pub record Number (k : Kept) (i : ℕ) : Type 0 where
  pub group : ℕ
  pub found : slice_get k.numbers i ≡ Some group

pub number_found : (k : Kept) (i : ℕ) (part : groups.Kept) → length k.parts ≡ length k.numbers → slice_get k.parts i ≡ Some part → Number k i
number_found k i part counted there =
    let within : i < length k.numbers = omega (arith, slice_get_within k.parts i part there, counted) in
    let some = some_of k.numbers i within in
    record { group = some.0; found = some.1 }

-- which part stands at a place after one was set
pub data At (i j : ℕ) : Type 0 where
  here : i ≡ j → At i j
  elsewhere : (i ≡ j → ⊥) → At i j

pub compared : (i j : ℕ) → At i j
compared i j = dite (ℕ_discrete i j) (λ e. here e) (λ other. elsewhere other)
