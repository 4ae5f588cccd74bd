-- Counts that go down.
use Rattle.std.proofs.Common.{◌≡◌, ℕ, zero, suc, ◌+◌, ◌-◌, ◌<◌, ◌==◌, Bool, true, false, nat_lt, List, [], ◌∷◌, map, Option, Some, None, unwrap_or, refl, ◌∙◌, arith, slice_get}
use Rattle.bus_semantics.specs.Common.{eqb-true, ltb-false, ltb-true, sum_by, option_map_or}
use Rattle.std.proofs.lemmas.List.Sums.{sum_by-cons}
use Rattle.plan_definitions.specs.Common.{Component, Description, Instance}
use Rattle.event_mapping.specs.Guard.{at_most}
use Rattle.event_mapping.proofs.Totals.{looked_up}

-- as much is left where no count is more than there was
capped : {X : Type 0} (h g : X → ℕ) (most : ℕ) → ((x : X) → h x ≡ most - (most - g x)) → (xs : List X) → most - sum_by h xs ≡ most - sum_by g xs
capped h g most each [] = refl
capped h g most each (x ∷ xs) =
    let first = sum_by-cons h x xs in
    let second = sum_by-cons g x xs in
    let here = each x in
    let rest = capped h g most each xs in
    omega (arith, first, second, here, rest)

none_more : (most : ℕ) → 0 ≡ most - (most - 0)
none_more most = omega arith

-- as many for each instance as its component has, by a list of counts
module _ (d : Description) (most : ℕ) (g : Component → ℕ) (counts : List ℕ) (are : counts ≡ map (at_most most g) d.components) where
  each : (x : Instance) → unwrap_or (slice_get counts x.component) 0 ≡ most - (most - option_map_or g (slice_get d.components x.component) 0)
  each x = (λ j. unwrap_or (slice_get (are j) x.component) 0) ∙ looked_up (at_most most g) d.components x.component ∙ by (slice_get d.components x.component)
    where
      by : (o : Option Component) → option_map_or (at_most most g) o 0 ≡ most - (most - option_map_or g o 0)
      by None = none_more most
      by (Some c) = refl

  pub instances_spent : (xs : List Instance) (inner : ℕ) → inner ≡ most - sum_by (λ x. unwrap_or (slice_get counts x.component) 0) xs
      → inner ≡ most - sum_by (λ x. option_map_or g (slice_get d.components x.component) 0) xs
  instances_spent xs inner is = is ∙ capped (λ (x : Instance). unwrap_or (slice_get counts x.component) 0) (λ (x : Instance). option_map_or g (slice_get d.components x.component) 0) most each xs

-- two sums after one another, and three
pub two_spent : (whole a b left new : ℕ) → left ≡ whole - a → new ≡ left - b → new ≡ whole - (a + b)
two_spent whole a b left new first second = omega (arith, first, second)

pub three_spent : (whole a b c left rest new : ℕ) → left ≡ whole - a → rest ≡ left - b → new ≡ rest - c → new ≡ whole - (a + (b + c))
three_spent whole a b c left rest new first second third = omega (arith, first, second, third)

-- nothing is left
pub some_left : (n : ℕ) → (n == 0) ≡ false → 0 < n
some_left zero none = cc
some_left (suc n) none = omega arith

pub all_spent : (left n : ℕ) → left ≡ 65537 - n → (left == 0) ≡ nat_lt 65536 n
all_spent left n is = by (left == 0) (nat_lt 65536 n) refl refl
  where
    by : (s t : Bool) → (left == 0) ≡ s → nat_lt 65536 n ≡ t → s ≡ t
    by true true h k = refl
    by false false h k = refl
    by true false h k = let none = eqb-true left 0 h in let few = ltb-false 65536 n k in absurd (omega (arith, none, few, is))
    by false true h k = let some = some_left left h in let many = ltb-true 65536 n k in absurd (omega (arith, some, many, is))
