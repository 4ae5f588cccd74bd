-- Where nothing is first, nothing is there.
use Rattle.std.proofs.Common.{◌≡◌, ℕ, zero, suc, ◌+◌, List, [], ◌∷◌, Bool, true, false, Option, Some, None, option_map, refl, sym, ap, ◌∙◌, arith, slice_get}
use Rattle.std.specs.Option.{option_or}
use Rattle.plan_definitions.specs.Firsts.{first_of, unless}

pub or_none : {X : Type 0} (a b : Option X) → option_or a b ≡ None → (a ≡ None) × (b ≡ None)
or_none None b h = (refl, h)
or_none (Some x) b h = cc

pub first_none : {X Y : Type 0} (f : ℕ → X → Option Y) (i : ℕ) (xs : List X) (n : ℕ) (x : X) → first_of f i xs ≡ None → slice_get xs n ≡ Some x → f (i + n) x ≡ None
first_none f i [] n x none is = cc
first_none f i (y ∷ xs) zero x none is = let e : y ≡ x = cc in let z : i + 0 ≡ i = omega arith in ap (λ m. f m x) z ∙ ap (f i) (sym e) ∙ (or_none (f i y) (first_of f (i + 1) xs) none).0
first_none f i (y ∷ xs) (suc n) x none is = let s : i + suc n ≡ i + 1 + n = omega arith in ap (λ m. f m x) s ∙ first_none f (i + 1) xs n x (or_none (f i y) (first_of f (i + 1) xs) none).1 is

pub map_none : {X Y : Type 0} (f : X → Y) (o : Option X) → option_map f o ≡ None → o ≡ None
map_none f None h = refl
map_none f (Some x) h = cc

pub unless_none : {P : Type 0} (b : Bool) (place : P) → unless b place ≡ None → b ≡ true
unless_none true place e = refl
unless_none false place e = absurd (cc e)
