-- The turns of the loops over instances.
use Rattle.std.proofs.Common.{◌≡◌, ℕ, zero, suc, ◌+◌, ◌<◌, List, [], ◌∷◌, length, drop, Option, Some, None, option_and_then, slice_get, refl, sym, ap, ◌∙◌, arith, add-one}
use Rattle.std.specs.Option.{option_or}
use Rattle.plan_definitions.specs.Common.{first_of, Component, Description, Flat, Instance, component_of}

module _ {X : Type 0} (d : Description) (g : ℕ → Component → Option X) where
  abbrev at : ℕ → Instance → Option X
  at i x = option_and_then (g i) (slice_get d.components x.component)

  next : (xs : List Instance) (n i : ℕ) → i < length xs → first_of at n (drop i xs)
      ≡ option_or (option_and_then (g n) (option_and_then (λ x. slice_get d.components x.component) (slice_get xs i))) (first_of at (n + 1) (drop (suc i) xs))
  next [] n i within = absurd (omega arith)
  next (x ∷ xs) n zero within = refl
  next (x ∷ xs) n (suc i) within = next xs n i (omega arith)

  module _ (f : Flat) (i : ℕ) (within : i < length f.instances) where
    pub instance_more : option_and_then (g i) (component_of d f i) ≡ None → first_of at i (drop i f.instances) ≡ first_of at (i + 1) (drop (i + 1) f.instances)
    instance_more none = next f.instances i i within ∙ (λ j. option_or (none j) (first_of at (i + 1) (drop (sym (add-one i) j) f.instances)))

    pub instance_here : (x : X) → option_and_then (g i) (component_of d f i) ≡ Some x → first_of at i (drop i f.instances) ≡ Some x
    instance_here x found = next f.instances i i within ∙ ap (λ r. option_or r (first_of at (i + 1) (drop (suc i) f.instances))) found
