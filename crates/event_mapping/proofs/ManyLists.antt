-- How many coherent access lists instances have.
use Rattle.std.proofs.Common.{◌≡◌, ℕ, suc, ◌+◌, ◌*◌, ◌^◌, ◌<◌, ◌≤◌, List, [], ◌∷◌, ◌++◌, length, map, slice_get, Option, Some, None, option_and_then, refl, ap, ◌∙◌, arith}
use Rattle.bus_semantics.specs.Common.{length-append, length-map, option_map_or}
use Rattle.plan_definitions.specs.Common.{Component, Runnable, Description, Flat, Instance, sum_of, list_of, lists, lists_at, runnable_at, from, positions, component_of, counted, counted_at}
use Rattle.plan_definitions.specs.Common.{numbered, runnables_of, HasFewParts, list_count}
use Rattle.plan_definitions.specs.declared.part.Part.TheVariants.{Runnables}

-- ---- sums

sum_append : {X : Type 0} (h : X → ℕ) (xs ys : List X) → sum_of h (xs ++ ys) ≡ sum_of h xs + sum_of h ys
sum_append h [] ys = omega arith
sum_append h (x ∷ xs) ys = let rest = sum_append h xs ys in omega (arith, rest)

long_from : {X Y : Type 0} (g : ℕ → X → List Y) (h : X → ℕ) → ((i : ℕ) (x : X) → length (g i x) ≡ h x) → (i : ℕ) (xs : List X) → length (from i g xs) ≡ sum_of h xs
long_from g h each i [] = refl
long_from g h each i (x ∷ xs) = let here = each i x in let rest = long_from g h each (i + 1) xs in length-append (g i x) (from (i + 1) g xs) ∙ omega (arith, here, rest)

module _ (d : Description) (f : Flat) where
  -- those of a runnable of an instance
  abbrev listed_at : Option Runnable → ℕ
  listed_at o = option_map_or (λ (r : Runnable). length r.coherent) o 0

  abbrev lists_in : ℕ × ℕ → ℕ
  lists_in x = listed_at (runnable_at d f x)

  each_list : (n : ℕ) (x : ℕ × ℕ) → length (lists_at d f n x) ≡ lists_in x
  each_list n x = by (runnable_at d f x)
    where
      by : (o : Option Runnable) → length (option_map_or (λ (r : Runnable). map (list_of d f n x.0) r.coherent) o []) ≡ listed_at o
      by None = refl
      by (Some r) = length-map r.coherent (list_of d f n x.0)

  -- those of the runnables from a position on
  of_component : (i k : ℕ) (rs : List Runnable) → ((m : ℕ) → runnable_at d f (i, k + m) ≡ slice_get rs m) → sum_of lists_in (map (λ m. (i, m)) (positions k (length rs))) ≡ sum_of (λ (r : Runnable). length r.coherent) rs
  of_component i k [] same = refl
  of_component i k (r ∷ rs) same =
      let z : k ≡ k + 0 = omega arith in
      let here : lists_in (i, k) ≡ length r.coherent = ap (λ m. lists_in (i, m)) z ∙ ap listed_at (same 0) in
      let rest = of_component i (k + 1) rs (λ m. let s : k + 1 + m ≡ k + suc m = omega arith in ap (λ n. runnable_at d f (i, n)) s ∙ same (suc m)) in
      omega (arith, here, rest)

  module _ (few : HasFewParts d) where
    -- an instance has fewer than a file has
    of_instance : (i : ℕ) (x : Instance) → slice_get f.instances i ≡ Some x → sum_of lists_in (numbered i (counted_at Runnables d x)) < 2 ^ 22
    of_instance i x there = by (slice_get d.components x.component) refl
      where
        by : (o : Option Component) → slice_get d.components x.component ≡ o → sum_of lists_in (numbered i (option_map_or (counted Runnables) o 0)) < 2 ^ 22
        by None none = omega arith
        by (Some c) some =
            let is : component_of d f i ≡ Some c = ap (λ o. option_and_then (λ (y : Instance). slice_get d.components y.component) o) there ∙ some in
            let all = of_component i 0 c.behavior.runnables (λ m. let z : 0 + m ≡ m = omega arith in ap (λ n. runnable_at d f (i, n)) z ∙ ap (λ o. option_and_then (λ (c : Component). slice_get c.behavior.runnables m) o) is) in
            let few_here : list_count c < 2 ^ 22 = (few.components x.component c some).lists in
            omega (arith, all, few_here)

    of_instances : (i : ℕ) (xs : List Instance) → ((m : ℕ) → slice_get f.instances (i + m) ≡ slice_get xs m)
        → sum_of lists_in (from i (λ j x. numbered j (counted_at Runnables d x)) xs) + length xs ≤ length xs * 4194304
    of_instances i [] same = omega arith
    of_instances i (x ∷ xs) same =
        let z : i ≡ i + 0 = omega arith in
        let here = of_instance i x (ap (λ m. slice_get f.instances m) z ∙ same 0) in
        let rest = of_instances (i + 1) xs (λ m. let s : i + 1 + m ≡ i + suc m = omega arith in ap (λ n. slice_get f.instances n) s ∙ same (suc m)) in
        let both = sum_append lists_in (numbered i (counted_at Runnables d x)) (from (i + 1) (λ j y. numbered j (counted_at Runnables d y)) xs) in
        omega (arith, here, rest, both)

    pub few_lists : length f.instances ≤ 1024 → length (lists d f) < 2 ^ 32
    few_lists instances =
        let long : length (lists d f) ≡ sum_of lists_in (runnables_of d f) = long_from (lists_at d f) lists_in each_list 0 (runnables_of d f) in
        let most = of_instances 0 f.instances (λ m. let z : 0 + m ≡ m = omega arith in ap (λ n. slice_get f.instances n) z) in
        omega (arith, instances, long, most)
