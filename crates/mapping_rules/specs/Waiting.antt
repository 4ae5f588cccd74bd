-- Which task waits for which, looked for in lists.
use Rattle.std.specs.Prelude.{ℕ, ◌+◌, List, [], ◌∷◌, Bool, false, ◌||◌, slice_get}
use Rattle.std.specs.Option.{option_map_or}
use Rattle.plan_definitions.specs.Common.{Component, Description, Flat, same_pair, tasks_from, waits_by}

-- whether a member passes the test, each taken with its position, the first of which is i
abbrev pub any_at : {X : Type 0} → (ℕ → X → Bool) → ℕ → List X → Bool
any_at test i [] = false
any_at test i (x ∷ xs) = test i x || any_at test (i + 1) xs

-- whether the edge leads to one of these tasks from this one, or from one of those
abbrev pub leads : ℕ × ℕ → ℕ → List ℕ → Bool
leads e t waits = any_at (λ k u. same_pair (t, u) e) 0 waits

abbrev pub pairs : ℕ × ℕ → List ℕ → List ℕ → Bool
pairs e tasks waits = any_at (λ k t. leads e t waits) 0 tasks

-- whether a runnable of an instance of the component waits so
abbrev pub waits_in : Description → Flat → ℕ × ℕ → ℕ → Component → Bool
waits_in d f e i c = any_at (λ m r. any_at (λ k a. pairs e (tasks_from d f i m 0 c.behavior.events) (waits_by d f i a)) 0 r.accesses) 0 c.behavior.runnables

abbrev pub has_wait : Description → Flat → ℕ × ℕ → Bool
has_wait d f e = any_at (λ i x. option_map_or (waits_in d f e i) (slice_get d.components x.component) false) 0 f.instances
