-- Tasks that are one.
use Rattle.std.proofs.Common.{◌≡◌, ℕ, List, [], ◌∷◌, true, nat_eq, ◌&&◌, Some, None, slice_get, refl, sym, ap, ◌∙◌}
use Rattle.bus_semantics.specs.Common.{eq-eqb, list_all, option_map_or}
use Rattle.plan_definitions.specs.Common.{first_of, unless, Component, Event, Runnable, Description, Flat, component_of, are_same, spread_in, tasks_from, tasks_of}
use Rattle.mapping_rules.specs.Groups.{values_at}
use Rattle.mapping_rules.proofs.Firsts.{first_same}

pub same_as_first : (t : ℕ) (ts : List ℕ) → Some t ≡ slice_get ts 0 → list_all (λ u. nat_eq t u) ts ≡ are_same ts
same_as_first t [] h = cc
same_as_first t (u ∷ ts) h = ap (λ x. list_all (λ v. nat_eq x v) (u ∷ ts)) same ∙ ap (λ b. b && list_all (λ v. nat_eq u v) ts) (eq-eqb u u refl)
  where
    same : t ≡ u
    same = cc

pub none_are_same : (ts : List ℕ) → None ≡ slice_get ts 0 → true ≡ are_same ts
none_are_same [] h = refl
none_are_same (u ∷ ts) h = cc

-- the first runnable of an instance whose events are in two tasks
pub spread_found : (d : Description) (f : Flat) (i : ℕ) (c : Component) (entries : List (ℕ × ℕ)) (events : List Event) (runnables : List Runnable) → component_of d f i ≡ Some c
    → ((r : ℕ) → values_at (nat_eq r) entries ≡ tasks_from d f i r 0 events) → events ≡ c.behavior.events → runnables ≡ c.behavior.runnables
    → first_of {Y = ℕ × ℕ} (λ m (r : Runnable). unless (are_same (values_at (nat_eq m) entries)) (i, m)) 0 runnables ≡ spread_in d f i c
spread_found d f i c entries events runnables is listed these those =
    ap (first_of {Y = ℕ × ℕ} (λ m (r : Runnable). unless (are_same (values_at (nat_eq m) entries)) (i, m)) 0) those
    ∙ first_same {Y = ℕ × ℕ} (λ m (r : Runnable). unless (are_same (values_at (nat_eq m) entries)) (i, m)) (λ m r. unless (are_same (tasks_of d f (i, m))) (i, m)) (λ m r. ap (λ ts. unless (are_same ts) (i, m)) (all m)) 0 c.behavior.runnables
  where
    all : (m : ℕ) → values_at (nat_eq m) entries ≡ tasks_of d f (i, m)
    all m = listed m ∙ ap (tasks_from d f i m 0) these ∙ sym (ap (λ o. option_map_or (λ (x : Component). tasks_from d f i m 0 x.behavior.events) o []) is)
