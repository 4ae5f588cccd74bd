-- The turns of the loops that add edges to a set.
use Rattle.std.proofs.Common.{◌≡◌, ℕ, zero, suc, ◌+◌, ◌<◌, List, [], ◌∷◌, length, get_or, drop, Bool, true, false, cond, ◌||◌, ◌&&◌, nat_eq, slice_get, Some, None, option_and_then, refl}
use Rattle.std.proofs.Common.{sym, ap, ◌∙◌, arith, add-one}
use Rattle.bus_semantics.specs.Common.{eqb-true, or-false, list_all, option_map_or}
use Rattle.plan_definitions.specs.Common.{Component, Event, Runnable, Description, Flat, Instance, component_of, are_same, tasks_from, waits_by}
use Rattle.mapping_rules.specs.Groups.{values_at}
use Rattle.mapping_rules.specs.Waiting.{any_at, leads, pairs, waits_in}

-- what was there, what is added, and what is still to come
or_turn : (old part rest new whole : Bool) → (old || (part || rest)) ≡ whole → new ≡ (old || part) → (new || rest) ≡ whole
or_turn true part rest new whole h is = ap (λ b. b || rest) is ∙ h
or_turn false part rest new whole h is = ap (λ b. b || rest) is ∙ h

pub one_key : (same old : Bool) → cond same true old ≡ (old || same)
one_key true true = refl
one_key true false = refl
one_key false true = refl
one_key false false = refl

module _ {X : Type 0} (test : ℕ → X → Bool) where
  any_next : (xs : List X) (n i : ℕ) (d x : X) → i < length xs → x ≡ get_or xs i d → any_at test n (drop i xs) ≡ (test n x || any_at test (n + 1) (drop (suc i) xs))
  any_next [] n i d x within is = absurd (omega arith)
  any_next (y ∷ xs) n zero d x within is = ap (λ z. test n z || any_at test (n + 1) xs) (sym is)
  any_next (y ∷ xs) n (suc i) d x within is = any_next xs n i d x (omega arith) is

  pub any_more : (xs : List X) (i : ℕ) (d x : X) (old new whole : Bool) → i < length xs → new ≡ (old || test i x) → x ≡ get_or xs i d → (old || any_at test i (drop i xs)) ≡ whole
      → (new || any_at test (i + 1) (drop (i + 1) xs)) ≡ whole
  any_more xs i d x old new whole within added is so_far = ap (λ n. new || any_at test (i + 1) (drop n xs)) (add-one i)
      ∙ or_turn old (test i x) (any_at test (i + 1) (drop (suc i) xs)) new whole (ap (λ b. old || b) (sym (any_next xs i i d x within is)) ∙ so_far) added

-- over members alone, where the test does not look at positions
module _ {X : Type 0} (test : X → Bool) where
  renumbered : (m n : ℕ) (xs : List X) → any_at (λ k x. test x) m xs ≡ any_at (λ k x. test x) n xs
  renumbered m n [] = refl
  renumbered m n (x ∷ xs) = ap (λ b. test x || b) (renumbered (m + 1) (n + 1) xs)

  pub each_more : (xs : List X) (i : ℕ) (d x : X) (old new whole : Bool) → i < length xs → new ≡ (old || test x) → x ≡ get_or xs i d → (old || any_at (λ k x. test x) 0 (drop i xs)) ≡ whole
      → (new || any_at (λ k x. test x) 0 (drop (i + 1) xs)) ≡ whole
  each_more xs i d x old new whole within added is so_far = ap (λ b. new || b) (renumbered 0 (i + 1) (drop (i + 1) xs))
      ∙ any_more (λ k x. test x) xs i d x old new whole within added is (ap (λ b. old || b) (renumbered i 0 (drop i xs)) ∙ so_far)

-- tasks that are one
module _ (e : ℕ × ℕ) (waits : List ℕ) where
  all_one : (t : ℕ) (n : ℕ) (ts : List ℕ) → list_all (λ u. nat_eq t u) ts ≡ true → any_at (λ k u. leads e u waits) n ts ≡ true → leads e t waits ≡ true
  all_one t n [] same any = cc
  all_one t n (u ∷ ts) same any = by (nat_eq t u) (list_all (λ v. nat_eq t v) ts) (leads e u waits) (any_at (λ k v. leads e v waits) (n + 1) ts) refl refl refl refl same any (all_one t (n + 1) ts)
    where
      by : (p q r s : Bool) → nat_eq t u ≡ p → list_all (λ v. nat_eq t v) ts ≡ q → leads e u waits ≡ r → any_at (λ k v. leads e v waits) (n + 1) ts ≡ s → (p && q) ≡ true → (r || s) ≡ true
          → (list_all (λ v. nat_eq t v) ts ≡ true → any_at (λ k v. leads e v waits) (n + 1) ts ≡ true → leads e t waits ≡ true) → leads e t waits ≡ true
      by true true true s hp hq hr hs a o rest = ap (λ z. leads e z waits) (eqb-true t u hp) ∙ hr
      by true true false true hp hq hr hs a o rest = rest hq hs
      by true true false false hp hq hr hs a o rest = cc
      by true false r s hp hq hr hs a o rest = cc
      by false q r s hp hq hr hs a o rest = cc

  pub first_leads : (t : ℕ) (ts : List ℕ) → are_same ts ≡ true → Some t ≡ slice_get ts 0 → leads e t waits ≡ pairs e ts waits
  first_leads t [] same first = cc
  first_leads t (u ∷ ts) same first = ap (λ z. leads e z waits) t_is ∙ by (leads e u waits) (any_at (λ k v. leads e v waits) 1 ts) refl refl
    where
      t_is : t ≡ u
      t_is = cc

      by : (r s : Bool) → leads e u waits ≡ r → any_at (λ k v. leads e v waits) 1 ts ≡ s → r ≡ (r || s)
      by true s hr hs = refl
      by false false hr hs = refl
      by false true hr hs = sym hr ∙ all_one u 1 ts same hs

  pub none_lead : (ts : List ℕ) → None ≡ slice_get ts 0 → false ≡ pairs e ts waits
  none_lead [] first = refl
  none_lead (u ∷ ts) first = cc

  -- where there is no task, nothing is added
  pub none_added : (ts : List ℕ) → None ≡ slice_get ts 0 → (old : Bool) → old ≡ (old || pairs e ts waits)
  none_added ts none old = sym (or-false old) ∙ ap (λ b. old || b) (none_lead ts none)

-- what is true of the same is true of some
any_same : {X : Type 0} (f g : ℕ → X → Bool) → ((i : ℕ) (x : X) → f i x ≡ g i x) → (n : ℕ) (xs : List X) → any_at f n xs ≡ any_at g n xs
any_same f g same n [] = refl
any_same f g same n (x ∷ xs) = λ j. same n x j || any_same f g same (n + 1) xs j

-- the runnables of a component, with the tasks that are listed for them
pub component_waits : (d : Description) (f : Flat) (e : ℕ × ℕ) (i : ℕ) (c : Component) (entries : List (ℕ × ℕ)) (events : List Event) (runnables : List Runnable)
    → ((r : ℕ) → values_at (nat_eq r) entries ≡ tasks_from d f i r 0 events) → events ≡ c.behavior.events → runnables ≡ c.behavior.runnables
    → any_at (λ m (r : Runnable). any_at (λ k a. pairs e (values_at (nat_eq m) entries) (waits_by d f i a)) 0 r.accesses) 0 runnables ≡ waits_in d f e i c
component_waits d f e i c entries events runnables listed these those =
    ap (any_at (λ m (r : Runnable). any_at (λ k a. pairs e (values_at (nat_eq m) entries) (waits_by d f i a)) 0 r.accesses) 0) those
    ∙ any_same (λ m (r : Runnable). any_at (λ k a. pairs e (values_at (nat_eq m) entries) (waits_by d f i a)) 0 r.accesses)
    (λ m (r : Runnable). any_at (λ k a. pairs e (tasks_from d f i m 0 c.behavior.events) (waits_by d f i a)) 0 r.accesses)
    (λ m r. ap (λ ts. any_at (λ k a. pairs e ts (waits_by d f i a)) 0 r.accesses) (listed m ∙ ap (tasks_from d f i m 0) these)) 0 c.behavior.runnables

-- over instances
module _ (d : Description) (g : ℕ → Component → Bool) where
  abbrev at : ℕ → Instance → Bool
  at i x = option_map_or (g i) (slice_get d.components x.component) false

  instance_next : (xs : List Instance) (n i : ℕ) → i < length xs → any_at at n (drop i xs)
      ≡ (option_map_or (g n) (option_and_then (λ x. slice_get d.components x.component) (slice_get xs i)) false || any_at at (n + 1) (drop (suc i) xs))
  instance_next [] n i within = absurd (omega arith)
  instance_next (x ∷ xs) n zero within = refl
  instance_next (x ∷ xs) n (suc i) within = instance_next xs n i (omega arith)

  pub instances_more : (f : Flat) (i : ℕ) (old new whole : Bool) → i < length f.instances → new ≡ (old || option_map_or (g i) (component_of d f i) false)
      → (old || any_at at i (drop i f.instances)) ≡ whole → (new || any_at at (i + 1) (drop (i + 1) f.instances)) ≡ whole
  instances_more f i old new whole within added so_far = ap (λ n. new || any_at at (i + 1) (drop n f.instances)) (add-one i)
      ∙ or_turn old (option_map_or (g i) (component_of d f i) false) (any_at at (i + 1) (drop (suc i) f.instances)) new whole (ap (λ b. old || b) (sym (instance_next f.instances i i within)) ∙ so_far) added
