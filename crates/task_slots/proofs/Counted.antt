-- How many looks it takes at what is awake.
use Rattle.std.proofs.Common.{◌≡◌, ◌≢◌, ◌≤◌, ◌<◌, ◌+◌, ◌&&◌, ℕ, zero, suc, Bool, true, false, if◌then◌else◌, List, [], ◌∷◌, length, take, get_or, refl, sym, ◌∙◌, ap, subst, arith, Option}
use mathlib.Core.Logic.{dite}
use native.Mathlib.Decide.{ℕ_discrete}
use Rattle.bus_semantics.specs.Common.{take_more, take-length, Plan, count}
use Rattle.port_objects.specs.Benches.{Work, IsFurther}
use Rattle.task_slots.specs.declared.slot.Slot.{Slot}
use Rattle.task_slots.specs.declared.slot.Slot.TheVariants as slot
use Rattle.task_slots.specs.Common.{Activity, Free, Runs, Calls, Serves, waits, looks_of, sum_below, event_looks}
use Rattle.task_slots.specs.Slots.{looks}
use Rattle.task_slots.specs.Waiting.{task_looks_awake, looks_awake}
use Rattle.task_slots.proofs.Onward.{work_on, count_on}

-- ---- sums

-- places that count nothing
pub sum_none : (f : ℕ → ℕ) (from to : ℕ) → from ≤ to → ((i : ℕ) → from ≤ i → i < to → f i ≡ 0) → sum_below f to ≡ sum_below f from
sum_none f from zero le none = let is : from ≡ 0 = omega arith in ap (sum_below f) (sym is)
sum_none f from (suc to) le none = dite (ℕ_discrete from (suc to))
    (λ is. ap (sum_below f) (sym is))
    (λ ne.
    let here : f to ≡ 0 = none to (omega (arith, ne)) (omega arith) in
    let far : sum_below f to ≡ sum_below f from = sum_none f from to (omega (arith, ne)) (λ i low high. none i low (omega arith)) in
    omega (arith, here, far))

-- places that count the same
pub sum_same : (f g : ℕ → ℕ) (to : ℕ) → ((i : ℕ) → i < to → f i ≡ g i) → sum_below f to ≡ sum_below g to
sum_same f g zero same = refl
sum_same f g (suc to) same =
    let here : f to ≡ g to = same to (omega arith) in
    let far : sum_below f to ≡ sum_below g to = sum_same f g to (λ i low. same i (omega arith)) in
    omega (arith, here, far)

-- the next place that counts
pub sum_next : (f : ℕ → ℕ) (from at : ℕ) → from ≤ at → ((i : ℕ) → from ≤ i → i < at → f i ≡ 0) → sum_below f (at + 1) ≡ sum_below f from + f at
sum_next f from at le none =
    let next : suc at ≡ at + 1 = omega arith in
    let far : sum_below f at ≡ sum_below f from = sum_none f from at le none in
    let all : sum_below f (suc at) ≡ sum_below f from + f at = omega (arith, far) in
    ap (sum_below f) (sym next) ∙ all

-- ---- events

pub asleep_looks : (p : Plan) (events : List ℕ) (awake : ℕ → Bool) (i : ℕ) → awake i ≡ false → event_looks p events awake i ≡ 0
asleep_looks p events awake i asleep = ap (λ (b : Bool). if b && waits p (get_or events i 0) then 1 else 0) asleep

pub awake_looks : (p : Plan) (events : List ℕ) (awake : ℕ → Bool) (i : ℕ) → awake i ≡ true → event_looks p events awake i ≡ (if waits p (get_or events i 0) then 1 else 0)
awake_looks p events awake i chosen = ap (λ (b : Bool). if b && waits p (get_or events i 0) then 1 else 0) chosen

-- where all are awake, each event that has an object takes one
first_looks : (p : Plan) (events : List ℕ) (n : ℕ) → n ≤ length events → sum_below (event_looks p events (λ i. true)) n ≡ count (waits p) (take n events)
first_looks p events zero le = refl
first_looks p events (suc n) le =
    let next : suc n ≡ n + 1 = omega arith in
    let more : count (waits p) (take (n + 1) events) ≡ count (waits p) (take n events) + (if waits p (get_or events n 0) then 1 else 0) =
    ap (count (waits p)) (take_more events n 0 (omega arith)) ∙ count_on (waits p) (take n events) (get_or events n 0 ∷ []) in
    ap (λ k. k + (if waits p (get_or events n 0) then 1 else 0)) (first_looks p events n (omega arith)) ∙ sym more ∙ ap (λ k. count (waits p) (take k events)) (sym next)

pub all_looks : (p : Plan) (s : Slot) → looks_awake p s (λ i. true) ≡ looks p s
all_looks p (slot.Task s) = of_activity s.activity
  where
    of_activity : (a : Activity) → task_looks_awake p s.events.items (λ i. true) a ≡ looks_of p s.events.items a
    of_activity Free = first_looks p s.events.items (length s.events.items) (omega arith) ∙ ap (count (waits p)) (take-length s.events.items)
    of_activity (Runs k) = refl
    of_activity (Calls k) = refl
    of_activity (Serves k) = refl
all_looks p (slot.Machine n) = refl

-- an activation takes one look
pub running_looks : (p : Plan) (events : List ℕ) (awake : ℕ → Bool) (a : Activity) → a ≢ Free → looks_of p events a ≡ task_looks_awake p events awake a
running_looks p events awake Free runs = absurd (runs refl)
running_looks p events awake (Runs k) runs = refl
running_looks p events awake (Calls k) runs = refl
running_looks p events awake (Serves k) runs = refl

-- ---- counts

pub counts_on : (a b c : Option Work) (m n k : ℕ) → k ≡ m + n → IsFurther a b [] m 0 → IsFurther b c [] n 0 → IsFurther a c [] k 0
counts_on a b c m n k is first second = subst (λ j. IsFurther a c [] j 0) (sym is) (work_on a b c [] [] m n 0 0 first second)
