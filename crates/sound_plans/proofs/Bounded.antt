-- The lists of a plan, and how large it is by rule 30.
use Rattle.std.proofs.Common.{◌≡◌, ℕ, ◌+◌, ◌≤◌, List, [], ◌∷◌, map, length, fold, Bool, true, false, if◌then◌else◌, not, ◌&&◌, ◌||◌, ◌==◌, nat_lt, nat_le, Option, Some, None, unwrap_or}
use Rattle.std.proofs.Common.{refl, sym, ap, subst, ◌∙◌, arith}
use Rattle.bus_semantics.specs.Common.{and_from, eq-eqb, le-leb, ltb-false, or_parts, sum_by, clock, is_queued, plan_of, number_or_0, queue_lengths, sum_over, objects_counted, things}
use Rattle.plan_definitions.specs.Common.{Description, Flat, IsAfter, mapping_text, elem_seen, elements, leaders, groups, machines, servers, bundle_leaders, bundles, groups_listed, homes}
use Rattle.plan_definitions.specs.Common.{lists, areas, object_count, plan_of as planned, IsOfLists, IsOfSize, IsRefusal, IsThen, is_too_large, queue_lengths as all_lengths, received}
use Rattle.plan_definitions.specs.Common.{requested, things as few_of, IsWhole}
use Rattle.bus_laws.specs.Common.{BusPlan, ElemPlan, MachinePlan, ServerPlan, Mapping}
use Rattle.plan_definitions.specs.ComponentRefusals as components
use Rattle.plan_definitions.specs.MappingRefusals as mapping
use Rattle.plan_definitions.proofs.Labels.{groups_few, many_leaders}
use Rattle.sound_plans.proofs.Seen.{areas_are, elements_are, machines_are, servers_are}

-- ---- rule 30

after_none : (o : Option (ℕ × List ℕ)) (later : Option (ℕ × List ℕ) → Type 0) → IsAfter o later None → later None
after_none None later h = h
after_none (Some x) later h = cc

abbrev by_size : Bool → Option (ℕ × List ℕ)
by_size large = if large then Some (30, mapping_text) else None

of_fair_size : (large : Bool) → by_size large ≡ None → large ≡ false
of_fair_size true h = cc
of_fair_size false h = refl

pub fair_size : (d : Description) (f : Flat) → IsRefusal d f None → is_too_large (planned d f) ≡ false
fair_size d f keeps = of_fair_size (is_too_large (planned d f)) (after_none (components.refusal d) (IsThen (mapping.IsRefusal d f) (IsThen (IsOfSize d f) (IsOfLists d))) keeps).1.0

-- ---- sums

module _ {X : Type 0} where
  fold_on : (f : X → ℕ) (a : ℕ) (xs : List X) → fold (λ s x. s + f x) a xs ≡ a + sum_over f xs
  fold_on f a [] = omega arith
  fold_on f a (x ∷ xs) = fold_on f (a + f x) xs ∙ omega arith

  same_sum : (f : X → ℕ) (xs : List X) → sum_by f xs ≡ sum_over f xs
  same_sum f xs = fold_on f 0 xs ∙ omega arith

  sum_agree : (f g : X → ℕ) → ((x : X) → f x ≡ g x) → (xs : List X) → sum_over f xs ≡ sum_over g xs
  sum_agree f g same [] = refl
  sum_agree f g same (x ∷ xs) = let here = same x in let rest = sum_agree f g same xs in omega arith

sum_seen : {X Y : Type 0} (g : X → Y) (f : Y → ℕ) (xs : List X) → sum_over (λ x. f (g x)) xs ≡ sum_over f (map g xs)
sum_seen g f [] = refl
sum_seen g f (x ∷ xs) = ap (λ n. f (g x) + n) (sum_seen g f xs)

is_number : (o : Option ℕ) → number_or_0 o ≡ unwrap_or o 0
is_number None = refl
is_number (Some n) = refl

module _ (d : Description) (f : Flat) (p : BusPlan) (m : Mapping) (w : IsWhole d f p m) where
  -- ---- the lists of the plan

  pub groups_are : p.groups ≡ groups (leaders d f)
  groups_are = ap (λ q. q.groups) w.is_plan

  pub lists_are : p.lists ≡ lists d f
  lists_are = ap (λ q. q.lists) w.is_plan

  pub homes_are : p.homes ≡ homes d f
  homes_are = ap (λ q. q.homes) w.is_plan

  pub bundles_are : p.bundles ≡ bundles d f
  bundles_are = ap (λ q. q.bundles) w.is_plan

  few_bundles : length (bundles d f) ≤ length (groups (leaders d f))
  few_bundles = omega (arith, groups_few (bundle_leaders d f), many_leaders (length (groups (leaders d f))) (map (groups_listed (elements d f)) (lists d f)))

  small : ((nat_lt 16384 (few_of (planned d f)) || nat_lt 16384 (length (planned d f).events)) ≡ false) × ((nat_lt 65536 (all_lengths (planned d f)) || nat_lt 262144 (length (planned d f).points)) ≡ false)
  small = or_parts (nat_lt 16384 (few_of (planned d f)) || nat_lt 16384 (length (planned d f).events)) (nat_lt 65536 (all_lengths (planned d f)) || nat_lt 262144 (length (planned d f).points)) (fair_size d f w.keeps_rules)

  few_all : few_of (planned d f) ≤ 16384
  few_all = ltb-false 16384 (few_of (planned d f)) (or_parts (nat_lt 16384 (few_of (planned d f))) (nat_lt 16384 (length (planned d f).events)) small.0).0

  few_waiting : all_lengths (planned d f) ≤ 65536
  few_waiting = ltb-false 65536 (all_lengths (planned d f)) (or_parts (nat_lt 65536 (all_lengths (planned d f))) (nat_lt 262144 (length (planned d f).points)) small.1).0

  few : length (planned d f).points ≤ 262144
  few = ltb-false 262144 (length (planned d f).points) (or_parts (nat_lt 65536 (all_lengths (planned d f))) (nat_lt 262144 (length (planned d f).points)) small.1).1

  pub few_points : nat_le (length p.points) 262144 ≡ true
  few_points = le-leb (length p.points) 262144 (subst (λ n. n ≤ 262144) (sym (ap (λ q. length q.points) w.is_plan)) few)

  pub objects : objects_counted (plan_of p) ≡ true
  objects = and_from (p.objects == clock (plan_of p) + 1) (nat_le p.objects 16384 && nat_le (things (plan_of p)) 16384)
      (eq-eqb p.objects (clock (plan_of p) + 1) (are ∙ counted))
      (and_from (nat_le p.objects 16384) (nat_le (things (plan_of p)) 16384)
      (le-leb p.objects 16384 (omega (arith, are, few_bundles, few_all)))
      (le-leb (things (plan_of p)) 16384 (omega (arith, each, few_all))))
    where
      are : p.objects ≡ object_count (length (bundles d f)) (length (servers d f)) (length (areas d f)) (length (machines d f))
      are = ap (λ q. q.objects) w.is_plan

      counted : object_count (length (bundles d f)) (length (servers d f)) (length (areas d f)) (length (machines d f)) ≡ clock (plan_of p) + 1
      counted =
          let b = ap (λ l. length l) bundles_are in
          let s = ap (λ l. length l) (servers_are d f p w.is_plan) in
          let a = ap (λ l. length l) (areas_are d f p w.is_plan) in
          let n = ap (λ l. length l) (machines_are d f p w.is_plan) in
          omega arith

      each : few_of (planned d f) ≡ things (plan_of p)
      each =
          let g = ap (λ l. length l) groups_are in
          let s = ap (λ l. length l) (servers_are d f p w.is_plan) in
          let a = ap (λ l. length l) (areas_are d f p w.is_plan) in
          let n = ap (λ l. length l) (machines_are d f p w.is_plan) in
          omega arith

  -- ---- queue lengths

  lengths_same : queue_lengths (plan_of p) ≡ all_lengths (planned d f)
  lengths_same = λ j. of_elements j + (of_servers j + of_machines j)
    where
      of_elements : sum_over (λ (e : ElemPlan). if is_queued e && not e.provided then e.queue_length else 0) p.elements ≡ sum_by received (elements d f)
      of_elements = sum_seen elem_seen received p.elements ∙ ap (sum_over received) (elements_are d f p w.is_plan) ∙ sym (same_sum received (elements d f))

      of_servers : sum_over (λ (s : ServerPlan). number_or_0 s.queue) p.servers ≡ sum_by requested (servers d f)
      of_servers = sum_agree (λ (s : ServerPlan). number_or_0 s.queue) requested (λ s. is_number s.queue) p.servers ∙ ap (sum_over requested) (servers_are d f p w.is_plan) ∙ sym (same_sum requested (servers d f))

      of_machines : sum_over (λ (n : MachinePlan). n.queue) p.machines ≡ sum_by (λ (n : MachinePlan). n.queue) (machines d f)
      of_machines = ap (sum_over (λ (n : MachinePlan). n.queue)) (machines_are d f p w.is_plan) ∙ sym (same_sum (λ (n : MachinePlan). n.queue) (machines d f))

  pub lengths : nat_le (queue_lengths (plan_of p)) 65536 ≡ true
  lengths = le-leb (queue_lengths (plan_of p)) 65536 (subst (λ n. n ≤ 65536) (sym lengths_same) few_waiting)
