-- A plan with too many things, or with few, and what its pieces tell of that.
use Rattle.std.proofs.Common.{◌≡◌, ◌+◌, ◌^◌, ◌<◌, ◌≤◌, ℕ, List, map, Bool, true, false, cond, not, ◌||◌, nat_le, nat_lt, length, is_some, Some, None, refl, ap, arith}
use Rattle.std.proofs.lemmas.Bool.{leb-false, leb-true, ltb-false, ltb-true, or_parts}
use Rattle.std.specs.List.{sum_by}
use Rattle.plan_definitions.specs.Common.{Description, Flat, Elem, groups, groups_listed, object_count, plan_of, is_too_large, received, requested}
use Rattle.bus_semantics.specs.declared.plan.CoherentList.{CoherentList}
use Rattle.bus_semantics.specs.declared.plan.MachinePlan.{MachinePlan}
use Rattle.plan_definitions.proofs.Labels.{groups_few, many_leaders}
use Rattle.plan_elements.specs.Bundled.{leaders_over}
use Rattle.event_mapping.specs.declared.pieces.Pieces.{Pieces}
use Rattle.event_mapping.specs.Pieces.{ArePieces}
use Rattle.event_mapping.specs.Sized.{are_too_large, few_things, queues_of, things_of}

-- more than there may be
pub many_things : (n : ℕ) → not (is_some (few_things n)) ≡ nat_lt 16384 n
many_things n = by (nat_le n 16384) (nat_lt 16384 n) refl refl
  where
    by : (b c : Bool) → nat_le n 16384 ≡ b → nat_lt 16384 n ≡ c → not (is_some (cond b (Some n) None)) ≡ c
    by true false h k = refl
    by false true h k = refl
    by true true h k = let few = leb-true n 16384 h in let many = ltb-true 16384 n k in absurd (omega (arith, few, many))
    by false false h k = let many = leb-false n 16384 h in let few = ltb-false 16384 n k in absurd (omega (arith, few, many))

-- what the pieces tell, the plan tells
pub same_size : (d : Description) (f : Flat) (x : Pieces) → ArePieces d f x → are_too_large x ≡ is_too_large (plan_of d f)
same_size d f x are = λ j.
    (nat_lt 16384 (object_count (length (are.items.groups j)) (length (are.services.servers j)) (length (are.services.areas j)) (length (are.modes.machines j))) || nat_lt 16384 (length (are.events j)))
    || (nat_lt 65536 (sum_by received (are.items.elements j) + (sum_by requested (are.services.servers j) + sum_by (λ (m : MachinePlan). m.queue) (are.modes.machines j)))
    || nat_lt 262144 (length (are.services.points j)))

-- there are few things in what is not too large
few : (x : Pieces) → are_too_large x ≡ false → things_of x ≤ 16384
few x fits =
    let parts = or_parts (nat_lt 16384 (things_of x) || nat_lt 16384 (length x.events)) (nat_lt 65536 (queues_of x) || nat_lt 262144 (length x.services.points)) fits in
    ltb-false 16384 (things_of x) (or_parts (nat_lt 16384 (things_of x)) (nat_lt 16384 (length x.events)) parts.0).0

-- so 32 bits number its groups
pub few_groups : (x : Pieces) → are_too_large x ≡ false → length x.items.groups < 2 ^ 32
few_groups x fits = omega (arith, few x fits)

-- and lists make no more objects of it
pub few_objects : (x : Pieces) → are_too_large x ≡ false → (es : List Elem) (lists : List CoherentList) (n : ℕ) (bundles : List (List ℕ))
    → n ≡ length x.items.groups → bundles ≡ groups (leaders_over es lists n) → object_count (length bundles) (length x.services.servers) (length x.services.areas) (length x.modes.machines) ≤ 16384
few_objects x fits es lists n bundles counted are =
    let as_many : length bundles ≡ length (groups (leaders_over es lists n)) = ap length are in
    omega (arith, few x fits, counted, as_many, groups_few (leaders_over es lists n), many_leaders n (map (groups_listed es) lists))
