-- A description made flat keeps the limits of rule 10.
use Rattle.std.proofs.Common.{◌≡◌, ℕ, ◌≤◌, List, [], ◌∷◌, length, Option, Some, None, Ordering, Less, Equal, inl, inr, nat_lt, Bool, true, false, refl, sym, ap, subst, ◌∙◌, arith}
use Rattle.bus_semantics.specs.Common.{ltb-false, ltb-true, length-map, AllByRecursion}
use Rattle.std.specs.Cmp.{nat_cmp_is}
use Rattle.std.specs.List.Sorted.{IsStrictlySortedBy}
use Rattle.std.specs.Ordering.{nat_cmp, ordering_then}
use Rattle.plan_definitions.specs.Common.{Description, End, Flat, Join, IsFlatOf, instance_at, AllApart, Among, end_order, instance_order, join_order, places}

pub few_instances : (d : Description) (f : Flat) → IsFlatOf d f → length f.instances ≤ 1024
few_instances d f flat = let same : length f.instances ≡ length (places d) = ap length flat.instances_listed ∙ length-map (places d) (instance_at d) in omega (arith, same, flat.limits.instances)

-- ---- no join is listed twice

number_itself : (n : ℕ) → nat_cmp n n ≡ Equal
number_itself n = sym (nat_cmp_is n n Equal refl)

then_itself : (a b : Ordering) → a ≡ Equal → b ≡ Equal → ordering_then a b ≡ Equal
then_itself a b is then_is = (λ j. ordering_then (is j) (then_is j))

instance_itself : (o : Option ℕ) → instance_order o o ≡ Equal
instance_itself None = refl
instance_itself (Some n) = number_itself n

end_itself : (e : End) → end_order e e ≡ Equal
end_itself e = then_itself (instance_order e.instance e.instance) (ordering_then (nat_cmp e.port e.port) (nat_cmp e.element e.element)) (instance_itself e.instance)
    (then_itself (nat_cmp e.port e.port) (nat_cmp e.element e.element) (number_itself e.port) (number_itself e.element))

join_itself : (j : Join) → join_order j j ≡ Equal
join_itself j = then_itself (end_order j.provided j.provided) (end_order j.required j.required) (end_itself j.provided) (end_itself j.required)

pub later : (x y : Join) (ys : List Join) → AllByRecursion (λ z. join_order x z ≡ Less) ys → Among y ys → join_order x y ≡ Less
later x y [] all h = absurd h
later x y (z ∷ ys) all (inl e) = subst (λ w. join_order x w ≡ Less) (sym e) all.0
later x y (z ∷ ys) all (inr h) = later x y ys all.1 h

joins_apart : (joins : List Join) → IsStrictlySortedBy join_order joins → AllApart joins
unfolding IsStrictlySortedBy
joins_apart [] order = tt
joins_apart (j ∷ joins) order = ((λ there. let less : join_order j j ≡ Less = later j j joins order.0 there in let no : Less ≡ Equal = sym less ∙ join_itself j in cc), joins_apart joins order.1)

pub few_joins : (d : Description) (f : Flat) → IsFlatOf d f → length f.joins ≤ 65536
few_joins d f flat = by (nat_lt 65536 (length f.joins)) refl
  where
    by : (b : Bool) → nat_lt 65536 (length f.joins) ≡ b → length f.joins ≤ 65536
    by true many = absurd (flat.limits.joins (f.joins, joins_apart f.joins flat.in_order, (λ j among. (flat.joined j).0 among), ltb-true 65536 (length f.joins) many))
    by false few = ltb-false 65536 (length f.joins) few
