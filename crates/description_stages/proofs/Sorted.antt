-- A list in strict order is known by its members, so a description is made flat in one way.
use Rattle.std.proofs.Common.{◌≡◌, ℕ, List, [], ◌∷◌, Option, Some, None, refl, sym, ap, subst, ◌∙◌, Ordering, Less, Equal, Greater, inl, inr}
use Rattle.std.proofs.lemmas.Cmp.{nat_cmp_total}
use Rattle.std.specs.List.{AllByRecursion}
use Rattle.std.specs.List.Sorted.{IsStrictlySortedBy}
use Rattle.std.specs.Ordering.{nat_cmp, ordering_reverse, ordering_then}
use Rattle.plan_definitions.specs.Common.{Description, Among, End, Flat, Join, IsFlatOf, end_order, instance_order, join_order}
use Rattle.description_stages.proofs.Limits.{later}

-- ---- the order of joins has two directions

then_back : (a b c e : Ordering) → a ≡ ordering_reverse c → b ≡ ordering_reverse e → ordering_then a b ≡ ordering_reverse (ordering_then c e)
then_back a b Less e p q = ap (λ o. ordering_then o b) p
then_back a b Equal e p q = ap (λ o. ordering_then o b) p ∙ q
then_back a b Greater e p q = ap (λ o. ordering_then o b) p

instance_back : (x y : Option ℕ) → instance_order x y ≡ ordering_reverse (instance_order y x)
instance_back (Some a) (Some b) = nat_cmp_total.antisymm a b
instance_back (Some a) None = refl
instance_back None (Some b) = refl
instance_back None None = refl

end_back : (x y : End) → end_order x y ≡ ordering_reverse (end_order y x)
end_back x y = then_back _ _ (instance_order y.instance x.instance) _ (instance_back x.instance y.instance)
    (then_back _ _ (nat_cmp y.port x.port) (nat_cmp y.element x.element) (nat_cmp_total.antisymm x.port y.port) (nat_cmp_total.antisymm x.element y.element))

join_back : (x y : Join) → join_order x y ≡ ordering_reverse (join_order y x)
join_back x y = then_back _ _ (end_order y.provided x.provided) (end_order y.required x.required) (end_back x.provided y.provided) (end_back x.required y.required)

not_both : (x y : Join) → join_order x y ≡ Less → join_order y x ≡ Less → ⊥
not_both x y p q = absurd (Greater_less (sym (join_back x y ∙ ap ordering_reverse q) ∙ p))
  where
    Greater_less : Greater ≡ Less → ⊥
    Greater_less e = cc

-- ---- lists with the same members

same_head : (x y : Join) (xs ys : List Join) → AllByRecursion (λ z. join_order x z ≡ Less) xs → AllByRecursion (λ z. join_order y z ≡ Less) ys → Among x (y ∷ ys) → Among y (x ∷ xs) → x ≡ y
same_head x y xs ys a b (inl is) there = is
same_head x y xs ys a b (inr here) (inl is) = sym is
same_head x y xs ys a b (inr here) (inr there) = absurd (not_both x y (later x y xs a there) (later y x ys b here))

later_only : (x z : Join) (xs ys : List Join) → AllByRecursion (λ w. join_order x w ≡ Less) xs → Among z xs → Among z (x ∷ ys) → Among z ys
later_only x z xs ys a among (inl is) = let less = subst (λ w. join_order x w ≡ Less) is (later x z xs a among) in absurd (not_both x x less less)
later_only x z xs ys a among (inr later) = later

pub sorted_once : (xs ys : List Join) → IsStrictlySortedBy join_order xs → IsStrictlySortedBy join_order ys → ((z : Join) → Among z xs → Among z ys) → ((z : Join) → Among z ys → Among z xs) → xs ≡ ys
unfolding IsStrictlySortedBy
sorted_once [] [] p q to back = refl
sorted_once [] (y ∷ ys) p q to back = absurd (back y (inl refl))
sorted_once (x ∷ xs) [] p q to back = absurd (to x (inl refl))
sorted_once (x ∷ xs) (y ∷ ys) p q to back =
    let same = same_head x y xs ys p.0 q.0 (to x (inl refl)) (back y (inl refl)) in
    let rest : xs ≡ ys = sorted_once xs ys p.1 q.1
    (λ z among. later_only x z xs ys p.0 among (subst (λ w. Among z (w ∷ ys)) (sym same) (to z (inr among))))
    (λ z among. later_only y z ys xs q.0 among (subst (λ w. Among z (w ∷ xs)) same (back z (inr among)))) in
    λ i. same i ∷ rest i

pub flat_once : (d : Description) (f g : Flat) → IsFlatOf d f → IsFlatOf d g → f ≡ g
flat_once d f g p q =
    let instances = p.instances_listed ∙ sym q.instances_listed in
    let joins = sorted_once f.joins g.joins p.in_order q.in_order (λ j among. (q.joined j).1 ((p.joined j).0 among)) (λ j among. (p.joined j).1 ((q.joined j).0 among)) in
    λ i. record { instances = instances i; joins = joins i }
