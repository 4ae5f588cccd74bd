-- A list has a strictly sorted one with the same members, and joins have an order.
use Rattle.std.proofs.Common.{◌≡◌, ℕ, List, [], ◌∷◌, Option, Some, None, ◌⊎◌, inl, inr, ⊎_elim, ◌↔◌, refl, sym, ap, subst, ◌∙◌, arith, Ordering, Less, Equal, Greater}
use Rattle.bus_semantics.specs.Common.{eqb-true, AllByRecursion}
use Rattle.std.proofs.lemmas.Cmp.{nat_cmp_total, on_total, then_total, tied_itself}
use Rattle.std.specs.Cmp.{IsTotalOrder, unsigned_ties}
use Rattle.std.specs.List.Sorted.{IsStrictlySortedBy}
use Rattle.std.specs.Ordering.{is_eq, nat_cmp, ordering_reverse, ordering_then}
use Rattle.plan_definitions.specs.Common.{End, Join, AllApart, Among, end_order, instance_order, join_order}
use Rattle.composition_tables.proofs.SameLinks.{then_equal}

-- ---- by an order that tells different things apart

module _ {K : Type 0} (order : K → K → Ordering) (total : IsTotalOrder order) (exact : (x y : K) → order x y ≡ Equal → x ≡ y) where
  put : Ordering → K → K → List K → List K → List K
  put Less x y ys rest = x ∷ (y ∷ ys)
  put Equal x y ys rest = y ∷ ys
  put Greater x y ys rest = y ∷ rest

  insert : K → List K → List K
  insert x [] = x ∷ []
  insert x (y ∷ ys) = put (order x y) x y ys (insert x ys)

  all_put : (P : K → Type 0) (o : Ordering) (x y : K) (ys rest : List K) → P x → P y → AllByRecursion P ys → AllByRecursion P rest → AllByRecursion P (put o x y ys rest)
  unfolding put
  all_put P Less x y ys rest here first all more = (here, (first, all))
  all_put P Equal x y ys rest here first all more = (first, all)
  all_put P Greater x y ys rest here first all more = (first, more)

  all_insert : (P : K → Type 0) (x : K) (ys : List K) → P x → AllByRecursion P ys → AllByRecursion P (insert x ys)
  unfolding insert
  all_insert P x [] here all = (here, tt)
  all_insert P x (y ∷ ys) here all = all_put P (order x y) x y ys (insert x ys) here all.0 all.1 (all_insert P x ys here all.1)

  after : (x y : K) (ys : List K) → order x y ≡ Less → AllByRecursion (λ z. order y z ≡ Less) ys → AllByRecursion (λ z. order x z ≡ Less) ys
  after x y [] less all = tt
  after x y (z ∷ ys) less all = (total.trans x y z less all.0, after x y ys less all.1)

  greater : (x y : K) → order x y ≡ Greater → order y x ≡ Less
  greater x y is = total.antisymm y x ∙ ap ordering_reverse is

  put_sorted : (o : Ordering) (x y : K) (ys rest : List K) → order x y ≡ o → IsStrictlySortedBy order (y ∷ ys) → IsStrictlySortedBy order rest → (order x y ≡ Greater → AllByRecursion (λ z. order y z ≡ Less) rest)
      → IsStrictlySortedBy order (put o x y ys rest)
  unfolding put IsStrictlySortedBy
  put_sorted Less x y ys rest is all more later = ((is, after x y ys is all.0), all)
  put_sorted Equal x y ys rest is all more later = all
  put_sorted Greater x y ys rest is all more later = (later is, more)

  insert_sorted : (x : K) (ys : List K) → IsStrictlySortedBy order ys → IsStrictlySortedBy order (insert x ys)
  unfolding insert IsStrictlySortedBy
  insert_sorted x [] all = (tt, tt)
  insert_sorted x (y ∷ ys) all = put_sorted (order x y) x y ys (insert x ys) refl all (insert_sorted x ys all.1) (λ is. all_insert (λ z. order y z ≡ Less) x ys (greater x y is) all.0)

  -- what is in it
  put_members : (o : Ordering) (x y : K) (ys rest : List K) (z : K) → order x y ≡ o → (Among z rest ↔ ((z ≡ x) ⊎ Among z ys)) → Among z (put o x y ys rest) ↔ ((z ≡ x) ⊎ Among z (y ∷ ys))
  unfolding put
  put_members Less x y ys rest z is members = ((λ h. h), (λ h. h))
  put_members Equal x y ys rest z is members = ((λ h. inr h), (λ h. ⊎_elim (λ same. inl (same ∙ exact x y is)) (λ there. there) h))
  put_members Greater x y ys rest z is members = (
    (λ h. ⊎_elim (λ first. inr (inl first)) (λ more. ⊎_elim (λ same. inl same) (λ later. inr (inr later)) (members.0 more)) h),
    (λ h. ⊎_elim (λ same. inr (members.1 (inl same))) (λ there. ⊎_elim (λ first. inl first) (λ later. inr (members.1 (inr later))) there) h),
  )

  insert_members : (x : K) (ys : List K) (z : K) → Among z (insert x ys) ↔ ((z ≡ x) ⊎ Among z ys)
  unfolding insert
  insert_members x [] z = ((λ h. h), (λ h. h))
  insert_members x (y ∷ ys) z = put_members (order x y) x y ys (insert x ys) z refl (insert_members x ys z)

  pub sorted : List K → List K
  sorted [] = []
  sorted (x ∷ xs) = insert x (sorted xs)

  pub is_sorted : (xs : List K) → IsStrictlySortedBy order (sorted xs)
  unfolding sorted IsStrictlySortedBy
  is_sorted [] = tt
  is_sorted (x ∷ xs) = insert_sorted x (sorted xs) (is_sorted xs)

  pub sorted_members : (xs : List K) (z : K) → Among z (sorted xs) ↔ Among z xs
  unfolding sorted
  sorted_members [] z = ((λ h. h), (λ h. h))
  sorted_members (x ∷ xs) z = (
    (λ h. ⊎_elim (λ same. inl same) (λ later. inr ((sorted_members xs z).0 later)) ((insert_members x (sorted xs) z).0 h)),
    (λ h. (insert_members x (sorted xs) z).1 (⊎_elim (λ same. inl same) (λ later. inr ((sorted_members xs z).1 later)) h)),
  )

  never_less : (x : K) → order x x ≡ Less → ⊥
  never_less x is = let e : Less ≡ Equal = sym is ∙ tied_itself total x in cc

  below_each : (x z : K) (ys : List K) → AllByRecursion (λ y. order x y ≡ Less) ys → Among z ys → order x z ≡ Less
  below_each x z [] all h = absurd h
  below_each x z (y ∷ ys) all (inl is) = subst (λ w. order x w ≡ Less) (sym is) all.0
  below_each x z (y ∷ ys) all (inr later) = below_each x z ys all.1 later

  pub sorted_apart : (xs : List K) → IsStrictlySortedBy order xs → AllApart xs
  unfolding IsStrictlySortedBy
  sorted_apart [] all = tt
  sorted_apart (x ∷ xs) all = ((λ h. never_less x (below_each x x xs all.0 h)), sorted_apart xs all.1)

-- ---- the order of joins

instance_back : (x y : Option ℕ) → instance_order x y ≡ ordering_reverse (instance_order y x)
instance_back (Some a) (Some b) = nat_cmp_total.antisymm a b
instance_back (Some a) None = refl
instance_back None (Some b) = refl
instance_back None None = refl

instance_on : (x y z : Option ℕ) → instance_order x y ≡ Less → instance_order y z ≡ Less → instance_order x z ≡ Less
instance_on (Some a) (Some b) (Some c) p q = nat_cmp_total.trans a b c p q
instance_on (Some a) (Some b) None p q = refl
instance_on (Some a) None z p q = by z q
  where
    by : (z : Option ℕ) → instance_order None z ≡ Less → instance_order (Some a) z ≡ Less
    by (Some c) q = absurd cc
    by None q = absurd cc
instance_on None (Some b) z p q = absurd cc
instance_on None None z p q = absurd cc

instance_alike : (x y z : Option ℕ) → instance_order x y ≡ Equal → instance_order x z ≡ instance_order y z
instance_alike (Some a) (Some b) (Some c) p = nat_cmp_total.congr a b c p
instance_alike (Some a) (Some b) None p = refl
instance_alike (Some a) None z p = absurd cc
instance_alike None (Some b) z p = absurd cc
instance_alike None None z p = refl

instance_total : IsTotalOrder instance_order
instance_total = record { antisymm = instance_back; trans = instance_on; congr = instance_alike }

end_total : IsTotalOrder end_order
end_total = then_total (on_total (λ (e : End). e.instance) instance_total) (then_total (on_total (λ (e : End). e.port) nat_cmp_total) (on_total (λ (e : End). e.element) nat_cmp_total))

pub join_total : IsTotalOrder join_order
join_total = then_total (on_total (λ (j : Join). j.provided) end_total) (on_total (λ (j : Join). j.required) end_total)

nat_exact : (a b : ℕ) → nat_cmp a b ≡ Equal → a ≡ b
nat_exact a b is = eqb-true a b (unsigned_ties a b ∙ ap is_eq is)

instance_exact : (x y : Option ℕ) → instance_order x y ≡ Equal → x ≡ y
instance_exact (Some a) (Some b) is = ap Some (nat_exact a b is)
instance_exact (Some a) None is = absurd cc
instance_exact None (Some b) is = absurd cc
instance_exact None None is = refl

end_exact : (x y : End) → end_order x y ≡ Equal → x ≡ y
end_exact x y is =
    let p = then_equal (instance_order x.instance y.instance) (ordering_then (nat_cmp x.port y.port) (nat_cmp x.element y.element)) is in
    let q = then_equal (nat_cmp x.port y.port) (nat_cmp x.element y.element) p.1 in
    λ i. record { instance = instance_exact x.instance y.instance p.0 i; port = nat_exact x.port y.port q.0 i; element = nat_exact x.element y.element q.1 i }

pub join_exact : (x y : Join) → join_order x y ≡ Equal → x ≡ y
join_exact x y is = let p = then_equal (end_order x.provided y.provided) (end_order x.required y.required) is in
    λ i. record { provided = end_exact x.provided y.provided p.0 i; required = end_exact x.required y.required p.1 i }
