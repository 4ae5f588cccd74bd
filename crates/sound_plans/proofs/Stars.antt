-- Groups that are stars: each end is the only partner of its partners, or has one partner alone. Who is at most two steps apart is
-- in one group, and the least number of a group is seen from each of its ends in two steps.
use Rattle.std.proofs.Common.{◌≡◌, ℕ, ◌≤◌, List, [], ◌∷◌, map, min, ◌⊎◌, inl, inr, ⊎_elim, refl, sym, subst, ◌∙◌, arith}
use Rattle.plan_definitions.specs.Common.{Among, least}
use Rattle.plan_definitions.proofs.Lists.{mapped, unmapped}

-- ---- the least number

least_low : (n : ℕ) (ms : List ℕ) → least n ms ≤ n
least_low n [] = omega arith
least_low n (m ∷ ms) = let rest = least_low n ms in omega arith

least_each : (n : ℕ) (ms : List ℕ) (m : ℕ) → Among m ms → least n ms ≤ m
least_each n [] m h = absurd h
least_each n (k ∷ ms) m (inl e) = omega arith
least_each n (k ∷ ms) m (inr h) = let rest = least_each n ms m h in omega arith

least_is : (n : ℕ) (ms : List ℕ) → (least n ms ≡ n) ⊎ Among (least n ms) ms
least_is n [] = inl refl
least_is n (m ∷ ms) = ⊎_elim here (λ less. other less (least_is n ms)) (or_less m (least n ms))
  where
    or_less : (a b : ℕ) → (min a b ≡ a) ⊎ (min a b ≡ b)
    or_less a b = grind arith

    here : min m (least n ms) ≡ m → (min m (least n ms) ≡ n) ⊎ Among (min m (least n ms)) (m ∷ ms)
    here e = inr (inl e)

    other : min m (least n ms) ≡ least n ms → (least n ms ≡ n) ⊎ Among (least n ms) ms → (min m (least n ms) ≡ n) ⊎ Among (min m (least n ms)) (m ∷ ms)
    other e (inl own) = inl (e ∙ own)
    other e (inr later) = inr (inr (subst (λ k. Among k ms) (sym e) later))

module _ {E : Type 0} (partners : E → List E) where
  abbrev pub Touch : E → E → Type 0
  Touch a b = Among b (partners a)

  abbrev pub Near : E → E → Type 0
  Near a b = (a ≡ b) ⊎ (Touch a b ⊎ ((m : E) × Touch a m × Touch m b))

  abbrev pub Single : E → Type 0
  Single a = (x y : E) → Touch a x → Touch a y → x ≡ y

  abbrev spread : (E → ℕ) → E → ℕ
  spread number e = least (number e) (map number (partners e))

  spread_is : (number : E → ℕ) (e : E) → (x : E) × ((e ≡ x) ⊎ Touch e x) × (spread number e ≡ number x)
  spread_is number e = ⊎_elim (λ own. (e, inl refl, own)) (λ there. let p = unmapped number (partners e) (spread number e) there in (p.0, inr p.1, p.2)) (least_is (number e) (map number (partners e)))

  spread_each : (number : E → ℕ) (e x : E) → Touch e x → spread number e ≤ number x
  spread_each number e x touch = least_each (number e) (map number (partners e)) (number x) (mapped number (partners e) x touch)

  spread_low : (number : E → ℕ) (e : E) → spread number e ≤ number e
  spread_low number e = least_low (number e) (map number (partners e))

  module _ (number : E → ℕ) where
    abbrev leader : E → ℕ
    leader = spread (spread number)

    pub leader_is : (e : E) → (x : E) × Near e x × (leader e ≡ number x)
    leader_is e = let first = spread_is (spread number) e in let second = spread_is number first.0 in (second.0, by first.0 second.0 first.1 second.1, first.2 ∙ second.2)
      where
        by : (m x : E) → (e ≡ m) ⊎ Touch e m → (m ≡ x) ⊎ Touch m x → Near e x
        by m x (inl e) (inl f) = inl (e ∙ f)
        by m x (inl e) (inr t) = inr (inl (subst (λ y. Touch y x) (sym e) t))
        by m x (inr t) (inl f) = inr (inl (subst (λ y. Touch e y) f t))
        by m x (inr t) (inr u) = inr (inr (m, t, u))

    pub leader_low : (e x : E) → Near e x → leader e ≤ number x
    leader_low e x (inl is) = subst (λ y. leader e ≤ number y) is (let a = spread_low (spread number) e in let b = spread_low number e in omega arith)
    leader_low e x (inr (inl t)) = let a = spread_low (spread number) e in let b = spread_each number e x t in omega arith
    leader_low e x (inr (inr (m, t, u))) = let a = spread_each (spread number) e m t in let b = spread_each number m x u in omega arith

    pub leader_own : (e : E) → leader e ≤ number e
    leader_own e = leader_low e e (inl refl)

  module _ (back : (a b : E) → Touch a b → Touch b a) where
    pub near_back : (a b : E) → Near a b → Near b a
    near_back a b (inl e) = inl (sym e)
    near_back a b (inr (inl t)) = inr (inl (back a b t))
    near_back a b (inr (inr (m, t, u))) = inr (inr (m, back m b u, back a m t))

    module _ (Good : E → Type 0) (good : (a b : E) → Good a → Touch a b → Good b) (star : (a b : E) → Good a → Touch a b → Single a ⊎ Single b) where
      three : (a b c d : E) → Good a → Touch a b → Touch b c → Touch c d → Touch a d
      three a b c d is t u v = ⊎_elim
          (λ single. subst (λ y. Touch y d) (sym (single a c (back a b t) u)) v)
          (λ single. subst (λ y. Touch a y) (single b d (back b c u) v) t)
          (star b c (good a b is t) u)

      pub near_then : (a b c : E) → Good a → Near a b → Near b c → Near a c
      near_then a b c is (inl e) n = subst (λ y. Near y c) (sym e) n
      near_then a b c is (inr (inl t)) (inl e) = inr (inl (subst (λ y. Touch a y) e t))
      near_then a b c is (inr (inl t)) (inr (inl u)) = inr (inr (b, t, u))
      near_then a b c is (inr (inl t)) (inr (inr (m, u, v))) = inr (inl (three a b m c is t u v))
      near_then a b c is (inr (inr (m, t, u))) (inl e) = inr (inr (m, t, subst (λ y. Touch m y) e u))
      near_then a b c is (inr (inr (m, t, u))) (inr (inl v)) = inr (inl (three a m b c is t u v))
      near_then a b c is (inr (inr (m, t, u))) (inr (inr (o, v, w))) = inr (inr (o, three a m b o is t u v, w))

      pub near_good : (a b : E) → Good a → Near a b → Good b
      near_good a b is (inl e) = subst Good e is
      near_good a b is (inr (inl t)) = good a b is t
      near_good a b is (inr (inr (m, t, u))) = good m b (good a m is t) u

      -- those of one group have one leader
      pub leader_same : (number : E → ℕ) (a b : E) → Good a → Near a b → leader number a ≡ leader number b
      leader_same number a b is near =
          let p = leader_is number a in
          let q = leader_is number b in
          let low = leader_low number b p.0 (near_then b a p.0 (near_good a b is near) (near_back a b near) p.1) in
          let also = leader_low number a q.0 (near_then a b q.0 is near q.1) in
          let first : leader number a ≡ number p.0 = p.2 in
          let second : leader number b ≡ number q.0 = q.2 in
          omega (arith, low, also, first, second)
