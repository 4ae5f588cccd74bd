-- What is in a list: of lists joined, in order, mapped and filtered; and how often.
use Rattle.std.proofs.Common.{◌≡◌, ℕ, zero, suc, ◌+◌, ◌<◌, ◌≤◌, Bool, true, false, cond, nat_eq, nat_le, refl, sym, ◌∙◌, ap, subst, arith, List, [], ◌∷◌, ◌++◌, map, filter, length, Some}
use Rattle.std.proofs.Common.{◌⊎◌, inl, inr}
use Rattle.bus_semantics.specs.Common.{slice_get, flat_map, list_any, eqb-true, eq-eqb, and_parts, not-true, any_passes_from_place, same_Some, count, gathered, same_numbers}
use Rattle.bus_semantics.specs.Plan as plan
use Rattle.plan_definitions.specs.Common.{are_same, put, in_order, distinct}
use Rattle.plan_definitions.proofs.Lists.{same_numbers_refl}
use Rattle.bus_laws.proofs.Thinning.{clash}
use Rattle.sound_plans.proofs.Places.{append_left, append_right, append_at, Later, kept_at, kept, mapped, all_at}

pub record Has (X : Type 0) (xs : List X) (x : X) : Type 0 where
  pub place : ℕ
  pub there : slice_get xs place ≡ Some x

pub has_first : {X : Type 0} (xs ys : List X) (x : X) → Has X xs x → Has X (xs ++ ys) x
has_first xs ys x h = record { place = h.place; there = append_left xs ys h.place x h.there }

pub has_last : {X : Type 0} (xs ys : List X) (x : X) → Has X ys x → Has X (xs ++ ys) x
has_last xs ys x h = record { place = length xs + h.place; there = append_right xs ys h.place x h.there }

pub has_either : {X : Type 0} (xs ys : List X) (x : X) → Has X (xs ++ ys) x → Has X xs x ⊎ Has X ys x
has_either {X} xs ys x h = by (append_at xs ys h.place x h.there)
  where
    by : (slice_get xs h.place ≡ Some x) ⊎ Later X xs ys h.place x → Has X xs x ⊎ Has X ys x
    by (inl e) = inl (record { place = h.place; there = e })
    by (inr l) = inr (record { place = l.place; there = l.there })

pub record HasIn (X Y : Type 0) (g : X → List Y) (xs : List X) (y : Y) : Type 0 where
  pub item : X
  pub has : Has X xs item
  pub inside : Has Y (g item) y

deeper : {X Y : Type 0} (g : X → List Y) (x : X) (xs : List X) (y : Y) → HasIn X Y g xs y → HasIn X Y g (x ∷ xs) y
deeper g x xs y h = record { item = h.item; has = record { place = suc h.has.place; there = h.has.there }; inside = h.inside }

pub has_flat : {X Y : Type 0} (g : X → List Y) (xs : List X) (y : Y) → Has Y (flat_map g xs) y → HasIn X Y g xs y
has_flat g [] y h = absurd (cc h.there)
has_flat {X} {Y} g (x ∷ xs) y h = by (λ r. has_flat g xs y r) (has_either (g x) (flat_map g xs) y h)
  where
    by : (Has Y (flat_map g xs) y → HasIn X Y g xs y) → Has Y (g x) y ⊎ Has Y (flat_map g xs) y → HasIn X Y g (x ∷ xs) y
    by rest (inl e) = record { item = x; has = record { place = 0; there = refl }; inside = e }
    by rest (inr r) = deeper g x xs y (rest r)

pub has_gathered : {X Y : Type 0} (g : X → List Y) (xs : List X) (y : Y) → Has Y (gathered g xs) y → HasIn X Y g xs y
has_gathered g [] y h = absurd (cc h.there)
has_gathered {X} {Y} g (x ∷ xs) y h = by (λ r. has_gathered g xs y r) (has_either (g x) (gathered g xs) y h)
  where
    by : (Has Y (gathered g xs) y → HasIn X Y g xs y) → Has Y (g x) y ⊎ Has Y (gathered g xs) y → HasIn X Y g (x ∷ xs) y
    by rest (inl e) = record { item = x; has = record { place = 0; there = refl }; inside = e }
    by rest (inr r) = deeper g x xs y (rest r)

pub to_flat : {X Y : Type 0} (g : X → List Y) (xs : List X) (k : ℕ) (x : X) (y : Y) → slice_get xs k ≡ Some x → Has Y (g x) y → Has Y (flat_map g xs) y
to_flat g [] k x y e h = absurd (cc e)
to_flat {X} {Y} g (z ∷ xs) zero x y e h = let same : x ≡ z = cc in has_first (g z) (flat_map g xs) y (subst (λ w. Has Y (g w) y) same h)
to_flat g (z ∷ xs) (suc k) x y e h = has_last (g z) (flat_map g xs) y (to_flat g xs k x y e h)

pub has_map : {X Y : Type 0} (g : X → Y) (xs : List X) (x : X) → Has X xs x → Has Y (map g xs) (g x)
has_map g xs x h = record { place = h.place; there = mapped g xs h.place x h.there }

pub has_kept : {X : Type 0} (test : X → Bool) (xs : List X) (x : X) → Has X xs x → test x ≡ true → Has X (filter test xs) x
has_kept test xs x h t = let w = kept test xs h.place x h.there t in record { place = w.0; there = w.1 }

pub kept_has : {X : Type 0} (test : X → Bool) (xs : List X) (x : X) → Has X (filter test xs) x → Has X xs x × (test x ≡ true)
kept_has test xs x h = let w = kept_at test xs h.place x h.there in (record { place = w.place; there = w.there }, w.passes)

module _ {X : Type 0} (n : X → ℕ) where
  put_has : (x : X) (ys : List X) (z : X) → Has X (put n x ys) z → Has X (x ∷ ys) z
  put_has x [] z h = h
  put_has x (y ∷ ys) z h = by (λ r. put_has x ys z r) (nat_le (n x) (n y)) h
    where
      later : Has X (x ∷ ys) z → Has X (x ∷ y ∷ ys) z
      later r = at r.place r.there
        where
          at : (k : ℕ) → slice_get (x ∷ ys) k ≡ Some z → Has X (x ∷ y ∷ ys) z
          at zero e = record { place = 0; there = e }
          at (suc k) e = record { place = suc (suc k); there = e }

      tail : (Has X (put n x ys) z → Has X (x ∷ ys) z) → (k : ℕ) → slice_get (y ∷ put n x ys) k ≡ Some z → Has X (x ∷ y ∷ ys) z
      tail rest zero e = record { place = 1; there = e }
      tail rest (suc k) e = later (rest (record { place = k; there = e }))

      by : (Has X (put n x ys) z → Has X (x ∷ ys) z) → (b : Bool) → Has X (cond b (x ∷ y ∷ ys) (y ∷ put n x ys)) z → Has X (x ∷ y ∷ ys) z
      by rest true h = h
      by rest false h = tail rest h.place h.there

  pub order_has : (xs : List X) (z : X) → Has X (in_order n xs) z → Has X xs z
  order_has [] z h = h
  order_has (x ∷ xs) z h = at (λ r. order_has xs z r) (put_has x (in_order n xs) z h)
    where
      by : (Has X (in_order n xs) z → Has X xs z) → (k : ℕ) → slice_get (x ∷ in_order n xs) k ≡ Some z → Has X (x ∷ xs) z
      by rest zero e = record { place = 0; there = e }
      by rest (suc k) e = let r = rest (record { place = k; there = e }) in record { place = suc r.place; there = r.there }

      at : (Has X (in_order n xs) z → Has X xs z) → Has X (x ∷ in_order n xs) z → Has X (x ∷ xs) z
      at rest h = by rest h.place h.there

-- ---- the positions of a plan

pub position_at_plan : (n k r : ℕ) → slice_get (plan.positions n) k ≡ Some r → r < n
position_at_plan zero k r e = absurd (cc e)
position_at_plan (suc n) k r e = by (λ a. position_at_plan n k r a) (append_at (plan.positions n) (n ∷ []) k r e)
  where
    one : (j : ℕ) → slice_get (n ∷ []) j ≡ Some r → r < suc n
    one zero e = let same : n ≡ r = same_Some n r e in omega arith
    one (suc j) e = absurd (cc e)

    by : (slice_get (plan.positions n) k ≡ Some r → r < n) → (slice_get (plan.positions n) k ≡ Some r) ⊎ Later ℕ (plan.positions n) (n ∷ []) k r → r < suc n
    by rest (inl a) = let less = rest a in omega arith
    by rest (inr l) = one l.place l.there

-- ---- names that are apart, tasks that are one

-- two of distinct names at two places differ
pub names_apart : (ns : List (List ℕ)) (i j : ℕ) (a : List ℕ) → distinct ns ≡ true → slice_get ns i ≡ Some a → slice_get ns j ≡ Some a → i ≡ j
names_apart [] i j a all s t = absurd (cc s)
names_apart (n ∷ ns) zero zero a all s t = refl
names_apart (n ∷ ns) zero (suc j) a all s t =
    let same : n ≡ a = same_Some n a s in
    clash (list_any (same_numbers n) ns) (any_passes_from_place (same_numbers n) ns j a t (subst (λ b. same_numbers n b ≡ true) same (same_numbers_refl n))) (not-true (list_any (same_numbers n) ns) (and_parts _ (distinct ns) all).0)
names_apart (n ∷ ns) (suc i) zero a all s t =
    let same : n ≡ a = same_Some n a t in
    clash (list_any (same_numbers n) ns) (any_passes_from_place (same_numbers n) ns i a s (subst (λ b. same_numbers n b ≡ true) same (same_numbers_refl n))) (not-true (list_any (same_numbers n) ns) (and_parts _ (distinct ns) all).0)
names_apart (n ∷ ns) (suc i) (suc j) a all s t = ap (λ k. suc k) (names_apart ns i j a (and_parts _ (distinct ns) all).1 s t)

pub tasks_one : (ts : List ℕ) (a b : ℕ) → are_same ts ≡ true → Has ℕ ts a → Has ℕ ts b → a ≡ b
tasks_one [] a b e g h = absurd (cc g.there)
tasks_one (t ∷ ts) a b e g h = sym (at a g.place g.there) ∙ at b h.place h.there
  where
    at : (x k : ℕ) → slice_get (t ∷ ts) k ≡ Some x → t ≡ x
    at x zero s = same_Some t x s
    at x (suc k) s = eqb-true t x (all_at (λ u. nat_eq t u) ts k x e s)

-- ---- how often

pub added : {X : Type 0} → (X → ℕ) → List X → ℕ
added f [] = 0
added f (x ∷ xs) = f x + added f xs

pub count_append : {X : Type 0} (test : X → Bool) (xs ys : List X) → count test (xs ++ ys) ≡ count test xs + count test ys
count_append test [] ys = omega arith
count_append test (x ∷ xs) ys = by (test x) (count_append test xs ys)
  where
    by : (b : Bool) → count test (xs ++ ys) ≡ count test xs + count test ys → cond b (suc (count test (xs ++ ys))) (count test (xs ++ ys)) ≡ cond b (suc (count test xs)) (count test xs) + count test ys
    by true e = omega arith
    by false e = e

pub count_flat : {X Y : Type 0} (test : Y → Bool) (g : X → List Y) (xs : List X) → count test (flat_map g xs) ≡ added (λ x. count test (g x)) xs
unfolding added
count_flat test g [] = refl
count_flat test g (x ∷ xs) = count_append test (g x) (flat_map g xs) ∙ ap (λ n. count test (g x) + n) (count_flat test g xs)

pub added_same : {X : Type 0} (f g : X → ℕ) (xs : List X) → ((k : ℕ) (x : X) → slice_get xs k ≡ Some x → f x ≡ g x) → added f xs ≡ added g xs
unfolding added
added_same f g [] same = refl
added_same f g (x ∷ xs) same = λ j. same 0 x refl j + added_same f g xs (λ k y e. same (suc k) y e) j

pub added_kept : {X : Type 0} (test : X → Bool) (xs : List X) → added (λ x. cond (test x) 1 0) xs ≡ length (filter test xs)
unfolding added
added_kept test [] = refl
added_kept test (x ∷ xs) = by (test x) (added_kept test xs)
  where
    by : (b : Bool) → added (λ x. cond (test x) 1 0) xs ≡ length (filter test xs) → cond b 1 0 + added (λ x. cond (test x) 1 0) xs ≡ length (cond b (x ∷ filter test xs) (filter test xs))
    by true e = omega arith
    by false e = omega arith

module _ {X : Type 0} (f : X → ℕ) (n : X → ℕ) where
  added_put : (x : X) (ys : List X) → added f (put n x ys) ≡ f x + added f ys
  unfolding added
  added_put x [] = refl
  added_put x (y ∷ ys) = by (nat_le (n x) (n y)) (added_put x ys)
    where
      by : (b : Bool) → added f (put n x ys) ≡ f x + added f ys → added f (cond b (x ∷ y ∷ ys) (y ∷ put n x ys)) ≡ f x + (f y + added f ys)
      by true e = refl
      by false e = omega arith

  pub added_order : (xs : List X) → added f (in_order n xs) ≡ added f xs
  unfolding added
  added_order [] = refl
  added_order (x ∷ xs) = added_put x (in_order n xs) ∙ ap (λ k. f x + k) (added_order xs)

-- those of each of some numbers, n and the following, together
module _ {X : Type 0} (f : X → ℕ) (task : X → ℕ) where
  unfoldable pub spread : ℕ → ℕ → List X → ℕ
  spread n zero xs = 0
  spread n (suc k) xs = added f (filter (λ x. nat_eq n (task x)) xs) + spread (n + 1) k xs

  spread_none : (n k : ℕ) → spread n k [] ≡ 0
  unfolding spread added
  spread_none n zero = refl
  spread_none n (suc k) = let e = spread_none (n + 1) k in omega arith

  spread_out : (n k : ℕ) (x : X) (xs : List X) → task x < n → spread n k (x ∷ xs) ≡ spread n k xs
  unfolding spread added
  spread_out n zero x xs l = refl
  spread_out n (suc k) x xs l = by (nat_eq n (task x)) refl (spread_out (n + 1) k x xs (omega arith))
    where
      by : (b : Bool) → nat_eq n (task x) ≡ b → spread (n + 1) k (x ∷ xs) ≡ spread (n + 1) k xs
          → added f (cond b (x ∷ filter (λ x. nat_eq n (task x)) xs) (filter (λ x. nat_eq n (task x)) xs)) + spread (n + 1) k (x ∷ xs) ≡ added f (filter (λ x. nat_eq n (task x)) xs) + spread (n + 1) k xs
      by true is e = let same = eqb-true n (task x) is in absurd (omega arith)
      by false is e = ap (λ m. added f (filter (λ x. nat_eq n (task x)) xs) + m) e

  spread_in : (n k : ℕ) (x : X) (xs : List X) → n ≤ task x → task x < n + k → spread n k (x ∷ xs) ≡ f x + spread n k xs
  unfolding spread added
  spread_in n zero x xs l m = absurd (omega arith)
  spread_in n (suc k) x xs l m = by (nat_eq n (task x)) refl (λ a. spread_in (n + 1) k x xs a (omega arith))
    where
      by : (b : Bool) → nat_eq n (task x) ≡ b → (n + 1 ≤ task x → spread (n + 1) k (x ∷ xs) ≡ f x + spread (n + 1) k xs)
          → added f (cond b (x ∷ filter (λ x. nat_eq n (task x)) xs) (filter (λ x. nat_eq n (task x)) xs)) + spread (n + 1) k (x ∷ xs) ≡ f x + (added f (filter (λ x. nat_eq n (task x)) xs) + spread (n + 1) k xs)
      by true is rest = let same = eqb-true n (task x) is in let e = spread_out (n + 1) k x xs (omega arith) in omega arith
      by false is rest = let apart : n ≡ task x → ⊥ = λ same. clash (nat_eq n (task x)) (eq-eqb n (task x) same) is in let e = rest (omega arith) in omega arith

  pub spread_all : (n k : ℕ) (xs : List X) → ((j : ℕ) (x : X) → slice_get xs j ≡ Some x → (n ≤ task x) × (task x < n + k)) → spread n k xs ≡ added f xs
  unfolding spread added
  spread_all n k [] all = spread_none n k
  spread_all n k (x ∷ xs) all = let here = all 0 x refl in spread_in n k x xs here.0 here.1 ∙ ap (λ m. f x + m) (spread_all n k xs (λ j y e. all (suc j) y e))

-- at most one of the numbers below one gives anything, and that one thing
module _ (g : ℕ → List ℕ) (small : (n : ℕ) → length (g n) ≤ 1) where
  gathered_one : (xs : List ℕ) (n : ℕ) → length (gathered g (xs ++ n ∷ [])) ≡ length (gathered g xs) + length (g n)
  gathered_one [] n = Rattle.std.proofs.Common.length-append (g n) [] ∙ (omega arith)
  gathered_one (x ∷ xs) n =
      let a = Rattle.std.proofs.Common.length-append (g x) (gathered g (xs ++ n ∷ [])) in
      let b = Rattle.std.proofs.Common.length-append (g x) (gathered g xs) in
      let c = gathered_one xs n in
      omega arith

  pub gathered_none : (k : ℕ) → ((n : ℕ) → n < k → length (g n) ≡ 0) → length (gathered g (plan.positions k)) ≡ 0
  gathered_none zero none = refl
  gathered_none (suc k) none = let a = gathered_one (plan.positions k) k in let b = gathered_none k (λ n l. none n (omega arith)) in let c = none k (omega arith) in omega arith

  pub gathered_few : (k : ℕ) → ((m n : ℕ) → m < k → n < k → 0 < length (g m) → 0 < length (g n) → m ≡ n) → length (gathered g (plan.positions k)) ≤ 1
  gathered_few zero one = omega arith
  gathered_few (suc k) one = by (gathered_few k (λ m n a b c e. one m n (omega arith) (omega arith) c e)) (length (g k)) refl
    where
      earlier : (n : ℕ) → 0 < length (g k) → n < k → length (g n) ≡ 0
      earlier n l m = at (length (g n)) refl
        where
          at : (x : ℕ) → length (g n) ≡ x → x ≡ 0
          at zero is = refl
          at (suc x) is = let same = one n k (omega arith) (omega arith) (omega arith) l in absurd (omega arith)

      by : length (gathered g (plan.positions k)) ≤ 1 → (x : ℕ) → length (g k) ≡ x → length (gathered g (plan.positions (suc k))) ≤ 1
      by rest zero is = let a = gathered_one (plan.positions k) k in omega arith
      by rest (suc x) is = let a = gathered_one (plan.positions k) k in let b = gathered_none k (λ n l. earlier n (omega arith) l) in let c = small k in omega arith
