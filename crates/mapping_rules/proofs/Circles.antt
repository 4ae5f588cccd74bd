-- Edges that lead in a circle, and edges that do not.
use Rattle.std.proofs.Common.{◌≡◌, ℕ, zero, suc, ◌<◌, ◌≤◌, List, [], ◌∷◌, length, map, filter, Bool, true, false, cond, not, nat_eq, ◌==◌, ◌⊎◌, inl, inr, ⊎_elim, refl, sym, ap, subst, ◌∙◌}
use Rattle.std.proofs.Common.{true≢false, arith}
use Rattle.std.proofs.lemmas.Bool.{eqb-true, eq-eqb, or_cases, or_left, or_right}
use Rattle.description_types.specs.Members.{Among}
use Rattle.mapping_rules.specs.Edges.{has_edge_to, HaveRanks, HaveCircle, IsDecided, Way}

module _ {X : Type 0} where
  kept_case : (b : Bool) (x y : X) (ys : List X) → Among x (cond b (y ∷ ys) ys) → (x ≡ y) ⊎ Among x ys
  kept_case true x y ys a = a
  kept_case false x y ys a = inr a

  here_kept : (b : Bool) (x y : X) (ys : List X) → b ≡ true → x ≡ y → Among x (cond b (y ∷ ys) ys)
  here_kept true x y ys t e = inl e
  here_kept false x y ys t e = cc

  later_kept : (b : Bool) (x y : X) (ys : List X) → Among x ys → Among x (cond b (y ∷ ys) ys)
  later_kept true x y ys a = inr a
  later_kept false x y ys a = a

  shorter : (b : Bool) (y : X) (ys : List X) (n : ℕ) → length ys ≤ n → length (cond b (y ∷ ys) ys) ≤ suc n
  shorter true y ys n h = omega arith
  shorter false y ys n h = omega arith

  fewer : (b : Bool) (y : X) (ys : List X) (n : ℕ) → length ys < n → length (cond b (y ∷ ys) ys) < suc n
  fewer true y ys n h = omega arith
  fewer false y ys n h = omega arith

  dropped : (b : Bool) (y : X) (ys : List X) (n : ℕ) → b ≡ false → length ys ≤ n → length (cond b (y ∷ ys) ys) < suc n
  dropped true y ys n f h = cc
  dropped false y ys n f h = omega arith

  both_kept : (b : Bool) (y : X) (ys : List X) (n : ℕ) → length ys ≤ n → length (cond b (y ∷ ys) ys) ≡ suc n → (b ≡ true) × (length ys ≡ n)
  both_kept true y ys n h same = (refl, omega arith)
  both_kept false y ys n h same = absurd (omega arith)

  module _ (p : X → Bool) where
    pub kept_among : (x : X) (xs : List X) → Among x (filter p xs) → Among x xs
    kept_among x [] h = absurd h
    kept_among x (y ∷ xs) h = ⊎_elim (λ e. inl e) (λ r. inr (kept_among x xs r)) (kept_case (p y) x y (filter p xs) h)

    pub among_kept : (x : X) (xs : List X) → Among x xs → p x ≡ true → Among x (filter p xs)
    among_kept x [] h t = absurd h
    among_kept x (y ∷ xs) (inl e) t = here_kept (p y) x y (filter p xs) (ap p (sym e) ∙ t) e
    among_kept x (y ∷ xs) (inr h) t = later_kept (p y) x y (filter p xs) (among_kept x xs h t)

    pub at_most : (xs : List X) → length (filter p xs) ≤ length xs
    at_most [] = omega arith
    at_most (y ∷ xs) = shorter (p y) y (filter p xs) (length xs) (at_most xs)

    pub same_kept : (q : X → Bool) → ((x : X) → p x ≡ q x) → (xs : List X) → filter p xs ≡ filter q xs
    same_kept q same [] = refl
    same_kept q same (y ∷ xs) = λ j. cond (same y j) (y ∷ same_kept q same xs j) (same_kept q same xs j)

    pub all_pass : (xs : List X) → length (filter p xs) ≡ length xs → (x : X) → Among x xs → p x ≡ true
    all_pass [] same x h = absurd h
    all_pass (y ∷ xs) same x h = let k = both_kept (p y) y (filter p xs) (length xs) (at_most xs) same in ⊎_elim (λ e. ap p e ∙ k.0) (λ r. all_pass xs k.1 x r) h

-- a number less among others
abbrev without : ℕ → List ℕ → List ℕ
without x xs = filter (λ y. not (nat_eq x y)) xs

less_one : (x : ℕ) (xs : List ℕ) → Among x xs → length (without x xs) < length xs
less_one x [] h = absurd h
less_one x (y ∷ xs) (inl e) = dropped (not (nat_eq x y)) y (without x xs) (length xs) (ap not (eq-eqb x y e)) (at_most (λ y. not (nat_eq x y)) xs)
less_one x (y ∷ xs) (inr h) = fewer (not (nat_eq x y)) y (without x xs) (length xs) (less_one x xs h)

still_there : (x v : ℕ) (xs : List ℕ) → Among v xs → (x ≡ v) ⊎ Among v (without x xs)
still_there x v xs h = by (nat_eq x v) refl
  where
    by : (b : Bool) → nat_eq x v ≡ b → (x ≡ v) ⊎ Among v (filter (λ y. not (nat_eq x y)) xs)
    by true e = inl (eqb-true x v e)
    by false e = inr (among_kept (λ y. not (nat_eq x y)) v xs h (ap not e))

edge_to : (b : ℕ) (edges : List (ℕ × ℕ)) → has_edge_to b edges ≡ true → (a : ℕ) × Among (a, b) edges
edge_to b [] h = cc
edge_to b (e ∷ es) h = ⊎_elim (λ here. (e.0, inl (ap (λ z. (e.0, z)) (eqb-true b e.1 here)))) (λ later. let r = edge_to b es later in (r.0, inr r.1)) (or_cases (nat_eq b e.1) (has_edge_to b es) h)

to_edge : (e : ℕ × ℕ) (edges : List (ℕ × ℕ)) → Among e edges → has_edge_to e.1 edges ≡ true
to_edge e [] h = absurd h
to_edge e (x ∷ xs) (inl is) = or_left (nat_eq e.1 x.1) (has_edge_to e.1 xs) (eq-eqb e.1 x.1 (ap (λ z. z.1) is))
to_edge e (x ∷ xs) (inr h) = or_right (nat_eq e.1 x.1) (has_edge_to e.1 xs) (to_edge e xs h)

-- ranks of the edges that are left give ranks of all
pub all_ranked : (edges : List (ℕ × ℕ)) → HaveRanks (filter (λ e. has_edge_to e.0 edges) edges) → HaveRanks edges
all_ranked edges r = ((λ x. cond (has_edge_to x edges) (suc (r.0 x)) 0), goes)
  where
    raised : (b c : Bool) (m n : ℕ) → c ≡ true → (b ≡ true → m < n) → cond b (suc m) 0 < cond c (suc n) 0
    raised true true m n t h = let less : m < n = h refl in omega arith
    raised false true m n t h = omega arith
    raised b false m n t h = cc

    goes : (e : ℕ × ℕ) → Among e edges → cond (has_edge_to e.0 edges) (suc (r.0 e.0)) 0 < cond (has_edge_to e.1 edges) (suc (r.0 e.1)) 0
    goes e h = raised (has_edge_to e.0 edges) (has_edge_to e.1 edges) (r.0 e.0) (r.0 e.1) (to_edge e edges h) (λ t. r.1 e (among_kept (λ e. has_edge_to e.0 edges) e edges h t))

pub none_ranked : HaveRanks []
none_ranked = ((λ x. 0), (λ e h. absurd h))

-- where each edge begins at the end of one, a circle is found by going back
module _ (edges : List (ℕ × ℕ)) (each : (e : ℕ × ℕ) → Among e edges → has_edge_to e.0 edges ≡ true) where
  abbrev Reaches : ℕ → ℕ → Type 0
  Reaches x v = (n : ℕ) × Way edges n x v

  back : (n : ℕ) (left : List ℕ) (x y : ℕ) → length left ≤ n → Among (x, y) edges → ((v w : ℕ) → Among (v, w) edges → Among v left ⊎ Reaches x v) → HaveCircle edges
  back zero left x y few here seen =
      let p = edge_to x edges (each (x, y) here) in
      ⊎_elim (λ a. absurd (none left few p.0 a)) (λ r. (p.0, r.0, (x, p.1, r.1))) (seen p.0 x p.1)
    where
      none : (ys : List ℕ) → length ys ≤ 0 → (z : ℕ) → Among z ys → ⊥
      none [] h z a = a
      none (y ∷ ys) h z a = omega arith
  back (suc n) left x y few here seen =
      let p = edge_to x edges (each (x, y) here) in
      ⊎_elim (λ a. let less = less_one p.0 left a in back n (without p.0 left) p.0 x (omega arith) p.1 (λ v w h. ⊎_elim
      (λ l. ⊎_elim (λ e. inr (0, e)) (λ m. inl m) (still_there p.0 v left l))
      (λ r. inr (suc r.0, (x, p.1, r.1))) (seen v w h)))
      (λ r. (p.0, r.0, (x, p.1, r.1))) (seen p.0 x p.1)

  starts : (xs : List (ℕ × ℕ)) (v w : ℕ) → Among (v, w) xs → Among v (map (λ e. e.0) xs)
  starts [] v w h = absurd h
  starts (x ∷ xs) v w (inl e) = inl (ap (λ z. z.0) e)
  starts (x ∷ xs) v w (inr h) = inr (starts xs v w h)

  pub circle : (e : ℕ × ℕ) → Among e edges → HaveCircle edges
  circle e h = back (length (map (λ x. x.0) edges)) (map (λ x. x.0) edges) e.0 e.1 (omega arith) h (λ v w a. inl (starts edges v w a))

-- what is left of the edges has a circle only where they have one
module _ (edges fewer : List (ℕ × ℕ)) (within : (e : ℕ × ℕ) → Among e fewer → Among e edges) where
  way_within : (n a c : ℕ) → Way fewer n a c → Way edges n a c
  way_within zero a c w = w
  way_within (suc n) a c w = (w.0, within (a, w.0) w.1, way_within n w.0 c w.2)

  pub circle_within : HaveCircle fewer → HaveCircle edges
  circle_within c = (c.0, c.1, way_within (suc c.1) c.0 c.0 c.2)

-- a turn of the loop that takes edges off, and its end
module _ (edges left kept slice : List (ℕ × ℕ)) (same : slice ≡ left) (is : kept ≡ filter (λ e. has_edge_to e.0 slice) slice) where
  peels : kept ≡ filter (λ e. has_edge_to e.0 left) left
  peels = is ∙ ap (λ l. filter (λ e. has_edge_to e.0 l) l) same

  pub ranks_left : (HaveRanks left → HaveRanks edges) → HaveRanks kept → HaveRanks edges
  ranks_left ranks r = ranks (all_ranked left (subst HaveRanks peels r))

  pub within_left : ((e : ℕ × ℕ) → Among e left → Among e edges) → (e : ℕ × ℕ) → Among e kept → Among e edges
  within_left within e h = within e (kept_among (λ e. has_edge_to e.0 left) e left (subst (Among e) peels h))

  pub no_longer : length kept ≤ length left
  no_longer = subst (λ l. length l ≤ length left) (sym peels) (at_most (λ e. has_edge_to e.0 left) left)

  pub decided : (answer : Bool) → (HaveRanks left → HaveRanks edges) → ((e : ℕ × ℕ) → Among e left → Among e edges) → length kept ≡ length left → answer ≡ (length left == 0) → IsDecided answer edges
  decided answer ranks within stays empty = by left answer ranks within (all_pass (λ e. has_edge_to e.0 left) left (ap length (sym peels) ∙ stays)) empty
    where
      by : (left : List (ℕ × ℕ)) (answer : Bool) → (HaveRanks left → HaveRanks edges) → ((e : ℕ × ℕ) → Among e left → Among e edges)
          → ((e : ℕ × ℕ) → Among e left → has_edge_to e.0 left ≡ true) → answer ≡ (length left == 0) → IsDecided answer edges
      by [] true ranks within each empty = ranks none_ranked
      by [] false ranks within each empty = absurd (true≢false (sym empty))
      by (e ∷ es) true ranks within each empty = let none = eqb-true (length (e ∷ es)) 0 (sym empty) in absurd (omega arith)
      by (e ∷ es) false ranks within each empty = circle_within edges (e ∷ es) within (circle (e ∷ es) each e (inl refl))
