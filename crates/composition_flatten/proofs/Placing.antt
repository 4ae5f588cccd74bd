-- The places of instances: each once, and all those that paths lead to.
use Rattle.std.proofs.Common.{◌≡◌, ℕ, zero, suc, ◌+◌, ◌≤◌, List, [], ◌∷◌, ◌++◌, length, take, drop, slice_get, Some, option_map, option_and_then, ◌⊎◌, inl, inr, ⊎_elim, refl, sym, ap, subst}
use Rattle.std.proofs.Common.{◌∙◌, arith, append_assoc}
use Rattle.std.proofs.lemmas.List.{append_cancel_right, same_from_push, length-append, length-take, length-drop, take-append-drop}
use Rattle.std.specs.List.{flat_map, enumerate_from}
use Rattle.description_types.specs.declared.description.Description.{Description}
use Rattle.description_types.specs.declared.description.Prototype.{Prototype}
use Rattle.description_types.specs.declared.description.PrototypeType.{PrototypeType}
use Rattle.description_types.specs.declared.description.PrototypeType.TheVariants.{Component, Composition}
use Rattle.composition_tables.specs.Ends.{offset}
use Rattle.description_types.specs.Places.{Place, places_of, places_below, size, size_of}
use Rattle.description_types.specs.Members.{sum_of}
use Rattle.description_types.specs.Paths.{prototypes_of, type_in, type_at}
use Rattle.composition_tables.proofs.Deepest.{path_on, through_none}
use Rattle.composition_flatten.proofs.Naming.{placed_size, placed_one}
use Rattle.composition_tables.proofs.Steps.{step_is, last_step}

get_left : {X : Type 0} (xs ys : List X) (i : ℕ) (x : X) → slice_get xs i ≡ Some x → slice_get (xs ++ ys) i ≡ Some x
get_left [] ys i x h = cc
get_left (y ∷ xs) ys zero x h = h
get_left (y ∷ xs) ys (suc i) x h = get_left xs ys i x h

get_right : {X : Type 0} (xs ys : List X) (i k : ℕ) → k ≡ length xs + i → slice_get (xs ++ ys) k ≡ slice_get ys i
get_right [] ys i k e = ap (slice_get ys) (e ∙ omega arith)
get_right (x ∷ xs) ys i zero e = absurd (omega arith)
get_right (x ∷ xs) ys i (suc k) e = get_right xs ys i k (omega arith)

get_split : {X : Type 0} (xs ys : List X) (i : ℕ) (x : X) → slice_get (xs ++ ys) i ≡ Some x → (slice_get xs i ≡ Some x) ⊎ ((k : ℕ) × (i ≡ length xs + k) × (slice_get ys k ≡ Some x))
get_split [] ys i x h = inr (i, omega arith, h)
get_split (y ∷ xs) ys zero x h = inl h
get_split (y ∷ xs) ys (suc i) x h = ⊎_elim (λ l. inl l) (λ (r : (k : ℕ) × (i ≡ length xs + k) × (slice_get ys k ≡ Some x)). inr (r.0, (let e = r.1 in omega arith), r.2)) (get_split xs ys i x h)

-- pieces one after the other, whose lengths a measure tells
module _ {X Y : Type 0} (f : ℕ × X → List Y) (g : X → ℕ) (long : (k : ℕ) (x : X) → length (f (k, x)) ≡ g x) where
  pub piece : (n : ℕ) (xs : List X) (q i k : ℕ) (x : X) (y : Y) → slice_get xs q ≡ Some x → slice_get (f (n + q, x)) i ≡ Some y → k ≡ sum_of g (take q xs) + i → slice_get (flat_map f (enumerate_from n xs)) k ≡ Some y
  piece n [] q i k x y at here e = cc
  piece n (z ∷ xs) zero i k x y at here e =
      let is : z ≡ x = cc in
      let number : n + 0 ≡ n = omega arith in
      get_left (f (n, z)) (flat_map f (enumerate_from (n + 1) xs)) k y
      (subst (λ w. slice_get (f (n, w)) k ≡ Some y) (sym is) (subst (λ m. slice_get (f (m, x)) k ≡ Some y) number (subst (λ m. slice_get (f (n + 0, x)) m ≡ Some y) (omega arith) here)))
  piece n (z ∷ xs) (suc q) i k x y at here e =
      let size = long n z in
      let number : n + suc q ≡ n + 1 + q = omega arith in
      get_right (f (n, z)) (flat_map f (enumerate_from (n + 1) xs)) (sum_of g (take q xs) + i) k (omega arith)
      ∙ piece (n + 1) xs q i (sum_of g (take q xs) + i) x y at (subst (λ m. slice_get (f (m, x)) i ≡ Some y) number here) refl

  pub unpiece : (n : ℕ) (xs : List X) (k : ℕ) (y : Y) → slice_get (flat_map f (enumerate_from n xs)) k ≡ Some y
      → (q : ℕ) × (x : X) × (i : ℕ) × (slice_get xs q ≡ Some x) × (slice_get (f (n + q, x)) i ≡ Some y) × (k ≡ sum_of g (take q xs) + i)
  unpiece n [] k y h = cc
  unpiece n (z ∷ xs) k y h = ⊎_elim
      (λ l. let number : n ≡ n + 0 = omega arith in (0, z, k, refl, subst (λ m. slice_get (f (m, z)) k ≡ Some y) number l, omega arith))
      (λ (r : (i : ℕ) × (k ≡ length (f (n, z)) + i) × (slice_get (flat_map f (enumerate_from (n + 1) xs)) i ≡ Some y)).
      let s = unpiece (n + 1) xs r.0 y r.2 in
      let number : n + 1 + s.0 ≡ n + suc s.0 = omega arith in
      let size = long n z in
      let e = r.1 in
      let e2 = s.5 in
      (suc s.0, s.1, s.2, s.3, subst (λ m. slice_get (f (m, s.1)) s.2 ≡ Some y) number s.4, omega arith))
      (get_split (f (n, z)) (flat_map f (enumerate_from (n + 1) xs)) k y h)

  pub pieces_fit : (xs : List X) (q : ℕ) (x : X) → slice_get xs q ≡ Some x → sum_of g (take q xs) + g x ≤ sum_of g xs
  pieces_fit [] q x h = cc
  pieces_fit (z ∷ xs) zero x h = let e : g z ≡ g x = ap g (cc) in omega arith
  pieces_fit (z ∷ xs) (suc q) x h = let rest = pieces_fit xs q x h in omega arith

one_at : {X : Type 0} (x y : X) (i : ℕ) → slice_get (x ∷ []) i ≡ Some y → (i ≡ 0) × (x ≡ y)
one_at x y zero h = (refl, cc)
one_at x y (suc i) h = cc

single : {X : Type 0} (xs : List X) → length xs ≡ 1 → (x : X) × (xs ≡ x ∷ [])
single [] h = absurd (omega arith)
single (x ∷ []) h = (x, refl)
single (x ∷ (y ∷ xs)) h = absurd (omega arith)

module _ (d : Description) where
  component_stays : (m : ℕ) (path : List ℕ) (u : PrototypeType) → type_at d (Component m) path ≡ Some u → path ≡ []
  component_stays m [] u h = refl
  component_stays m (q ∷ path) u h =
      let l = last_step d (Component m) u q path h in
      let none = component_stays m path (Composition l.0) l.1 in
      let no : Some (Component m) ≡ Some (Composition l.0) = sym (ap (type_at d (Component m)) none) ∙ l.1 in
      cc

  below_long : (n : ℕ) (path : List ℕ) (k : ℕ) (p : Prototype) → length (places_of (places_below d n) p.of_type (k ∷ path)) ≡ size_of (size d n) p.of_type
  below_long n path k p = placed_one d n p.of_type (k ∷ path) (placed_size d n)

  -- each place stands at the end of a path
  pub placed : (n : ℕ) (t : PrototypeType) (path : List ℕ) (i : ℕ) (x : Place) → slice_get (places_of (places_below d n) t path) i ≡ Some x
      → (rest : List ℕ) × (x.path ≡ rest ++ path) × (type_at d t rest ≡ Some (Component x.component)) × (length rest ≤ n)
  placed n (Component k) path i x h =
      let o = one_at (record { path = path; component = k }) x i h in
      ([], sym (ap (λ p. p.path) o.1), ap (λ (p : Place). Some (Component p.component)) o.1, omega arith)
  placed zero (Composition c) path i x h = cc
  placed (suc n) (Composition c) path i x h =
      let u = unpiece (λ (y : ℕ × Prototype). places_of (places_below d n) y.1.of_type (y.0 ∷ path)) (λ p. size_of (size d n) p.of_type) (below_long n path) 0 (prototypes_of d c) i x h in
      let r = placed n u.1.of_type ((0 + u.0) ∷ path) u.2 x u.4 in
      let number : 0 + u.0 ≡ u.0 = omega arith in
      let step : type_in d (Composition c) u.0 ≡ Some u.1.of_type = ap (option_map (λ (p : Prototype). p.of_type)) u.3 in (
        r.0 ++ (u.0 ∷ []),
        r.1 ∙ ap (λ m. r.0 ++ (m ∷ path)) number ∙ sym (append_assoc r.0 (u.0 ∷ []) path),
        path_on d (Composition c) r.0 (u.0 ∷ []) ∙ ap (option_and_then (λ v. type_at d v r.0)) step ∙ r.2,
        (let long = length-append r.0 (u.0 ∷ []) in let few = r.3 in omega arith),
      )

  -- and each such path has its place
  pub place_of : (n : ℕ) (t : PrototypeType) (rest path : List ℕ) (k : ℕ) → type_at d t rest ≡ Some (Component k) → length rest ≤ n
      → (i : ℕ) × (slice_get (places_of (places_below d n) t path) i ≡ Some (record { path = rest ++ path; component = k }))
  place_of n (Component m) rest path k typed few =
      let none = component_stays m rest (Component k) typed in
      let same : Some (Component m) ≡ Some (Component k) = sym (ap (type_at d (Component m)) none) ∙ typed in
      let is : m ≡ k = cc in
      (0, ap (λ c. Some (record { path = path; component = c })) is ∙ ap (λ l. Some (record { path = l ++ path; component = k })) (sym none))
  place_of zero (Composition c) [] path k typed few = cc
  place_of zero (Composition c) (q ∷ rest) path k typed few = absurd (omega arith)
  place_of (suc n) (Composition c) [] path k typed few = cc
  place_of (suc n) (Composition c) (q ∷ rest) path k typed few =
      let whole = q ∷ rest in
      let upper = drop (length rest) (q ∷ rest) in
      let lower = take (length rest) (q ∷ rest) in
      let join : lower ++ upper ≡ whole = take-append-drop (length rest) (q ∷ rest) in
      let one = single upper (omega (arith, length-drop (length rest) (q ∷ rest))) in
      let two : option_and_then (λ u. type_at d u lower) (type_at d (Composition c) upper) ≡ Some (Component k) = sym (path_on d (Composition c) lower upper) ∙ ap (type_at d (Composition c)) join ∙ typed in
      let mid = through_none (λ u. type_at d u lower) (type_at d (Composition c) upper) (Component k) two in
      let step : type_in d (Composition c) one.0 ≡ Some mid.0 = sym (ap (type_at d (Composition c)) one.1) ∙ mid.1 in
      let p = step_is d c one.0 mid.0 step in
      let r = place_of n mid.0 lower (one.0 ∷ path) k mid.2 (omega (arith, length-take (length rest) (q ∷ rest))) in
      let number : one.0 ≡ 0 + one.0 = omega arith in
      let here : slice_get (places_of (places_below d n) p.0.of_type ((0 + one.0) ∷ path)) r.0 ≡ Some (record { path = lower ++ (one.0 ∷ path); component = k }) =
      subst (λ m. slice_get (places_of (places_below d n) p.0.of_type (m ∷ path)) r.0 ≡ Some (record { path = lower ++ (one.0 ∷ path); component = k })) number
      (subst (λ u. slice_get (places_of (places_below d n) u (one.0 ∷ path)) r.0 ≡ Some (record { path = lower ++ (one.0 ∷ path); component = k })) (sym p.2) r.1) in
      let path_is : lower ++ (one.0 ∷ path) ≡ (q ∷ rest) ++ path = sym (append_assoc lower (one.0 ∷ []) path) ∙ ap (λ l. (lower ++ l) ++ path) (sym one.1) ∙ ap (λ l. l ++ path) join in (
        offset d n c one.0 + r.0,
        piece (λ (y : ℕ × Prototype). places_of (places_below d n) y.1.of_type (y.0 ∷ path)) (λ p. size_of (size d n) p.of_type) (below_long n path) 0 (prototypes_of d c) one.0 r.0 (offset d n c one.0 + r.0) p.0 _ p.1 here refl
            ∙ ap (λ l. Some (record { path = l; component = k })) path_is,
      )

  -- no two places have one path
  pub place_once : (n : ℕ) (t : PrototypeType) (path : List ℕ) (i j : ℕ) (x y : Place) → slice_get (places_of (places_below d n) t path) i ≡ Some x → slice_get (places_of (places_below d n) t path) j ≡ Some y → x.path ≡ y.path → i ≡ j
  place_once n (Component k) path i j x y at_i at_j same = (one_at (record { path = path; component = k }) x i at_i).0 ∙ sym (one_at (record { path = path; component = k }) y j at_j).0
  place_once zero (Composition c) path i j x y at_i at_j same = cc
  place_once (suc n) (Composition c) path i j x y at_i at_j same =
      let u = unpiece (λ (z : ℕ × Prototype). places_of (places_below d n) z.1.of_type (z.0 ∷ path)) (λ p. size_of (size d n) p.of_type) (below_long n path) 0 (prototypes_of d c) i x at_i in
      let v = unpiece (λ (z : ℕ × Prototype). places_of (places_below d n) z.1.of_type (z.0 ∷ path)) (λ p. size_of (size d n) p.of_type) (below_long n path) 0 (prototypes_of d c) j y at_j in
      let r = placed n u.1.of_type ((0 + u.0) ∷ path) u.2 x u.4 in
      let s = placed n v.1.of_type ((0 + v.0) ∷ path) v.2 y v.4 in
      let ends : r.0 ++ ((0 + u.0) ∷ path) ≡ s.0 ++ ((0 + v.0) ∷ path) = sym r.1 ∙ same ∙ s.1 in
      let fronts : r.0 ++ ((0 + u.0) ∷ []) ≡ s.0 ++ ((0 + v.0) ∷ []) = append_cancel_right (r.0 ++ ((0 + u.0) ∷ [])) (s.0 ++ ((0 + v.0) ∷ [])) path (append_assoc r.0 ((0 + u.0) ∷ []) path ∙ ends ∙ sym (append_assoc s.0 ((0 + v.0) ∷ []) path)) in
      let last = (same_from_push r.0 s.0 (0 + u.0) (0 + v.0) fronts).1 in
      let q_same : v.0 ≡ u.0 = omega (arith, last) in
      let both : Some v.1 ≡ Some u.1 = sym v.3 ∙ ap (slice_get (prototypes_of d c)) q_same ∙ u.3 in
      let p_same : v.1.of_type ≡ u.1.of_type = cc in
      let at_v = subst (λ t. slice_get (places_of (places_below d n) t ((0 + u.0) ∷ path)) v.2 ≡ Some y) p_same (subst (λ q. slice_get (places_of (places_below d n) v.1.of_type ((0 + q) ∷ path)) v.2 ≡ Some y) q_same v.4) in
      let inner = place_once n u.1.of_type ((0 + u.0) ∷ path) u.2 v.2 x y u.4 at_v same in
      u.5 ∙ ap (λ m. offset d n c u.0 + m) inner ∙ ap (λ q. offset d n c q + v.2) (sym q_same) ∙ sym v.5

  -- the places of what stands here have the numbers from the first one on
  pub record Segment (list : List Place) (first n : ℕ) (t : PrototypeType) (path : List ℕ) : Type 0 where
    pub at : (i : ℕ) (x : Place) → slice_get (places_of (places_below d n) t path) i ≡ Some x → slice_get list (first + i) ≡ Some x
    pub fits : first + size_of (size d n) t ≤ length list

  pub segment_whole : (n c : ℕ) (path : List ℕ) → Segment (places_below d n c path) 0 n (Composition c) path
  segment_whole n c path = record {
    at = λ i x h. let e : i ≡ 0 + i = omega arith in subst (λ k. slice_get (places_below d n c path) k ≡ Some x) e h;
    fits = let long = placed_size d n c path in omega arith;
  }

  pub segment_inner : (list : List Place) (first n c q : ℕ) (t : PrototypeType) (path : List ℕ) → Segment list first (suc n) (Composition c) path → type_in d (Composition c) q ≡ Some t
      → Segment list (first + offset d n c q) n t (q ∷ path)
  segment_inner list first n c q t path s typed =
      let p = step_is d c q t typed in
      record {
        at = λ i x h.
            let number : q ≡ 0 + q = omega arith in
            let here = subst (λ m. slice_get (places_of (places_below d n) p.0.of_type (m ∷ path)) i ≡ Some x) number (subst (λ u. slice_get (places_of (places_below d n) u (q ∷ path)) i ≡ Some x) (sym p.2) h) in
            let at_all = piece (λ (y : ℕ × Prototype). places_of (places_below d n) y.1.of_type (y.0 ∷ path)) (λ p. size_of (size d n) p.of_type) (below_long n path) 0 (prototypes_of d c) q i (offset d n c q + i) p.0 x p.1 here refl in
            let e : first + (offset d n c q + i) ≡ first + offset d n c q + i = omega arith in
            subst (λ k. slice_get list k ≡ Some x) e (s.at (offset d n c q + i) x at_all);
        fits =
            let few = pieces_fit (λ (y : ℕ × Prototype). places_of (places_below d n) y.1.of_type (y.0 ∷ path)) (λ p. size_of (size d n) p.of_type) (below_long n path) (prototypes_of d c) q p.0 p.1 in
            let is : size_of (size d n) p.0.of_type ≡ size_of (size d n) t = ap (size_of (size d n)) p.2 in
            let all = s.fits in
            omega arith;
      }
