-- Lists of as many things as a number says, one for each number below it.
use Rattle.std.proofs.Common.{◌≡◌, ◌<◌, ◌≤◌, ◌+◌, ℕ, zero, suc, Bool, true, false, cond, ◌||◌, nat_eq, List, [], ◌∷◌, ◌++◌, map, filter, flat_map, length, take, slice_get, Option, Some}
use Rattle.std.proofs.Common.{None, refl, sym, ap, ◌∙◌, subst, inl, inr, ◌⊎◌, ⊎_elim, true≢false, eqb-true, eq-eqb, ne_eqb, arith, zero-add, length-append, append_assoc}
use Rattle.bus_semantics.specs.Common.{list_any, position_from, option_or, map-append}
use Rattle.std.specs.List.{enumerate_from}
use Rattle.serde_json.specs.Data.{Data}
use Rattle.soak_maker.specs.Json.{each}
use Rattle.plan_definitions.specs.Common.{Among, AllApart, first_of}

abbrev pub many : {X : Type 0} → ℕ → (ℕ → X) → List X
many zero f = []
many (suc n) f = many n f ++ f n ∷ []

abbrev pub two : {X : Type 0} → ℕ → (a b : ℕ → X) → List X
two n a b = many n a ++ many n b

abbrev pub three : {X : Type 0} → ℕ → (a b : ℕ → X) → X → List X
three n a b c = two n a b ++ c ∷ []

-- ---- numbers that are compared

pub differ : (a b : ℕ) → (a < b) ⊎ (b < a) → nat_eq a b ≡ false
differ a b (inl h) = ne_eqb a b (λ e. omega (arith, h, e))
differ a b (inr h) = ne_eqb a b (λ e. omega (arith, h, e))

pub not_same : (a b : ℕ) → nat_eq a b ≡ false → a ≡ b → ⊥
not_same a b apart e = true≢false (sym (eq-eqb a b e) ∙ apart)

pub below_still : (i n : ℕ) → i < suc n → nat_eq i n ≡ false → i < n
below_still i n less apart = let other = not_same i n apart in omega (arith, less, other)

pub above_still : (m i : ℕ) → i ≤ m → nat_eq m i ≡ false → i + 1 ≤ m
above_still m i least apart = let other = not_same m i apart in omega (arith, least, other)

each_many : (n : ℕ) (f : ℕ → Data) → each n f ≡ many n f
each_many zero f = refl
each_many (suc n) f = ap (λ ds. ds ++ f n ∷ []) (each_many n f)

pub each_two : (n : ℕ) (a b : ℕ → Data) → each n a ++ each n b ≡ two n a b
each_two n a b = λ i. each_many n a i ++ each_many n b i

pub each_three : (n : ℕ) (a b : ℕ → Data) (c : Data) → (each n a ++ each n b) ++ c ∷ [] ≡ three n a b c
each_three n a b c = ap (λ ds. ds ++ c ∷ []) (each_two n a b)

module _ {X : Type 0} where
  pub length-many : (n : ℕ) (f : ℕ → X) → length (many n f) ≡ n
  length-many zero f = refl
  length-many (suc n) f = length-append (many n f) (f n ∷ []) ∙ (let e = length-many n f in omega (arith, e))

  pub map_each : (g : Data → X) (n : ℕ) (f : ℕ → Data) → map g (each n f) ≡ many n (λ i. g (f i))
  map_each g zero f = refl
  map_each g (suc n) f = map-append g (each n f) (f n ∷ []) ∙ ap (λ xs. xs ++ g (f n) ∷ []) (map_each g n f)

  pub map_two : (g : Data → X) (n : ℕ) (a b : ℕ → Data) → map g (each n a ++ each n b) ≡ two n (λ i. g (a i)) (λ i. g (b i))
  map_two g n a b = map-append g (each n a) (each n b) ∙ (λ i. map_each g n a i ++ map_each g n b i)

  pub map_three : (g : Data → X) (n : ℕ) (a b : ℕ → Data) (c : Data) → map g ((each n a ++ each n b) ++ c ∷ []) ≡ three n (λ i. g (a i)) (λ i. g (b i)) (g c)
  map_three g n a b c = map-append g (each n a ++ each n b) (c ∷ []) ∙ ap (λ xs. xs ++ g c ∷ []) (map_two g n a b)

  pub many_same : (n : ℕ) (f g : ℕ → X) → ((i : ℕ) → i < n → f i ≡ g i) → many n f ≡ many n g
  many_same zero f g e = refl
  many_same (suc n) f g e = λ i. many_same n f g (λ k h. e k (omega (arith, h))) i ++ e n (omega arith) i ∷ []

  pub two_same : (n : ℕ) (a b c d : ℕ → X) → ((i : ℕ) → i < n → a i ≡ c i) → ((i : ℕ) → i < n → b i ≡ d i) → two n a b ≡ two n c d
  two_same n a b c d e g = λ i. many_same n a c e i ++ many_same n b d g i

  pub three_same : (n : ℕ) (a b : ℕ → X) (c : X) (u v : ℕ → X) (w : X) → ((i : ℕ) → i < n → a i ≡ u i) → ((i : ℕ) → i < n → b i ≡ v i) → c ≡ w → three n a b c ≡ three n u v w
  three_same n a b c u v w d e f = λ i. two_same n a b u v d e i ++ f i ∷ []

  -- ---- what holds of each, with its position

  abbrev pub AllAt : (ℕ → X → Type 0) → ℕ → List X → Type 0
  AllAt P k [] = Unit {0}
  AllAt P k (x ∷ xs) = P k x × AllAt P (k + 1) xs

  pub both_at : (P : ℕ → X → Type 0) (k : ℕ) (xs ys : List X) → AllAt P k xs → AllAt P (k + length xs) ys → AllAt P k (xs ++ ys)
  both_at P k [] ys a b = subst (λ m. AllAt P m ys) (omega arith) b
  both_at P k (x ∷ xs) ys a b = (a.0, both_at P (k + 1) xs ys a.1 (subst (λ m. AllAt P m ys) (omega arith) b))

  pub many_at : (P : ℕ → X → Type 0) (k n : ℕ) (f : ℕ → X) → ((i : ℕ) → i < n → P (k + i) (f i)) → AllAt P k (many n f)
  many_at P k zero f h = tt
  many_at P k (suc n) f h = both_at P k (many n f) (f n ∷ []) (many_at P k n f (λ i less. h i (omega (arith, less))))
      (subst (λ m. P m (f n)) (ap (λ m. k + m) (sym (length-many n f))) (h n (omega arith)), tt)

  pub two_at : (P : ℕ → X → Type 0) (n : ℕ) (a b : ℕ → X) → ((i : ℕ) → i < n → P i (a i)) → ((i : ℕ) → i < n → P (n + i) (b i)) → AllAt P 0 (two n a b)
  two_at P n a b p q = both_at P 0 (many n a) (many n b) (many_at P 0 n a (λ i less. subst (λ m. P m (a i)) (omega arith) (p i less)))
      (many_at P (0 + length (many n a)) n b (λ i less. subst (λ m. P m (b i)) (let e = length-many n a in omega (arith, e)) (q i less)))

  pub length-two : (n : ℕ) (a b : ℕ → X) → length (two n a b) ≡ n + n
  length-two n a b = length-append (many n a) (many n b) ∙ (λ i. length-many n a i + length-many n b i)

  pub length-three : (n : ℕ) (a b : ℕ → X) (c : X) → length (three n a b c) ≡ n + n + 1
  length-three n a b c = length-append (two n a b) (c ∷ []) ∙ ap (λ m. m + 1) (length-two n a b)

  pub three_at : (P : ℕ → X → Type 0) (n : ℕ) (a b : ℕ → X) (c : X) → ((i : ℕ) → i < n → P i (a i)) → ((i : ℕ) → i < n → P (n + i) (b i)) → P (n + n) c → AllAt P 0 (three n a b c)
  three_at P n a b c p q r = both_at P 0 (two n a b) (c ∷ []) (two_at P n a b p q) (subst (λ m. P m c) (let e = length-two n a b in omega (arith, e)) r, tt)

  pub all_told : (P Q : ℕ → X → Type 0) → ((k : ℕ) (x : X) → P k x → Q k x) → (k : ℕ) (xs : List X) → AllAt P k xs → AllAt Q k xs
  all_told P Q tells k [] all = tt
  all_told P Q tells k (x ∷ xs) all = (tells k x all.0, all_told P Q tells (k + 1) xs all.1)

  -- what holds of each holds of what stands at a position
  pub at_position : (P : ℕ → X → Type 0) (k : ℕ) (xs : List X) → AllAt P k xs → (i : ℕ) (x : X) → slice_get xs i ≡ Some x → P (k + i) x
  at_position P k [] all i x e = absurd (cc)
  at_position P k (y ∷ ys) all zero x e = let same : y ≡ x = cc in subst (λ m. P m x) (omega arith) (subst (P k) same all.0)
  at_position P k (y ∷ ys) all (suc i) x e = subst (λ m. P m x) (omega arith) (at_position P (k + 1) ys all.1 i x e)

  pub at_start : (P : ℕ → X → Type 0) (xs : List X) → AllAt P 0 xs → (i : ℕ) (x : X) → slice_get xs i ≡ Some x → P i x
  at_start P xs all i x e = subst (λ m. P m x) (zero-add i) (at_position P 0 xs all i x e)

  pub among_at : (P : X → Type 0) (k : ℕ) (xs : List X) → AllAt (λ i x. P x) k xs → (x : X) → Among x xs → P x
  among_at P k (y ∷ ys) all x (inl e) = subst P (sym e) all.0
  among_at P k (y ∷ ys) all x (inr more) = among_at P (k + 1) ys all.1 x more
  among_at P k [] all x more = absurd more

  -- ---- what is found

  pub get_past : (xs ys : List X) (i : ℕ) → slice_get (xs ++ ys) (length xs + i) ≡ slice_get ys i
  get_past [] ys i = ap (slice_get ys) {y = i} (omega arith)
  get_past (x ∷ xs) ys i = ap (slice_get (x ∷ xs ++ ys)) {y = suc (length xs + i)} (omega arith) ∙ get_past xs ys i

  get_within : (xs ys : List X) (i : ℕ) → i < length xs → slice_get (xs ++ ys) i ≡ slice_get xs i
  get_within [] ys i less = absurd (omega (arith, less))
  get_within (x ∷ xs) ys zero less = refl
  get_within (x ∷ xs) ys (suc i) less = get_within xs ys i (omega (arith, less))

  pub get_many : (n : ℕ) (f : ℕ → X) (i : ℕ) → i < n → slice_get (many n f) i ≡ Some (f i)
  get_many zero f i less = absurd (omega (arith, less))
  get_many (suc n) f i less = by (get_many n f i) (nat_eq i n) refl
    where
      by : (i < n → slice_get (many n f) i ≡ Some (f i)) → (b : Bool) → nat_eq i n ≡ b → slice_get (many n f ++ f n ∷ []) i ≡ Some (f i)
      by rest true e = let same : i ≡ n = eqb-true i n e in
          ap (slice_get (many n f ++ f n ∷ [])) {y = length (many n f) + 0} (let l = length-many n f in omega (arith, same, l)) ∙ get_past (many n f) (f n ∷ []) 0 ∙ ap (λ m. Some (f m)) (sym same)
      by rest false e = let less_still : i < n = below_still i n less e in
          get_within (many n f) (f n ∷ []) i (let l = length-many n f in omega (arith, less_still, l)) ∙ rest less_still

  pub get_first : (n : ℕ) (a b : ℕ → X) (c : X) (i : ℕ) → i < n → slice_get (three n a b c) i ≡ Some (a i)
  get_first n a b c i less =
      get_within (two n a b) (c ∷ []) i (let e = length-two n a b in omega (arith, e, less))
      ∙ get_within (many n a) (many n b) i (let e = length-many n a in omega (arith, e, less))
      ∙ get_many n a i less

  pub get_second : (n : ℕ) (a b : ℕ → X) (c : X) (i : ℕ) → i < n → slice_get (three n a b c) (n + i) ≡ Some (b i)
  get_second n a b c i less =
      get_within (two n a b) (c ∷ []) (n + i) (let e = length-two n a b in omega (arith, e, less))
      ∙ ap (slice_get (two n a b)) {y = length (many n a) + i} (let e = length-many n a in omega (arith, e))
      ∙ get_past (many n a) (many n b) i
      ∙ get_many n b i less

  pub get_third : (n : ℕ) (a b : ℕ → X) (c : X) → slice_get (three n a b c) (n + n) ≡ Some c
  get_third n a b c = ap (slice_get (three n a b c)) {y = length (two n a b) + 0} (let e = length-two n a b in omega (arith, e)) ∙ get_past (two n a b) (c ∷ []) 0

  pub first_none : {Y : Type 0} (f : ℕ → X → Option Y) (k : ℕ) (xs : List X) → AllAt (λ i x. f i x ≡ None) k xs → first_of f k xs ≡ None
  first_none f k [] all = refl
  first_none f k (x ∷ xs) all = ap (λ o. option_or o (first_of f (k + 1) xs)) all.0 ∙ first_none f (k + 1) xs all.1

  pub any_none : (t : X → Bool) (k : ℕ) (xs : List X) → AllAt (λ i x. t x ≡ false) k xs → list_any t xs ≡ false
  any_none t k [] all = refl
  any_none t k (x ∷ xs) all = ap (λ b. b || list_any t xs) all.0 ∙ any_none t (k + 1) xs all.1

  -- the position of the one that passes, where each is known to pass just at k
  pub position_is : (t : X → Bool) (i m : ℕ) (xs : List X) → AllAt (λ k x. t x ≡ nat_eq m k) i xs → i ≤ m → m < i + length xs → position_from t i xs ≡ Some m
  position_is t i m [] all least most = absurd (omega (arith, least, most))
  position_is t i m (x ∷ xs) all least most = ap (λ b. cond b (Some i) (position_from t (i + 1) xs)) all.0 ∙ by (λ more. position_is t (i + 1) m xs all.1 more (omega (arith, most))) (nat_eq m i) refl
    where
      by : (i + 1 ≤ m → position_from t (i + 1) xs ≡ Some m) → (b : Bool) → nat_eq m i ≡ b → cond b (Some i) (position_from t (i + 1) xs) ≡ Some m
      by rest true e = ap (λ k. Some k) (sym (eqb-true m i e))
      by rest false e = rest (above_still m i least e)

  none_passes : (t : X → Bool) (i m : ℕ) (xs : List X) → AllAt (λ k x. t x ≡ nat_eq m k) i xs → m < i → filter t xs ≡ []
  none_passes t i m [] all less = refl
  none_passes t i m (x ∷ xs) all less =
      let apart : nat_eq m i ≡ false = differ m i (inl less) in
      ap (λ b. cond b (x ∷ filter t xs) (filter t xs)) (all.0 ∙ apart) ∙ none_passes t (i + 1) m xs all.1 (omega (arith, less))

  -- only the one at position m passes
  pub one_passes : (t : X → Bool) (i m : ℕ) (xs : List X) (y : X) → AllAt (λ k x. t x ≡ nat_eq m k) i xs → (j : ℕ) → m ≡ i + j → slice_get xs j ≡ Some y → filter t xs ≡ y ∷ []
  one_passes t i m [] y all j at got = absurd (cc)
  one_passes t i m (x ∷ xs) y all zero at got =
      let yes : nat_eq m i ≡ true = eq-eqb m i (omega (arith, at)) in
      let same : x ≡ y = cc in
      ap (λ b. cond b (x ∷ filter t xs) (filter t xs)) (all.0 ∙ yes) ∙ (λ k. same k ∷ none_passes t (i + 1) m xs all.1 (omega (arith, at)) k)
  one_passes t i m (x ∷ xs) y all (suc j) at got =
      let apart : nat_eq m i ≡ false = differ m i (inr (omega (arith, at))) in
      ap (λ b. cond b (x ∷ filter t xs) (filter t xs)) (all.0 ∙ apart) ∙ one_passes t (i + 1) m xs y all.1 j (omega (arith, at)) got

  -- ---- what is among them

  among_left : (x : X) (xs ys : List X) → Among x xs → Among x (xs ++ ys)
  among_left x (y ∷ xs) ys (inl e) = inl e
  among_left x (y ∷ xs) ys (inr more) = inr (among_left x xs ys more)
  among_left x [] ys more = absurd more

  among_right : (x : X) (xs ys : List X) → Among x ys → Among x (xs ++ ys)
  among_right x [] ys more = more
  among_right x (y ∷ xs) ys more = inr (among_right x xs ys more)

  among_many : (n : ℕ) (f : ℕ → X) (i : ℕ) → i < n → Among (f i) (many n f)
  among_many zero f i less = absurd (omega (arith, less))
  among_many (suc n) f i less = by (among_many n f i) (nat_eq i n) refl
    where
      by : (i < n → Among (f i) (many n f)) → (b : Bool) → nat_eq i n ≡ b → Among (f i) (many n f ++ f n ∷ [])
      by rest true e = among_right (f i) (many n f) (f n ∷ []) (inl (ap f (eqb-true i n e)))
      by rest false e = among_left (f i) (many n f) (f n ∷ []) (rest (below_still i n less e))

  pub among_first : (n : ℕ) (a b : ℕ → X) (i : ℕ) → i < n → Among (a i) (two n a b)
  among_first n a b i less = among_left (a i) (many n a) (many n b) (among_many n a i less)

  pub among_second : (n : ℕ) (a b : ℕ → X) (i : ℕ) → i < n → Among (b i) (two n a b)
  among_second n a b i less = among_right (b i) (many n a) (many n b) (among_many n b i less)

  pub among_take : (m : ℕ) (xs : List X) (x : X) → Among x (take m xs) → (j : ℕ) × (j < m) × (slice_get xs j ≡ Some x)
  among_take zero xs x among = absurd among
  among_take (suc m) [] x among = absurd among
  among_take (suc m) (y ∷ xs) x (inl e) = (0, omega arith, ap (λ z. Some z) (sym e))
  among_take (suc m) (y ∷ xs) x (inr more) = let (j, less, is) = among_take m xs x more in (suc j, omega (arith, less), is)

  split : (x : X) (ys : List X) → Among x ys → (l : List X) × (r : List X) × (ys ≡ l ++ x ∷ r)
  split x [] h = absurd h
  split x (y ∷ ys) (inl e) = ([], ys, ap (λ w. w ∷ ys) (sym e))
  split x (y ∷ ys) (inr h) = let r = split x ys h in (y ∷ r.0, r.1, ap (λ l. y ∷ l) r.2)

  cases : (x : X) (xs ys : List X) → Among x (xs ++ ys) → Among x xs ⊎ Among x ys
  cases x [] ys more = inr more
  cases x (y ∷ xs) ys (inl e) = inl (inl e)
  cases x (y ∷ xs) ys (inr more) = ⊎_elim (λ h. inl (inr h)) (λ h. inr h) (cases x xs ys more)

  -- different ones that are all among some are no more than these
  pub few_apart : (xs ys : List X) → AllApart xs → ((x : X) → Among x xs → Among x ys) → length xs ≤ length ys
  few_apart [] ys apart within = omega arith
  few_apart (x ∷ xs) ys apart within =
      let s = split x ys (within x (inl refl)) in
      let rest = few_apart xs (s.0 ++ s.1) apart.1 (λ y h. ⊎_elim (λ l. among_left y s.0 s.1 l)
      (λ r. ⊎_elim (λ e. absurd (apart.0 (subst (λ w. Among w xs) e h))) (λ b. among_right y s.0 s.1 b) r) (cases y s.0 (x ∷ s.1) (subst (Among y) s.2 (within y (inr h))))) in
      let whole : length ys ≡ length s.0 + suc (length s.1) = ap length s.2 ∙ length-append s.0 (x ∷ s.1) in
      let shorter = length-append s.0 s.1 in
      omega (arith, rest, whole, shorter)

-- ---- lists made of each, with its position

module _ {X Y : Type 0} (f : ℕ × X → List Y) where
  flat_both : (k : ℕ) (xs ys : List X) → flat_map f (enumerate_from k (xs ++ ys)) ≡ flat_map f (enumerate_from k xs) ++ flat_map f (enumerate_from (k + length xs) ys)
  flat_both k [] ys = ap (λ m. flat_map f (enumerate_from m ys)) (omega arith)
  flat_both k (x ∷ xs) ys =
      ap (λ l. f (k, x) ++ l) (flat_both (k + 1) xs ys)
      ∙ sym (append_assoc (f (k, x)) (flat_map f (enumerate_from (k + 1) xs)) (flat_map f (enumerate_from (k + 1 + length xs) ys)))
      ∙ ap (λ m. (f (k, x) ++ flat_map f (enumerate_from (k + 1) xs)) ++ flat_map f (enumerate_from m ys)) (omega arith)

  flat_one : (k : ℕ) (x : X) (y : Y) → f (k, x) ≡ y ∷ [] → flat_map f (enumerate_from k (x ∷ [])) ≡ y ∷ []
  flat_one k x y e = ap (λ l. l ++ []) e

  flat_many : (k n : ℕ) (a : ℕ → X) (b : ℕ → Y) → ((i : ℕ) → i < n → f (k + i, a i) ≡ b i ∷ []) → flat_map f (enumerate_from k (many n a)) ≡ many n b
  flat_many k zero a b e = refl
  flat_many k (suc n) a b e =
      flat_both k (many n a) (a n ∷ [])
      ∙ (λ i. flat_many k n a b (λ j h. e j (omega (arith, h))) i ++ flat_one (k + length (many n a)) (a n) (b n) (ap (λ m. f (k + m, a n)) (length-many n a) ∙ e n (omega arith)) i)

  pub flat_three : (n : ℕ) (a b : ℕ → X) (c : X) (u v : ℕ → Y) (w : Y) → ((i : ℕ) → i < n → f (i, a i) ≡ u i ∷ []) → ((i : ℕ) → i < n → f (n + i, b i) ≡ v i ∷ []) → f (n + n, c) ≡ w ∷ []
      → flat_map f (enumerate_from 0 (three n a b c)) ≡ three n u v w
  flat_three n a b c u v w p q r =
      flat_both 0 (two n a b) (c ∷ [])
      ∙ (λ i. (flat_both 0 (many n a) (many n b)
      ∙ (λ i. flat_many 0 n a u (λ j h. ap (λ m. f (m, a j)) (omega arith) ∙ p j h) i
      ++ flat_many (0 + length (many n a)) n b v (λ j h. ap (λ m. f (m, b j)) (let l = length-many n a in omega (arith, l)) ∙ q j h) i)) i
      ++ flat_one (0 + length (two n a b)) c w (ap (λ m. f (m, c)) (let l = length-two n a b in omega (arith, l)) ∙ r) i)

map_many : {X Y : Type 0} (g : X → Y) (n : ℕ) (f : ℕ → X) → map g (many n f) ≡ many n (λ i. g (f i))
map_many g zero f = refl
map_many g (suc n) f = map-append g (many n f) (f n ∷ []) ∙ ap (λ xs. xs ++ g (f n) ∷ []) (map_many g n f)

pub map_three_of : {X Y : Type 0} (g : X → Y) (n : ℕ) (a b : ℕ → X) (c : X) → map g (three n a b c) ≡ three n (λ i. g (a i)) (λ i. g (b i)) (g c)
map_three_of g n a b c =
    map-append g (two n a b) (c ∷ [])
    ∙ (λ i. (map-append g (many n a) (many n b) ∙ (λ i. map_many g n a i ++ map_many g n b i)) i ++ g c ∷ [])
