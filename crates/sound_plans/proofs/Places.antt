-- Lists by positions: tests at each position, lists joined end to end, first positions.
use Rattle.std.proofs.Common.{◌≡◌, ℕ, zero, suc, ◌+◌, ◌<◌, ◌≤◌, Bool, true, false, cond, refl, ◌∙◌, ap, subst, arith, List, [], ◌∷◌, ◌++◌, map, filter, length, Some, None, option_map, ◌⊎◌, inl, inr}
use Rattle.bus_semantics.specs.Common.{list_all, list_any, slice_get, position_from, option_map_or, and_from, and_parts, false≢true, or_cases, slice_get-map, look, every_from}
use Rattle.plan_definitions.specs.Common.{count, from}
use Rattle.bus_laws.proofs.Thinning.{clash}

-- ---- tests

pub not_some : {X Y : Type 0} (a : X) → None ≡ Some a → Y
not_some a e = absurd (cc e)

-- ---- what is looked up

pub looked : {X B : Type 0} (xs : List X) (i : ℕ) (x : X) (f : X → B) (other : B) → slice_get xs i ≡ Some x → look xs i f other ≡ f x
looked xs i x f other e = ap (λ o. option_map_or f o other) e

pub all_if : {X : Type 0} (test : X → Bool) (xs : List X) → ((k : ℕ) (x : X) → slice_get xs k ≡ Some x → test x ≡ true) → list_all test xs ≡ true
all_if test [] each = refl
all_if test (x ∷ xs) each = and_from (test x) (list_all test xs) (each 0 x refl) (all_if test xs (λ k y e. each (suc k) y e))

pub all_at : {X : Type 0} (test : X → Bool) (xs : List X) (i : ℕ) (x : X) → list_all test xs ≡ true → slice_get xs i ≡ Some x → test x ≡ true
all_at test [] i x all e = absurd (cc e)
all_at test (y ∷ xs) zero x all e = let same : y ≡ x = cc in subst (λ z. test z ≡ true) same (and_parts (test y) (list_all test xs) all).0
all_at test (y ∷ xs) (suc i) x all e = all_at test xs i x (and_parts (test y) (list_all test xs) all).1 e

pub every_if : {X : Type 0} (f : ℕ → X → Bool) (n : ℕ) (xs : List X) → ((k : ℕ) (x : X) → slice_get xs k ≡ Some x → f (n + k) x ≡ true) → every_from n f xs ≡ true
every_if f n [] each = refl
every_if f n (x ∷ xs) each = and_from (f n x) (every_from (n + 1) f xs)
    (let place : n + 0 ≡ n = omega arith in subst (λ m. f m x ≡ true) place (each 0 x refl))
    (every_if f (n + 1) xs (λ k y e. let place : n + suc k ≡ n + 1 + k = omega arith in subst (λ m. f m y ≡ true) place (each (suc k) y e)))

pub record Passes (X : Type 0) (test : X → Bool) (xs : List X) : Type 0 where
  pub place : ℕ
  pub item : X
  pub there : slice_get xs place ≡ Some item
  pub passes : test item ≡ true

pub any_at : {X : Type 0} (test : X → Bool) (xs : List X) → list_any test xs ≡ true → Passes X test xs
any_at test [] e = absurd (false≢true e)
any_at {X} test (x ∷ xs) e = by (λ r. any_at test xs r) (or_cases (test x) (list_any test xs) e)
  where
    by : (list_any test xs ≡ true → Passes X test xs) → (test x ≡ true) ⊎ (list_any test xs ≡ true) → Passes X test (x ∷ xs)
    by rest (inl t) = record { place = 0; item = x; there = refl; passes = t }
    by rest (inr r) = let deeper = rest r in record { place = suc deeper.place; item = deeper.item; there = deeper.there; passes = deeper.passes }

-- ---- first positions

pub record FoundAt (X : Type 0) (test : X → Bool) (n : ℕ) (xs : List X) : Type 0 where
  pub place : ℕ
  pub item : X
  pub there : slice_get xs place ≡ Some item
  pub passes : test item ≡ true
  pub is : position_from test n xs ≡ Some (n + place)

pub found : {X : Type 0} (test : X → Bool) (n : ℕ) (xs : List X) (k : ℕ) (x : X) → slice_get xs k ≡ Some x → test x ≡ true → FoundAt X test n xs
found test n [] k x e t = absurd (cc e)
found {X} test n (y ∷ xs) k x e t = by (λ j s. found test (n + 1) xs j x s t) (test y) refl k e
  where
    by : ((j : ℕ) → slice_get xs j ≡ Some x → FoundAt X test (n + 1) xs) → (b : Bool) → test y ≡ b → (k : ℕ) → slice_get (y ∷ xs) k ≡ Some x → FoundAt X test n (y ∷ xs)
    by rest true is k e = record { place = 0; item = y; there = refl; passes = is; is = ap (λ b. cond b (Some n) (position_from test (n + 1) xs)) is ∙ (let place : n ≡ n + 0 = omega arith in ap (λ m. Some m) place) }
    by rest false is zero e = let same : x ≡ y = cc in clash (test y) (subst (λ z. test z ≡ true) same t) is
    by rest false is (suc k) e = let deeper = rest k e in
        record {
          place = suc deeper.place;
          item = deeper.item;
          there = deeper.there;
          passes = deeper.passes;
          is = ap (λ b. cond b (Some n) (position_from test (n + 1) xs)) is ∙ deeper.is ∙ (let place : n + 1 + deeper.place ≡ n + suc deeper.place = omega arith in ap (λ m. Some m) place);
        }

pub position_at : {X : Type 0} (test : X → Bool) (n : ℕ) (xs : List X) (k : ℕ) → position_from test n xs ≡ Some k → FoundAt X test n xs
position_at test n [] k e = not_some k e
position_at {X} test n (y ∷ xs) k e = by (λ r. position_at test (n + 1) xs k r) (test y) refl e
  where
    by : (position_from test (n + 1) xs ≡ Some k → FoundAt X test (n + 1) xs) → (b : Bool) → test y ≡ b → cond b (Some n) (position_from test (n + 1) xs) ≡ Some k → FoundAt X test n (y ∷ xs)
    by rest true is e = found test n (y ∷ xs) 0 y refl is
    by rest false is e = let deeper = rest e in found test n (y ∷ xs) (suc deeper.place) deeper.item deeper.there deeper.passes

-- ---- one list after the other

pub append_left : {X : Type 0} (xs ys : List X) (k : ℕ) (x : X) → slice_get xs k ≡ Some x → slice_get (xs ++ ys) k ≡ Some x
append_left [] ys k x e = absurd (cc e)
append_left (y ∷ xs) ys zero x e = e
append_left (y ∷ xs) ys (suc k) x e = append_left xs ys k x e

pub append_right : {X : Type 0} (xs ys : List X) (k : ℕ) (x : X) → slice_get ys k ≡ Some x → slice_get (xs ++ ys) (length xs + k) ≡ Some x
append_right [] ys k x e = let place : k ≡ 0 + k = omega arith in subst (λ m. slice_get ys m ≡ Some x) place e
append_right (y ∷ xs) ys k x e = let place : suc (length xs + k) ≡ suc (length xs) + k = omega arith in subst (λ m. slice_get (y ∷ (xs ++ ys)) m ≡ Some x) place (append_right xs ys k x e)

pub record Later (X : Type 0) (xs ys : List X) (k : ℕ) (x : X) : Type 0 where
  pub place : ℕ
  pub sum : k ≡ length xs + place
  pub there : slice_get ys place ≡ Some x

pub append_at : {X : Type 0} (xs ys : List X) (k : ℕ) (x : X) → slice_get (xs ++ ys) k ≡ Some x → (slice_get xs k ≡ Some x) ⊎ Later X xs ys k x
append_at [] ys k x e = inr (record { place = k; sum = omega arith; there = e })
append_at (y ∷ xs) ys zero x e = inl e
append_at {X} (y ∷ xs) ys (suc k) x e = by (append_at xs ys k x e)
  where
    by : (slice_get xs k ≡ Some x) ⊎ Later X xs ys k x → (slice_get xs k ≡ Some x) ⊎ Later X (y ∷ xs) ys (suc k) x
    by (inl e) = inl e
    by (inr l) = let s = l.sum in inr (record { place = l.place; sum = omega arith; there = l.there })

-- ---- lists joined end to end

pub before : {X Y : Type 0} → (ℕ → X → List Y) → ℕ → List X → ℕ → ℕ
before g n [] at = 0
before g n (x ∷ xs) zero = 0
before g n (x ∷ xs) (suc at) = length (g n x) + before g (n + 1) xs at

pub record In (X Y : Type 0) (g : ℕ → X → List Y) (n : ℕ) (xs : List X) (k : ℕ) (y : Y) : Type 0 where
  pub at : ℕ
  pub item : X
  pub there : slice_get xs at ≡ Some item
  pub place : ℕ
  pub inside : slice_get (g (n + at) item) place ≡ Some y
  pub sum : k ≡ before g n xs at + place

pub in_from : {X Y : Type 0} (g : ℕ → X → List Y) (n : ℕ) (xs : List X) (k : ℕ) (y : Y) → slice_get (from n g xs) k ≡ Some y → In X Y g n xs k y
unfolding before
in_from g n [] k y e = absurd (cc e)
in_from {X} {Y} g n (x ∷ xs) k y e = by (λ j s. in_from g (n + 1) xs j y s) (append_at (g n x) (from (n + 1) g xs) k y e)
  where
    by : ((j : ℕ) → slice_get (from (n + 1) g xs) j ≡ Some y → In X Y g (n + 1) xs j y) → (slice_get (g n x) k ≡ Some y) ⊎ Later Y (g n x) (from (n + 1) g xs) k y → In X Y g n (x ∷ xs) k y
    by rest (inl e) = record { at = 0; item = x; there = refl; place = k; inside = (let place : n ≡ n + 0 = omega arith in subst (λ m. slice_get (g m x) k ≡ Some y) place e); sum = omega arith }
    by rest (inr l) =
        let deeper = rest l.place l.there in
        let place : n + 1 + deeper.at ≡ n + suc deeper.at = omega arith in
        let s = l.sum in let t = deeper.sum in
        record { at = suc deeper.at; item = deeper.item; there = deeper.there; place = deeper.place; inside = subst (λ m. slice_get (g m deeper.item) deeper.place ≡ Some y) place deeper.inside; sum = omega arith }

pub reach : {X Y : Type 0} (g : ℕ → X → List Y) (n : ℕ) (xs : List X) (at : ℕ) (x : X) (place : ℕ) (y : Y) → slice_get xs at ≡ Some x → slice_get (g (n + at) x) place ≡ Some y
    → slice_get (from n g xs) (before g n xs at + place) ≡ Some y
unfolding before
reach g n [] at x place y e i = absurd (cc e)
reach g n (z ∷ xs) zero x place y e i =
    let same : x ≡ z = cc in
    let none : n + 0 ≡ n = omega arith in
    let here : place ≡ 0 + place = omega arith in
    subst (λ m. slice_get (from n g (z ∷ xs)) m ≡ Some y) here (append_left (g n z) (from (n + 1) g xs) place y (subst (λ w. slice_get (g n w) place ≡ Some y) same (subst (λ m. slice_get (g m x) place ≡ Some y) none i)))
reach g n (z ∷ xs) (suc at) x place y e i =
    let more : n + suc at ≡ n + 1 + at = omega arith in
    let here : length (g n z) + (before g (n + 1) xs at + place) ≡ length (g n z) + before g (n + 1) xs at + place = omega arith in
    subst (λ m. slice_get (from n g (z ∷ xs)) m ≡ Some y) here
    (append_right (g n z) (from (n + 1) g xs) (before g (n + 1) xs at + place) y (reach g (n + 1) xs at x place y e (subst (λ m. slice_get (g m x) place ≡ Some y) more i)))

pub before_same : {X Y Z : Type 0} (g : ℕ → X → List Y) (h : ℕ → X → List Z) → ((m : ℕ) (x : X) → length (g m x) ≡ length (h m x)) → (n : ℕ) (xs : List X) (at : ℕ) → before g n xs at ≡ before h n xs at
unfolding before
before_same g h same n [] at = refl
before_same g h same n (x ∷ xs) zero = refl
before_same g h same n (x ∷ xs) (suc at) = λ j. same n x j + before_same g h same (n + 1) xs at j

-- each position of the joined list stands after all that comes before
pub within_before : {X Y : Type 0} (g : ℕ → X → List Y) (n : ℕ) (xs : List X) (a b : ℕ) (x : X) → slice_get xs a ≡ Some x → a < b → before g n xs a + length (g (n + a) x) ≤ before g n xs b
unfolding before
within_before g n [] a b x e l = absurd (cc e)
within_before g n (z ∷ xs) zero zero x e l = absurd (omega arith)
within_before g n (z ∷ xs) zero (suc b) x e l =
    let same : z ≡ x = cc in
    let none : n ≡ n + 0 = omega arith in
    let here : length (g n z) ≡ length (g (n + 0) x) = λ j. length (g (none j) (same j)) in
    omega arith
within_before g n (z ∷ xs) (suc a) zero x e l = absurd (omega arith)
within_before g n (z ∷ xs) (suc a) (suc b) x e l =
    let more : n + 1 + a ≡ n + suc a = omega arith in
    let here : length (g (n + 1 + a) x) ≡ length (g (n + suc a) x) = ap (λ m. length (g m x)) more in
    let deeper = within_before g (n + 1) xs a b x e (omega arith) in
    omega arith

-- ---- positions and maps

pub mapped : {X Y : Type 0} (f : X → Y) (xs : List X) (k : ℕ) (x : X) → slice_get xs k ≡ Some x → slice_get (map f xs) k ≡ Some (f x)
mapped f xs k x e = slice_get-map f xs k ∙ ap (option_map f) e

pub record MapAt (X Y : Type 0) (f : X → Y) (xs : List X) (k : ℕ) (y : Y) : Type 0 where
  pub item : X
  pub there : slice_get xs k ≡ Some item
  pub is : y ≡ f item

pub map_at : {X Y : Type 0} (f : X → Y) (xs : List X) (k : ℕ) (y : Y) → slice_get (map f xs) k ≡ Some y → MapAt X Y f xs k y
map_at f [] k y e = absurd (cc e)
map_at f (x ∷ xs) zero y e = record { item = x; there = refl; is = cc }
map_at f (x ∷ xs) (suc k) y e = let deeper = map_at f xs k y e in record { item = deeper.item; there = deeper.there; is = deeper.is }

-- ---- filters

pub record KeptAt (X : Type 0) (test : X → Bool) (xs : List X) (x : X) : Type 0 where
  pub place : ℕ
  pub there : slice_get xs place ≡ Some x
  pub passes : test x ≡ true

pub kept_at : {X : Type 0} (test : X → Bool) (xs : List X) (k : ℕ) (x : X) → slice_get (filter test xs) k ≡ Some x → KeptAt X test xs x
kept_at test [] k x e = absurd (cc e)
kept_at {X} test (y ∷ xs) k x e = by (λ j s. kept_at test xs j x s) (test y) refl k e
  where
    by : ((j : ℕ) → slice_get (filter test xs) j ≡ Some x → KeptAt X test xs x) → (b : Bool) → test y ≡ b → (k : ℕ) → slice_get (cond b (y ∷ filter test xs) (filter test xs)) k ≡ Some x → KeptAt X test (y ∷ xs) x
    by rest true is zero e = let same : y ≡ x = cc in record { place = 0; there = e; passes = subst (λ z. test z ≡ true) same is }
    by rest true is (suc k) e = let deeper = rest k e in record { place = suc deeper.place; there = deeper.there; passes = deeper.passes }
    by rest false is k e = let deeper = rest k e in record { place = suc deeper.place; there = deeper.there; passes = deeper.passes }

pub kept : {X : Type 0} (test : X → Bool) (xs : List X) (k : ℕ) (x : X) → slice_get xs k ≡ Some x → test x ≡ true → (j : ℕ) × (slice_get (filter test xs) j ≡ Some x)
kept test [] k x e t = absurd (cc e)
kept test (y ∷ xs) k x e t = by (λ j s. kept test xs j x s t) (test y) refl k e
  where
    by : ((j : ℕ) → slice_get xs j ≡ Some x → (i : ℕ) × (slice_get (filter test xs) i ≡ Some x)) → (b : Bool) → test y ≡ b → (k : ℕ) → slice_get (y ∷ xs) k ≡ Some x → (j : ℕ) × (slice_get (cond b (y ∷ filter test xs) (filter test xs)) j ≡ Some x)
    by rest true is zero e = (0, e)
    by rest false is zero e = let same : x ≡ y = cc in clash (test y) (subst (λ z. test z ≡ true) same t) is
    by rest true is (suc k) e = let deeper = rest k e in (suc deeper.0, deeper.1)
    by rest false is (suc k) e = rest k e

-- ---- the first that breaks a rule

-- ---- counts

pub counts_some : {X : Type 0} (test : X → Bool) (xs : List X) (k : ℕ) (x : X) → slice_get xs k ≡ Some x → test x ≡ true → 0 < count test xs
counts_some test [] k x e t = absurd (cc e)
counts_some test (y ∷ xs) k x e t = by (λ j s. counts_some test xs j x s t) (test y) refl k e
  where
    by : ((j : ℕ) → slice_get xs j ≡ Some x → 0 < count test xs) → (b : Bool) → test y ≡ b → (k : ℕ) → slice_get (y ∷ xs) k ≡ Some x → 0 < cond b (suc (count test xs)) (count test xs)
    by rest true is k e = omega arith
    by rest false is zero e = let same : x ≡ y = cc in clash (test y) (subst (λ z. test z ≡ true) same t) is
    by rest false is (suc k) e = rest k e

pub counted_at : {X : Type 0} (test : X → Bool) (xs : List X) → 0 < count test xs → Passes X test xs
counted_at test [] l = absurd (omega arith)
counted_at {X} test (x ∷ xs) l = by (λ m. counted_at test xs m) (test x) refl l
  where
    by : (0 < count test xs → Passes X test xs) → (b : Bool) → test x ≡ b → 0 < cond b (suc (count test xs)) (count test xs) → Passes X test (x ∷ xs)
    by rest true is l = record { place = 0; item = x; there = refl; passes = is }
    by rest false is l = let deeper = rest l in record { place = suc deeper.place; item = deeper.item; there = deeper.there; passes = deeper.passes }

pub once : {X : Type 0} (test : X → Bool) (xs : List X) (a b : ℕ) (x y : X) → count test xs ≤ 1 → slice_get xs a ≡ Some x → test x ≡ true → slice_get xs b ≡ Some y → test y ≡ true → a ≡ b
once test [] a b x y few s t u v = absurd (cc s)
once test (z ∷ xs) zero zero x y few s t u v = refl
once test (z ∷ xs) zero (suc b) x y few s t u v =
    let same : z ≡ x = cc in
    let here : count test (z ∷ xs) ≡ suc (count test xs) = ap (λ c. cond c (suc (count test xs)) (count test xs)) (ap test same ∙ t) in
    let more = counts_some test xs b y u v in
    absurd (omega arith)
once test (z ∷ xs) (suc a) zero x y few s t u v =
    let same : z ≡ y = cc in
    let here : count test (z ∷ xs) ≡ suc (count test xs) = ap (λ c. cond c (suc (count test xs)) (count test xs)) (ap test same ∙ v) in
    let more = counts_some test xs a x s t in
    absurd (omega arith)
once test (z ∷ xs) (suc a) (suc b) x y few s t u v = ap (λ m. suc m) (once test xs a b x y (fewer (test z) few) s t u v)
  where
    fewer : (c : Bool) → cond c (suc (count test xs)) (count test xs) ≤ 1 → count test xs ≤ 1
    fewer true l = omega arith
    fewer false l = l
