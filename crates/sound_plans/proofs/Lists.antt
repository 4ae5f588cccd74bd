-- What is in lists that are made of others.
use Rattle.std.proofs.Common.{◌≡◌, ℕ, zero, suc, ◌+◌, ◌<◌, ◌≤◌, List, [], ◌∷◌, ◌++◌, map, filter, slice_get, Bool, true, false, cond, Option, Some, None, option_map, option_and_then, ◌⊎◌}
use Rattle.std.proofs.Common.{inl, inr, ⊎_elim, refl, sym, ap, subst, ◌∙◌, arith, true≢false}
use Rattle.bus_semantics.specs.Common.{and_parts, or_from, or_left, or_right, cases_eq, list_all, list_any, find, position_from}
use Rattle.plan_definitions.specs.Common.{Among, from, positions}
use Rattle.plan_definitions.proofs.Lists.{cases, in_from}

-- ---- images

module _ {X Y : Type 0} (f : X → Y) where
  pub mapped : (y : Y) (xs : List X) → Among y (map f xs) → (x : X) × Among x xs × (y ≡ f x)
  mapped y [] h = absurd h
  mapped y (x ∷ xs) (inl e) = (x, inl refl, e)
  mapped y (x ∷ xs) (inr h) = let r = mapped y xs h in (r.0, inr r.1, r.2)

  pub map_has : (x : X) (xs : List X) → Among x xs → Among (f x) (map f xs)
  map_has x [] h = absurd h
  map_has x (y ∷ xs) (inl e) = inl (ap f e)
  map_has x (y ∷ xs) (inr h) = inr (map_has x xs h)

pub map_same : {X Y : Type 0} (f g : X → Y) (xs : List X) → ((x : X) → Among x xs → f x ≡ g x) → map f xs ≡ map g xs
map_same f g [] same = refl
map_same {X = X} f g (x ∷ xs) same =
    let here : f x ≡ g x = same x (inl refl) in
    let rest : map f xs ≡ map g xs = map_same f g xs (λ y h. same y (inr h)) in
    cc

-- ---- what passes a test

module _ {X : Type 0} (test : X → Bool) where
  pub all_at : (x : X) (xs : List X) → list_all test xs ≡ true → Among x xs → test x ≡ true
  all_at x [] h among = absurd among
  all_at x (y ∷ xs) h (inl is) = ap test is ∙ (and_parts (test y) (list_all test xs) h).0
  all_at x (y ∷ xs) h (inr later) = all_at x xs (and_parts (test y) (list_all test xs) h).1 later

  pub none_from : (xs : List X) → ((x : X) → Among x xs → test x ≡ false) → list_any test xs ≡ false
  none_from [] each = refl
  none_from (x ∷ xs) each = or_from (test x) (list_any test xs) (each x (inl refl)) (none_from xs (λ y h. each y (inr h)))

  pub any_has : (x : X) (xs : List X) → Among x xs → test x ≡ true → list_any test xs ≡ true
  any_has x [] h e = absurd h
  any_has x (y ∷ xs) (inl is) e = or_left (test y) (list_any test xs) (sym (ap test is) ∙ e)
  any_has x (y ∷ xs) (inr h) e = or_right (test y) (list_any test xs) (any_has x xs h e)

  kept : (b : Bool) (x y : X) (xs : List X) → test y ≡ b → Among x (cond b (y ∷ filter test xs) (filter test xs)) → ((x ≡ y) × (test x ≡ true)) ⊎ Among x (filter test xs)
  kept true x y xs is (inl e) = inl (e, ap test e ∙ is)
  kept true x y xs is (inr h) = inr h
  kept false x y xs is h = inr h

  pub filtered : (x : X) (xs : List X) → Among x (filter test xs) → Among x xs × (test x ≡ true)
  filtered x [] h = absurd h
  filtered x (y ∷ xs) h = ⊎_elim (λ (l : (x ≡ y) × (test x ≡ true)). (inl l.0, l.1)) (λ r. let p = filtered x xs r in (inr p.0, p.1)) (kept (test y) x y xs refl h)

  keeps : (b : Bool) (x y : X) (xs : List X) → test y ≡ b → ((x ≡ y) × (test x ≡ true)) ⊎ Among x (filter test xs) → Among x (cond b (y ∷ filter test xs) (filter test xs))
  keeps true x y xs is (inl e) = inl e.0
  keeps true x y xs is (inr h) = inr h
  keeps false x y xs is (inl e) = absurd (true≢false (sym e.1 ∙ ap test e.0 ∙ is))
  keeps false x y xs is (inr h) = h

  pub filter_has : (x : X) (xs : List X) → Among x xs → test x ≡ true → Among x (filter test xs)
  filter_has x [] h passes = absurd h
  filter_has x (y ∷ xs) (inl e) passes = keeps (test y) x y xs refl (inl (e, passes))
  filter_has x (y ∷ xs) (inr h) passes = keeps (test y) x y xs refl (inr (filter_has x xs h passes))

  first : (b : Bool) (x y : X) (xs : List X) → test y ≡ b → cond b (Some y) (find test xs) ≡ Some x → ((x ≡ y) × (test x ≡ true)) ⊎ (find test xs ≡ Some x)
  first true x y xs is h = let e : y ≡ x = cc in inl (sym e, ap test (sym e) ∙ is)
  first false x y xs is h = inr h

  pub found : (x : X) (xs : List X) → find test xs ≡ Some x → Among x xs × (test x ≡ true)
  found x [] h = cc
  found x (y ∷ xs) h = ⊎_elim (λ (l : (x ≡ y) × (test x ≡ true)). (inl l.0, l.1)) (λ r. let p = found x xs r in (inr p.0, p.1)) (first (test y) x y xs refl h)

-- ---- pieces

-- the piece in which an item stands
pub record Piece {X Y : Type 0} (f : ℕ → X → List Y) (xs : List X) (n : ℕ) (y : Y) : Type 0 where
  pub place : ℕ
  pub item : X
  pub at : slice_get xs place ≡ Some item
  pub among : Among y (f (n + place) item)

module _ {X Y : Type 0} (f : ℕ → X → List Y) where
  pub piece : (n : ℕ) (xs : List X) (y : Y) → Among y (from n f xs) → Piece f xs n y
  piece n [] y h = absurd h
  piece n (x ∷ xs) y h = ⊎_elim
      (λ here. let e : n ≡ n + 0 = omega arith in record { place = 0; item = x; at = refl; among = subst (λ m. Among y (f m x)) e here })
      (λ later. let p = piece (n + 1) xs y later in let e : n + 1 + p.place ≡ n + suc p.place = omega arith in record { place = suc p.place; item = p.item; at = p.at; among = subst (λ m. Among y (f m p.item)) e p.among })
      (cases y (f n x) (from (n + 1) f xs) h)

  -- those from the first position on
  pub pieces : (xs : List X) (y : Y) → Among y (from 0 f xs) → (k : ℕ) × (x : X) × (slice_get xs k ≡ Some x) × Among y (f k x)
  pieces xs y h =
      let p = piece 0 xs y h in
      let e : 0 + p.place ≡ p.place = omega arith in
      (p.place, p.item, p.at, subst (λ m. Among y (f m p.item)) e p.among)

  pub in_pieces : (xs : List X) (k : ℕ) (x : X) (y : Y) → slice_get xs k ≡ Some x → Among y (f k x) → Among y (from 0 f xs)
  in_pieces xs k x y at h =
      let e : k ≡ 0 + k = omega arith in
      in_from f 0 xs k x y at (subst (λ m. Among y (f m x)) e h)

pub from_same : {X Y : Type 0} (f g : ℕ → X → List Y) (n : ℕ) (xs : List X) → ((i : ℕ) (x : X) → f i x ≡ g i x) → from n f xs ≡ from n g xs
from_same f g n [] same = refl
from_same f g n (x ∷ xs) same =
    let here : f n x ≡ g n x = same n x in
    let rest : from (n + 1) f xs ≡ from (n + 1) g xs = from_same f g (n + 1) xs same in
    (λ i. here i ++ rest i)

-- ---- numbers

pub position_in : (k i n : ℕ) → Among k (positions i n) → (i ≤ k) × (k < i + n)
position_in k i zero h = absurd h
position_in k i (suc n) (inl e) = (omega arith, omega arith)
position_in k i (suc n) (inr h) = let r = position_in k (i + 1) n h in let low = r.0 in let high = r.1 in (omega arith, omega arith)

pub in_positions : (k i n : ℕ) → i ≤ k → k < i + n → Among k (positions i n)
in_positions k i zero low high = absurd (omega arith)
in_positions k i (suc n) low high = ⊎_elim (λ e. inl e) (λ (other : k ≡ i → ⊥). inr (in_positions k (i + 1) n (omega arith) (omega arith))) (cases_eq k i)

-- the position of what a test finds
module _ {X : Type 0} (test : X → Bool) where
  found_first : (b : Bool) (n : ℕ) (x y : X) (xs : List X) → test y ≡ b → (Among x xs → (k : ℕ) × (z : X) × (position_from test (n + 1) xs ≡ Some (n + 1 + k)) × (slice_get xs k ≡ Some z) × (test z ≡ true)) → (x ≡ y) ⊎ Among x xs → test x ≡ true
      → (k : ℕ) × (z : X) × (cond b (Some n) (position_from test (n + 1) xs) ≡ Some (n + k)) × (slice_get (y ∷ xs) k ≡ Some z) × (test z ≡ true)
  found_first true n x y xs is later h passes = (0, y, ap (λ k. Some k) (omega arith), refl, is)
  found_first false n x y xs is later (inl e) passes = absurd (true≢false (sym passes ∙ ap test e ∙ is))
  found_first false n x y xs is later (inr h) passes =
      let r = later h in
      let e : n + 1 + r.0 ≡ n + suc r.0 = omega arith in
      (suc r.0, r.1, r.2 ∙ ap (λ k. Some k) e, r.3, r.4)

  pub position_found : (n : ℕ) (x : X) (xs : List X) → Among x xs → test x ≡ true → (k : ℕ) × (z : X) × (position_from test n xs ≡ Some (n + k)) × (slice_get xs k ≡ Some z) × (test z ≡ true)
  position_found n x [] h passes = absurd h
  position_found n x (y ∷ xs) h passes = found_first (test y) n x y xs refl (λ later. position_found (n + 1) x xs later passes) h passes

-- ---- optional values

pub and_then_some : {X Y : Type 0} (g : X → Option Y) (o : Option X) (y : Y) → option_and_then g o ≡ Some y → (x : X) × (o ≡ Some x) × (g x ≡ Some y)
and_then_some g None y h = cc
and_then_some g (Some x) y h = (x, refl, h)

pub map_some : {X Y : Type 0} (g : X → Y) (o : Option X) (y : Y) → option_map g o ≡ Some y → (x : X) × (o ≡ Some x) × (g x ≡ y)
map_some g None y h = cc
map_some g (Some x) y h = (x, refl, cc)
