-- Lists of numbers that rise between two bounds.
use Rattle.std.proofs.Common.{◌≡◌, ℕ, suc, ◌+◌, ◌≤◌, List, [], ◌∷◌, ◌++◌, length, map, filter, slice_get, Some, Bool, true, false, cond, refl, sym, subst, arith, inl, inr, nat_le}
use Rattle.bus_semantics.specs.Common.{and_from, le-leb, map-append, list_all, is_rising}
use Rattle.plan_definitions.specs.Common.{Among, from}

abbrev pub Rises : (low high : ℕ) → List ℕ → Type 0
Rises low high [] = low ≤ high
Rises low high (n ∷ ns) = (low ≤ n) × Rises n high ns

pub lower : (bottom low high : ℕ) (ns : List ℕ) → bottom ≤ low → Rises low high ns → Rises bottom high ns
lower bottom low high [] less h = omega arith
lower bottom low high (n ∷ ns) less h = let first = h.0 in ((omega arith), h.1)

pub higher : (low high top : ℕ) (ns : List ℕ) → high ≤ top → Rises low high ns → Rises low top ns
higher low high top [] less h = omega arith
higher low high top (n ∷ ns) less h = (h.0, higher n high top ns less h.1)

pub join : (low middle high : ℕ) (ms ns : List ℕ) → Rises low middle ms → Rises middle high ns → Rises low high (ms ++ ns)
join low middle high [] ns first later = lower low middle high ns first later
join low middle high (m ∷ ms) ns first later = (first.0, join m middle high ms ns first.1 later)

all_above : (low bound high : ℕ) (ns : List ℕ) → low ≤ bound → Rises bound high ns → list_all (nat_le low) ns ≡ true
all_above low bound high [] below h = refl
all_above low bound high (n ∷ ns) below h = let first = h.0 in and_from (nat_le low n) (list_all (nat_le low) ns) (le-leb low n (omega arith)) (all_above low n high ns (omega arith) h.1)

pub rising : (low high : ℕ) (ns : List ℕ) → Rises low high ns → is_rising ns ≡ true
rising low high [] h = refl
rising low high (n ∷ ns) h = and_from (list_all (nat_le n) ns) (is_rising ns) (all_above n n high ns (omega arith) h.1) (rising n high ns h.1)

-- numbers that are all one
pub level : {X : Type 0} (g : X → ℕ) (n : ℕ) (xs : List X) → ((x : X) → Among x xs → g x ≡ n) → Rises n n (map g xs)
level g n [] each = omega arith
level g n (x ∷ xs) each =
    let is : g x ≡ n = each x (inl refl) in
    (omega arith, subst (λ m. Rises m n (map g xs)) (sym is) (level g n xs (λ y h. each y (inr h))))

-- some of them
kept : {X : Type 0} (b : Bool) (g : X → ℕ) (test : X → Bool) (low high : ℕ) (x : X) (xs : List X) → low ≤ g x → Rises (g x) high (map g (filter test xs)) → Rises low high (map g (cond b (x ∷ filter test xs) (filter test xs)))
kept true g test low high x xs first rest = (first, rest)
kept false g test low high x xs first rest = lower low (g x) high (map g (filter test xs)) first rest

pub some_rise : {X : Type 0} (g : X → ℕ) (test : X → Bool) (low high : ℕ) (xs : List X) → Rises low high (map g xs) → Rises low high (map g (filter test xs))
some_rise g test low high [] h = h
some_rise g test low high (x ∷ xs) h = kept (test x) g test low high x xs h.0 (some_rise g test (g x) high xs h.1)

-- Pieces one after the other, each within its bounds.
module _ {X Y : Type 0} (g : Y → ℕ) (f : ℕ → X → List Y) (bound : ℕ → ℕ) where
  pub pieces_rise : (n : ℕ) (xs : List X) → ((k : ℕ) (x : X) → slice_get xs k ≡ Some x → Rises (bound (n + k)) (bound (n + k + 1)) (map g (f (n + k) x))) → Rises (bound n) (bound (n + length xs)) (map g (from n f xs))
  pieces_rise n [] each = let e : n ≡ n + 0 = omega arith in subst (λ m. bound n ≤ bound m) e (omega arith)
  pieces_rise n (x ∷ xs) each =
      let start : n + 0 ≡ n = omega arith in
      let s : n + 1 + length xs ≡ n + suc (length xs) = omega arith in
      let here = subst (λ m. Rises (bound m) (bound (m + 1)) (map g (f m x))) start (each 0 x refl) in
      let rest = subst (λ m. Rises (bound (n + 1)) (bound m) (map g (from (n + 1) f xs))) s
      (pieces_rise (n + 1) xs (λ k y at. let e : n + suc k ≡ n + 1 + k = omega arith in subst (λ m. Rises (bound m) (bound (m + 1)) (map g (f m y))) e (each (suc k) y at))) in
      subst (Rises (bound n) (bound (n + suc (length xs)))) (sym (map-append g (f n x) (from (n + 1) f xs))) (join (bound n) (bound (n + 1)) (bound (n + suc (length xs))) (map g (f n x)) (map g (from (n + 1) f xs)) here rest)

  pub all_rise : (xs : List X) → ((k : ℕ) (x : X) → slice_get xs k ≡ Some x → Rises (bound k) (bound (k + 1)) (map g (f k x))) → Rises (bound 0) (bound (length xs)) (map g (from 0 f xs))
  all_rise xs each =
      let e : 0 + length xs ≡ length xs = omega arith in
      subst (λ m. Rises (bound 0) (bound m) (map g (from 0 f xs))) e
      (pieces_rise 0 xs (λ k x at. let e : k ≡ 0 + k = omega arith in subst (λ m. Rises (bound m) (bound (m + 1)) (map g (f m x))) e (each k x at)))

-- pieces whose items have their position as number
pub steps_rise : {X Y : Type 0} (g : Y → ℕ) (f : ℕ → X → List Y) (xs : List X) → ((k : ℕ) (x : X) (y : Y) → slice_get xs k ≡ Some x → Among y (f k x) → g y ≡ k) → Rises 0 (length xs) (map g (from 0 f xs))
steps_rise g f xs each = all_rise g f (λ k. k) xs (λ k x at. higher k k (k + 1) (map g (f k x)) (omega arith) (level g k (f k x) (λ y h. each k x y at h)))
