-- Lemmas on tests, and on what is looked up in the lists of a plan.
use Rattle.std.proofs.Common.{◌≡◌, ℕ, zero, suc, ◌+◌, ◌<◌, Bool, true, false, ◌||◌, refl, sym, ◌∙◌, ap, List, [], ◌∷◌, length, replicate, Some, is_some, unwrap_or, suc-le-suc}
use Rattle.std.proofs.Math.Nat.{add-zero, zero-add, add_assoc, zero-lt-suc}
use Rattle.std.proofs.Math.Numerals.{one-add}
use Rattle.bus_semantics.specs.Common.{list_all, list_any, slice_get, and_from, and_parts, or_from, or_left, or_right, false≢true, look, every_from}

pub clash : {X : Type 0} (b : Bool) → b ≡ true → b ≡ false → X
clash b t f = absurd (false≢true (sym f ∙ t))

pub record Sought (X : Type 0) (xs : List X) (i : ℕ) (test : X → Bool) : Type 0 where
  pub item : X
  pub found : slice_get xs i ≡ Some item
  pub holds : test item ≡ true
  pub within : i < length xs

pub sought : {X : Type 0} (xs : List X) (i : ℕ) (test : X → Bool) → look xs i test false ≡ true → Sought X xs i test
sought [] i test e = absurd (false≢true e)
sought (x ∷ xs) zero test e = record { item = x; found = refl; holds = e; within = zero-lt-suc (length xs) }
sought (x ∷ xs) (suc i) test e =
    let deeper = sought xs i test e in
    record { item = deeper.item; found = deeper.found; holds = deeper.holds; within = suc-le-suc deeper.within }

-- what is looked up at an item
pub looked : {X B : Type 0} (xs : List X) (i : ℕ) (x : X) (f : X → B) (other : B) → slice_get xs i ≡ Some x → look xs i f other ≡ f x
looked [] i x f other e = absurd (false≢true (ap is_some e))
looked (y ∷ xs) zero x f other e = ap (λ o. f (unwrap_or o y)) e
looked (y ∷ xs) (suc i) x f other e = looked xs i x f other e

pub all_at : {X : Type 0} (test : X → Bool) (xs : List X) (i : ℕ) (x : X) → list_all test xs ≡ true → slice_get xs i ≡ Some x → test x ≡ true
all_at test [] i x all e = absurd (false≢true (ap is_some e))
all_at test (y ∷ xs) zero x all e = sym (ap (λ o. test (unwrap_or o y)) e) ∙ (and_parts (test y) (list_all test xs) all).0
all_at test (y ∷ xs) (suc i) x all e = all_at test xs i x (and_parts (test y) (list_all test xs) all).1 e

every_at : {X : Type 0} (f : ℕ → X → Bool) (xs : List X) (i n : ℕ) (x : X) → every_from n f xs ≡ true → slice_get xs i ≡ Some x → f (n + i) x ≡ true
every_at f [] i n x all e = absurd (false≢true (ap is_some e))
every_at f (y ∷ xs) zero n x all e = ap (λ k. f k x) (add-zero n) ∙ sym (ap (λ o. f n (unwrap_or o y)) e) ∙ (and_parts (f n y) (every_from (n + 1) f xs) all).0
every_at f (y ∷ xs) (suc i) n x all e =
    let place : n + 1 + i ≡ n + suc i = add_assoc n 1 i ∙ ap (λ k. n + k) (one-add i) in
    sym (ap (λ k. f k x) place) ∙ every_at f xs i (n + 1) x (and_parts (f n y) (every_from (n + 1) f xs) all).1 e

-- what holds of each item with its place holds of an item with its own
pub at_place : {X : Type 0} (f : ℕ → X → Bool) (xs : List X) (i : ℕ) (x : X) → every_from 0 f xs ≡ true → slice_get xs i ≡ Some x → f i x ≡ true
at_place f xs i x all e = sym (ap (λ k. f k x) (zero-add i)) ∙ every_at f xs i 0 x all e

-- a test that holds at an item
pub looks : {X : Type 0} (xs : List X) (i : ℕ) (x : X) (f : X → Bool) → slice_get xs i ≡ Some x → f x ≡ true → look xs i f false ≡ true
looks xs i x f at is = looked xs i x f false at ∙ is

pub any_of : {X : Type 0} (f g : X → Bool) (xs : List X) → ((x : X) → f x ≡ true → g x ≡ true) → list_any f xs ≡ true → list_any g xs ≡ true
any_of f g [] of any = any
any_of f g (x ∷ xs) of any = by_first (f x) refl any (λ rest. any_of f g xs of rest)
  where
    by_first : (v : Bool) → f x ≡ v → (v || list_any f xs) ≡ true → (list_any f xs ≡ true → list_any g xs ≡ true) → list_any g (x ∷ xs) ≡ true
    by_first true is any rest = or_left (g x) (list_any g xs) (of x is)
    by_first false is any rest = or_right (g x) (list_any g xs) (rest any)

pub none_of : {X : Type 0} (f g : X → Bool) (xs : List X) → ((x : X) → f x ≡ true → g x ≡ false) → list_all f xs ≡ true → list_any g xs ≡ false
none_of f g [] of all = refl
none_of f g (x ∷ xs) of all =
    let parts = and_parts (f x) (list_all f xs) all in
    or_from (g x) (list_any g xs) (of x parts.0) (none_of f g xs of parts.1)

pub all_same : {X : Type 0} (f : X → Bool) (x : X) (n : ℕ) → f x ≡ true → list_all f (replicate n x) ≡ true
all_same f x zero is = refl
all_same f x (suc n) is = and_from (f x) (list_all f (replicate n x)) is (all_same f x n is)
