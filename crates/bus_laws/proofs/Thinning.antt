-- Entries of which a definition makes nothing may be left out of a history.
use Rattle.std.proofs.Common.{◌≡◌, ◌<◌, ℕ, zero, suc, ◌+◌, ℤ, Bool, true, false, ◌&&◌, ◌||◌, not, ◌==◌, if◌then◌else◌, refl, sym, ◌∙◌, ap, subst, arith, List, [], ◌∷◌, length, Option, Some, None}
use Rattle.std.specs.Prelude.{filter}
use Rattle.bus_semantics.specs.Common.{unsigned_Decides, list_all, list_any, slice_get, option_or, option_map_or, and_parts, false≢true, nat_tests, same_number, same_words}
use Rattle.bus_semantics.specs.Common.{same_words-Decides, same_number-Decides, every_from, Past, Noted, newest, count, follows_last, same_bool}
use Rattle.bus_laws.specs.Common.{Actor, Deed}

-- ---- tests

abbrev pub noting : Actor → Deed → Option ℕ → Noted
noting a d event = record { entry = record { actor = a; deed = d }; event = event }

pub clash : {X : Type 0} (b : Bool) → b ≡ true → b ≡ false → X
clash b t f = absurd (false≢true (sym f ∙ t))

-- a test that would make a false one true is false
pub differs : (t b : Bool) → (b ≡ true → t ≡ true) → t ≡ false → b ≡ false
differs t true f e = clash t (f refl) e
differs t false f e = refl

pub none_if : {X : Type 0} (b : Bool) (x : X) → b ≡ false → (if b then Some x else None) ≡ None
none_if true x e = clash true refl e
none_if false x e = refl

pub if_false : {X : Type 0} (b : Bool) (x y : X) → b ≡ false → (if b then x else y) ≡ y
if_false true x y e = clash true refl e
if_false false x y e = refl

pub if_same : {X : Type 0} (b : Bool) (x : X) → (if b then x else x) ≡ x
if_same true x = refl
if_same false x = refl

pub same_test : (a : ℕ) → (a == a) ≡ true
same_test a = (unsigned_Decides a a).1 refl

-- the other way round
pub not_same : (a b : ℕ) → (a == b) ≡ false → (b == a) ≡ false
not_same a b e = grind (arith, nat_tests)

pub same_list : (ws us : List ℤ) → ws ≡ us → same_words ws us ≡ true
same_list ws us = (same_words-Decides ws us).1

pub same_flag : (b : Bool) → same_bool b b ≡ true
same_flag true = refl
same_flag false = refl

pub option_same : (a b : Option ℕ) → same_number a b ≡ true → a ≡ b
option_same a b = (same_number-Decides a b).0

pub option_test : (a b : Option ℕ) → a ≡ b → same_number a b ≡ true
option_test a b = (same_number-Decides a b).1

-- ---- leaving entries out

module _ (keep ok : Noted → Bool) where
  kept_so : {B : Type 0} (F : Past → B) (n : Noted) (h : Past) (b : Bool) → keep n ≡ b
      → (keep n ≡ true → F (n ∷ filter keep h) ≡ F (n ∷ h)) → (keep n ≡ false → F (filter keep h) ≡ F (n ∷ h))
      → F (if keep n then n ∷ filter keep h else filter keep h) ≡ F (n ∷ h)
  kept_so F n h true e with_it without = rw e (with_it e)
  kept_so F n h false e with_it without = rw e (without e)

  pub thin : {B : Type 0} (F : Past → B)
      → ((n : Noted) (h : Past) → ok n ≡ true → list_all ok h ≡ true → F (filter keep h) ≡ F h → F (n ∷ filter keep h) ≡ F (n ∷ h))
      → ((n : Noted) (h : Past) → ok n ≡ true → list_all ok h ≡ true → keep n ≡ false → F (n ∷ h) ≡ F h)
      → (h : Past) → list_all ok h ≡ true → F (filter keep h) ≡ F h
  thin F more none [] fine = refl
  thin F more none (n ∷ h) fine = let parts = and_parts (ok n) (list_all ok h) fine in
      let before = thin F more none h parts.1 in
      kept_so F n h (keep n) refl (λ e. more n h parts.0 parts.1 before) (λ e. before ∙ sym (none n h parts.0 parts.1 e))

  pub newest_thin : {B : Type 0} (f : Noted → Option B) → ((n : Noted) → ok n ≡ true → keep n ≡ false → f n ≡ None)
      → (h : Past) → list_all ok h ≡ true → newest f (filter keep h) ≡ newest f h
  newest_thin f silent = thin (newest f) (λ n h o fine e. ap (λ b. option_or (f n) b) e) (λ n h o fine e. ap (λ b. option_or b (newest f h)) (silent n o e))

  pub count_thin : (f : Noted → Bool) → ((n : Noted) → ok n ≡ true → keep n ≡ false → f n ≡ false)
      → (h : Past) → list_all ok h ≡ true → count f (filter keep h) ≡ count f h
  count_thin f silent = thin (count f) (λ n h o fine e. ap (λ b. if f n then suc b else b) e) (λ n h o fine e. if_false (f n) (suc (count f h)) (count f h) (silent n o e))

  pub any_thin : (f : Noted → Bool) → ((n : Noted) → ok n ≡ true → keep n ≡ false → f n ≡ false)
      → (h : Past) → list_all ok h ≡ true → list_any f (filter keep h) ≡ list_any f h
  any_thin f silent = thin (list_any f) (λ n h o fine e. ap (λ b. f n || b) e) (λ n h o fine e. ap (λ b. b || list_any f h) (silent n o e))

  pub follows_thin : (starts : Noted → Bool) (happened : Noted → Past → Bool)
      → ((n : Noted) → ok n ≡ true → keep n ≡ false → starts n ≡ false)
      → ((n : Noted) (h : Past) → ok n ≡ true → list_all ok h ≡ true → keep n ≡ false → happened n h ≡ false)
      → ((n : Noted) (h : Past) → ok n ≡ true → list_all ok h ≡ true → happened n (filter keep h) ≡ happened n h)
      → (h : Past) → list_all ok h ≡ true → follows_last starts happened (filter keep h) ≡ follows_last starts happened h
  follows_thin starts happened unstarted quiet same = thin (follows_last starts happened)
      (λ n h o fine e. λ i. not (starts n) && (same n h o fine i || e i))
      (λ n h o fine e. λ i. not (unstarted n o e i) && (quiet n h o fine e i || follows_last starts happened h))

  pub fine_thin : (h : Past) → list_all ok h ≡ true → list_all ok (filter keep h) ≡ true
  fine_thin h fine = thin (list_all ok) (λ n l o f e. ap (λ b. ok n && b) e) (λ n l o f e. ap (λ b. b && list_all ok l) o) h fine ∙ fine

-- ---- lists with their positions

pub there_is : {X : Type 0} (xs : List X) (n : ℕ) → n < length xs → (x : X) × (slice_get xs n ≡ Some x)
there_is [] n less = absurd (omega arith)
there_is (x ∷ xs) zero less = (x, refl)
there_is (x ∷ xs) (suc n) less = there_is xs n (omega arith)

pub every_same : {X : Type 0} (f g : ℕ → X → Bool) (i : ℕ) (xs : List X) → ((j k : ℕ) (x : X) → k ≡ i + j → slice_get xs j ≡ Some x → f k x ≡ g k x) → every_from i f xs ≡ every_from i g xs
every_same f g i [] each = refl
every_same f g i (x ∷ xs) each =
    let head : f i x ≡ g i x = each 0 i x (omega arith) refl in
    let tail : every_from (i + 1) f xs ≡ every_from (i + 1) g xs = every_same f g (i + 1) xs (λ j k y at found. each (suc j) k y (omega arith) found) in
    λ t. head t && tail t

pub every_at : {X : Type 0} (f : ℕ → X → Bool) (i : ℕ) (xs : List X) → every_from i f xs ≡ true → (j k : ℕ) (x : X) → k ≡ i + j → slice_get xs j ≡ Some x → f k x ≡ true
every_at f i [] all j k x at found = cc
every_at f i (y ∷ xs) all zero k x at found =
    let first : f i y ≡ true = (and_parts (f i y) (every_from (i + 1) f xs) all).0 in
    let here : k ≡ i = omega arith in
    let there : y ≡ x = cc in
    subst (λ n. f n x ≡ true) (sym here) (subst (λ z. f i z ≡ true) there first)
every_at f i (y ∷ xs) all (suc j) k x at found =
    every_at f (i + 1) xs (and_parts (f i y) (every_from (i + 1) f xs) all).1 j k x (omega arith) found

-- what is found where a test of it holds
pub record Found (X : Type 0) (xs : List X) (i : ℕ) (test : X → Bool) : Type 0 where
  pub item : X
  pub found : slice_get xs i ≡ Some item
  pub holds : test item ≡ true

found_in : {X : Type 0} (xs : List X) (i : ℕ) (test : X → Bool) (o : Option X) → slice_get xs i ≡ o → option_map_or test o false ≡ true → Found X xs i test
found_in xs i test None at e = absurd (false≢true e)
found_in xs i test (Some x) at e = record { item = x; found = at; holds = e }

pub found_where : {X : Type 0} (xs : List X) (i : ℕ) (test : X → Bool) → option_map_or test (slice_get xs i) false ≡ true → Found X xs i test
found_where xs i test e = found_in xs i test (slice_get xs i) refl e

-- what is found where a number of it is there
pub record Sought (X : Type 0) (xs : List X) (i : ℕ) (f : X → Option ℕ) (n : ℕ) : Type 0 where
  pub item : X
  pub found : slice_get xs i ≡ Some item
  pub number : f item ≡ Some n

sought_in : {X : Type 0} (xs : List X) (i : ℕ) (f : X → Option ℕ) (n : ℕ) (o : Option X) → slice_get xs i ≡ o → option_map_or f o None ≡ Some n → Sought X xs i f n
sought_in xs i f n None at e = cc
sought_in xs i f n (Some x) at e = record { item = x; found = at; number = e }

pub sought_where : {X : Type 0} (xs : List X) (i : ℕ) (f : X → Option ℕ) (n : ℕ) → option_map_or f (slice_get xs i) None ≡ Some n → Sought X xs i f n
sought_where xs i f n e = sought_in xs i f n (slice_get xs i) refl e
