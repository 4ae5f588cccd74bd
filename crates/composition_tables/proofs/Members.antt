-- What is in a list that is made of others.
use Rattle.std.proofs.Common.{◌≡◌, ℕ, zero, suc, ◌+◌, ◌<◌, List, [], ◌∷◌, ◌++◌, length, get_or, map, Bool, true, false, cond, not, nat_eq, Option, Some, None, ◌⊎◌, inl, inr, ⊎_elim, ◌↔◌}
use Rattle.std.proofs.Common.{refl, sym, ap, subst, ◌∙◌, true≢false, arith, ◌≤◌, slice_get, add-zero}
use Rattle.std.proofs.lemmas.Bool.{eqb-true, eq-eqb, or_cases, or_left, or_right, and_parts}
use Rattle.std.proofs.lemmas.List.{get_or_append_left, length-append, map-append}
use Rattle.std.specs.List.{flat_map, filter_map, list_any, list_all, cons_option, enumerate_from}
use Rattle.indexmap.specs.IndexSet.{insert_key, insert_all}
use Rattle.description_types.specs.Members.{Among, AllApart, sum_of}

module _ {X : Type 0} where
  pub left : (x : X) (xs ys : List X) → Among x xs → Among x (xs ++ ys)
  left x [] ys h = absurd h
  left x (y ∷ xs) ys (inl e) = inl e
  left x (y ∷ xs) ys (inr h) = inr (left x xs ys h)

  pub right : (x : X) (xs ys : List X) → Among x ys → Among x (xs ++ ys)
  right x [] ys h = h
  right x (y ∷ xs) ys h = inr (right x xs ys h)

  pub cases : (x : X) (xs ys : List X) → Among x (xs ++ ys) → Among x xs ⊎ Among x ys
  cases x [] ys h = inr h
  cases x (y ∷ xs) ys (inl e) = inl (inl e)
  cases x (y ∷ xs) ys (inr h) = ⊎_elim (λ l. inl (inr l)) (λ r. inr r) (cases x xs ys h)

  -- the element at a place, and the place of an element
  pub at : (xs : List X) (k : ℕ) (d : X) → k < length xs → Among (get_or xs k d) xs
  at [] k d h = absurd (omega arith)
  at (x ∷ xs) zero d h = inl refl
  at (x ∷ xs) (suc k) d h = inr (at xs k d (omega arith))

  pub place : (x : X) (xs : List X) → Among x xs → (k : ℕ) × (k < length xs) × ((d : X) → x ≡ get_or xs k d)
  place x [] h = absurd h
  place x (y ∷ xs) (inl e) = (0, omega arith, λ d. e)
  place x (y ∷ xs) (inr h) = let p = place x xs h in (suc p.0, omega arith, p.2)

module _ {X Y : Type 0} (f : X → Y) where
  pub map_in : (x : X) (xs : List X) → Among x xs → Among (f x) (map f xs)
  map_in x [] h = absurd h
  map_in x (y ∷ xs) (inl e) = inl (ap f e)
  map_in x (y ∷ xs) (inr h) = inr (map_in x xs h)

  pub map_out : (y : Y) (xs : List X) → Among y (map f xs) → (x : X) × Among x xs × (y ≡ f x)
  map_out y [] h = absurd h
  map_out y (x ∷ xs) (inl e) = (x, inl refl, e)
  map_out y (x ∷ xs) (inr h) = let r = map_out y xs h in (r.0, inr r.1, r.2)

module _ {X Y : Type 0} (f : X → List Y) where
  pub flat : (x : X) (xs : List X) (y : Y) → Among x xs → Among y (f x) → Among y (flat_map f xs)
  flat x [] y h g = absurd h
  flat x (z ∷ xs) y (inl e) g = left y (f z) (flat_map f xs) (subst (λ w. Among y (f w)) e g)
  flat x (z ∷ xs) y (inr h) g = right y (f z) (flat_map f xs) (flat x xs y h g)

  pub unflat : (xs : List X) (y : Y) → Among y (flat_map f xs) → (x : X) × Among x xs × Among y (f x)
  unflat [] y h = absurd h
  unflat (z ∷ xs) y h = ⊎_elim (λ here. (z, inl refl, here)) (λ later. let p = unflat xs y later in (p.0, inr p.1, p.2)) (cases y (f z) (flat_map f xs) h)

module _ {X Y : Type 0} (f : X → Option Y) where
  picked : (o : Option Y) (y : Y) (ys : List Y) → o ≡ Some y → Among y (cons_option o ys)
  picked None y ys e = cc
  picked (Some z) y ys e = inl cc

  unpicked : (o : Option Y) (y : Y) (ys : List Y) → Among y (cons_option o ys) → (o ≡ Some y) ⊎ Among y ys
  unpicked None y ys h = inr h
  unpicked (Some z) y ys (inl e) = inl (ap (λ w. Some w) (sym e))
  unpicked (Some z) y ys (inr h) = inr h

  more : (o : Option Y) (y : Y) (ys : List Y) → Among y ys → Among y (cons_option o ys)
  more None y ys h = h
  more (Some z) y ys h = inr h

  pub pick : (x : X) (xs : List X) (y : Y) → Among x xs → f x ≡ Some y → Among y (filter_map f xs)
  pick x [] y h e = absurd h
  pick x (z ∷ xs) y (inl is) e = picked (f z) y (filter_map f xs) (sym (ap f is) ∙ e)
  pick x (z ∷ xs) y (inr h) e = more (f z) y (filter_map f xs) (pick x xs y h e)

  pub unpick : (xs : List X) (y : Y) → Among y (filter_map f xs) → (x : X) × Among x xs × (f x ≡ Some y)
  unpick [] y h = absurd h
  unpick (z ∷ xs) y h = ⊎_elim (λ e. (z, inl refl, e)) (λ later. let p = unpick xs y later in (p.0, inr p.1, p.2)) (unpicked (f z) y (filter_map f xs) h)

-- the keys of a set, where equal keys are the same
module _ {X : Type 0} (eq : X → X → Bool) (same : (x y : X) → eq x y ≡ true → x ≡ y) (itself : (x : X) → eq x x ≡ true) where
  pub found_key : (x : X) (xs : List X) → list_any (eq x) xs ≡ true → Among x xs
  found_key x [] h = absurd (true≢false (sym h))
  found_key x (y ∷ xs) h = ⊎_elim (λ e. inl (same x y e)) (λ later. inr (found_key x xs later)) (or_cases (eq x y) (list_any (eq x) xs) h)

  pub find_key : (x : X) (xs : List X) → Among x xs → list_any (eq x) xs ≡ true
  find_key x [] h = absurd h
  find_key x (y ∷ xs) (inl e) = or_left (eq x y) (list_any (eq x) xs) (sym (ap (eq x) e) ∙ itself x)
  find_key x (y ∷ xs) (inr h) = or_right (eq x y) (list_any (eq x) xs) (find_key x xs h)

  -- one more key
  module _ (ks : List X) (x : X) where
    pub key_cases : (b : Bool) (P : List X → Type 0) → list_any (eq x) ks ≡ b → (list_any (eq x) ks ≡ true → P ks) → P (ks ++ x ∷ []) → P (insert_key eq ks x)
    key_cases true P e there added = subst (λ c. P (cond c ks (ks ++ x ∷ []))) (sym e) (there e)
    key_cases false P e there added = subst (λ c. P (cond c ks (ks ++ x ∷ []))) (sym e) added

    pub key_has : Among x (insert_key eq ks x)
    key_has = key_cases _ (λ l. Among x l) refl (found_key x ks) (right x ks (x ∷ []) (inl refl))

    pub key_keeps : (y : X) → Among y ks → Among y (insert_key eq ks x)
    key_keeps y h = key_cases _ (λ l. Among y l) refl (λ _. h) (left y ks (x ∷ []) h)

    pub key_only : (y : X) → Among y (insert_key eq ks x) → Among y ks ⊎ (y ≡ x)
    key_only y = key_cases _ (λ l. Among y l → Among y ks ⊎ (y ≡ x)) refl (λ _ h. inl h)
        (λ h. ⊎_elim (λ l. inl l) (λ r. ⊎_elim (λ e. inr e) (λ n. absurd n) r) (cases y ks (x ∷ []) h))

    pub key_iff : (after : List X) → after ≡ insert_key eq ks x → (y : X) → Among y after ↔ (Among y ks ⊎ (y ≡ x))
    key_iff after is y = (
      (λ h. key_only y (subst (Among y) is h)),
      (λ h. subst (Among y) (sym is) (⊎_elim (key_keeps y) (λ e. subst (λ w. Among w (insert_key eq ks x)) (sym e) key_has) h)),
    )

    pub key_was : (new : Bool) → new ≡ not (list_any (eq x) ks) → (not new ≡ true) ↔ Among x ks
    key_was new is = ((λ h. found_key x ks (by (list_any (eq x) ks) refl h)), (λ h. ap not (is ∙ ap not (find_key x ks h))))
      where
        by : (b : Bool) → list_any (eq x) ks ≡ b → not new ≡ true → list_any (eq x) ks ≡ true
        by true e h = e
        by false e h = absurd (true≢false (sym h ∙ ap not (is ∙ ap not e)))

  -- more keys
  pub all_keep : (xs ks : List X) (y : X) → Among y ks → Among y (insert_all eq ks xs)
  all_keep [] ks y h = h
  all_keep (x ∷ xs) ks y h = all_keep xs (insert_key eq ks x) y (key_keeps ks x y h)

  pub all_have : (xs ks : List X) (y : X) → Among y xs → Among y (insert_all eq ks xs)
  all_have [] ks y h = absurd h
  all_have (x ∷ xs) ks y (inl e) = all_keep xs (insert_key eq ks x) y (subst (λ w. Among w (insert_key eq ks x)) (sym e) (key_has ks x))
  all_have (x ∷ xs) ks y (inr h) = all_have xs (insert_key eq ks x) y h

  pub all_only : (xs ks : List X) (y : X) → Among y (insert_all eq ks xs) → Among y ks ⊎ Among y xs
  all_only [] ks y h = inl h
  all_only (x ∷ xs) ks y h = ⊎_elim (λ old. ⊎_elim (λ l. inl l) (λ e. inr (inl e)) (key_only ks x y old)) (λ later. inr (inr later)) (all_only xs (insert_key eq ks x) y h)

pub same_number : (x y : ℕ) → nat_eq x y ≡ true → x ≡ y
same_number x y h = eqb-true x y h

pub itself_number : (x : ℕ) → nat_eq x x ≡ true
itself_number x = eq-eqb x x refl

-- the same of numbers
pub found : (x : ℕ) (xs : List ℕ) → list_any (nat_eq x) xs ≡ true → Among x xs
found x xs = found_key nat_eq same_number itself_number x xs

pub numbers_keep : (xs ks : List ℕ) (y : ℕ) → Among y ks → Among y (insert_all nat_eq ks xs)
numbers_keep = all_keep nat_eq same_number itself_number

pub numbers_have : (xs ks : List ℕ) (y : ℕ) → Among y xs → Among y (insert_all nat_eq ks xs)
numbers_have = all_have nat_eq same_number itself_number

pub numbers_only : (xs ks : List ℕ) (y : ℕ) → Among y (insert_all nat_eq ks xs) → Among y ks ⊎ Among y xs
numbers_only = all_only nat_eq same_number itself_number

-- the keys that were there keep their places
key_stays : (ks : List ℕ) (x k : ℕ) → k < length ks → get_or (insert_key nat_eq ks x) k 0 ≡ get_or ks k 0
key_stays ks x k h = key_cases nat_eq same_number itself_number ks x _ (λ l. get_or l k 0 ≡ get_or ks k 0) refl (λ _. refl) (get_or_append_left ks (x ∷ []) 0 k h)

key_longer : (ks : List ℕ) (x : ℕ) → length ks ≤ length (insert_key nat_eq ks x)
key_longer ks x = key_cases nat_eq same_number itself_number ks x _ (λ l. length ks ≤ length l) refl (λ _. omega arith) (omega (arith, length-append ks (x ∷ [])))

pub all_stay : (xs ks : List ℕ) (k : ℕ) → k < length ks → get_or (insert_all nat_eq ks xs) k 0 ≡ get_or ks k 0
all_stay [] ks k h = refl
all_stay (x ∷ xs) ks k h = all_stay xs (insert_key nat_eq ks x) k (omega (arith, key_longer ks x)) ∙ key_stays ks x k h

-- a look-up
module _ {X : Type 0} where
  pub some_get : (xs : List X) (k : ℕ) (x : X) → k < length xs → x ≡ get_or xs k x → slice_get xs k ≡ Some x
  some_get [] k x h e = absurd (omega arith)
  some_get (y ∷ xs) zero x h e = ap (λ w. Some w) (sym e)
  some_get (y ∷ xs) (suc k) x h e = some_get xs k x (omega arith) e

  pub get_some : (xs : List X) (k : ℕ) (x : X) → slice_get xs k ≡ Some x → Among x xs
  get_some [] k x h = cc
  get_some (y ∷ xs) zero x h = inl cc
  get_some (y ∷ xs) (suc k) x h = inr (get_some xs k x h)

  pub past_end : (xs : List X) (k : ℕ) → slice_get xs k ≡ None → length xs ≤ k
  past_end [] k h = omega arith
  past_end (y ∷ xs) zero h = cc
  past_end (y ∷ xs) (suc k) h = let rest = past_end xs k h in omega arith

-- tests of a list
module _ {X : Type 0} (test : X → Bool) where
  pub any_true : (xs : List X) → list_any test xs ≡ true → (x : X) × Among x xs × (test x ≡ true)
  any_true [] h = absurd (true≢false (sym h))
  any_true (x ∷ xs) h = ⊎_elim (λ e. (x, inl refl, e)) (λ later. let p = any_true xs later in (p.0, inr p.1, p.2)) (or_cases (test x) (list_any test xs) h)

  pub true_any : (x : X) (xs : List X) → Among x xs → test x ≡ true → list_any test xs ≡ true
  true_any x [] h e = absurd h
  true_any x (y ∷ xs) (inl is) e = or_left (test y) (list_any test xs) (sym (ap test is) ∙ e)
  true_any x (y ∷ xs) (inr h) e = or_right (test y) (list_any test xs) (true_any x xs h e)

  pub all_true : (x : X) (xs : List X) → list_all test xs ≡ true → Among x xs → test x ≡ true
  all_true x [] h among = absurd among
  all_true x (y ∷ xs) h (inl is) = ap test is ∙ (and_parts (test y) (list_all test xs) h).0
  all_true x (y ∷ xs) h (inr later) = all_true x xs (and_parts (test y) (list_all test xs) h).1 later

-- one more at the end
pub get_push : {X : Type 0} (xs : List X) (x y : X) (k : ℕ) → slice_get (xs ++ x ∷ []) k ≡ Some y → (slice_get xs k ≡ Some y) ⊎ ((k ≡ length xs) × (x ≡ y))
get_push [] x y zero h = inr (refl, cc)
get_push [] x y (suc k) h = cc
get_push (z ∷ xs) x y zero h = inl h
get_push (z ∷ xs) x y (suc k) h = ⊎_elim (λ l. inl l) (λ (r : (k ≡ length xs) × (x ≡ y)). inr (ap (λ n. suc n) r.0, r.1)) (get_push xs x y k h)

-- each element with its place
module _ {X Y : Type 0} where
  pub flat_length : (f : X → List Y) (xs : List X) → length (flat_map f xs) ≡ sum_of (λ x. length (f x)) xs
  flat_length f [] = refl
  flat_length f (x ∷ xs) = length-append (f x) (flat_map f xs) ∙ ap (λ n. length (f x) + n) (flat_length f xs)

pub sum_same : {X : Type 0} (f g : X → ℕ) → ((x : X) → f x ≡ g x) → (xs : List X) → sum_of f xs ≡ sum_of g xs
sum_same f g same [] = refl
sum_same f g same (x ∷ xs) = let here = same x in let rest = sum_same f g same xs in omega arith

pub sum_numbered : {X : Type 0} (f : ℕ × X → ℕ) (g : X → ℕ) → ((i : ℕ) (x : X) → f (i, x) ≡ g x) → (n : ℕ) (xs : List X) → sum_of f (enumerate_from n xs) ≡ sum_of g xs
sum_numbered f g same n [] = refl
sum_numbered f g same n (x ∷ xs) = let here = same n x in let rest = sum_numbered f g same (n + 1) xs in omega arith

pub map_numbered : {X Y Z : Type 0} (h : Y → Z) (f : ℕ × X → List Y) (g : X → List Z) (n : ℕ) (xs : List X)
    → ((i : ℕ) (x : X) → slice_get xs i ≡ Some x → map h (f (n + i, x)) ≡ g x) → map h (flat_map f (enumerate_from n xs)) ≡ flat_map g xs
map_numbered h f g n [] same = refl
map_numbered {X = X} h f g n (x ∷ xs) same =
    map-append h (f (n, x)) (flat_map f (enumerate_from (n + 1) xs))
    ∙ ap (λ l. l ++ map h (flat_map f (enumerate_from (n + 1) xs))) (ap (λ m. map h (f (m, x))) (sym (add-zero n)) ∙ same 0 x refl)
    ∙ ap (λ l. g x ++ l) (map_numbered h f g (n + 1) xs (λ i y some. let e : n + 1 + i ≡ n + suc i = omega arith in ap (λ m. map h (f (m, y))) e ∙ same (suc i) y some))

-- a list with no element twice is at most as long as one that has each of its elements
split : {X : Type 0} (x : X) (ys : List X) → Among x ys → (front : List X) × (back : List X) × (ys ≡ front ++ (x ∷ back))
split x [] h = absurd h
split x (y ∷ ys) (inl e) = ([], ys, ap (λ w. w ∷ ys) (sym e))
split x (y ∷ ys) (inr h) = let r = split x ys h in (y ∷ r.0, r.1, ap (λ l. y ∷ l) r.2)

pub few_apart : {X : Type 0} (xs ys : List X) → AllApart xs → ((x : X) → Among x xs → Among x ys) → length xs ≤ length ys
few_apart [] ys apart within = omega arith
few_apart {X = X} (x ∷ xs) ys apart within =
    let s = split x ys (within x (inl refl)) in
    let rest = few_apart xs (s.0 ++ s.1) apart.1 (λ y h. ⊎_elim (λ l. left y s.0 s.1 l)
    (λ r. ⊎_elim (λ e. absurd (apart.0 (subst (λ w. Among w xs) e h))) (λ b. right y s.0 s.1 b) r) (cases y s.0 (x ∷ s.1) (subst (Among y) s.2 (within y (inr h))))) in
    let whole : length ys ≡ length s.0 + suc (length s.1) = ap length s.2 ∙ length-append s.0 (x ∷ s.1) in
    let shorter = length-append s.0 s.1 in
    omega arith
