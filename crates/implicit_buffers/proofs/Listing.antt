-- Lists by their elements, and what is met of them.
use Rattle.std.proofs.Common.{◌≡◌, ℕ, zero, suc, ◌+◌, ◌<◌, ◌≤◌, List, [], ◌∷◌, ◌++◌, take, drop, length, get_or, Bool, true, false, ◌||◌, if◌then◌else◌, cond, Option, Some, None, ◌⊎◌, inl}
use Rattle.std.proofs.Common.{inr, refl, sym, ap, ◌∙◌, arith, append_assoc}
use Rattle.std.specs.Prelude.{◌==◌, nat_eq, option_to_list}
use Rattle.bus_semantics.specs.Common.{list_any, append-nil, drop_more, drop_all, AccessKind, AccessSig, Plan, elems_of, Implicit, list_with, met_now, in_order}
use Rattle.implicit_buffers.specs.Fetchings.{now_met, first_met, in_turn}

-- ---- one element of a list more

any_more : (xs : List ℕ) (i d x : ℕ) → i < length xs → list_any (λ y. y == x) (take (suc i) xs) ≡ (list_any (λ y. y == x) (take i xs) || (get_or xs i d == x))
any_more [] i d x within = absurd (omega (arith, within))
any_more (z ∷ xs) zero d x within = by_test (z == x)
  where
    by_test : (b : Bool) → (b || false) ≡ (false || b)
    by_test true = refl
    by_test false = refl
any_more (z ∷ xs) (suc i) d x within = by_test (z == x) (any_more xs i d x (omega (arith, within)))
  where
    by_test : (b : Bool) → list_any (λ y. y == x) (take (suc i) xs) ≡ (list_any (λ y. y == x) (take i xs) || (get_or xs i d == x))
        → (b || list_any (λ y. y == x) (take (suc i) xs)) ≡ ((b || list_any (λ y. y == x) (take i xs)) || (get_or xs i d == x))
    by_test true rest = refl
    by_test false rest = rest

pub noted_more : (xs : List ℕ) (i d l : ℕ) (x e : ℕ) (new old first : Option ℕ) → i < length xs → e ≡ get_or xs i d → new ≡ cond (nat_eq e x) (Some l) old
    → old ≡ (if list_any (λ y. y == x) (take i xs) then Some l else first) → new ≡ (if list_any (λ y. y == x) (take (i + 1) xs) then Some l else first)
noted_more xs i d l x e new old first within is put so_far =
    let next : suc i ≡ i + 1 = omega arith in
    put
    ∙ ap (λ y. cond (nat_eq y x) (Some l) old) is
    ∙ ap (λ o. cond (nat_eq (get_or xs i d) x) (Some l) o) so_far
    ∙ by_tests (get_or xs i d == x) (list_any (λ y. y == x) (take i xs))
    ∙ ap (λ b. if b then Some l else first) (sym (any_more xs i d x within))
    ∙ ap (λ n. if list_any (λ y. y == x) (take n xs) then Some l else first) next
  where
    by_tests : (b c : Bool) → cond b (Some l) (if c then Some l else first) ≡ (if c || b then Some l else first)
    by_tests true true = refl
    by_tests true false = refl
    by_tests false true = refl
    by_tests false false = refl

-- ---- one list more, from the last one on

pub list_more : (p : Plan) (ls : List ℕ) (n d l x : ℕ) (new old : Option ℕ) → n < length ls → l ≡ get_or ls n d → new ≡ (if list_any (λ y. y == x) (elems_of p l) then Some l else old)
    → old ≡ list_with p (drop (n + 1) ls) x → new ≡ list_with p (drop n ls) x
list_more p ls n d l x new old within is put so_far =
    put
    ∙ ap (λ o. if list_any (λ y. y == x) (elems_of p l) then Some l else o) so_far
    ∙ ap (λ k. if list_any (λ y. y == x) (elems_of p k) then Some k else list_with p (drop (n + 1) ls) x) is
    ∙ ap (λ (ks : List ℕ). list_with p ks x) (sym (drop_more ls n d within))

pub no_more : (p : Plan) (ls : List ℕ) (n x : ℕ) → length ls ≤ n → list_with p (drop n ls) x ≡ None
no_more p ls n x past = ap (λ (ks : List ℕ). list_with p ks x) (drop_all n ls past)

-- ---- what is met, as a test of lists

abbrev pub among : List ℕ → ℕ → Bool
among met l = list_any (λ m. m == l) met

met_more : (met : List ℕ) (o : Option ℕ) → now_met (among met) o ≡ among (option_to_list o ++ met)
met_more met None = refl
met_more met (Some l) = λ i n. by_test n (l == n) i
  where
    by_test : (n : ℕ) (b : Bool) → (if b then true else among met n) ≡ (b || among met n)
    by_test n true = refl
    by_test n false = refl

met_first : (met : List ℕ) (x : ℕ) (o : Option ℕ) → first_met (among met) x o ≡ met_now met x o
met_first met x None = refl
met_first met x (Some l) = refl

module _ (p : Plan) (ls : List ℕ) (test : AccessKind → Bool) where
  pub by_tests_of_lists : (met : List ℕ) (sigs : List AccessSig) (xs : List ℕ) → in_turn p ls test (among met) sigs xs ≡ in_order p ls test met sigs xs
  by_tests_of_lists met [] xs = refl
  by_tests_of_lists met (a ∷ sigs) [] = refl
  by_tests_of_lists met (a ∷ sigs) (x ∷ xs) = by_kind (test a.kind) (by_tests_of_lists met sigs xs) (by_tests_of_lists (option_to_list (list_with p ls x) ++ met) sigs xs)
    where
      by_kind : (b : Bool) → in_turn p ls test (among met) sigs xs ≡ in_order p ls test met sigs xs
          → in_turn p ls test (among (option_to_list (list_with p ls x) ++ met)) sigs xs ≡ in_order p ls test (option_to_list (list_with p ls x) ++ met) sigs xs
          → (if b then first_met (among met) x (list_with p ls x) ++ in_turn p ls test (now_met (among met) (list_with p ls x)) sigs xs else in_turn p ls test (among met) sigs xs)
          ≡ (if b then met_now met x (list_with p ls x) ++ in_order p ls test (option_to_list (list_with p ls x) ++ met) sigs xs else in_order p ls test met sigs xs)
      by_kind true other rest =
          ap (λ (is : List Implicit). is ++ in_turn p ls test (now_met (among met) (list_with p ls x)) sigs xs) (met_first met x (list_with p ls x))
          ∙ ap (λ (f : ℕ → Bool). met_now met x (list_with p ls x) ++ in_turn p ls test f sigs xs) (met_more met (list_with p ls x))
          ∙ ap (λ (is : List Implicit). met_now met x (list_with p ls x) ++ is) rest
      by_kind false rest other = rest

  pub none_met : (f : ℕ → Bool) → ((l : ℕ) → f l ≡ false) → f ≡ among []
  none_met f none i l = none l i

  -- at first none is met
  pub none_yet : (f : ℕ → Bool) (sigs : List AccessSig) (xs : List ℕ) → ((l : ℕ) → f l ≡ false) → in_turn p ls test f sigs xs ≡ in_order p ls test [] sigs xs
  none_yet f sigs xs none = ap (λ (g : ℕ → Bool). in_turn p ls test g sigs xs) (none_met f none) ∙ by_tests_of_lists [] sigs xs

  -- one access more that passes, and one that does not
  pub passes_more : (all old new : List Implicit) (f g : ℕ → Bool) (sigs accesses : List AccessSig) (xs others : List ℕ) (a : AccessSig) (x : ℕ) (o : Option ℕ)
      → test a.kind ≡ true → o ≡ list_with p ls x → new ≡ old ++ first_met f x o → ((l : ℕ) → g l ≡ now_met f o l) → sigs ≡ a ∷ accesses → xs ≡ x ∷ others
      → old ++ in_turn p ls test f sigs xs ≡ all → new ++ in_turn p ls test g accesses others ≡ all
  passes_more all old new f g sigs accesses xs others a x o passes list put met first second so_far =
      ap (λ (is : List Implicit). is ++ in_turn p ls test g accesses others) put
      ∙ append_assoc old (first_met f x o) (in_turn p ls test g accesses others)
      ∙ ap (λ (h : ℕ → Bool). old ++ (first_met f x o ++ in_turn p ls test h accesses others)) (same_tests g (now_met f o) met)
      ∙ ap (λ k. old ++ (first_met f x k ++ in_turn p ls test (now_met f k) accesses others)) list
      ∙ ap (λ b. old ++ (if b then first_met f x (list_with p ls x) ++ in_turn p ls test (now_met f (list_with p ls x)) accesses others else in_turn p ls test f accesses others)) (sym passes)
      ∙ ap (λ (ss : List AccessSig). old ++ in_turn p ls test f ss (x ∷ others)) (sym first)
      ∙ ap (λ ys. old ++ in_turn p ls test f sigs ys) (sym second)
      ∙ so_far
    where
      same_tests : (g h : ℕ → Bool) → ((l : ℕ) → g l ≡ h l) → g ≡ h
      same_tests g h each i l = each l i

  pub passed_over : (all old : List Implicit) (f : ℕ → Bool) (sigs accesses : List AccessSig) (xs others : List ℕ) (a : AccessSig) (x : ℕ)
      → test a.kind ≡ false → sigs ≡ a ∷ accesses → xs ≡ x ∷ others
      → old ++ in_turn p ls test f sigs xs ≡ all → old ++ in_turn p ls test f accesses others ≡ all
  passed_over all old f sigs accesses xs others a x passes first second so_far =
      ap (λ b. old ++ (if b then first_met f x (list_with p ls x) ++ in_turn p ls test (now_met f (list_with p ls x)) accesses others else in_turn p ls test f accesses others)) (sym passes)
      ∙ ap (λ (ss : List AccessSig). old ++ in_turn p ls test f ss (x ∷ others)) (sym first)
      ∙ ap (λ ys. old ++ in_turn p ls test f sigs ys) (sym second)
      ∙ so_far

  -- one access more
  pub access_more : (all old new : List Implicit) (f g : ℕ → Bool) (sigs accesses : List AccessSig) (xs others : List ℕ) (a : AccessSig) (x : ℕ) (o : Option ℕ)
      → new ≡ old ++ (if test a.kind then first_met f x o else []) → ((l : ℕ) → g l ≡ (if test a.kind then now_met f o l else f l)) → o ≡ list_with p ls x → sigs ≡ a ∷ accesses → xs ≡ x ∷ others
      → old ++ in_turn p ls test f sigs xs ≡ all → new ++ in_turn p ls test g accesses others ≡ all
  access_more all old new f g sigs accesses xs others a x o added met list first second so_far = by_test (test a.kind) refl added met
    where
      by_test : (b : Bool) → test a.kind ≡ b → new ≡ old ++ (if b then first_met f x o else []) → ((l : ℕ) → g l ≡ (if b then now_met f o l else f l)) → new ++ in_turn p ls test g accesses others ≡ all
      by_test true is put now = passes_more all old new f g sigs accesses xs others a x o is list put now first second so_far
      by_test false is put now =
          ap (λ (es : List Implicit). es ++ in_turn p ls test g accesses others) (put ∙ append-nil old)
          ∙ ap (λ (h : ℕ → Bool). old ++ in_turn p ls test h accesses others) (same_test now)
          ∙ passed_over all old f sigs accesses xs others a x is first second so_far
        where
          same_test : ((l : ℕ) → g l ≡ f l) → g ≡ f
          same_test each i l = each l i

  -- nothing is left of the accesses or of their numbers
  pub turns_end : (f : ℕ → Bool) (sigs : List AccessSig) (xs : List ℕ) → (sigs ≡ []) ⊎ (xs ≡ []) → in_turn p ls test f sigs xs ≡ []
  turns_end f [] xs none = refl
  turns_end f (a ∷ sigs) [] none = refl
  turns_end f (a ∷ sigs) (x ∷ xs) (inl none) = cc
  turns_end f (a ∷ sigs) (x ∷ xs) (inr none) = cc
