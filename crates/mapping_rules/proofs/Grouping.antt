-- Values under keys of a map.
use Rattle.std.proofs.Common.{◌≡◌, ℕ, zero, suc, ◌+◌, ◌<◌, ◌≤◌, List, [], ◌∷◌, ◌++◌, length, map, filter, take, get_or, Bool, true, false, cond, Some, None, Vec, refl, sym, ap, ◌∙◌, arith, add-one}
use Rattle.bus_semantics.specs.Common.{append-nil, Global}
use Rattle.std.specs.Cmp.{IsEquivalence}
use Rattle.std.specs.HashMap.{HashMap, UpdatesBy, Updates, get, get_by}
use Rattle.mapping_rules.specs.Groups.{under, values_at}

module _ {K X S : Type 0} (eq : K → K → Bool) (laws : IsEquivalence eq) (key : K) (value : X) (old between new : HashMap K (Vec X Global) S) (last : Vec X Global) (list : List X)
    (taken : UpdatesBy eq (eq key) old between None) (put : Updates eq between new key (Some last)) (was : list ≡ under (get eq old key)) (is : last.items ≡ list ++ value ∷ []) where
  one_list : (q : K) → eq key q ≡ true → under (get eq old q) ≡ list
  one_list q h = (λ j. under (get_by (λ y. sym (laws.congr key q y h) j) old)) ∙ sym was

  pub added : (q : K) → under (get eq new q) ≡ under (get eq old q) ++ cond (eq q key) (value ∷ []) []
  added q = by (eq key q) refl
    where
      by : (b : Bool) → eq key q ≡ b → under (get eq new q) ≡ under (get eq old q) ++ cond (eq q key) (value ∷ []) []
      by true h = ap under (put.0 q ∙ ap (λ b. cond b (Some last) (get eq between q)) h) ∙ is ∙ ap (λ zs. zs ++ value ∷ []) (sym (one_list q h))
          ∙ ap (λ b. under (get eq old q) ++ cond b (value ∷ []) []) (sym (laws.symm q key ∙ h))
      by false h = ap under (put.0 q ∙ ap (λ b. cond b (Some last) (get eq between q)) h ∙ taken.0 q ∙ ap (λ b. cond b None (get eq old q)) h) ∙ sym (append-nil (under (get eq old q)))
          ∙ ap (λ b. under (get eq old q) ++ cond b (value ∷ []) []) (sym (laws.symm q key ∙ h))

-- the values under a key among the first entries
module _ {K X : Type 0} (test : K → Bool) where
  abbrev one : K × X → List X
  one e = cond (test e.0) (e.1 ∷ []) []

  values_next : (xs : List (K × X)) (i : ℕ) (d : K × X) → i < length xs → values_at test (take (suc i) xs) ≡ values_at test (take i xs) ++ one (get_or xs i d)
  values_next [] i d within = absurd (omega arith)
  values_next (y ∷ xs) zero d within = by (test y.0)
    where
      by : (b : Bool) → map (λ e. e.1) (cond b (y ∷ []) []) ≡ cond b (y.1 ∷ []) []
      by true = refl
      by false = refl
  values_next (y ∷ xs) (suc i) d within = by (test y.0) (values_next xs i d (omega arith))
    where
      by : (b : Bool) → values_at test (take (suc i) xs) ≡ values_at test (take i xs) ++ one (get_or xs i d)
          → map (λ e. e.1) (cond b (y ∷ filter (λ e. test e.0) (take (suc i) xs)) (filter (λ e. test e.0) (take (suc i) xs)))
          ≡ map (λ e. e.1) (cond b (y ∷ filter (λ e. test e.0) (take i xs)) (filter (λ e. test e.0) (take i xs))) ++ one (get_or xs i d)
      by true next = ap (λ ys. y.1 ∷ ys) next
      by false next = next

  take_all : (xs : List (K × X)) (i : ℕ) → length xs ≤ i → take i xs ≡ xs
  take_all [] zero past = refl
  take_all [] (suc i) past = refl
  take_all (y ∷ xs) zero past = absurd (omega arith)
  take_all (y ∷ xs) (suc i) past = ap (λ ys. y ∷ ys) (take_all xs i (omega arith))

  pub values_more : (xs : List (K × X)) (new old : List X) (i : ℕ) (x : K × X) → i < length xs → x ≡ get_or xs i x → new ≡ old ++ one x → old ≡ values_at test (take i xs)
      → new ≡ values_at test (take (i + 1) xs)
  values_more xs new old i x within is more so_far = more ∙ (λ j. so_far j ++ one (is j)) ∙ sym (values_next xs i x within) ∙ (λ j. values_at test (take (sym (add-one i) j) xs))

  pub values_all : (xs : List (K × X)) (list : List X) (i : ℕ) → length xs ≤ i → list ≡ values_at test (take i xs) → list ≡ values_at test xs
  values_all xs list i past so_far = so_far ∙ ap (values_at test) (take_all xs i past)
