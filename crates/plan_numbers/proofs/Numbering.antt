-- The turn of the loop that numbers keys.
use Rattle.std.proofs.Common.{◌≡◌, ℕ, zero, suc, ◌+◌, ◌<◌, ◌≤◌, List, [], ◌∷◌, ◌++◌, length, get_or, take, drop, Bool, true, false, cond, Option, Some, None, refl, sym, ap, ◌∙◌, arith, add-one}
use Rattle.std.proofs.lemmas.List.{drop_all, take_more, map-append}
use Rattle.std.specs.List.{position_from}
use Rattle.std.specs.Map.{keys_of, lookup}
use Rattle.std.specs.Option.{option_or}

module _ {K : Type 0} (test : K → Bool) where
  next : (keys : List K) (n i : ℕ) (key : K) → i < length keys → key ≡ get_or keys i key → position_from test n (drop i keys) ≡ cond (test key) (Some n) (position_from test (n + 1) (drop (suc i) keys))
  next [] n i key within is = absurd (omega arith)
  next (k ∷ ks) n zero key within is = ap (λ z. cond (test z) (Some n) (position_from test (n + 1) ks)) (sym is)
  next (k ∷ ks) n (suc i) key within is = next ks n i key (omega arith) is

  one_more : (old : List (K × ℕ)) (key : K) (n : ℕ) → lookup test (old ++ (key, n) ∷ []) ≡ option_or (lookup test old) (cond (test key) (Some n) None)
  one_more [] key n = refl
  one_more (e ∷ es) key n = by (test e.0) e.1 (one_more es key n)
    where
      by : (b : Bool) (v : ℕ) → lookup test (es ++ (key, n) ∷ []) ≡ option_or (lookup test es) (cond (test key) (Some n) None)
          → cond b (Some v) (lookup test (es ++ (key, n) ∷ [])) ≡ option_or (cond b (Some v) (lookup test es)) (cond (test key) (Some n) None)
      by true v h = refl
      by false v h = h

  either : (a : Option ℕ) (b : Bool) (n : ℕ) (r : Option ℕ) → option_or a (cond b (Some n) r) ≡ option_or (option_or a (cond b (Some n) None)) r
  either (Some x) b n r = refl
  either None true n r = refl
  either None false n r = refl

  pub numbers_more : (keys : List K) (i : ℕ) (key : K) (old new : List (K × ℕ)) → i < length keys → key ≡ get_or keys i key → new ≡ old ++ (key, i) ∷ []
      → position_from test 0 keys ≡ option_or (lookup test old) (position_from test i (drop i keys))
      → position_from test 0 keys ≡ option_or (lookup test new) (position_from test (i + 1) (drop (i + 1) keys))
  numbers_more keys i key old new within is pushed so_far = so_far ∙ ap (option_or (lookup test old)) (next keys i i key within is)
      ∙ either (lookup test old) (test key) i (position_from test (i + 1) (drop (suc i) keys))
      ∙ (λ j. option_or (sym (ap (lookup test) pushed ∙ one_more old key i) j) (position_from test (i + 1) (drop (sym (add-one i) j) keys)))

  or_none : (found : Option ℕ) → option_or found None ≡ found
  or_none None = refl
  or_none (Some n) = refl

  -- none is left
  pub numbers_all : (keys : List K) (i : ℕ) (found : Option ℕ) → length keys ≤ i → position_from test 0 keys ≡ option_or found (position_from test i (drop i keys)) → found ≡ position_from test 0 keys
  numbers_all keys i found past so_far = sym (so_far ∙ ap (λ l. option_or found (position_from test i l)) (drop_all i keys past) ∙ or_none found)

pub keys_more : {K : Type 0} (keys : List K) (i : ℕ) (key : K) (old new : List (K × ℕ)) → i < length keys → key ≡ get_or keys i key → new ≡ old ++ (key, i) ∷ []
    → keys_of old ≡ take i keys → keys_of new ≡ take (i + 1) keys
keys_more keys i key old new within is pushed so_far = ap keys_of pushed ∙ map-append (λ e. e.0) old ((key, i) ∷ []) ∙ (λ j. so_far j ++ is j ∷ []) ∙ sym (take_more keys i key within)

-- a position is one in the list
pub position_within : {K : Type 0} (test : K → Bool) (n : ℕ) (keys : List K) (p : ℕ) → position_from test n keys ≡ Some p → p < n + length keys
position_within test n [] p is = cc
position_within test n (k ∷ keys) p is = by (test k) is (position_within test (n + 1) keys p)
  where
    by : (b : Bool) → cond b (Some n) (position_from test (n + 1) keys) ≡ Some p → (position_from test (n + 1) keys ≡ Some p → p < (n + 1) + length keys) → p < n + length (k ∷ keys)
    by true is rest = let here : n ≡ p = cc in omega arith
    by false is rest = let further : p < (n + 1) + length keys = rest is in omega arith
