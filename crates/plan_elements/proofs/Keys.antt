-- Keys that stand in a list.
use Rattle.std.proofs.Common.{◌≡◌, ℕ, suc, ◌+◌, ◌<◌, ◌≤◌, List, [], ◌∷◌, length, Bool, true, false, cond, ◌&&◌, Some, refl, sym, ◌∙◌, arith}
use Rattle.std.specs.List.{position_from}
use Rattle.plan_definitions.proofs.Keys.{same_key_is}
use Rattle.plan_definitions.specs.Keys.{Key, same_key}

-- ---- a number tells its key, except for 0

pub position_least : (test : Key → Bool) (i n : ℕ) (keys : List Key) → position_from test i keys ≡ Some n → (i ≤ n) × (n < i + length keys)
position_least test i n [] found = absurd cc
position_least test i n (k ∷ keys) found = by (λ rest. position_least test (i + 1) n keys rest) (test k) found
  where
    by : (position_from test (i + 1) keys ≡ Some n → (i + 1 ≤ n) × (n < (i + 1) + length keys)) → (b : Bool) → cond b (Some i) (position_from test (i + 1) keys) ≡ Some n → (i ≤ n) × (n < i + suc (length keys))
    by later true found = let e : i ≡ n = cc in (omega arith, omega arith)
    by later false found = let rest = later found in (omega (arith, rest.0), omega (arith, rest.1))

pub same_place : (a b : Key) (i n : ℕ) (keys : List Key) → position_from (same_key a) i keys ≡ Some n → position_from (same_key b) i keys ≡ Some n → a ≡ b
same_place a b i n [] first second = absurd cc
same_place a b i n (k ∷ keys) first second = by (λ one two. same_place a b (i + 1) n keys one two) (same_key a k) (same_key b k) refl refl first second
  where
    by : (position_from (same_key a) (i + 1) keys ≡ Some n → position_from (same_key b) (i + 1) keys ≡ Some n → a ≡ b) → (x y : Bool) → same_key a k ≡ x → same_key b k ≡ y → cond x (Some i) (position_from (same_key a) (i + 1) keys) ≡ Some n → cond y (Some i) (position_from (same_key b) (i + 1) keys) ≡ Some n → a ≡ b
    by later true true is_a is_b first second = same_key_is a k is_a ∙ sym (same_key_is b k is_b)
    by later true false is_a is_b first second =
        let e : i ≡ n = cc in
        let rest = position_least (same_key b) (i + 1) n keys second in
        absurd (omega (arith, rest.0))
    by later false true is_a is_b first second =
        let e : i ≡ n = cc in
        let rest = position_least (same_key a) (i + 1) n keys first in
        absurd (omega (arith, rest.0))
    by later false false is_a is_b first second = later first second

-- a key without a port is no end's
pub and_none : (x y : Bool) → ((x && false) && y) ≡ false
and_none true y = refl
and_none false y = refl
