-- The turns of a loop that looks for the first number that passes a test.
use Rattle.std.proofs.Common.{◌≡◌, ℕ, zero, suc, ◌+◌, ◌<◌, Some, None, Bool, false, ◌-◌, if◌then◌else◌, refl, ap, ◌∙◌, arith}
use Rattle.plan_definitions.specs.JoinedItems.{first_number}

-- one more number fails the test
pub number_more : (test : ℕ → Bool) (i n : ℕ) → i < n → test i ≡ false → first_number test i (n - i) ≡ first_number test (i + 1) (n - (i + 1))
number_more test i n within fails = ap (first_number test i) (one_less within) ∙ ap (λ b. if b then Some i else first_number test (i + 1) (n - (i + 1))) fails
  where
    one_less : i < n → n - i ≡ suc (n - (i + 1))
    one_less h = omega arith

-- no number passes the test
pub number_none : (test : ℕ → Bool) → ((k : ℕ) → test k ≡ false) → (i n : ℕ) → first_number test i n ≡ None
number_none test fails i zero = refl
number_none test fails i (suc n) = ap (λ b. if b then Some i else first_number test (i + 1) n) (fails i) ∙ number_none test fails (i + 1) n
