-- Words that are clamped lie within limits, and are as many.
use Rattle.std.proofs.Common.{◌≡◌, ℕ, ◌≤◌, ℤ, pos, negsuc, Bool, true, false, ◌||◌, ◌==◌, cond, if◌then◌else◌, refl, sym, ◌∙◌, ap, subst, arith, List, [], ◌∷◌, length}
use Rattle.std.specs.Prelude.{int_le, int_lt, nat_lt, nat_le}
use Rattle.bus_semantics.specs.Common.{int_eq, list_all, list_any, and_from, and_parts, eqb-true, false≢true, leb-true, nat_tests, Limits, same_words, clamped, clamped_each, is_in}
use Rattle.bus_semantics.specs.Common.{limits_fit, is_within, same_limits, argument_limits, declared_code, results}
use Rattle.std.specs.Cmp.{signed_Decides}
use Rattle.std.proofs.lemmas.Int.{ints}
use Rattle.bus_semantics.specs.declared.plan.ArgPlan.{ArgPlan}
use Rattle.history_laws.specs.Given.{are_within}

le_clamped : (low high x : ℤ) → int_le low high ≡ true → int_le low (cond (int_lt (cond (int_lt high x) high x) low) low (cond (int_lt high x) high x)) ≡ true
le_clamped low high x h = grind (arith, ints)

clamped_le : (low high x : ℤ) → int_le low high ≡ true → int_le (cond (int_lt (cond (int_lt high x) high x) low) low (cond (int_lt high x) high x)) high ≡ true
clamped_le low high x h = grind (arith, ints)

ordered : (l : Limits) → limits_fit l ≡ true → int_le l.low l.high ≡ true
ordered l fit = (and_parts (int_le l.low l.high) _ fit).0

clamped_within : (l : Limits) (x : ℤ) → limits_fit l ≡ true → is_within l (clamped l x) ≡ true
clamped_within l x fit = and_from (int_le l.low (clamped l x)) (int_le (clamped l x) l.high) (le_clamped l.low l.high x (ordered l fit)) (clamped_le l.low l.high x (ordered l fit))

-- limits that are the same clamp to the same
clamped_alike : (a b : Limits) (x : ℤ) → same_words (a.low ∷ a.high ∷ []) (b.low ∷ b.high ∷ []) ≡ true → clamped a x ≡ clamped b x
clamped_alike a b x same =
    let parts = and_parts (int_eq a.low b.low) _ same in
    let low : a.low ≡ b.low = (signed_Decides a.low b.low).0 parts.0 in
    let high : a.high ≡ b.high = (signed_Decides a.high b.high).0 (and_parts (int_eq a.high b.high) _ parts.1).0 in
    ap (λ l. cond (int_lt (cond (int_lt a.high x) a.high x) l) l (cond (int_lt a.high x) a.high x)) low ∙ ap (λ h. cond (int_lt (cond (int_lt h x) h x) b.low) b.low (cond (int_lt h x) h x)) high

pub given_within : (ls bs : List Limits) (xs : List ℤ) → same_limits ls bs ≡ true → length xs ≡ length ls → list_all limits_fit bs ≡ true → are_within bs (clamped_each ls xs) ≡ true
given_within [] [] xs same many fit = refl
given_within [] (b ∷ bs) xs same many fit = absurd (false≢true same)
given_within (a ∷ ls) [] xs same many fit = absurd (false≢true same)
given_within (a ∷ ls) (b ∷ bs) [] same many fit = absurd (omega arith)
given_within (a ∷ ls) (b ∷ bs) (x ∷ xs) same many fit =
    let alike = and_parts (same_words (a.low ∷ a.high ∷ []) (b.low ∷ b.high ∷ [])) (same_limits ls bs) same in
    let fits = and_parts (limits_fit b) (list_all limits_fit bs) fit in
    and_from (is_within b (clamped a x)) (are_within bs (clamped_each ls xs)) (subst (λ y. is_within b y ≡ true) (sym (clamped_alike a b x alike.0)) (clamped_within b x fits.0))
    (given_within ls bs xs alike.1 (omega arith) fits.1)

pub as_many : (ls : List Limits) (xs : List ℤ) → are_within ls xs ≡ true → length xs ≡ length ls
as_many [] [] e = refl
as_many [] (x ∷ xs) e = absurd (false≢true e)
as_many (l ∷ ls) [] e = absurd (false≢true e)
as_many (l ∷ ls) (x ∷ xs) e = let less = as_many ls xs (and_parts (is_within l x) (are_within ls xs) e).1 in omega arith

-- ---- results

pub results_within : (args : List ArgPlan) (xs : List ℤ) → length args ≤ length xs → list_all (λ (a : ArgPlan). limits_fit a.limits) args ≡ true → are_within (argument_limits true args) (results args xs) ≡ true
results_within [] xs enough fit = refl
results_within (a ∷ args) [] enough fit = absurd (omega arith)
results_within (a ∷ args) (x ∷ xs) enough fit =
    let fits = and_parts (limits_fit a.limits) (list_all (λ (b : ArgPlan). limits_fit b.limits) args) fit in
    by_out a.out (clamped_within a.limits x fits.0) (results_within args xs (omega arith) fits.1)
  where
    by_out : (out : Bool) → is_within a.limits (clamped a.limits x) ≡ true → are_within (argument_limits true args) (results args xs) ≡ true
        → are_within (if out then a.limits ∷ argument_limits true args else argument_limits true args) (if out then clamped a.limits x ∷ results args xs else results args xs) ≡ true
    by_out true one rest = and_from (is_within a.limits (clamped a.limits x)) (are_within (argument_limits true args) (results args xs)) one rest
    by_out false one rest = rest

pub arguments_few : (args : List ArgPlan) → length (argument_limits true args) ≤ length args
arguments_few [] = omega arith
arguments_few (a ∷ args) = by_out a.out (arguments_few args)
  where
    by_out : (out : Bool) → length (argument_limits true args) ≤ length args → length (if out then a.limits ∷ argument_limits true args else argument_limits true args) ≤ length (a ∷ args)
    by_out true less = omega arith
    by_out false less = omega arith

below_64 : (n : ℕ) → n ≤ 63 → nat_lt n 64 ≡ true
below_64 n less = grind (arith, nat_tests)

among : (errors : List ℕ) (n : ℕ) → list_all (is_in 1 63) errors ≡ true → list_any (λ c. c == n) errors ≡ true → n ≤ 63
among [] n all any = absurd (false≢true any)
among (c ∷ errors) n all any = by_first (c == n) refl any (λ rest. among errors n (and_parts (is_in 1 63 c) (list_all (is_in 1 63) errors) all).1 rest)
  where
    by_first : (v : Bool) → (c == n) ≡ v → (v || list_any (λ c. c == n) errors) ≡ true → (list_any (λ c. c == n) errors ≡ true → n ≤ 63) → n ≤ 63
    by_first true is any rest =
        let same : c ≡ n = eqb-true c n is in
        let less : c ≤ 63 = leb-true c 63 (and_parts (nat_le 1 c) (nat_le c 63) (and_parts (is_in 1 63 c) (list_all (is_in 1 63) errors) all).0).1 in
        omega arith
    by_first false is any rest = rest any

pub code_fits : (errors : List ℕ) (z : ℤ) → list_all (is_in 1 63) errors ≡ true → nat_lt (declared_code errors z) 64 ≡ true
code_fits errors (negsuc n) all = refl
code_fits errors (pos n) all = by_any (list_any (λ c. c == n) errors) refl
  where
    by_any : (v : Bool) → list_any (λ c. c == n) errors ≡ v → nat_lt (if v then n else 0) 64 ≡ true
    by_any true is = below_64 n (among errors n all is)
    by_any false is = refl
