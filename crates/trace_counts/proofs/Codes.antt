-- Numbers in decimal: how many letters they have, and that the first eight tell the codes apart.
use Rattle.std.proofs.Common.{◌≡◌, ◌<◌, ◌≤◌, ◌+◌, ◌/◌, ◌%◌, ℕ, zero, suc, Bool, true, false, cond, ◌==◌, [], ◌∷◌, ◌++◌, length, nat_lt, bytes_eq, decimal, codes, inl, inr, refl, sym, ap}
use Rattle.std.proofs.Common.{◌∙◌, append_assoc, append-nil, length-append, subst, arith}
use Rattle.bus_semantics.specs.Common.{digits, eqb-true, eq-eqb, false_from_ne_true, lt-ltb, ltb-false, cases_lt, bytes_eq-Decides, Letters}
use Rattle.std.specs.Fmt.{digit_glyph, digits_onto}
use Rattle.std.proofs.lemmas.Fmt.{length-decimal-le}
use Rattle.line_fields.specs.Numbers.{number_in}
use Rattle.line_fields.proofs.Spelt.{decimal_back}
use Rattle.trace_counts.specs.Lines.{kept}

-- ---- how many

grows : (k n : ℕ) (acc : Letters) → length acc ≤ length (digits_onto k 10 false n acc)
grows zero n acc = omega arith
grows (suc k) n acc = step (n / 10 == 0) (grows k (n / 10) (digit_glyph false (n % 10) ∷ acc))
  where
    step : (b : Bool) → suc (length acc) ≤ length (digits_onto k 10 false (n / 10) (digit_glyph false (n % 10) ∷ acc)) → length acc ≤ length (cond b (digit_glyph false (n % 10) ∷ acc) (digits_onto k 10 false (n / 10) (digit_glyph false (n % 10) ∷ acc)))
    step true more = omega arith
    step false more = omega (arith, more)

-- so many digits stand before the last
abbrev HasMore : ℕ → ℕ → Type 0
HasMore zero n = Unit {0}
HasMore (suc j) n = ((n / 10 == 0) ≡ false) × HasMore j (n / 10)

long : (j k n : ℕ) (acc : Letters) → HasMore j n → j < k → j + length acc < length (digits_onto k 10 false n acc)
long j zero n acc h less = absurd (omega arith)
long zero (suc k) n acc h less = step (n / 10 == 0)
  where
    step : (b : Bool) → 0 + length acc < length (cond b (digit_glyph false (n % 10) ∷ acc) (digits_onto k 10 false (n / 10) (digit_glyph false (n % 10) ∷ acc)))
    step true = omega arith
    step false = let more = grows k (n / 10) (digit_glyph false (n % 10) ∷ acc) in omega (arith, more)
long (suc j) (suc k) n acc h less =
    let more = long j k (n / 10) (digit_glyph false (n % 10) ∷ acc) h.1 (omega arith) in
    let there : length (digits_onto (suc k) 10 false n acc) ≡ length (digits_onto k 10 false (n / 10) (digit_glyph false (n % 10) ∷ acc))
    = ap (λ b. length (cond b (digit_glyph false (n % 10) ∷ acc) (digits_onto k 10 false (n / 10) (digit_glyph false (n % 10) ∷ acc)))) h.0 in
    omega (arith, more, there)

nonzero : (n : ℕ) → 0 < n → (n == 0) ≡ false
nonzero n h = false_from_ne_true (n == 0) (λ e. let none = eqb-true n 0 e in omega (arith, none, h))

decimal_long : (n : ℕ) → 1000 ≤ n → 3 < length (decimal n)
unfolding digits
decimal_long n h =
    let one : 0 < n / 10 = omega arith in
    let two : 0 < n / 10 / 10 = omega arith in
    let three : 0 < n / 10 / 10 / 10 = omega arith in
    let more = long 3 64 n [] (nonzero (n / 10) one, (nonzero (n / 10 / 10) two, (nonzero (n / 10 / 10 / 10) three, tt))) (omega arith) in
    omega (arith, more)

-- ---- the first eight letters of a text

abbrev pub grown : Letters → Letters → Letters
grown f [] = f
grown f (c ∷ cs) = grown (kept f c) cs

kept_short : (f : Letters) (c : ℕ) → length f < 8 → kept f c ≡ f ++ c ∷ []
kept_short f c h = ap (λ b. cond b (f ++ c ∷ []) f) (lt-ltb (length f) 8 h)

grown_short : (f t : Letters) → length f + length t ≤ 8 → grown f t ≡ f ++ t
grown_short f [] h = sym (append-nil f)
grown_short f (c ∷ cs) h =
    let room : length f < 8 = omega (arith, h) in
    let longer = length-append f (c ∷ []) in
    ap (λ g. grown g cs) (kept_short f c room) ∙ grown_short (f ++ c ∷ []) cs (omega (arith, h, longer)) ∙ append_assoc f (c ∷ []) cs

grown_long : (f t : Letters) → 3 < length f + length t → 3 < length (grown f t)
grown_long f [] h = omega (arith, h)
grown_long f (c ∷ cs) h = step (nat_lt (length f) 8) refl (grown_long (f ++ c ∷ []) cs) (grown_long f cs)
  where
    step : (b : Bool) → nat_lt (length f) 8 ≡ b → (3 < length (f ++ c ∷ []) + length cs → 3 < length (grown (f ++ c ∷ []) cs)) → (3 < length f + length cs → 3 < length (grown f cs))
        → 3 < length (grown (cond b (f ++ c ∷ []) f) cs)
    step true is longer same = let more = length-append f (c ∷ []) in longer (omega (arith, h, more))
    step false is longer same = let full = ltb-false (length f) 8 is in same (omega (arith, full))

-- a text of at most three letters is that of a number exactly if it is this one's
pub code_is : (c : ℕ) (t : Letters) → length t ≤ 3 → number_in t ≡ c → bytes_eq (grown [] (decimal c)) t ≡ true → (n : ℕ) → bytes_eq (grown [] (decimal n)) t ≡ (n == c)
code_is c t short value own n = step (n == c) refl
  where
    other : (n ≡ c → ⊥) → bytes_eq (grown [] (decimal n)) t ≡ true → ⊥
    other differ same = elim (cases_lt n 1000) [
      | inl less ↦ (
          let few = length-decimal-le 3 n (omega arith) (omega (arith, less)) (omega (arith, less)) in
          let whole : grown [] (decimal n) ≡ decimal n = grown_short [] (decimal n) (omega (arith, few)) in
          let text : decimal n ≡ t = sym whole ∙ (bytes_eq-Decides (grown [] (decimal n)) t).0 same in
          differ (sym (decimal_back n (omega (arith, less))) ∙ ap number_in text ∙ value))
      | inr more ↦ (
          let many = grown_long [] (decimal n) (let long = decimal_long n more in omega (arith, long)) in
          let text = ap length ((bytes_eq-Decides (grown [] (decimal n)) t).0 same) in
          omega (arith, many, text, short))
    ]

    step : (b : Bool) → (n == c) ≡ b → bytes_eq (grown [] (decimal n)) t ≡ b
    step true is = subst (λ m. bytes_eq (grown [] (decimal m)) t ≡ true) (sym (eqb-true n c is)) own
    step false is = false_from_ne_true (bytes_eq (grown [] (decimal n)) t) (other (λ e. let same : (n == c) ≡ true = eq-eqb n c e in absurd (cc)))

pub code_130 : (n : ℕ) → bytes_eq (grown [] (decimal n)) (codes "130") ≡ (n == 130)
unfolding digits
code_130 n = code_is 130 (codes "130") (omega arith) refl refl n

pub code_64 : (n : ℕ) → bytes_eq (grown [] (decimal n)) (codes "64") ≡ (n == 64)
unfolding digits
code_64 n = code_is 64 (codes "64") (omega arith) refl refl n

pub code_0 : (n : ℕ) → bytes_eq (grown [] (decimal n)) (codes "0") ≡ (n == 0)
unfolding digits
code_0 n = code_is 0 (codes "0") (omega arith) refl refl n
