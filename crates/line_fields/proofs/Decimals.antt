-- Numbers and words as `parse` reads them.
use Rattle.std.proofs.Common.{◌≡◌, ℕ, zero, suc, ◌^◌, ◌<◌, ◌≤◌, ◌==◌, Bool, true, false, cond, List, [], ◌∷◌, length, get_or, drop, Result, Err, inl, inr, ℤ, pos, negsuc, refl, sym, subst}
use Rattle.std.proofs.Common.{arith, w64, nat_le}
use Rattle.bus_semantics.specs.Common.{leb-true, le-leb, cases_lt, false_from_ne_true, eqb-true, and_from, and_parts, list_all}
use Rattle.std.proofs.lemmas.Str.Parse.{IsDigitsTest, IsNumeralModel, numerals_by_value, without_leading_plus_none}
use Rattle.std.proofs.lemmas.Fmt.{IsAscii-from_digits}
use Rattle.std.proofs.lemmas.Str.{IsUtf8-from_ascii}
use Rattle.std.specs.Int.{IsInRange}
use Rattle.std.specs.Int.RustNames.{FitsSigned}
use Rattle.std.specs.Result.{OkIff}
use Rattle.std.specs.Str.{IsUtf8, IsAscii}
use Rattle.std.specs.Str.Parse.{IsNumeral, ParsesSigned, ParsesUnsigned, digits_value, signed_digits_value, without_leading_plus, without_leading_sign}
use Rattle.line_fields.specs.Numbers.{is_digit, is_held, is_negated, is_number, is_word}

pub digit_range : (c : ℕ) → is_digit c ≡ true → IsInRange 48 57 c
digit_range c h = let two = and_parts (nat_le 48 c) (nat_le c 57) h in (leb-true 48 c two.0, leb-true c 57 two.1)

pub tells_digits : IsDigitsTest (λ ds. list_all is_digit ds ≡ true)
tells_digits = record {
  empty = refl;
  parts = λ c cs h. let two = and_parts (is_digit c) (list_all is_digit cs) h in (digit_range c two.0, two.1);
  more = λ c cs r h. and_from (is_digit c) (list_all is_digit cs) (and_from (nat_le 48 c) (nat_le c 57) (le-leb 48 c r.0) (le-leb c 57 r.1)) h;
}

pub own : IsNumeralModel (λ ds. list_all is_digit ds ≡ true) (digits_value 10)
own = numerals_by_value _ tells_digits

-- a number is digits, at least one
pub number_digits : (t : List ℕ) → is_number t ≡ true → (0 < length t) × (list_all is_digit t ≡ true)
number_digits [] h = absurd (cc)
number_digits (c ∷ cs) h = (omega arith, (and_parts (list_all is_digit (c ∷ cs)) _ h).0)

pub number_is_numeral : (t : List ℕ) → is_number t ≡ true → IsNumeral 10 t
number_is_numeral t h = let d = number_digits t h in (d.0, own.to t d.1)

first_digit : (t : List ℕ) → is_number t ≡ true → IsInRange 48 57 (get_or t 0 0)
first_digit [] h = absurd (cc)
first_digit (c ∷ cs) h = digit_range c (and_parts (is_digit c) (list_all is_digit cs) (number_digits (c ∷ cs) h).1).0

-- ---- no sign

pub no_plus : (t : List ℕ) → is_number t ≡ true → without_leading_plus t ≡ t
no_plus t h = let r = first_digit t h in without_leading_plus_none t (λ e. omega arith)

pub number_parsed : {E : Type 0} (t : List ℕ) (r : Result ℕ E) → is_number t ≡ true → ParsesUnsigned 32 10 t r → OkIff r (IsNumeral 10 t × (digits_value 10 t < 2 ^ 32)) (digits_value 10 t)
number_parsed {E} t r h p = subst (λ ds. OkIff r (IsNumeral 10 ds × (digits_value 10 ds < 2 ^ 32)) (digits_value 10 ds)) (no_plus t h) p

-- ---- a sign

pub negated_is_number : (t : List ℕ) → is_negated t ≡ true → is_number t ≡ true
negated_is_number [] h = absurd (cc)
negated_is_number (c ∷ cs) h = (and_parts (is_number (c ∷ cs)) _ h).0

pub word_is_numeral : (t : List ℕ) → is_word t ≡ true → IsNumeral 10 (without_leading_sign t)
word_is_numeral [] h = absurd (cc)
word_is_numeral (c ∷ cs) h = step (c == 45) h
  where
    step : (b : Bool) → cond b (is_negated cs) (is_number (c ∷ cs)) ≡ true → IsNumeral 10 (cond b (drop 1 (c ∷ cs)) (without_leading_plus (c ∷ cs)))
    step true h = number_is_numeral cs (negated_is_number cs h)
    step false h = subst (IsNumeral 10) (sym (no_plus (c ∷ cs) h)) (number_is_numeral (c ∷ cs) h)

-- what 64 bits do not hold
pub not_held : (z : ℤ) → (FitsSigned w64 z → ⊥) → is_held z ≡ false
not_held (pos n) fails = false_from_ne_true _ (λ t. fails (record { sfits = let h = leb-true n 9223372036854775807 t in omega arith }))
not_held (negsuc n) fails = false_from_ne_true _ (λ t. fails (record { sfits = let h = leb-true n 9223372036854775807 (and_parts _ _ t).0 in omega arith }))

pub number_too_large : {E : Type 0} (t u : List ℕ) (r : Result ℕ E) (e : E) → is_number t ≡ true → u ≡ t → r ≡ Err e → ParsesUnsigned 32 10 u r → 2 ^ 32 ≤ digits_value 10 t
number_too_large {E} t u r e h same is p =
    let read : ParsesUnsigned 32 10 t (Err e) = subst (λ (s : Result ℕ E). ParsesUnsigned 32 10 t s) is (subst (λ x. ParsesUnsigned 32 10 x r) same p) in
    let none = number_parsed {E = E} t (Err e) h read in
    elim (cases_lt (digits_value 10 t) (2 ^ 32)) [ inl l ↦ absurd (none (number_is_numeral t h, l)) | inr le ↦ le ]

pub word_too_large : {E : Type 0} (t u : List ℕ) (r : Result ℤ E) (e : E) → is_word t ≡ true → u ≡ t → r ≡ Err e → ParsesSigned w64 10 u r → is_held (signed_digits_value 10 t) ≡ false
word_too_large {E} t u r e h same is p =
    let none : ParsesSigned w64 10 t (Err e) = subst (λ (s : Result ℤ E). ParsesSigned w64 10 t s) is (subst (λ x. ParsesSigned w64 10 x r) same p) in
    not_held (signed_digits_value 10 t) (λ f. none (word_is_numeral t h, f))

-- ---- they are text

ascii_digits : (t : List ℕ) → list_all is_digit t ≡ true → IsAscii t
ascii_digits t h = IsAscii-from_digits t (own.to t h)

pub number_is_text : (t : List ℕ) → is_number t ≡ true → IsUtf8 t
number_is_text t h = IsUtf8-from_ascii t (ascii_digits t (number_digits t h).1)

pub word_is_text : (t : List ℕ) → is_word t ≡ true → IsUtf8 t
word_is_text [] h = absurd (cc)
word_is_text (c ∷ cs) h = step (c == 45) refl h
  where
    after_minus : IsAscii cs → c ≡ 45 → IsAscii (c ∷ cs)
    after_minus ascii is zero = omega arith
    after_minus ascii is (suc i) = ascii i

    step : (b : Bool) → (c == 45) ≡ b → cond b (is_negated cs) (is_number (c ∷ cs)) ≡ true → IsUtf8 (c ∷ cs)
    step true is h = IsUtf8-from_ascii (c ∷ cs) (after_minus (ascii_digits cs (number_digits cs (negated_is_number cs h)).1) (eqb-true c 45 is))
    step false is h = number_is_text (c ∷ cs) h
