-- Numbers are what their values are in decimal.
use Rattle.std.proofs.Common.{◌≡◌, ℕ, zero, suc, ◌+◌, ◌^◌, ◌<◌, lit<, lit≤, ◌≤◌, Bool, true, false, not, ◌&&◌, ◌||◌, ◌==◌, [], ◌∷◌, length, get_or, decimal, refl, arith}
use Rattle.bus_semantics.specs.Common.{list_all, and_parts, and_from, eqb-true, eq-eqb, Letters}
use Rattle.std.proofs.lemmas.Fmt.{decimal_digit, decimal-digits_value, decimal_nonempty, digits_decimal, digits_value-decimal, first_decimal}
use Rattle.line_fields.specs.Numbers.{is_digit, is_empty, is_number, number_in}
use Rattle.line_fields.proofs.Decimals.{number_digits, own}

-- a number of at most 64 bits is what its value is in decimal
pub number_spelt : (t : Letters) → is_number t ≡ true → number_in t < 2 ^ 64 → decimal (number_in t) ≡ t
number_spelt t h less = let d = number_digits t h in decimal-digits_value own t d.1 d.0 (one_zero t h) less
  where
    of_rest : (c : ℕ) (cs : Letters) → (b : Bool) → (c == 48) ≡ b → (list_all is_digit (c ∷ cs) && (not b || is_empty cs)) ≡ true → c ≡ 48 → length (c ∷ cs) ≡ 1
    of_rest c [] b is h e = refl
    of_rest c (d ∷ cs) true is h e = let none : false ≡ true = (and_parts (list_all is_digit (c ∷ d ∷ cs)) false h).1 in absurd (cc)
    of_rest c (d ∷ cs) false is h e = let yes : (c == 48) ≡ true = eq-eqb c 48 e in absurd (cc)

    one_zero : (t : Letters) → is_number t ≡ true → get_or t 0 0 ≡ 48 → length t ≡ 1
    one_zero [] h e = absurd (cc)
    one_zero (c ∷ cs) h e = of_rest c cs (c == 48) refl h e

-- and decimals are numbers
pub decimal_is_number : (n : ℕ) → n < 2 ^ 64 → is_number (decimal n) ≡ true
decimal_is_number n h = by (decimal n) (digits_decimal own n h) (decimal_nonempty n h) (leading n h)
  where
    -- a leading 0 is the only digit
    leading : (n : ℕ) → n < 2 ^ 64 → get_or (decimal n) 0 0 ≡ 48 → length (decimal n) ≤ 1
    leading zero h e = let one : decimal 0 ≡ (48 + 0) ∷ [] = decimal_digit 0 (lit< tt) in rw one (lit≤ tt)
    leading (suc m) h e = let above : 48 < get_or (decimal (suc m)) 0 0 = first_decimal (suc m) (omega arith) h in absurd (omega arith)

    by : (t : Letters) → list_all is_digit t ≡ true → 0 < length t → (get_or t 0 0 ≡ 48 → length t ≤ 1) → is_number t ≡ true
    by [] d some lead = absurd (omega arith)
    by (c ∷ cs) d some lead = and_from (list_all is_digit (c ∷ cs)) _ d (last cs (c == 48) refl lead)
      where
        last : (cs : Letters) (b : Bool) → (c == 48) ≡ b → (c ≡ 48 → length (c ∷ cs) ≤ 1) → (not b || is_empty cs) ≡ true
        last cs false is lead = refl
        last [] true is lead = refl
        last (d ∷ cs) true is lead = let short : length (c ∷ d ∷ cs) ≤ 1 = lead (eqb-true c 48 is) in absurd (omega arith)

pub decimal_back : (n : ℕ) → n < 2 ^ 64 → number_in (decimal n) ≡ n
decimal_back n h = digits_value-decimal own n h
