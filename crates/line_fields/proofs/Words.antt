-- A value that can be held is spelt in one way.
use Rattle.std.proofs.Common.{◌≡◌, ℕ, zero, suc, ◌+◌, ◌^◌, ◌<◌, ◌≤◌, lit<, Bool, true, false, not, ◌||◌, cond, ◌==◌, List, [], ◌∷◌, ◌++◌, map, length, get_or, bytes_eq, codes, decimal, ℤ}
use Rattle.std.proofs.Common.{pos, negsuc, refl, sym, ap, ◌∙◌, subst, nat_le, arith}
use Rattle.std.specs.Fmt.{signed_decimal}
use Rattle.bus_semantics.specs.Common.{list_all, and_parts, and_from, leb-true, eqb-true, or_right, false_from_ne_true, append-nil, bytes_eq-Decides, Letters, more_words, words_text}
use Rattle.std.specs.Str.Parse.{digits_value, without_leading_plus}
use Rattle.std.proofs.Math.IntN.{neg_ℤ}
use Rattle.std.proofs.lemmas.Fmt.{decimal_digit, first_decimal}
use Rattle.line_fields.specs.Numbers.{are_held, is_digit, is_held, is_negated, is_number, is_value, is_word, number_in, word_in, words_in}
use Rattle.line_fields.specs.Texts.{parts}
use Rattle.line_fields.proofs.Decimals.{no_plus, number_digits}
use Rattle.line_fields.proofs.Cutting.{parts-some}
use Rattle.line_fields.proofs.Joining.{apart, joined, joined-parts, lacks, more, parts-join, parts-one}
use Rattle.line_fields.proofs.Spelt.{decimal_back, decimal_is_number, number_spelt}
use Rattle.line_fields.proofs.Spaces.{word_lacks}

-- ---- from a text to its words, and back

-- a number and its negative, in decimal
plain_spelt : (t : Letters) → is_number t ≡ true → is_held (pos (number_in t)) ≡ true → signed_decimal (pos (number_in t)) ≡ t
plain_spelt t h held = let most : number_in t ≤ 9223372036854775807 = leb-true (number_in t) 9223372036854775807 held in number_spelt t h (omega arith)

negated_spelt : (t : Letters) → is_negated t ≡ true → (n : ℕ) → number_in t ≡ n → is_held (neg_ℤ (pos n)) ≡ true → signed_decimal (neg_ℤ (pos n)) ≡ 45 ∷ t
negated_spelt [] h n is held = absurd (cc)
negated_spelt (c ∷ cs) h zero is held =
    let two = and_parts (is_number (c ∷ cs)) (not (c == 48)) h in
    let spelt : decimal (number_in (c ∷ cs)) ≡ c ∷ cs = number_spelt (c ∷ cs) two.0 (omega arith) in
    let none : decimal 0 ≡ (48 + 0) ∷ [] = decimal_digit 0 (lit< tt) in
    let first : 48 ≡ c = ap (λ t. get_or t 0 0) (sym none ∙ sym (ap decimal is) ∙ spelt) in
    absurd (zero_first c first two.1)
  where
    zero_first : (c : ℕ) → 48 ≡ c → not (c == 48) ≡ true → ⊥
    zero_first c e h = let no : not (48 == 48) ≡ true = subst (λ x. not (x == 48) ≡ true) (sym e) h in cc
negated_spelt (c ∷ cs) h (suc k) is held =
    let two = and_parts (is_number (c ∷ cs)) (not (c == 48)) h in
    let most : k ≤ 9223372036854775807 = leb-true k 9223372036854775807 (and_parts (nat_le k 9223372036854775807) true held).0 in
    ap (λ t. 45 ∷ t) (ap decimal (sym is) ∙ number_spelt (c ∷ cs) two.0 (omega arith))

pub word_spelt : (t : Letters) → is_word t ≡ true → is_held (word_in t) ≡ true → signed_decimal (word_in t) ≡ t
word_spelt [] h held = absurd (cc)
word_spelt (c ∷ cs) h held = step (c == 45) refl h held
  where
    step : (b : Bool) → (c == 45) ≡ b → cond b (is_negated cs) (is_number (c ∷ cs)) ≡ true
        → is_held (cond b (neg_ℤ (pos (digits_value 10 (cond b cs (without_leading_plus (c ∷ cs)))))) (pos (digits_value 10 (cond b cs (without_leading_plus (c ∷ cs)))))) ≡ true
        → signed_decimal (cond b (neg_ℤ (pos (digits_value 10 (cond b cs (without_leading_plus (c ∷ cs)))))) (pos (digits_value 10 (cond b cs (without_leading_plus (c ∷ cs)))))) ≡ c ∷ cs
    step true is h held = negated_spelt cs h (number_in cs) refl held ∙ ap (λ x. x ∷ cs) (sym (eqb-true c 45 is))
    step false is h held = let plain : without_leading_plus (c ∷ cs) ≡ c ∷ cs = no_plus (c ∷ cs) h in
        ap (λ t. signed_decimal (pos (digits_value 10 t))) plain ∙ plain_spelt (c ∷ cs) h (subst (λ t. is_held (pos (digits_value 10 t)) ≡ true) plain held)

more_spelt : (ts : List Letters) → list_all is_word ts ≡ true → list_all is_held (map word_in ts) ≡ true → more_words (map word_in ts) ≡ more 44 ts
more_spelt [] h held = refl
more_spelt (t ∷ ts) h held =
    let words = and_parts (is_word t) (list_all is_word ts) h in
    let two = and_parts (is_held (word_in t)) (list_all is_held (map word_in ts)) held in
    ap (λ u. 44 ∷ (u ++ more_words (map word_in ts))) (word_spelt t words.0 two.0) ∙ ap (λ u. 44 ∷ (t ++ u)) (more_spelt ts words.1 two.1)

all_spelt : (ts : List Letters) → list_all is_word ts ≡ true → list_all is_held (map word_in ts) ≡ true → 0 < length ts → words_text (map word_in ts) ≡ joined 44 ts
all_spelt [] h held some = absurd (omega arith)
all_spelt (t ∷ ts) h held some =
    let words = and_parts (is_word t) (list_all is_word ts) h in
    let two = and_parts (is_held (word_in t)) (list_all is_held (map word_in ts)) held in
    ap (λ u. u ++ more_words (map word_in ts)) (word_spelt t words.0 two.0) ∙ ap (λ u. t ++ u) (more_spelt ts words.1 two.1)

pub value_spelt : (t : Letters) → is_value t ≡ true → are_held (words_in t) ≡ true → words_text (words_in t) ≡ t
value_spelt t h held = step (bytes_eq t (codes "-")) refl h held
  where
    step : (b : Bool) → bytes_eq t (codes "-") ≡ b → (b || list_all is_word (parts 44 t)) ≡ true → are_held (cond b [] (map word_in (parts 44 t))) ≡ true
        → words_text (cond b [] (map word_in (parts 44 t))) ≡ t
    step true is h held = sym ((bytes_eq-Decides t (codes "-")).0 is)
    step false is h held = all_spelt (parts 44 t) h (and_parts (nat_le (length (map word_in (parts 44 t))) 16) _ held).1 (parts-some 44 t) ∙ joined-parts 44 t

-- ---- from words to their text, and back

number_is_word : (t : Letters) → is_number t ≡ true → (is_word t ≡ true) × (word_in t ≡ pos (number_in t))
number_is_word [] h = absurd (cc)
number_is_word (c ∷ cs) h = step (c == 45) refl
  where
    digit : is_digit c ≡ true
    digit = (and_parts (is_digit c) (list_all is_digit cs) (number_digits (c ∷ cs) h).1).0

    step : (b : Bool) → (c == 45) ≡ b → (is_word (c ∷ cs) ≡ true) × (word_in (c ∷ cs) ≡ pos (number_in (c ∷ cs)))
    step true is = let other : not (c == 45) ≡ true = apart is_digit 45 refl c digit in absurd (cc)
    step false is = rw is (h, ap (λ t. pos (digits_value 10 t)) (no_plus (c ∷ cs) h))

negated_is_word : (t : Letters) (k : ℕ) → is_number t ≡ true → 48 < get_or t 0 0 → number_in t ≡ suc k → (is_word (45 ∷ t) ≡ true) × (word_in (45 ∷ t) ≡ negsuc k)
negated_is_word [] k h above is = absurd (cc)
negated_is_word (c ∷ cs) k h above is =
    (and_from (is_number (c ∷ cs)) (not (c == 48)) h (other (c == 48) refl above), ap (λ n. neg_ℤ (pos n)) is)
  where
    other : (b : Bool) → (c == 48) ≡ b → 48 < c → not b ≡ true
    other true is above = let same : c ≡ 48 = eqb-true c 48 is in absurd (omega arith)
    other false is above = refl

word_back : (x : ℤ) → is_held x ≡ true → (is_word (signed_decimal x) ≡ true) × (word_in (signed_decimal x) ≡ x)
word_back (pos n) held =
    let most : n ≤ 9223372036854775807 = leb-true n 9223372036854775807 held in
    let less : n < 2 ^ 64 = omega arith in
    let w = number_is_word (decimal n) (decimal_is_number n less) in
    (w.0, w.1 ∙ ap (λ k. pos k) (decimal_back n less))
word_back (negsuc k) held =
    let most : k ≤ 9223372036854775807 = leb-true k 9223372036854775807 (and_parts (nat_le k 9223372036854775807) true held).0 in
    let less : suc k < 2 ^ 64 = omega arith in
    negated_is_word (decimal (suc k)) k (decimal_is_number (suc k) less) (first_decimal (suc k) (omega arith) less) (decimal_back (suc k) less)

parts_of_words : (t : Letters) (xs : List ℤ) → lacks 44 t ≡ true → list_all is_held xs ≡ true → parts 44 (t ++ more_words xs) ≡ t ∷ map signed_decimal xs
parts_of_words t [] h held = ap (parts 44) (append-nil t) ∙ parts-one 44 t h
parts_of_words t (x ∷ xs) h held =
    let two = and_parts (is_held x) (list_all is_held xs) held in
    parts-join 44 t (signed_decimal x ++ more_words xs) h
    ∙ ap (λ ts. t ∷ ts) (parts_of_words (signed_decimal x) xs (word_lacks 44 refl refl (signed_decimal x) (word_back x two.0).0) two.1)

all_words : (xs : List ℤ) → list_all is_held xs ≡ true → (list_all is_word (map signed_decimal xs) ≡ true) × (map word_in (map signed_decimal xs) ≡ xs)
all_words [] held = (refl, refl)
all_words (x ∷ xs) held =
    let two = and_parts (is_held x) (list_all is_held xs) held in
    let w = word_back x two.0 in
    let later = all_words xs two.1 in
    (and_from (is_word (signed_decimal x)) _ w.0 later.0, ap (λ y. y ∷ map word_in (map signed_decimal xs)) w.1 ∙ ap (λ ys. x ∷ ys) later.1)

-- a text that is words is not the dash
no_dash : (t : Letters) (ts : List Letters) → parts 44 t ≡ ts → list_all is_word ts ≡ true → bytes_eq t (codes "-") ≡ false
no_dash t ts e h = false_from_ne_true (bytes_eq t (codes "-")) (λ is.
    let dash : ts ≡ codes "-" ∷ [] = sym e ∙ ap (parts 44) ((bytes_eq-Decides t (codes "-")).0 is) in
    let no : false ≡ true = sym (ap (list_all is_word) dash) ∙ h in cc)

pub value_back : (xs : List ℤ) → are_held xs ≡ true → (is_value (words_text xs) ≡ true) × (words_in (words_text xs) ≡ xs)
value_back [] held = (refl, refl)
value_back (x ∷ xs) held =
    let all = (and_parts (nat_le (length (x ∷ xs)) 16) (list_all is_held (x ∷ xs)) held).1 in
    let two = and_parts (is_held x) (list_all is_held xs) all in
    let t = words_text (x ∷ xs) in
    let cut : parts 44 t ≡ map signed_decimal (x ∷ xs) = parts_of_words (signed_decimal x) xs (word_lacks 44 refl refl (signed_decimal x) (word_back x two.0).0) two.1 in
    let words = all_words (x ∷ xs) all in
    let dash : bytes_eq t (codes "-") ≡ false = no_dash t (map signed_decimal (x ∷ xs)) cut words.0 in (
      or_right (bytes_eq t (codes "-")) (list_all is_word (parts 44 t)) (ap (list_all is_word) cut ∙ words.0),
      ap (λ b. cond b [] (map word_in (parts 44 t))) dash ∙ ap (map word_in) cut ∙ words.1,
    )
