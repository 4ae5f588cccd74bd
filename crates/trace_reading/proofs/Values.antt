-- A value is read back from its text, and so are numbers.
use Rattle.std.proofs.Common.{◌≡◌, ℕ, ℤ, ◌^◌, ◌<◌, ◌≤◌, Bool, true, false, ◌&&◌, cond, List, [], length, decimal, nat_le, replicate, ◌-◌, pos, Option, Some, None, refl, sym, ap, ◌∙◌, subst, arith}
use Rattle.std.specs.Prelude.{IfSome, IfNone}
use Rattle.bus_semantics.specs.Common.{list_all, and_parts, and_from, leb-true, le-leb, ltb-true, take-append_seam, Value, Value-by_words, length-words_of, words_of, are_words, is_byte}
use Rattle.bus_semantics.specs.Common.{is_index, Letters, value_text}
use Rattle.line_fields.specs.Numbers.{are_held, is_held, is_number, is_value, number_in, words_in}
use Rattle.line_fields.proofs.Spelt.{decimal_back, decimal_is_number}
use Rattle.line_fields.proofs.Words.{value_back}
use Rattle.trace_reading.specs.Fields.{code_at, no_value, number_at, numbered, value_at, value_by_length, value_with}

-- ---- numbers

pub numbered_back : (n : ℕ) → is_index n ≡ true → numbered (Some n) ≡ Some n
numbered_back n h = ap (λ b. cond b (Some n) None) h

index_less : (n : ℕ) → is_index n ≡ true → n < 2 ^ 64
index_less n h = let less : n < 4294967296 = ltb-true n 4294967296 h in omega arith

byte_less : (n : ℕ) → is_byte n ≡ true → n < 2 ^ 64
byte_less n h = let less : n < 256 = ltb-true n 256 h in omega arith

number_when : (test : ℕ → Bool) (n : ℕ) → test n ≡ true → n < 2 ^ 64 → cond (is_number (decimal n) && test (number_in (decimal n))) (Some (number_in (decimal n))) None ≡ Some n
number_when test n h less =
    let back : number_in (decimal n) ≡ n = decimal_back n less in
    ap (λ b. cond b (Some (number_in (decimal n))) None) (and_from (is_number (decimal n)) (test (number_in (decimal n))) (decimal_is_number n less) (ap test back ∙ h))
    ∙ ap (λ k. Some k) back

pub number_back : (n : ℕ) → is_index n ≡ true → number_at (decimal n) ≡ Some n
number_back n h = number_when is_index n h (index_less n h)

pub code_back : (n : ℕ) → is_byte n ≡ true → code_at (decimal n) ≡ Some n
code_back n h = number_when is_byte n h (byte_less n h)

-- ---- values

words-value_with : (ws : List ℤ) (few : length ws ≤ 16) → words_of (value_with ws few) ≡ ws
unfolding value_with
words-value_with ws few = take-append_seam ws (replicate (16 - length ws) (pos 0))

value_with-is : (ws : List ℤ) (few : length ws ≤ 16) (v : Value) → words_of v ≡ ws → v ≡ value_with ws few
value_with-is ws few v same = Value-by_words v (value_with ws few) (same ∙ sym (words-value_with ws few))

pub no_value-is : (v : Value) → words_of v ≡ [] → v ≡ no_value
no_value-is v same = value_with-is [] (leb-true 0 16 refl) v same

value_by_length-is : (ws : List ℤ) (few : Bool) (is : nat_le (length ws) 16 ≡ few) → few ≡ true → (v : Value) → words_of v ≡ ws → Some v ≡ value_by_length ws few is
value_by_length-is ws true is full v same = ap (λ w. Some w) (value_with-is ws (leb-true (length ws) 16 is) v same)
value_by_length-is ws false is full v same = absurd (cc)

value_found : (t : Letters) (v : Value) → is_value t ≡ true → are_held (words_in t) ≡ true → words_of v ≡ words_in t → Some v ≡ value_at t
value_found t v h held same =
    let few = (and_parts (nat_le (length (words_in t)) 16) (list_all is_held (words_in t)) held).0 in
    value_by_length-is (words_in t) (nat_le (length (words_in t)) 16) refl few v same
    ∙ sym (ap (λ b. cond b (value_by_length (words_in t) (nat_le (length (words_in t)) 16) refl) None) (and_from (is_value t) (are_held (words_in t)) h held))

-- what `value_in` answers of a value
pub value_answered : (t : Letters) (o : Option Value) → is_value t ≡ true → IfSome o (λ v. words_of v ≡ words_in t) → IfSome o (λ v. are_held (words_in t) ≡ true)
    → IfNone o (are_held (words_in t) ≡ false) → o ≡ value_at t
value_answered t (Some v) h same held none = value_found t v h held same
value_answered t None h same held none = sym (ap (λ b. cond (is_value t && b) (value_by_length (words_in t) (nat_le (length (words_in t)) 16) refl) None) none
    ∙ ap (λ b. cond (b && false) (value_by_length (words_in t) (nat_le (length (words_in t)) 16) refl) None) h)

are_held_words : (v : Value) → are_words v ≡ true → are_held (words_of v) ≡ true
are_held_words v h =
    let few : length (words_of v) ≤ 16 = subst (λ n. n ≤ 16) (sym (length-words_of v)) v.short in
    and_from (nat_le (length (words_of v)) 16) (list_all is_held (words_of v)) (le-leb (length (words_of v)) 16 few) h

pub value_text_back : (v : Value) → are_words v ≡ true → value_at (value_text v) ≡ Some v
value_text_back v h =
    let held = are_held_words v h in
    let back = value_back (words_of v) held in
    sym (value_found (value_text v) v back.0 (ap are_held back.1 ∙ held) (sym back.1))
