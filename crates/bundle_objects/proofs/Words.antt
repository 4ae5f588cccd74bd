-- A value of at most 16 words has these words.
use Rattle.std.proofs.Common.{◌≡◌, ◌≤◌, ℤ, Bool, true, false, refl, sym, ◌∙◌, ap, List, length, replicate, ◌-◌, pos, arith}
use Rattle.std.specs.Prelude.{nat_le}
use Rattle.bus_semantics.specs.Common.{take-append_seam, false≢true, nat_tests, Value, words_of, Value-by_words, length-words_of}
use Rattle.bundle_objects.specs.Words.{sized_value, value_of}

words_sized : (ws : List ℤ) (b : Bool) (e : nat_le (length ws) 16 ≡ b) → b ≡ true → words_of (sized_value ws b e) ≡ ws
words_sized ws true e is = take-append_seam ws (replicate (16 - length ws) (pos 0))
words_sized ws false e is = absurd (false≢true is)

pub words_of_value : (ws : List ℤ) → length ws ≤ 16 → words_of (value_of ws) ≡ ws
words_of_value ws short = let fits : nat_le (length ws) 16 ≡ true = grind (arith, nat_tests) in words_sized ws (nat_le (length ws) 16) refl fits

pub value_is : (v : Value) (ws : List ℤ) → words_of v ≡ ws → v ≡ value_of ws
value_is v ws words =
    let long : length ws ≡ v.len = ap length (sym words) ∙ length-words_of v in
    let fits = v.short in
    Value-by_words v (value_of ws) (words ∙ sym (words_of_value ws (omega (arith, long, fits))))
