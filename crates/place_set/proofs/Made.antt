-- The words of a set in which nothing is, or everything.
use Rattle.std.proofs.Common.{◌≡◌, ℕ, ◌<◌, ◌+◌, ◌-◌, ◌/◌, ◌%◌, ◌^◌, List, length, true, false, replicate, sym, ap, ◌∙◌, arith, inl, inr}
use Rattle.std.proofs.lemmas.Bool.{cases_lt}
use Rattle.std.proofs.lemmas.List.{get_or-replicate, length-replicate}
use Rattle.std.proofs.lemmas.Nat.Bits.{bit_at_ones}
use Rattle.place_set.specs.Bits.{bit_of, flags_of, IsSummary}
use Rattle.place_set.proofs.Flags.{all_alike}
use Rattle.place_set.proofs.Words.{clear_word, clear_past, set_at}

all_clear : (count place : ℕ) → bit_of (replicate count 0) place ≡ false
all_clear count place = elim (cases_lt (place / 64) count) [
  | inl inside ↦ clear_word (replicate count 0) place (place / 64) (omega arith) (get_or-replicate count (place / 64) 0 0 inside)
  | inr past ↦ clear_past (replicate count 0) place (omega (arith, length-replicate {A = ℕ} count 0))
]

all_set : (count place : ℕ) → place / 64 < count → bit_of (replicate count (2 ^ 64 - 1)) place ≡ true
all_set count place inside =
    set_at (replicate count (2 ^ 64 - 1)) place (place / 64) (place % 64) (omega arith) (omega arith)
    (ap (λ x. x / 2 ^ (place % 64) % 2) (get_or-replicate count (place / 64) (2 ^ 64 - 1) 0 inside) ∙ bit_at_ones 64 (place % 64) (omega arith))

pub empty_flags : (len : ℕ) → flags_of (replicate (len / 64 + 1) 0) len ≡ replicate len false
empty_flags len = all_alike (replicate (len / 64 + 1) 0) len false (λ place within. all_clear (len / 64 + 1) place)

pub full_flags : (len : ℕ) → flags_of (replicate (len / 64 + 1) (2 ^ 64 - 1)) len ≡ replicate len true
full_flags len = all_alike (replicate (len / 64 + 1) (2 ^ 64 - 1)) len true (λ place within. all_set (len / 64 + 1) place (omega arith))

pub empty_summary : (len : ℕ) → IsSummary len (replicate (len / 64 + 1) 0) (replicate ((len / 64 + 1) / 64 + 1) 0)
empty_summary len =
    let count : ℕ = len / 64 + 1 in
    let zeros : List ℕ = replicate count 0 in
    let words : length zeros ≡ count = length-replicate count (let zero : ℕ = 0 in zero) in
    record {
      count = words;
      marks = length-replicate (count / 64 + 1) (let zero : ℕ = 0 in zero) ∙ ap (λ n. n / 64 + 1) (sym words);
      some = λ word inside is. absurd (let clear = all_clear (count / 64 + 1) word in grind (arith, clear, is));
      none = λ word inside is. get_or-replicate count word 0 0 (omega arith);
    }

pub full_summary : (len : ℕ) → IsSummary len (replicate (len / 64 + 1) (2 ^ 64 - 1)) (replicate ((len / 64 + 1) / 64 + 1) (2 ^ 64 - 1))
full_summary len =
    let count : ℕ = len / 64 + 1 in
    let words : length (replicate count (2 ^ 64 - 1)) ≡ count = length-replicate count (2 ^ 64 - 1) in
    record {
      count = words;
      marks = length-replicate (count / 64 + 1) (2 ^ 64 - 1) ∙ ap (λ n. n / 64 + 1) (sym words);
      some = λ word inside is. let all = get_or-replicate count word (2 ^ 64 - 1) 0 (omega arith) in omega arith;
      none = λ word inside is. absurd (let set = all_set (count / 64 + 1) word (omega arith) in grind (arith, set, is));
    }
